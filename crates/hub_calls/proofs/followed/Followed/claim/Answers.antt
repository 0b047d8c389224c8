use Rattle.std.proofs.Common.{Bool, ap, subst}
use mathlib.Core.List.{IsPrefix}
use Rattle.core_ends.specs.core_state.declared.found.Found.{Found}
use Rattle.core_ends.specs.core_course.Sight.{Sight, sight}
use Rattle.hub_calls.specs.Entries.{entries}
use Rattle.hub_calls.specs.Calls.{ClaimDoes}
use Rattle.hub_calls.specs.Follows.{Follows}
use Rattle.hub_calls.specs.Seen.{FollowedCore, list_of}
use Rattle.hub_calls.proofs.Calls.{job_seen}
use Rattle.hub_calls.proofs.Entries.{entries_grow}
use Rattle.hub_calls.proofs.Steps.{claim_follows, follows_on}
use Rattle.hub_calls.proofs.followed.Followed.claim.Goals as goal

pub invariant_of-self : goal.invariant_of-self
invariant_of-self g c =
    let w : Sight g.row.D.Denot g.row.K.Denot = sight g.D.Disk.is_told g.D.Disk.seen g.D.Disk.may_leave g.D.Disk.moment g.D.Disk.left_since g.D.Disk.fault_count g.K.Keeper.is_told g.K.Keeper.kept g.K.Keeper.images g.K.Keeper.moment g.K.Keeper.images_since g.K.Keeper.down g.K.Keeper.size g.K.Keeper.fault_count g.K.Keeper.opened g.K.Keeper.is_within in
    let only : Bool = g.P.Purpose.only_work in
    let does : ClaimDoes w c.claim.result c.self.inside.core c.claim.new.self = record {
      adds = c.claim.ensures.does.adds;
      gives = c.claim.ensures.does.gives;
      stands = c.claim.ensures.does.stands;
      any_moment = c.claim.ensures.does.any_moment;
      submitted = c.claim.ensures.does.submitted;
      job = c.claim.ensures.does.job;
      others = c.claim.ensures.does.others;
      store = c.claim.ensures.does.store;
      nothing = c.claim.ensures.does.nothing;
      waits = c.claim.ensures.does.waits;
      down = c.claim.ensures.does.down;
      unchanged = c.claim.ensures.does.unchanged;
      spent = c.claim.ensures.does.spent;
      unspent = c.claim.ensures.does.unspent;
      cause = c.claim.ensures.does.cause;
      twice = c.claim.ensures.does.twice;
      up = c.claim.ensures.does.up;
    } in
    let one : Follows w only c.self.inside.core c.claim.new.self = claim_follows w only c.self.inside.core c.claim.new.self c.claim.result does in
    follows_on w only c.self.inside.start.value c.self.inside.core c.claim.new.self c.self.invariant one

pub returns-clause-does : goal.returns-clause-does
returns-clause-does g c =
    let w : Sight g.row.D.Denot g.row.K.Denot = sight g.D.Disk.is_told g.D.Disk.seen g.D.Disk.may_leave g.D.Disk.moment g.D.Disk.left_since g.D.Disk.fault_count g.K.Keeper.is_told g.K.Keeper.kept g.K.Keeper.images g.K.Keeper.moment g.K.Keeper.images_since g.K.Keeper.down g.K.Keeper.size g.K.Keeper.fault_count g.K.Keeper.opened g.K.Keeper.is_within in
    let does : ClaimDoes w c.claim.result c.self.inside.core c.claim.new.self = record {
      adds = c.claim.ensures.does.adds;
      gives = c.claim.ensures.does.gives;
      stands = c.claim.ensures.does.stands;
      any_moment = c.claim.ensures.does.any_moment;
      submitted = c.claim.ensures.does.submitted;
      job = c.claim.ensures.does.job;
      others = c.claim.ensures.does.others;
      store = c.claim.ensures.does.store;
      nothing = c.claim.ensures.does.nothing;
      waits = c.claim.ensures.does.waits;
      down = c.claim.ensures.does.down;
      unchanged = c.claim.ensures.does.unchanged;
      spent = c.claim.ensures.does.spent;
      unspent = c.claim.ensures.does.unspent;
      cause = c.claim.ensures.does.cause;
      twice = c.claim.ensures.does.twice;
      up = c.claim.ensures.does.up;
    } in
    subst (λ (f : FollowedCore g.row.D.Denot g.row.K.Denot). ClaimDoes w c.claim.result f.core c.claim.new.self) c.self.view_is does

pub returns-clause-grows : goal.returns-clause-grows
returns-clause-grows g c =
    let w : Sight g.row.D.Denot g.row.K.Denot = sight g.D.Disk.is_told g.D.Disk.seen g.D.Disk.may_leave g.D.Disk.moment g.D.Disk.left_since g.D.Disk.fault_count g.K.Keeper.is_told g.K.Keeper.kept g.K.Keeper.images g.K.Keeper.moment g.K.Keeper.images_since g.K.Keeper.down g.K.Keeper.size g.K.Keeper.fault_count g.K.Keeper.opened g.K.Keeper.is_within in
    let only : Bool = g.P.Purpose.only_work in
    let does : ClaimDoes w c.claim.result c.self.inside.core c.claim.new.self = record {
      adds = c.claim.ensures.does.adds;
      gives = c.claim.ensures.does.gives;
      stands = c.claim.ensures.does.stands;
      any_moment = c.claim.ensures.does.any_moment;
      submitted = c.claim.ensures.does.submitted;
      job = c.claim.ensures.does.job;
      others = c.claim.ensures.does.others;
      store = c.claim.ensures.does.store;
      nothing = c.claim.ensures.does.nothing;
      waits = c.claim.ensures.does.waits;
      down = c.claim.ensures.does.down;
      unchanged = c.claim.ensures.does.unchanged;
      spent = c.claim.ensures.does.spent;
      unspent = c.claim.ensures.does.unspent;
      cause = c.claim.ensures.does.cause;
      twice = c.claim.ensures.does.twice;
      up = c.claim.ensures.does.up;
    } in
    let one : Follows w only c.self.inside.core c.claim.new.self = claim_follows w only c.self.inside.core c.claim.new.self c.claim.result does in
    subst (λ (f : FollowedCore g.row.D.Denot g.row.K.Denot). IsPrefix (list_of f) (entries c.self.inside.start.value c.claim.new.self.events.list)) c.self.view_is
    (entries_grow c.self.inside.start.value one.more c.self.inside.core.events.list c.claim.new.self.events.list one.passed.events)

pub returns-clause-job : goal.returns-clause-job
returns-clause-job g c =
    let w : Sight g.row.D.Denot g.row.K.Denot = sight g.D.Disk.is_told g.D.Disk.seen g.D.Disk.may_leave g.D.Disk.moment g.D.Disk.left_since g.D.Disk.fault_count g.K.Keeper.is_told g.K.Keeper.kept g.K.Keeper.images g.K.Keeper.moment g.K.Keeper.images_since g.K.Keeper.down g.K.Keeper.size g.K.Keeper.fault_count g.K.Keeper.opened g.K.Keeper.is_within in
    let only : Bool = g.P.Purpose.only_work in
    let does : ClaimDoes w c.claim.result c.self.inside.core c.claim.new.self = record {
      adds = c.claim.ensures.does.adds;
      gives = c.claim.ensures.does.gives;
      stands = c.claim.ensures.does.stands;
      any_moment = c.claim.ensures.does.any_moment;
      submitted = c.claim.ensures.does.submitted;
      job = c.claim.ensures.does.job;
      others = c.claim.ensures.does.others;
      store = c.claim.ensures.does.store;
      nothing = c.claim.ensures.does.nothing;
      waits = c.claim.ensures.does.waits;
      down = c.claim.ensures.does.down;
      unchanged = c.claim.ensures.does.unchanged;
      spent = c.claim.ensures.does.spent;
      unspent = c.claim.ensures.does.unspent;
      cause = c.claim.ensures.does.cause;
      twice = c.claim.ensures.does.twice;
      up = c.claim.ensures.does.up;
    } in
    let one : Follows w only c.self.inside.core c.claim.new.self = claim_follows w only c.self.inside.core c.claim.new.self c.claim.result does in
    let all : Follows w only c.self.inside.start.value c.claim.new.self = follows_on w only c.self.inside.start.value c.self.inside.core c.claim.new.self c.self.invariant one in
    job_seen c.self.inside.start.value c.claim.new.self (ap (λ (f : Found). f.queue.value) all.passed.opening.found) c.claim.result c.claim.ensures.does.job

pub returns-clause-follows : goal.returns-clause-follows
returns-clause-follows g c =
    let w : Sight g.row.D.Denot g.row.K.Denot = sight g.D.Disk.is_told g.D.Disk.seen g.D.Disk.may_leave g.D.Disk.moment g.D.Disk.left_since g.D.Disk.fault_count g.K.Keeper.is_told g.K.Keeper.kept g.K.Keeper.images g.K.Keeper.moment g.K.Keeper.images_since g.K.Keeper.down g.K.Keeper.size g.K.Keeper.fault_count g.K.Keeper.opened g.K.Keeper.is_within in
    subst (λ (f : FollowedCore g.row.D.Denot g.row.K.Denot). Follows w g.P.Purpose.only_work f.start f.core) c.self.view_is c.self.invariant
