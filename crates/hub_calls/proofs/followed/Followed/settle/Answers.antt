use Rattle.std.proofs.Common.{Bool, sym, ap, subst}
use mathlib.Core.List.{IsPrefix}
use Rattle.core_ends.specs.core_state.Seen.{IsSubmitted}
use Rattle.core_ends.specs.core_state.declared.found.Found.{Found}
use Rattle.core_ends.specs.core_course.Sight.{Sight, sight}
use Rattle.hub_calls.specs.Entries.{entries, WasSubmitted}
use Rattle.hub_calls.specs.Calls.{SettleDoes}
use Rattle.hub_calls.specs.Follows.{Follows}
use Rattle.hub_calls.specs.Seen.{FollowedCore, list_of}
use Rattle.hub_calls.proofs.Entries.{entries_grow, submitted_seen}
use Rattle.hub_calls.proofs.Steps.{settle_follows, follows_on}
use Rattle.hub_calls.proofs.followed.Followed.settle.Goals as goal

pub settle-requires-clause-submitted : goal.settle-requires-clause-submitted
settle-requires-clause-submitted g c =
    submitted_seen c.args.job.receipt c.args.job.command c.self.inside.start.value c.self.inside.core.found.queue.value c.self.inside.core.events.list
    (ap (λ (f : Found). f.queue.value) c.self.invariant.passed.opening.found)
    (subst (λ (f : FollowedCore g.row.D.Denot g.row.K.Denot). WasSubmitted c.args.job.receipt c.args.job.command (list_of f)) (sym c.self.view_is) c.requires.submitted)

pub invariant_of-self : goal.invariant_of-self
invariant_of-self g c =
    let w : Sight g.row.D.Denot g.row.K.Denot = sight g.D.Disk.is_told g.D.Disk.seen g.D.Disk.may_leave g.D.Disk.moment g.D.Disk.left_since g.D.Disk.fault_count g.K.Keeper.is_told g.K.Keeper.kept g.K.Keeper.images g.K.Keeper.moment g.K.Keeper.images_since g.K.Keeper.down g.K.Keeper.size g.K.Keeper.fault_count g.K.Keeper.opened g.K.Keeper.is_within in
    let only : Bool = g.P.Purpose.only_work in
    let was : IsSubmitted c.args.job.receipt c.args.job.command c.self.inside.core =
    submitted_seen c.args.job.receipt c.args.job.command c.self.inside.start.value c.self.inside.core.found.queue.value c.self.inside.core.events.list
    (ap (λ (f : Found). f.queue.value) c.self.invariant.passed.opening.found)
    (subst (λ (f : FollowedCore g.row.D.Denot g.row.K.Denot). WasSubmitted c.args.job.receipt c.args.job.command (list_of f)) (sym c.self.view_is) c.requires.submitted) in
    let does : SettleDoes w g.K.Keeper.generation c.settle.result c.args.job c.args.verdict c.self.inside.core c.settle.new.self = record {
      adds = c.settle.ensures.does.adds;
      queue_writes = c.settle.ensures.does.queue_writes;
      store_writes = c.settle.ensures.does.store_writes;
      gives = c.settle.ensures.does.gives;
      stands = c.settle.ensures.does.stands;
      any_moment = c.settle.ensures.does.any_moment;
      each_image = c.settle.ensures.does.each_image;
      submitted = c.settle.ensures.does.kept_submitted;
      opening = c.settle.ensures.does.opening;
      keeper = record { same_generation = c.settle.ensures.does.keeper.same_generation; same_opening = c.settle.ensures.does.keeper.same_opening; bounds = c.settle.ensures.does.keeper.bounds };
      down = c.settle.ensures.does.down;
      not_claimed = c.settle.ensures.does.not_claimed;
      unspent = c.settle.ensures.does.unspent;
      leaves = c.settle.ensures.does.leaves;
      waits = c.settle.ensures.does.waits;
      refusals = c.settle.ensures.does.refusals;
      cause = c.settle.ensures.does.cause;
      twice = c.settle.ensures.does.twice;
      store_cause = c.settle.ensures.does.store_cause;
      store_later = c.settle.ensures.does.store_later;
      store_down = c.settle.ensures.does.store_down;
      up = c.settle.ensures.does.up;
    } in
    let one : Follows w only c.self.inside.core c.settle.new.self = settle_follows w only c.self.inside.core c.settle.new.self g.K.Keeper.generation c.settle.result c.args.job c.args.verdict was c.requires.decodes c.requires.fit does in
    follows_on w only c.self.inside.start.value c.self.inside.core c.settle.new.self c.self.invariant one

pub returns-clause-does : goal.returns-clause-does
returns-clause-does g c =
    let w : Sight g.row.D.Denot g.row.K.Denot = sight g.D.Disk.is_told g.D.Disk.seen g.D.Disk.may_leave g.D.Disk.moment g.D.Disk.left_since g.D.Disk.fault_count g.K.Keeper.is_told g.K.Keeper.kept g.K.Keeper.images g.K.Keeper.moment g.K.Keeper.images_since g.K.Keeper.down g.K.Keeper.size g.K.Keeper.fault_count g.K.Keeper.opened g.K.Keeper.is_within in
    let does : SettleDoes w g.K.Keeper.generation c.settle.result c.args.job c.args.verdict c.self.inside.core c.settle.new.self = record {
      adds = c.settle.ensures.does.adds;
      queue_writes = c.settle.ensures.does.queue_writes;
      store_writes = c.settle.ensures.does.store_writes;
      gives = c.settle.ensures.does.gives;
      stands = c.settle.ensures.does.stands;
      any_moment = c.settle.ensures.does.any_moment;
      each_image = c.settle.ensures.does.each_image;
      submitted = c.settle.ensures.does.kept_submitted;
      opening = c.settle.ensures.does.opening;
      keeper = record { same_generation = c.settle.ensures.does.keeper.same_generation; same_opening = c.settle.ensures.does.keeper.same_opening; bounds = c.settle.ensures.does.keeper.bounds };
      down = c.settle.ensures.does.down;
      not_claimed = c.settle.ensures.does.not_claimed;
      unspent = c.settle.ensures.does.unspent;
      leaves = c.settle.ensures.does.leaves;
      waits = c.settle.ensures.does.waits;
      refusals = c.settle.ensures.does.refusals;
      cause = c.settle.ensures.does.cause;
      twice = c.settle.ensures.does.twice;
      store_cause = c.settle.ensures.does.store_cause;
      store_later = c.settle.ensures.does.store_later;
      store_down = c.settle.ensures.does.store_down;
      up = c.settle.ensures.does.up;
    } in
    subst (λ (f : FollowedCore g.row.D.Denot g.row.K.Denot). SettleDoes w g.K.Keeper.generation c.settle.result c.args.job c.args.verdict f.core c.settle.new.self) c.self.view_is does

pub returns-clause-grows : goal.returns-clause-grows
returns-clause-grows g c =
    let w : Sight g.row.D.Denot g.row.K.Denot = sight g.D.Disk.is_told g.D.Disk.seen g.D.Disk.may_leave g.D.Disk.moment g.D.Disk.left_since g.D.Disk.fault_count g.K.Keeper.is_told g.K.Keeper.kept g.K.Keeper.images g.K.Keeper.moment g.K.Keeper.images_since g.K.Keeper.down g.K.Keeper.size g.K.Keeper.fault_count g.K.Keeper.opened g.K.Keeper.is_within in
    let only : Bool = g.P.Purpose.only_work in
    let was : IsSubmitted c.args.job.receipt c.args.job.command c.self.inside.core =
    submitted_seen c.args.job.receipt c.args.job.command c.self.inside.start.value c.self.inside.core.found.queue.value c.self.inside.core.events.list
    (ap (λ (f : Found). f.queue.value) c.self.invariant.passed.opening.found)
    (subst (λ (f : FollowedCore g.row.D.Denot g.row.K.Denot). WasSubmitted c.args.job.receipt c.args.job.command (list_of f)) (sym c.self.view_is) c.requires.submitted) in
    let does : SettleDoes w g.K.Keeper.generation c.settle.result c.args.job c.args.verdict c.self.inside.core c.settle.new.self = record {
      adds = c.settle.ensures.does.adds;
      queue_writes = c.settle.ensures.does.queue_writes;
      store_writes = c.settle.ensures.does.store_writes;
      gives = c.settle.ensures.does.gives;
      stands = c.settle.ensures.does.stands;
      any_moment = c.settle.ensures.does.any_moment;
      each_image = c.settle.ensures.does.each_image;
      submitted = c.settle.ensures.does.kept_submitted;
      opening = c.settle.ensures.does.opening;
      keeper = record { same_generation = c.settle.ensures.does.keeper.same_generation; same_opening = c.settle.ensures.does.keeper.same_opening; bounds = c.settle.ensures.does.keeper.bounds };
      down = c.settle.ensures.does.down;
      not_claimed = c.settle.ensures.does.not_claimed;
      unspent = c.settle.ensures.does.unspent;
      leaves = c.settle.ensures.does.leaves;
      waits = c.settle.ensures.does.waits;
      refusals = c.settle.ensures.does.refusals;
      cause = c.settle.ensures.does.cause;
      twice = c.settle.ensures.does.twice;
      store_cause = c.settle.ensures.does.store_cause;
      store_later = c.settle.ensures.does.store_later;
      store_down = c.settle.ensures.does.store_down;
      up = c.settle.ensures.does.up;
    } in
    let one : Follows w only c.self.inside.core c.settle.new.self = settle_follows w only c.self.inside.core c.settle.new.self g.K.Keeper.generation c.settle.result c.args.job c.args.verdict was c.requires.decodes c.requires.fit does in
    subst (λ (f : FollowedCore g.row.D.Denot g.row.K.Denot). IsPrefix (list_of f) (entries c.self.inside.start.value c.settle.new.self.events.list)) c.self.view_is
    (entries_grow c.self.inside.start.value one.more c.self.inside.core.events.list c.settle.new.self.events.list one.passed.events)

pub returns-clause-follows : goal.returns-clause-follows
returns-clause-follows g c =
    let w : Sight g.row.D.Denot g.row.K.Denot = sight g.D.Disk.is_told g.D.Disk.seen g.D.Disk.may_leave g.D.Disk.moment g.D.Disk.left_since g.D.Disk.fault_count g.K.Keeper.is_told g.K.Keeper.kept g.K.Keeper.images g.K.Keeper.moment g.K.Keeper.images_since g.K.Keeper.down g.K.Keeper.size g.K.Keeper.fault_count g.K.Keeper.opened g.K.Keeper.is_within in
    subst (λ (f : FollowedCore g.row.D.Denot g.row.K.Denot). Follows w g.P.Purpose.only_work f.start f.core) c.self.view_is c.self.invariant
