use Rattle.std.proofs.Common.{Bool, sym, subst}
use mathlib.Core.List.{IsPrefix}
use Rattle.core_ends.specs.core_course.Sight.{Sight, sight}
use Rattle.hub_calls.specs.Entries.{entries}
use Rattle.hub_calls.specs.Calls.{SubmitDoes}
use Rattle.hub_calls.specs.Follows.{Follows}
use Rattle.hub_calls.specs.Seen.{FollowedCore, list_of}
use Rattle.hub_calls.proofs.Entries.{entries_grow}
use Rattle.hub_calls.proofs.Steps.{submit_follows, follows_on}
use Rattle.hub_calls.proofs.followed.Followed.submit.Goals as goal

pub invariant_of-self : goal.invariant_of-self
invariant_of-self g c =
    let w : Sight g.row.D.Denot g.row.K.Denot = sight g.D.Disk.is_told g.D.Disk.seen g.D.Disk.may_leave g.D.Disk.moment g.D.Disk.left_since g.D.Disk.fault_count g.K.Keeper.is_told g.K.Keeper.kept g.K.Keeper.images g.K.Keeper.moment g.K.Keeper.images_since g.K.Keeper.down g.K.Keeper.size g.K.Keeper.fault_count g.K.Keeper.opened g.K.Keeper.is_within in
    let only : Bool = g.P.Purpose.only_work in
    let does : SubmitDoes w c.submit.result c.args.command c.self.inside.core c.submit.new.self = record {
      adds = c.submit.ensures.does.adds;
      writes = c.submit.ensures.does.writes;
      stands = c.submit.ensures.does.stands;
      any_moment = c.submit.ensures.does.any_moment;
      submitted = c.submit.ensures.does.submitted;
      others = c.submit.ensures.does.others;
      store = c.submit.ensures.does.store;
      down = c.submit.ensures.does.down;
      unchanged = c.submit.ensures.does.unchanged;
      full = c.submit.ensures.does.full;
      spent = c.submit.ensures.does.spent;
      unspent = c.submit.ensures.does.unspent;
      stays = c.submit.ensures.does.stays;
      fault = c.submit.ensures.does.fault;
      cause = c.submit.ensures.does.cause;
      twice = c.submit.ensures.does.twice;
      up = c.submit.ensures.does.up;
    } in
    let one : Follows w only c.self.inside.core c.submit.new.self = subst (λ (b : Bool). Follows w b c.self.inside.core c.submit.new.self) (sym c.requires.all) (submit_follows w c.self.inside.core c.submit.new.self c.submit.result c.args.command does) in
    follows_on w only c.self.inside.start.value c.self.inside.core c.submit.new.self c.self.invariant one

pub returns-clause-does : goal.returns-clause-does
returns-clause-does g c =
    let w : Sight g.row.D.Denot g.row.K.Denot = sight g.D.Disk.is_told g.D.Disk.seen g.D.Disk.may_leave g.D.Disk.moment g.D.Disk.left_since g.D.Disk.fault_count g.K.Keeper.is_told g.K.Keeper.kept g.K.Keeper.images g.K.Keeper.moment g.K.Keeper.images_since g.K.Keeper.down g.K.Keeper.size g.K.Keeper.fault_count g.K.Keeper.opened g.K.Keeper.is_within in
    let does : SubmitDoes w c.submit.result c.args.command c.self.inside.core c.submit.new.self = record {
      adds = c.submit.ensures.does.adds;
      writes = c.submit.ensures.does.writes;
      stands = c.submit.ensures.does.stands;
      any_moment = c.submit.ensures.does.any_moment;
      submitted = c.submit.ensures.does.submitted;
      others = c.submit.ensures.does.others;
      store = c.submit.ensures.does.store;
      down = c.submit.ensures.does.down;
      unchanged = c.submit.ensures.does.unchanged;
      full = c.submit.ensures.does.full;
      spent = c.submit.ensures.does.spent;
      unspent = c.submit.ensures.does.unspent;
      stays = c.submit.ensures.does.stays;
      fault = c.submit.ensures.does.fault;
      cause = c.submit.ensures.does.cause;
      twice = c.submit.ensures.does.twice;
      up = c.submit.ensures.does.up;
    } in
    subst (λ (f : FollowedCore g.row.D.Denot g.row.K.Denot). SubmitDoes w c.submit.result c.args.command f.core c.submit.new.self) c.self.view_is does

pub returns-clause-grows : goal.returns-clause-grows
returns-clause-grows g c =
    let w : Sight g.row.D.Denot g.row.K.Denot = sight g.D.Disk.is_told g.D.Disk.seen g.D.Disk.may_leave g.D.Disk.moment g.D.Disk.left_since g.D.Disk.fault_count g.K.Keeper.is_told g.K.Keeper.kept g.K.Keeper.images g.K.Keeper.moment g.K.Keeper.images_since g.K.Keeper.down g.K.Keeper.size g.K.Keeper.fault_count g.K.Keeper.opened g.K.Keeper.is_within in
    let only : Bool = g.P.Purpose.only_work in
    let does : SubmitDoes w c.submit.result c.args.command c.self.inside.core c.submit.new.self = record {
      adds = c.submit.ensures.does.adds;
      writes = c.submit.ensures.does.writes;
      stands = c.submit.ensures.does.stands;
      any_moment = c.submit.ensures.does.any_moment;
      submitted = c.submit.ensures.does.submitted;
      others = c.submit.ensures.does.others;
      store = c.submit.ensures.does.store;
      down = c.submit.ensures.does.down;
      unchanged = c.submit.ensures.does.unchanged;
      full = c.submit.ensures.does.full;
      spent = c.submit.ensures.does.spent;
      unspent = c.submit.ensures.does.unspent;
      stays = c.submit.ensures.does.stays;
      fault = c.submit.ensures.does.fault;
      cause = c.submit.ensures.does.cause;
      twice = c.submit.ensures.does.twice;
      up = c.submit.ensures.does.up;
    } in
    let one : Follows w only c.self.inside.core c.submit.new.self = subst (λ (b : Bool). Follows w b c.self.inside.core c.submit.new.self) (sym c.requires.all) (submit_follows w c.self.inside.core c.submit.new.self c.submit.result c.args.command does) in
    subst (λ (f : FollowedCore g.row.D.Denot g.row.K.Denot). IsPrefix (list_of f) (entries c.self.inside.start.value c.submit.new.self.events.list)) c.self.view_is
    (entries_grow c.self.inside.start.value one.more c.self.inside.core.events.list c.submit.new.self.events.list one.passed.events)

pub returns-clause-follows : goal.returns-clause-follows
returns-clause-follows g c =
    let w : Sight g.row.D.Denot g.row.K.Denot = sight g.D.Disk.is_told g.D.Disk.seen g.D.Disk.may_leave g.D.Disk.moment g.D.Disk.left_since g.D.Disk.fault_count g.K.Keeper.is_told g.K.Keeper.kept g.K.Keeper.images g.K.Keeper.moment g.K.Keeper.images_since g.K.Keeper.down g.K.Keeper.size g.K.Keeper.fault_count g.K.Keeper.opened g.K.Keeper.is_within in
    subst (λ (f : FollowedCore g.row.D.Denot g.row.K.Denot). Follows w g.P.Purpose.only_work f.start f.core) c.self.view_is c.self.invariant
