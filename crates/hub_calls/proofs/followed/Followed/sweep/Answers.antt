use Rattle.std.proofs.Common.{Bool, sym, subst}
use mathlib.Core.List.{IsPrefix}
use Rattle.core_ends.specs.core_course.Sight.{Sight, sight}
use Rattle.hub_calls.specs.Entries.{entries}
use Rattle.hub_calls.specs.Calls.{SweepDoes}
use Rattle.hub_calls.specs.Follows.{Follows}
use Rattle.hub_calls.specs.Seen.{FollowedCore, list_of}
use Rattle.hub_calls.proofs.Entries.{entries_grow}
use Rattle.hub_calls.proofs.Steps.{sweep_follows, follows_on}
use Rattle.hub_calls.proofs.followed.Followed.sweep.Goals as goal

pub invariant_of-self : goal.invariant_of-self
invariant_of-self g c =
    let w : Sight g.row.D.Denot g.row.K.Denot = sight g.D.Disk.is_told g.D.Disk.seen g.D.Disk.may_leave g.D.Disk.moment g.D.Disk.left_since g.D.Disk.fault_count g.K.Keeper.is_told g.K.Keeper.kept g.K.Keeper.images g.K.Keeper.moment g.K.Keeper.images_since g.K.Keeper.down g.K.Keeper.size g.K.Keeper.fault_count g.K.Keeper.opened g.K.Keeper.is_within in
    let only : Bool = g.P.Purpose.only_work in
    let does : SweepDoes w g.K.Keeper.generation c.sweep.result c.args.kinds c.args.m c.self.inside.core c.sweep.new.self = record {
      adds = c.sweep.ensures.does.adds;
      writes = c.sweep.ensures.does.writes;
      stands = c.sweep.ensures.does.stands;
      any_moment = c.sweep.ensures.does.any_moment;
      submitted = c.sweep.ensures.does.submitted;
      opening = c.sweep.ensures.does.opening;
      keeper = record { same_generation = c.sweep.ensures.does.keeper.same_generation; same_opening = c.sweep.ensures.does.keeper.same_opening; bounds = c.sweep.ensures.does.keeper.bounds };
      queue = c.sweep.ensures.does.queue;
      pending = c.sweep.ensures.does.pending;
      down = c.sweep.ensures.does.down;
      unchanged = c.sweep.ensures.does.unchanged;
      stays = c.sweep.ensures.does.stays;
      fault = c.sweep.ensures.does.fault;
      spent = c.sweep.ensures.does.spent;
      unspent = c.sweep.ensures.does.unspent;
      cause = c.sweep.ensures.does.cause;
      twice = c.sweep.ensures.does.twice;
      store_down = c.sweep.ensures.does.store_down;
      up = c.sweep.ensures.does.up;
    } in
    let one : Follows w only c.self.inside.core c.sweep.new.self = subst (λ (b : Bool). Follows w b c.self.inside.core c.sweep.new.self) (sym c.requires.all) (sweep_follows w c.self.inside.core c.sweep.new.self g.K.Keeper.generation c.sweep.result c.args.kinds c.args.m does) in
    follows_on w only c.self.inside.start.value c.self.inside.core c.sweep.new.self c.self.invariant one

pub returns-clause-does : goal.returns-clause-does
returns-clause-does g c =
    let w : Sight g.row.D.Denot g.row.K.Denot = sight g.D.Disk.is_told g.D.Disk.seen g.D.Disk.may_leave g.D.Disk.moment g.D.Disk.left_since g.D.Disk.fault_count g.K.Keeper.is_told g.K.Keeper.kept g.K.Keeper.images g.K.Keeper.moment g.K.Keeper.images_since g.K.Keeper.down g.K.Keeper.size g.K.Keeper.fault_count g.K.Keeper.opened g.K.Keeper.is_within in
    let does : SweepDoes w g.K.Keeper.generation c.sweep.result c.args.kinds c.args.m c.self.inside.core c.sweep.new.self = record {
      adds = c.sweep.ensures.does.adds;
      writes = c.sweep.ensures.does.writes;
      stands = c.sweep.ensures.does.stands;
      any_moment = c.sweep.ensures.does.any_moment;
      submitted = c.sweep.ensures.does.submitted;
      opening = c.sweep.ensures.does.opening;
      keeper = record { same_generation = c.sweep.ensures.does.keeper.same_generation; same_opening = c.sweep.ensures.does.keeper.same_opening; bounds = c.sweep.ensures.does.keeper.bounds };
      queue = c.sweep.ensures.does.queue;
      pending = c.sweep.ensures.does.pending;
      down = c.sweep.ensures.does.down;
      unchanged = c.sweep.ensures.does.unchanged;
      stays = c.sweep.ensures.does.stays;
      fault = c.sweep.ensures.does.fault;
      spent = c.sweep.ensures.does.spent;
      unspent = c.sweep.ensures.does.unspent;
      cause = c.sweep.ensures.does.cause;
      twice = c.sweep.ensures.does.twice;
      store_down = c.sweep.ensures.does.store_down;
      up = c.sweep.ensures.does.up;
    } in
    subst (λ (f : FollowedCore g.row.D.Denot g.row.K.Denot). SweepDoes w g.K.Keeper.generation c.sweep.result c.args.kinds c.args.m f.core c.sweep.new.self) c.self.view_is does

pub returns-clause-grows : goal.returns-clause-grows
returns-clause-grows g c =
    let w : Sight g.row.D.Denot g.row.K.Denot = sight g.D.Disk.is_told g.D.Disk.seen g.D.Disk.may_leave g.D.Disk.moment g.D.Disk.left_since g.D.Disk.fault_count g.K.Keeper.is_told g.K.Keeper.kept g.K.Keeper.images g.K.Keeper.moment g.K.Keeper.images_since g.K.Keeper.down g.K.Keeper.size g.K.Keeper.fault_count g.K.Keeper.opened g.K.Keeper.is_within in
    let only : Bool = g.P.Purpose.only_work in
    let does : SweepDoes w g.K.Keeper.generation c.sweep.result c.args.kinds c.args.m c.self.inside.core c.sweep.new.self = record {
      adds = c.sweep.ensures.does.adds;
      writes = c.sweep.ensures.does.writes;
      stands = c.sweep.ensures.does.stands;
      any_moment = c.sweep.ensures.does.any_moment;
      submitted = c.sweep.ensures.does.submitted;
      opening = c.sweep.ensures.does.opening;
      keeper = record { same_generation = c.sweep.ensures.does.keeper.same_generation; same_opening = c.sweep.ensures.does.keeper.same_opening; bounds = c.sweep.ensures.does.keeper.bounds };
      queue = c.sweep.ensures.does.queue;
      pending = c.sweep.ensures.does.pending;
      down = c.sweep.ensures.does.down;
      unchanged = c.sweep.ensures.does.unchanged;
      stays = c.sweep.ensures.does.stays;
      fault = c.sweep.ensures.does.fault;
      spent = c.sweep.ensures.does.spent;
      unspent = c.sweep.ensures.does.unspent;
      cause = c.sweep.ensures.does.cause;
      twice = c.sweep.ensures.does.twice;
      store_down = c.sweep.ensures.does.store_down;
      up = c.sweep.ensures.does.up;
    } in
    let one : Follows w only c.self.inside.core c.sweep.new.self = subst (λ (b : Bool). Follows w b c.self.inside.core c.sweep.new.self) (sym c.requires.all) (sweep_follows w c.self.inside.core c.sweep.new.self g.K.Keeper.generation c.sweep.result c.args.kinds c.args.m does) in
    subst (λ (f : FollowedCore g.row.D.Denot g.row.K.Denot). IsPrefix (list_of f) (entries c.self.inside.start.value c.sweep.new.self.events.list)) c.self.view_is
    (entries_grow c.self.inside.start.value one.more c.self.inside.core.events.list c.sweep.new.self.events.list one.passed.events)

pub returns-clause-follows : goal.returns-clause-follows
returns-clause-follows g c =
    let w : Sight g.row.D.Denot g.row.K.Denot = sight g.D.Disk.is_told g.D.Disk.seen g.D.Disk.may_leave g.D.Disk.moment g.D.Disk.left_since g.D.Disk.fault_count g.K.Keeper.is_told g.K.Keeper.kept g.K.Keeper.images g.K.Keeper.moment g.K.Keeper.images_since g.K.Keeper.down g.K.Keeper.size g.K.Keeper.fault_count g.K.Keeper.opened g.K.Keeper.is_within in
    subst (λ (f : FollowedCore g.row.D.Denot g.row.K.Denot). Follows w g.P.Purpose.only_work f.start f.core) c.self.view_is c.self.invariant
