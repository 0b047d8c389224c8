use Rattle.std.proofs.Common.{Bool, subst}
use mathlib.Core.List.{IsPrefix}
use Rattle.core_ends.specs.core_course.Sight.{Sight, sight}
use Rattle.hub_calls.specs.Entries.{entries}
use Rattle.hub_calls.specs.Calls.{ReleaseDoes}
use Rattle.hub_calls.specs.Follows.{Follows}
use Rattle.hub_calls.specs.Seen.{FollowedCore, list_of}
use Rattle.hub_calls.proofs.Entries.{entries_grow}
use Rattle.hub_calls.proofs.Steps.{release_follows, follows_on}
use Rattle.hub_calls.proofs.followed.Followed.release.Goals as goal

pub invariant_of-self : goal.invariant_of-self
invariant_of-self g c =
    let w : Sight g.row.D.Denot g.row.K.Denot = sight g.D.Disk.is_told g.D.Disk.seen g.D.Disk.may_leave g.D.Disk.moment g.D.Disk.left_since g.D.Disk.fault_count g.K.Keeper.is_told g.K.Keeper.kept g.K.Keeper.images g.K.Keeper.moment g.K.Keeper.images_since g.K.Keeper.down g.K.Keeper.size g.K.Keeper.fault_count g.K.Keeper.opened g.K.Keeper.is_within in
    let only : Bool = g.P.Purpose.only_work in
    let does : ReleaseDoes w c.args.job c.self.inside.core c.release.new.self = record {
      released = c.release.ensures.does.released;
      unchanged = c.release.ensures.does.unchanged;
      gives = c.release.ensures.does.gives;
      stands = c.release.ensures.does.stands;
      submitted = c.release.ensures.does.submitted;
      others = c.release.ensures.does.others;
      queue = c.release.ensures.does.queue;
      store = c.release.ensures.does.store;
      last = c.release.ensures.does.last;
    } in
    let one : Follows w only c.self.inside.core c.release.new.self = release_follows w only c.self.inside.core c.release.new.self c.args.job does in
    follows_on w only c.self.inside.start.value c.self.inside.core c.release.new.self c.self.invariant one

pub returns-clause-does : goal.returns-clause-does
returns-clause-does g c =
    let w : Sight g.row.D.Denot g.row.K.Denot = sight g.D.Disk.is_told g.D.Disk.seen g.D.Disk.may_leave g.D.Disk.moment g.D.Disk.left_since g.D.Disk.fault_count g.K.Keeper.is_told g.K.Keeper.kept g.K.Keeper.images g.K.Keeper.moment g.K.Keeper.images_since g.K.Keeper.down g.K.Keeper.size g.K.Keeper.fault_count g.K.Keeper.opened g.K.Keeper.is_within in
    let does : ReleaseDoes w c.args.job c.self.inside.core c.release.new.self = record {
      released = c.release.ensures.does.released;
      unchanged = c.release.ensures.does.unchanged;
      gives = c.release.ensures.does.gives;
      stands = c.release.ensures.does.stands;
      submitted = c.release.ensures.does.submitted;
      others = c.release.ensures.does.others;
      queue = c.release.ensures.does.queue;
      store = c.release.ensures.does.store;
      last = c.release.ensures.does.last;
    } in
    subst (λ (f : FollowedCore g.row.D.Denot g.row.K.Denot). ReleaseDoes w c.args.job f.core c.release.new.self) c.self.view_is does

pub returns-clause-grows : goal.returns-clause-grows
returns-clause-grows g c =
    let w : Sight g.row.D.Denot g.row.K.Denot = sight g.D.Disk.is_told g.D.Disk.seen g.D.Disk.may_leave g.D.Disk.moment g.D.Disk.left_since g.D.Disk.fault_count g.K.Keeper.is_told g.K.Keeper.kept g.K.Keeper.images g.K.Keeper.moment g.K.Keeper.images_since g.K.Keeper.down g.K.Keeper.size g.K.Keeper.fault_count g.K.Keeper.opened g.K.Keeper.is_within in
    let only : Bool = g.P.Purpose.only_work in
    let does : ReleaseDoes w c.args.job c.self.inside.core c.release.new.self = record {
      released = c.release.ensures.does.released;
      unchanged = c.release.ensures.does.unchanged;
      gives = c.release.ensures.does.gives;
      stands = c.release.ensures.does.stands;
      submitted = c.release.ensures.does.submitted;
      others = c.release.ensures.does.others;
      queue = c.release.ensures.does.queue;
      store = c.release.ensures.does.store;
      last = c.release.ensures.does.last;
    } in
    let one : Follows w only c.self.inside.core c.release.new.self = release_follows w only c.self.inside.core c.release.new.self c.args.job does in
    subst (λ (f : FollowedCore g.row.D.Denot g.row.K.Denot). IsPrefix (list_of f) (entries c.self.inside.start.value c.release.new.self.events.list)) c.self.view_is
    (entries_grow c.self.inside.start.value one.more c.self.inside.core.events.list c.release.new.self.events.list one.passed.events)

pub returns-clause-follows : goal.returns-clause-follows
returns-clause-follows g c =
    let w : Sight g.row.D.Denot g.row.K.Denot = sight g.D.Disk.is_told g.D.Disk.seen g.D.Disk.may_leave g.D.Disk.moment g.D.Disk.left_since g.D.Disk.fault_count g.K.Keeper.is_told g.K.Keeper.kept g.K.Keeper.images g.K.Keeper.moment g.K.Keeper.images_since g.K.Keeper.down g.K.Keeper.size g.K.Keeper.fault_count g.K.Keeper.opened g.K.Keeper.is_within in
    subst (λ (f : FollowedCore g.row.D.Denot g.row.K.Denot). Follows w g.P.Purpose.only_work f.start f.core) c.self.view_is c.self.invariant
