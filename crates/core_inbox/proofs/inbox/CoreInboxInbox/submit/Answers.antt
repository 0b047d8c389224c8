use Rattle.std.proofs.Common.{◌≡◌, subst}
use Rattle.core_ends.specs.core_state.declared.state.CoreState.{CoreState}
use Rattle.core_ends.specs.core_course.Sight.{Sight, sight}
use Rattle.core_inbox.specs.Submits.{SubmitDoes}
use Rattle.core_inbox.proofs.Submits.{submit_takes}
use Rattle.core_inbox.proofs.inbox.CoreInboxInbox.submit.Goals as goal

pub returns-clause-shown : goal.returns-clause-shown
returns-clause-shown g c =
    subst (λ (s : CoreState g.row.D.Denot g.row.K.Denot). c.submit.new.self.tables ≡ s.tables) c.self.view_is c.submit.ensures.does.others.tables

pub returns-clause-submits : goal.returns-clause-submits
returns-clause-submits g c =
    let w : Sight g.row.D.Denot g.row.K.Denot = sight g.D.Disk.is_told g.D.Disk.seen g.D.Disk.may_leave g.D.Disk.moment g.D.Disk.left_since g.D.Disk.fault_count g.K.Keeper.is_told g.K.Keeper.kept g.K.Keeper.images g.K.Keeper.moment g.K.Keeper.images_since g.K.Keeper.down g.K.Keeper.size g.K.Keeper.fault_count g.K.Keeper.opened g.K.Keeper.is_within in
    let does : SubmitDoes w c.submit.result c.args.command c.self.inside.core c.submit.new.self = record {
      adds = c.submit.ensures.does.adds;
      writes = c.submit.ensures.does.writes;
      waits = c.submit.ensures.does.waits;
      stands = c.submit.ensures.does.stands;
      any_moment = c.submit.ensures.does.any_moment;
      submitted = c.submit.ensures.does.submitted;
      others = c.submit.ensures.does.others;
      store = c.submit.ensures.does.store;
      down = c.submit.ensures.does.down;
      unchanged = c.submit.ensures.does.unchanged;
      full = c.submit.ensures.does.full;
      spent = c.submit.ensures.does.spent;
      unspent = c.submit.ensures.does.unspent;
      stays = c.submit.ensures.does.stays;
      fault = c.submit.ensures.does.fault;
      cause = c.submit.ensures.does.cause;
      twice = c.submit.ensures.does.twice;
      up = c.submit.ensures.does.up;
    } in
    let here : SubmitDoes w c.submit.result c.args.command c.args.self.now c.submit.new.self =
    subst (λ (s : CoreState g.row.D.Denot g.row.K.Denot). SubmitDoes w c.submit.result c.args.command s c.submit.new.self) c.self.view_is does in
    (submit_takes w c.args.command c.args.self.now c.submit.new.self c.submit.result here).0

pub returns-clause-does : goal.returns-clause-does
returns-clause-does g c =
    let w : Sight g.row.D.Denot g.row.K.Denot = sight g.D.Disk.is_told g.D.Disk.seen g.D.Disk.may_leave g.D.Disk.moment g.D.Disk.left_since g.D.Disk.fault_count g.K.Keeper.is_told g.K.Keeper.kept g.K.Keeper.images g.K.Keeper.moment g.K.Keeper.images_since g.K.Keeper.down g.K.Keeper.size g.K.Keeper.fault_count g.K.Keeper.opened g.K.Keeper.is_within in
    let does : SubmitDoes w c.submit.result c.args.command c.self.inside.core c.submit.new.self = record {
      adds = c.submit.ensures.does.adds;
      writes = c.submit.ensures.does.writes;
      waits = c.submit.ensures.does.waits;
      stands = c.submit.ensures.does.stands;
      any_moment = c.submit.ensures.does.any_moment;
      submitted = c.submit.ensures.does.submitted;
      others = c.submit.ensures.does.others;
      store = c.submit.ensures.does.store;
      down = c.submit.ensures.does.down;
      unchanged = c.submit.ensures.does.unchanged;
      full = c.submit.ensures.does.full;
      spent = c.submit.ensures.does.spent;
      unspent = c.submit.ensures.does.unspent;
      stays = c.submit.ensures.does.stays;
      fault = c.submit.ensures.does.fault;
      cause = c.submit.ensures.does.cause;
      twice = c.submit.ensures.does.twice;
      up = c.submit.ensures.does.up;
    } in
    let here : SubmitDoes w c.submit.result c.args.command c.args.self.now c.submit.new.self =
    subst (λ (s : CoreState g.row.D.Denot g.row.K.Denot). SubmitDoes w c.submit.result c.args.command s c.submit.new.self) c.self.view_is does in
    (submit_takes w c.args.command c.args.self.now c.submit.new.self c.submit.result here).1
