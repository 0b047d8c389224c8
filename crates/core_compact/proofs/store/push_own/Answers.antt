use Rattle.std.proofs.Common.{◌≡◌, List, [], ◌∷◌, ◌++◌, None, sym, subst}
use Rattle.core_state.specs.record_spec.declared.store.StoreRecord.{StoreRecord}
use Rattle.core_compact.proofs.Nodes.{IsUnder, under_none, under_more, taken_lawful, fewer_left}
use Rattle.core_compact.proofs.store.push_own.Goals as goal

pub taking-init : goal.taking-init
taking-init c = under_none c.args.certname.now c.args.records.now c.args.left.now.items c.requires.lawful c.requires.fits

pub command_record-requires : goal.command_record-requires
command_record-requires c = taken_lawful c.args.certname.now c.taking.left.items c.take_own.new.left.items c.in-Some.applied c.taking.invariant.lawful c.in-Some.ensures

pub taking-preserved : goal.taking-preserved
taking-preserved c =
    let n = c.args.certname.now in
    let from = c.args.records.now in
    let all = c.args.left.now.items in
    subst (λ (rs : List StoreRecord). IsUnder n from all rs c.take_own.new.left.items) (sym c.in_ok-push.ensures.ok)
    (under_more n from all c.taking.records c.taking.left.items c.take_own.new.left.items c.in-Some.applied c.command_record.result c.taking.invariant c.in-Some.ensures c.command_record.ensures.rec c.command_record.ensures.fits)

pub taking-smaller : goal.taking-smaller
taking-smaller c = fewer_left c.args.certname.now c.taking.left.items c.take_own.new.left.items c.in-Some.applied c.in-Some.ensures
