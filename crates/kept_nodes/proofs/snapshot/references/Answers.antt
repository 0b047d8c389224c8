use Rattle.std.proofs.Common.{◌≡◌, ◌<◌, length, refl, Some, arith}
use Rattle.std.specs.Prelude.{slice_get}
use Rattle.std.proofs.lemmas.Option.{slice_get_read}
use Rattle.row_cells.proofs.SortedLaws.{more_items}
use Rattle.kept_nodes.proofs.snapshot.references.Goals as goal

pub loop-at-preserved : goal.loop-at-preserved
loop-at-preserved c =
    let reports = c.args.reports.now in
    let at = c.loop-at.at in
    let within : at < length reports = omega arith in
    let here : slice_get reports at ≡ Some c.index-reports-at.result = slice_get_read reports (length reports) at c.index-reports-at.result refl within c.index-reports-at.is in
    more_items (λ r. r.now) reports at c.loop-at.referred.items _ _ c.in_ok-push.ensures.items here c.loop-at.invariant
