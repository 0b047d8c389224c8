use Rattle.std.proofs.Common.{◌≡◌, ◌∙◌, length, Some, slice_get, true, refl, sym, ap, subst, arith}
use Rattle.std.specs.Ordering.{int_cmp, is_gt}
use Rattle.std.proofs.lemmas.Option.{slice_get_read}
use Rattle.checkpoint_spec.specs.history_spec.Report.{is_below}
use Rattle.kept_nodes.specs.Seen.{report_seen}
use Rattle.kept_nodes.specs.declared.kept.Report.{Report}
use Rattle.kept_nodes.proofs.LeastReports.{IsLeast, first_is_least, least_is, least_stays, least_moves, later_are_above, least_found}
use Rattle.kept_nodes.proofs.reports.place_of_least.Goals as goal
use Rattle.kept_nodes.proofs.reports.place_of_least.Goals.{then-is_below, else-is_below}

pub reports-init : goal.reports-init
reports-init c = (c.requires.some, first_is_least c.args.reports.now c.requires.some)

-- the next is later, and so is what stands behind it
pub returns-then-is_later-clause-least : goal.returns-then-is_later-clause-least
returns-then-is_later-clause-least c =
    let reports = c.args.reports.now in
    let next = c.index-reports-at.result in
    let x = c.reports.invariant.1.0 in
    let here : slice_get reports c.reports.at ≡ Some next = slice_get_read reports (length reports) c.reports.at next refl c.reports-test.true c.index-reports-at.is in
    let least : x ≡ c.index-reports-least.result = least_is reports c.reports.at c.reports.least x c.index-reports-least.result c.reports.invariant.1.1 c.reports.invariant.0 c.index-reports-least.is in
    let later : is_gt (int_cmp next.change.stamp x.change.stamp) ≡ true = ap (λ (r : Report). is_gt (int_cmp next.change.stamp r.change.stamp)) least ∙ sym c.is_later.ensures ∙ c.if-is_later.true in
    least_found reports c.reports.least x (later_are_above reports c.reports.at c.reports.least x next c.requires.in_order c.reports.invariant.1.1 here later (length reports))

pub reports-preserved : goal.reports-preserved
reports-preserved c =
    let reports = c.args.reports.now in
    let at = c.reports.at in
    let next = c.index-reports-at-in-reports.result in
    let x = c.reports.invariant.1.0 in
    let here : slice_get reports at ≡ Some next = slice_get_read reports (length reports) at next refl c.reports-test.true c.index-reports-at-in-reports.is in
    let least : x ≡ c.index-reports-least-in-reports.result = least_is reports at c.reports.least x c.index-reports-least-in-reports.result c.reports.invariant.1.1 c.reports.invariant.0 c.index-reports-least-in-reports.is in
    let test : is_below (report_seen next) (report_seen x) ≡ c.is_below.result = ap (λ (r : Report). is_below (report_seen next) (report_seen r)) least ∙ sym c.is_below.ensures in
    elim c.if-is_below.branch [
      | then-is_below w ↦ rw w.least-is (c.reports-test.true, (next, least_moves reports at c.reports.least x next c.reports.invariant.1.1 here (test ∙ w.if-is_below.true)))
      | else-is_below w ↦ rw w.least-is (c.reports.invariant.0, (x, least_stays reports at c.reports.least x next c.reports.invariant.1.1 here (test ∙ w.if-is_below.false)))
    ]

pub returns-clause-least : goal.returns-clause-least
returns-clause-least c =
    let reports = c.args.reports.now in
    let x = c.reports.invariant.1.0 in
    let all : c.reports.at ≡ length reports = omega arith in
    least_found reports c.reports.least x (subst (λ n. IsLeast reports n c.reports.least x) all c.reports.invariant.1.1)
