use Rattle.std.proofs.Common.{◌≡◌, ◌∙◌, ◌+◌, ◌-◌, ◌/◌, ◌<◌, length, ap, sym, arith}
use Rattle.std.specs.declared.cmp.Ordering.TheVariants.{Less, Equal, Greater}
use Rattle.kept_nodes.specs.ReportPlaces.{change_cmp}
use Rattle.kept_nodes.specs.declared.kept.Report.{Report}
use Rattle.kept_nodes.proofs.ReportLaws.{all_below, all_above, place_there, place_between}
use Rattle.kept_nodes.proofs.reports.place_of.Goals as goal

pub halves-preserved-in-Less : goal.halves-preserved-in-Less
halves-preserved-in-Less c =
    let r = c.index-reports-middle.result in
    let middle = c.halves.low + (c.halves.high - c.halves.low) / 2 in
    let within : middle < length c.args.reports.now = omega (arith, c.halves-test.true, c.halves.invariant.within) in
    let compared : change_cmp r.change c.args.change.now ≡ Less = ap (λ (q : Report). change_cmp q.change c.args.change.now) (sym c.report.ensures) ∙ sym c.in_ok-order.ensures ∙ c.in-Less.is in
    record {
      ordered = omega arith;
      within = c.halves.invariant.within;
      below = all_below c.args.reports.now c.args.change.now c.requires.in_order middle r within c.index-reports-middle.is compared;
      above = c.halves.invariant.above;
    }

pub returns-in-Equal : goal.returns-in-Equal
returns-in-Equal c =
    let r = c.index-reports-middle.result in
    let middle = c.halves.low + (c.halves.high - c.halves.low) / 2 in
    let within : middle < length c.args.reports.now = omega (arith, c.halves-test.true, c.halves.invariant.within) in
    let compared : change_cmp r.change c.args.change.now ≡ Equal = ap (λ (q : Report). change_cmp q.change c.args.change.now) (sym c.report.ensures) ∙ sym c.in_ok-order.ensures ∙ c.in-Equal.is in
    place_there c.args.reports.now c.args.change.now c.requires.in_order middle r within c.index-reports-middle.is compared

pub halves-preserved : goal.halves-preserved
halves-preserved c =
    let r = c.index-reports-middle.result in
    let middle = c.halves.low + (c.halves.high - c.halves.low) / 2 in
    let within : middle < length c.args.reports.now = omega (arith, c.halves-test.true, c.halves.invariant.within) in
    let compared : change_cmp r.change c.args.change.now ≡ Greater = ap (λ (q : Report). change_cmp q.change c.args.change.now) (sym c.report.ensures) ∙ sym c.in_ok-order.ensures ∙ c.in-Greater.is in
    record {
      ordered = omega arith;
      within = omega (arith, within);
      below = c.halves.invariant.below;
      above = all_above c.args.reports.now c.args.change.now c.requires.in_order middle r within c.index-reports-middle.is compared;
    }

pub returns : goal.returns
returns c =
    place_between c.args.reports.now c.args.change.now c.requires.in_order c.halves.low (omega (arith, c.halves.invariant.ordered, c.halves.invariant.within)) c.halves.invariant.below
    (λ k d low high. c.halves.invariant.above k d (omega (arith, low, c.halves-test.false)) high)
