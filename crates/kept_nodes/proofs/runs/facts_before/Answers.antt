use Rattle.std.proofs.Common.{◌∙◌, ◌+◌, ◌-◌, ◌/◌, ◌≤◌, sym, subst, arith}
use Rattle.kept_nodes.specs.Runs.{is_before, name_rank, number}
use Rattle.kept_nodes.proofs.OrderedRuns.{facts_most, fact_high, fact_low}
use Rattle.kept_nodes.proofs.RowPlaces.{fact_inside}
use Rattle.kept_nodes.proofs.runs.facts_before.Goals as goal

pub at-place-requires : goal.at-place-requires
at-place-requires c = omega arith

pub fact_rank-requires : goal.fact_rank-requires
fact_rank-requires c =
    let middle = c.halves.low + (c.halves.high - c.halves.low) / 2 in
    fact_inside c.args.change.now c.args.order.now middle c.at-place.result c.requires c.at-place.ensures

pub halves-init : goal.halves-init
halves-init c = record {
  low = omega arith;
  high = subst (λ n. number (λ fact. is_before c.args.past (name_rank c.args.name.now fact)) c.args.change.now.values ≤ n) (sym c.len-high.ensures)
      (facts_most c.args.change.now c.args.order.now c.args.name.now c.args.past c.requires);
  within = omega arith;
}

pub halves-preserved-then-stands_before : goal.halves-preserved-then-stands_before
halves-preserved-then-stands_before c =
    let middle = c.halves.low + (c.halves.high - c.halves.low) / 2 in
    record {
      low = fact_low c.args.change.now c.args.order.now c.args.name.now c.args.past c.requires middle c.at-place.result c.fact_rank.result c.at-place.ensures c.fact_rank.ensures (sym c.stands_before.ensures ∙ c.if-stands_before.true);
      high = c.halves.invariant.high;
      within = c.halves.invariant.within;
    }

pub halves-preserved : goal.halves-preserved
halves-preserved c =
    let middle = c.halves.low + (c.halves.high - c.halves.low) / 2 in
    record {
      low = c.halves.invariant.low;
      high = fact_high c.args.change.now c.args.order.now c.args.name.now c.args.past c.requires middle c.at-place.result c.fact_rank.result c.at-place.ensures c.fact_rank.ensures (sym c.stands_before.ensures ∙ c.if-stands_before.false);
      within = omega arith;
    }
