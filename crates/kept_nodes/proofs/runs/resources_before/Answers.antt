use Rattle.std.proofs.Common.{◌∙◌, ◌+◌, ◌-◌, ◌/◌, ◌≤◌, sym, subst, arith}
use Rattle.kept_nodes.specs.Runs.{is_before, number, resource_rank}
use Rattle.checkpoint_spec.specs.table_spec.Sorted.{resource_cmp, sorted_by}
use Rattle.kept_nodes.specs.Wanted.{text_in}
use Rattle.kept_nodes.proofs.OrderedRuns.{resources_most, resource_high, resource_low}
use Rattle.kept_nodes.proofs.RowPlaces.{place_inside}
use Rattle.kept_nodes.proofs.runs.resources_before.Goals as goal

pub halves-init : goal.halves-init
halves-init c = record {
  low = omega arith;
  high = subst (λ n. number (λ resource. is_before c.args.past (resource_rank c.args.rtype.now (text_in c.args.title) resource)) c.args.resources.now ≤ n) (sym c.len-high.ensures)
      (resources_most c.args.resources.now c.args.order.now c.args.rtype.now (text_in c.args.title) c.args.past c.requires);
  within = omega arith;
}

pub at-place-requires : goal.at-place-requires
at-place-requires c = omega arith

pub bounds-resources-place : goal.bounds-resources-place
bounds-resources-place c =
    let resources = c.args.resources.now in
    let middle = c.halves.low + (c.halves.high - c.halves.low) / 2 in
    place_inside resources c.args.order.now (sorted_by resource_cmp resources) c.requires middle c.at-place.result c.at-place.ensures

pub offset_bounds-resources-place : goal.offset_bounds-resources-place
offset_bounds-resources-place c =
    let resources = c.args.resources.now in
    let order = c.args.order.now in
    let middle = c.halves.low + (c.halves.high - c.halves.low) / 2 in
    let inside = place_inside resources order (sorted_by resource_cmp resources) c.requires middle c.at-place.result c.at-place.ensures in
    omega (arith, inside)

pub halves-preserved-then-stands_before : goal.halves-preserved-then-stands_before
halves-preserved-then-stands_before c =
    let resources = c.args.resources.now in
    let order = c.args.order.now in
    let middle = c.halves.low + (c.halves.high - c.halves.low) / 2 in
    let inside = place_inside resources order (sorted_by resource_cmp resources) c.requires middle c.at-place.result c.at-place.ensures in
    record {
      low = resource_low resources order c.args.rtype.now (text_in c.args.title) c.args.past c.requires middle c.at-place.result c.index-resources-place.result c.resource_rank.result c.at-place.ensures inside c.index-resources-place.is c.resource_rank.ensures (sym c.stands_before.ensures ∙ c.if-stands_before.true);
      high = c.halves.invariant.high;
      within = c.halves.invariant.within;
    }

pub halves-preserved : goal.halves-preserved
halves-preserved c =
    let resources = c.args.resources.now in
    let order = c.args.order.now in
    let middle = c.halves.low + (c.halves.high - c.halves.low) / 2 in
    let inside = place_inside resources order (sorted_by resource_cmp resources) c.requires middle c.at-place.result c.at-place.ensures in
    record {
      low = c.halves.invariant.low;
      high = resource_high resources order c.args.rtype.now (text_in c.args.title) c.args.past c.requires middle c.at-place.result c.index-resources-place.result c.resource_rank.result c.at-place.ensures inside c.index-resources-place.is c.resource_rank.ensures (sym c.stands_before.ensures ∙ c.if-stands_before.false);
      within = omega arith;
    }
