use Rattle.std.proofs.Common.{◌≡◌, ◌+◌, ◌<◌, ◌-◌, ◌/◌, length, arith}
use Rattle.std.specs.declared.cmp.Ordering.TheVariants.{Less, Equal, Greater}
use Rattle.std.proofs.lemmas.List.{length-map}
use Rattle.checkpoint_spec.specs.text_spec.Compact.{text_cmp}
use Rattle.kept_nodes.proofs.NodePlaces.{box_below, box_above, box_equal}
use Rattle.kept_nodes.proofs.places.place_of.Goals as goal

pub halves-preserved-in-Less : goal.halves-preserved-in-Less
halves-preserved-in-Less c =
    let b = c.index-nodes-middle.result in
    let compared : text_cmp b.value.certname c.args.certname.now ≡ Less = cc in
    record {
      ordered = omega arith;
      within = c.halves.invariant.within;
      below = box_below c.args.certname.now c.args.nodes.now (c.halves.low + (c.halves.high - c.halves.low) / 2) b c.requires (omega arith) c.index-nodes-middle.is compared;
      above = c.halves.invariant.above;
    }

pub returns-in-Equal : goal.returns-in-Equal
returns-in-Equal c =
    let b = c.index-nodes-middle.result in
    let middle = c.halves.low + (c.halves.high - c.halves.low) / 2 in
    let compared : text_cmp b.value.certname c.args.certname.now ≡ Equal = cc in
    let within : middle < length c.args.nodes.now = omega arith in
    (omega (arith, length-map c.args.nodes.now (λ x. x.value)), box_equal c.args.certname.now c.args.nodes.now middle b c.requires within c.index-nodes-middle.is compared)

pub halves-preserved : goal.halves-preserved
halves-preserved c =
    let b = c.index-nodes-middle.result in
    let middle = c.halves.low + (c.halves.high - c.halves.low) / 2 in
    let compared : text_cmp b.value.certname c.args.certname.now ≡ Greater = cc in
    record {
      ordered = omega arith;
      within = omega arith;
      below = c.halves.invariant.below;
      above = box_above c.args.certname.now c.args.nodes.now middle b c.requires (omega arith) c.index-nodes-middle.is compared;
    }
