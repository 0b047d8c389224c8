use Rattle.std.proofs.Common.{◌∙◌, refl, ap}
use Rattle.kept_nodes.specs.Counted.{counts}
use Rattle.kept_nodes.specs.Places.{seen_in}
use Rattle.kept_nodes.specs.declared.node.Node.{Node}
use Rattle.kept_nodes.proofs.Counting.{numbers_kept}
use Rattle.kept_nodes.proofs.FoundNodes.{box_kept, place_within}
use Rattle.kept_nodes.proofs.PutNodes.{seen_kept, kept_changed}
use Rattle.kept_nodes.proofs.preparing.prepare_node.Goals as goal

pub prepare-requires : goal.prepare-requires
prepare-requires c =
    let boxes = c.args.nodes.now.items in
    let name = c.args.certname.now in
    let within = place_within boxes c.requires.order (seen_in boxes) refl c.as_slice.result.now c.as_slice.ensures.value name name refl c.in-Ok.at c.in-Ok.ensures in
    record { kept = box_kept boxes c.in-Ok.at c.index_mut.result.now c.deref_mut.result.now c.requires.kept within c.index_mut.ensures.value c.deref_mut.ensures.value }

pub returns-in-Ok-clause-seen : goal.returns-in-Ok-clause-seen
returns-in-Ok-clause-seen c =
    let boxes = c.args.nodes.now.items in
    let name = c.args.certname.now in
    let within = place_within boxes c.requires.order (seen_in boxes) refl c.as_slice.result.now c.as_slice.ensures.value name name refl c.in-Ok.at c.in-Ok.ensures in
    seen_kept boxes c.in-Ok.at c.index_mut.result.now c.deref_mut.result.now c.prepare.new.self within c.index_mut.ensures.value c.deref_mut.ensures.value c.prepare.ensures.seen

pub returns-in-Ok-clause-kept : goal.returns-in-Ok-clause-kept
returns-in-Ok-clause-kept c =
    kept_changed c.args.nodes.now.items c.in-Ok.at c.index_mut.result.now c.prepare.new.self c.requires.kept c.prepare.ensures.kept

pub returns-in-Ok-clause-numbers : goal.returns-in-Ok-clause-numbers
returns-in-Ok-clause-numbers c =
    let boxes = c.args.nodes.now.items in
    let name = c.args.certname.now in
    let within = place_within boxes c.requires.order (seen_in boxes) refl c.as_slice.result.now c.as_slice.ensures.value name name refl c.in-Ok.at c.in-Ok.ensures in
    numbers_kept boxes c.in-Ok.at c.index_mut.result.now c.prepare.new.self c.index_mut.ensures.value within
    (c.prepare.ensures.before ∙ ap (λ (n : Node). n.before) c.deref_mut.ensures.value)
    (c.prepare.ensures.counts ∙ ap counts c.deref_mut.ensures.value)
