use Rattle.std.proofs.Common.{◌∙◌, ◌<◌, length, ap, arith}
use Rattle.std.specs.Box.{with_value}
use Rattle.std.proofs.lemmas.List.{length-set}
use Rattle.kept_nodes.specs.Counted.{counts}
use Rattle.kept_nodes.specs.declared.node.Node.{Node}
use Rattle.kept_nodes.proofs.Counting.{numbers_kept}
use Rattle.kept_nodes.proofs.FoundNodes.{box_kept}
use Rattle.kept_nodes.proofs.PutNodes.{seen_kept, kept_changed}
use Rattle.kept_nodes.proofs.preparing.prepare_nodes.Goals as goal

pub prepare-requires : goal.prepare-requires
prepare-requires c =
    let boxes = c.preparing.nodes.items in
    let within : c.preparing.at < length boxes = omega (arith, c.preparing-test.true, c.len-at-end.ensures, c.preparing.invariant.long) in
    record { kept = box_kept boxes c.preparing.at c.index_mut.result.now c.deref_mut.result.now c.preparing.invariant.kept within c.index_mut.ensures.value c.deref_mut.ensures.value }

pub returns-in_err-prepare-clause-seen : goal.returns-in_err-prepare-clause-seen
returns-in_err-prepare-clause-seen c =
    let boxes = c.preparing.nodes.items in
    let within : c.preparing.at < length boxes = omega (arith, c.preparing-test.true, c.len-at-end.ensures, c.preparing.invariant.long) in
    seen_kept boxes c.preparing.at c.index_mut.result.now c.deref_mut.result.now c.prepare.new.self within c.index_mut.ensures.value c.deref_mut.ensures.value c.prepare.ensures.seen
    ∙ c.preparing.invariant.seen

pub returns-in_err-prepare-clause-kept : goal.returns-in_err-prepare-clause-kept
returns-in_err-prepare-clause-kept c =
    kept_changed c.preparing.nodes.items c.preparing.at c.index_mut.result.now c.prepare.new.self c.preparing.invariant.kept c.prepare.ensures.kept

pub returns-in_err-prepare-clause-numbers : goal.returns-in_err-prepare-clause-numbers
returns-in_err-prepare-clause-numbers c =
    let boxes = c.preparing.nodes.items in
    let within : c.preparing.at < length boxes = omega (arith, c.preparing-test.true, c.len-at-end.ensures, c.preparing.invariant.long) in
    numbers_kept boxes c.preparing.at c.index_mut.result.now c.prepare.new.self c.index_mut.ensures.value within
    (c.prepare.ensures.before ∙ ap (λ (n : Node). n.before) c.deref_mut.ensures.value)
    (c.prepare.ensures.counts ∙ ap counts c.deref_mut.ensures.value)
    ∙ c.preparing.invariant.numbers

pub preparing-preserved : goal.preparing-preserved
preparing-preserved c =
    let boxes = c.preparing.nodes.items in
    let at = c.preparing.at in
    let b = c.index_mut.result.now in
    let new = c.prepare.new.self in
    let within : at < length boxes = omega (arith, c.preparing-test.true, c.len-at-end.ensures, c.preparing.invariant.long) in
    record {
      long = length-set boxes at (with_value b new) ∙ c.preparing.invariant.long;
      seen = seen_kept boxes at b c.deref_mut.result.now new within c.index_mut.ensures.value c.deref_mut.ensures.value c.prepare.ensures.seen ∙ c.preparing.invariant.seen;
      kept = kept_changed boxes at b new c.preparing.invariant.kept c.prepare.ensures.kept;
      numbers = numbers_kept boxes at b new c.index_mut.ensures.value within
          (c.prepare.ensures.before ∙ ap (λ (n : Node). n.before) c.deref_mut.ensures.value)
          (c.prepare.ensures.counts ∙ ap counts c.deref_mut.ensures.value)
          ∙ c.preparing.invariant.numbers;
    }
