use Rattle.std.proofs.Common.{◌≡◌, ◌∙◌, ◌<◌, [], ◌∷◌, length, refl, ap, arith}
use Rattle.entry_tree.specs.Waits.{MayChange, changed_by}
use Rattle.entry_tree.proofs.MiddleLaws.{changes_keep, left_leaves, right_leaves, middle_leaves, may_left, may_right, may_here}
use Rattle.entry_tree.proofs.edits.+changed.Goals as goal

pub changed-left-requires : goal.changed-left-requires
changed-left-requires t c =
    let shorter : length c.take_left-fork.result.1 < length c.args.tree = grind (arith, c.take_left-fork.ensures.left, c.in-Some.ensures.shorter.0) in
    (omega (arith, shorter, c.decreases), may_left c.args.receipt (MayChange c.args.change) c.args.tree c.in-Some.fork.value c.take_left-fork.result.1 c.in-Some.ensures.fork.0 c.in-Some.ensures.fork.1 (grind (arith, c.if-receipt-here.true)) c.take_left-fork.ensures.left c.requires)

pub with_left-requires-clause-rises : goal.with_left-requires-clause-rises
with_left-requires-clause-rises t c = (left_leaves c.args.receipt (λ w. changed_by c.args.change w ∷ []) c.args.tree c.in-Some.fork.value c.take_left-fork.result.1 c.take_left-fork.result.0.value.waiting c.take_left-fork.result.0.value.right c.changed-left.result (changes_keep c.args.change) c.in-Some.ensures.fork.0 c.in-Some.ensures.fork.1 (grind (arith, c.if-receipt-here.true)) c.take_left-fork.ensures.left c.take_left-fork.ensures.waiting c.take_left-fork.ensures.right c.changed-left.ensures).rises

pub with_left-requires-clause-few : goal.with_left-requires-clause-few
with_left-requires-clause-few t c = (left_leaves c.args.receipt (λ w. changed_by c.args.change w ∷ []) c.args.tree c.in-Some.fork.value c.take_left-fork.result.1 c.take_left-fork.result.0.value.waiting c.take_left-fork.result.0.value.right c.changed-left.result (changes_keep c.args.change) c.in-Some.ensures.fork.0 c.in-Some.ensures.fork.1 (grind (arith, c.if-receipt-here.true)) c.take_left-fork.ensures.left c.take_left-fork.ensures.waiting c.take_left-fork.ensures.right c.changed-left.ensures).few

pub returns-then-receipt-here : goal.returns-then-receipt-here
returns-then-receipt-here t c = c.with_left.ensures ∙ (left_leaves c.args.receipt (λ w. changed_by c.args.change w ∷ []) c.args.tree c.in-Some.fork.value c.take_left-fork.result.1 c.take_left-fork.result.0.value.waiting c.take_left-fork.result.0.value.right c.changed-left.result (changes_keep c.args.change) c.in-Some.ensures.fork.0 c.in-Some.ensures.fork.1 (grind (arith, c.if-receipt-here.true)) c.take_left-fork.ensures.left c.take_left-fork.ensures.waiting c.take_left-fork.ensures.right c.changed-left.ensures).is

pub changed-right-requires : goal.changed-right-requires
changed-right-requires t c =
    let shorter : length c.take_right-fork.result.1 < length c.args.tree = grind (arith, c.take_right-fork.ensures.right, c.in-Some.ensures.shorter.1) in
    (omega (arith, shorter, c.decreases), may_right c.args.receipt (MayChange c.args.change) c.args.tree c.in-Some.fork.value c.take_right-fork.result.1 c.in-Some.ensures.fork.0 c.in-Some.ensures.fork.1 (grind (arith, c.if-here-receipt.true)) c.take_right-fork.ensures.right c.requires)

pub with_right-requires-clause-rises : goal.with_right-requires-clause-rises
with_right-requires-clause-rises t c = (right_leaves c.args.receipt (λ w. changed_by c.args.change w ∷ []) c.args.tree c.in-Some.fork.value c.take_right-fork.result.1 c.take_right-fork.result.0.value.waiting c.take_right-fork.result.0.value.left c.changed-right.result (changes_keep c.args.change) c.in-Some.ensures.fork.0 c.in-Some.ensures.fork.1 (grind (arith, c.if-here-receipt.true)) c.take_right-fork.ensures.right c.take_right-fork.ensures.waiting c.take_right-fork.ensures.left c.changed-right.ensures).rises

pub with_right-requires-clause-few : goal.with_right-requires-clause-few
with_right-requires-clause-few t c = (right_leaves c.args.receipt (λ w. changed_by c.args.change w ∷ []) c.args.tree c.in-Some.fork.value c.take_right-fork.result.1 c.take_right-fork.result.0.value.waiting c.take_right-fork.result.0.value.left c.changed-right.result (changes_keep c.args.change) c.in-Some.ensures.fork.0 c.in-Some.ensures.fork.1 (grind (arith, c.if-here-receipt.true)) c.take_right-fork.ensures.right c.take_right-fork.ensures.waiting c.take_right-fork.ensures.left c.changed-right.ensures).few

pub returns-then-here-receipt : goal.returns-then-here-receipt
returns-then-here-receipt t c = c.with_right.ensures ∙ (right_leaves c.args.receipt (λ w. changed_by c.args.change w ∷ []) c.args.tree c.in-Some.fork.value c.take_right-fork.result.1 c.take_right-fork.result.0.value.waiting c.take_right-fork.result.0.value.left c.changed-right.result (changes_keep c.args.change) c.in-Some.ensures.fork.0 c.in-Some.ensures.fork.1 (grind (arith, c.if-here-receipt.true)) c.take_right-fork.ensures.right c.take_right-fork.ensures.waiting c.take_right-fork.ensures.left c.changed-right.ensures).is

pub with_change-requires-clause-may : goal.with_change-requires-clause-may
with_change-requires-clause-may t c =
    let same : c.args.receipt ≡ c.in-Some.fork.value.waiting.entry.receipt = grind (arith, c.if-receipt-here.false, c.if-here-receipt.false) in
    may_here c.args.receipt (MayChange c.args.change) c.args.tree c.in-Some.fork.value c.in-Some.ensures.fork.0 c.in-Some.ensures.fork.1 same c.requires

pub with_change-requires-clause-rises : goal.with_change-requires-clause-rises
with_change-requires-clause-rises t c =
    let same : c.args.receipt ≡ c.in-Some.fork.value.waiting.entry.receipt = grind (arith, c.if-receipt-here.false, c.if-here-receipt.false) in
    (middle_leaves c.args.receipt (λ w. changed_by c.args.change w ∷ []) c.args.tree c.in-Some.fork.value _ (changes_keep c.args.change) c.in-Some.ensures.fork.0 c.in-Some.ensures.fork.1 same refl).rises

pub with_change-requires-clause-few : goal.with_change-requires-clause-few
with_change-requires-clause-few t c =
    let same : c.args.receipt ≡ c.in-Some.fork.value.waiting.entry.receipt = grind (arith, c.if-receipt-here.false, c.if-here-receipt.false) in
    (middle_leaves c.args.receipt (λ w. changed_by c.args.change w ∷ []) c.args.tree c.in-Some.fork.value _ (changes_keep c.args.change) c.in-Some.ensures.fork.0 c.in-Some.ensures.fork.1 same refl).few

pub returns : goal.returns
returns t c =
    let same : c.args.receipt ≡ c.in-Some.fork.value.waiting.entry.receipt = grind (arith, c.if-receipt-here.false, c.if-here-receipt.false) in
    c.with_change.ensures ∙ (middle_leaves c.args.receipt (λ w. changed_by c.args.change w ∷ []) c.args.tree c.in-Some.fork.value _ (changes_keep c.args.change) c.in-Some.ensures.fork.0 c.in-Some.ensures.fork.1 same refl).is
