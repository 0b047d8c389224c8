use Rattle.std.proofs.Common.{◌≡◌, ◌∙◌, ◌<◌, [], ◌++◌, length, refl, ap, sym, subst, arith, Some}
use Rattle.entry_tree.specs.Waits.{found}
use Rattle.entry_tree.proofs.MiddleLaws.{removal_keeps, left_leaves, right_leaves, middle_leaves, get_left, get_right, get_here}
use Rattle.entry_tree.proofs.edits.+without.Goals as goal

pub without-left-requires : goal.without-left-requires
without-left-requires t c =
    let shorter : length c.take_left-fork.result.1 < length c.args.tree = grind (arith, c.take_left-fork.ensures.left, c.in-Some.ensures.shorter.0) in
    omega (arith, shorter, c.decreases)

pub with_left-requires-clause-rises : goal.with_left-requires-clause-rises
with_left-requires-clause-rises t c = (left_leaves c.args.receipt (λ w. []) c.args.tree c.in-Some.fork.value c.take_left-fork.result.1 c.take_left-fork.result.0.value.waiting c.take_left-fork.result.0.value.right c.without-left.result.0 removal_keeps c.in-Some.ensures.fork.0 c.in-Some.ensures.fork.1 (grind (arith, c.if-receipt-here.true)) c.take_left-fork.ensures.left c.take_left-fork.ensures.waiting c.take_left-fork.ensures.right c.without-left.ensures.left).rises

pub with_left-requires-clause-few : goal.with_left-requires-clause-few
with_left-requires-clause-few t c = (left_leaves c.args.receipt (λ w. []) c.args.tree c.in-Some.fork.value c.take_left-fork.result.1 c.take_left-fork.result.0.value.waiting c.take_left-fork.result.0.value.right c.without-left.result.0 removal_keeps c.in-Some.ensures.fork.0 c.in-Some.ensures.fork.1 (grind (arith, c.if-receipt-here.true)) c.take_left-fork.ensures.left c.take_left-fork.ensures.waiting c.take_left-fork.ensures.right c.without-left.ensures.left).few

pub returns-then-receipt-here-clause-left : goal.returns-then-receipt-here-clause-left
returns-then-receipt-here-clause-left t c = c.with_left.ensures ∙ (left_leaves c.args.receipt (λ w. []) c.args.tree c.in-Some.fork.value c.take_left-fork.result.1 c.take_left-fork.result.0.value.waiting c.take_left-fork.result.0.value.right c.without-left.result.0 removal_keeps c.in-Some.ensures.fork.0 c.in-Some.ensures.fork.1 (grind (arith, c.if-receipt-here.true)) c.take_left-fork.ensures.left c.take_left-fork.ensures.waiting c.take_left-fork.ensures.right c.without-left.ensures.left).is

pub returns-then-receipt-here-clause-taken : goal.returns-then-receipt-here-clause-taken
returns-then-receipt-here-clause-taken t c = get_left c.args.receipt c.args.tree c.in-Some.fork.value.left c.in-Some.fork.value.waiting c.in-Some.fork.value.right c.without-left.result.1 c.in-Some.ensures.fork.0 c.in-Some.ensures.fork.1.rises (grind (arith, c.if-receipt-here.true)) (c.without-left.ensures.taken ∙ ap (found c.args.receipt) c.take_left-fork.ensures.left)

pub without-right-requires : goal.without-right-requires
without-right-requires t c =
    let shorter : length c.take_right-fork.result.1 < length c.args.tree = grind (arith, c.take_right-fork.ensures.right, c.in-Some.ensures.shorter.1) in
    omega (arith, shorter, c.decreases)

pub with_right-requires-clause-rises : goal.with_right-requires-clause-rises
with_right-requires-clause-rises t c = (right_leaves c.args.receipt (λ w. []) c.args.tree c.in-Some.fork.value c.take_right-fork.result.1 c.take_right-fork.result.0.value.waiting c.take_right-fork.result.0.value.left c.without-right.result.0 removal_keeps c.in-Some.ensures.fork.0 c.in-Some.ensures.fork.1 (grind (arith, c.if-here-receipt.true)) c.take_right-fork.ensures.right c.take_right-fork.ensures.waiting c.take_right-fork.ensures.left c.without-right.ensures.left).rises

pub with_right-requires-clause-few : goal.with_right-requires-clause-few
with_right-requires-clause-few t c = (right_leaves c.args.receipt (λ w. []) c.args.tree c.in-Some.fork.value c.take_right-fork.result.1 c.take_right-fork.result.0.value.waiting c.take_right-fork.result.0.value.left c.without-right.result.0 removal_keeps c.in-Some.ensures.fork.0 c.in-Some.ensures.fork.1 (grind (arith, c.if-here-receipt.true)) c.take_right-fork.ensures.right c.take_right-fork.ensures.waiting c.take_right-fork.ensures.left c.without-right.ensures.left).few

pub returns-then-here-receipt-clause-left : goal.returns-then-here-receipt-clause-left
returns-then-here-receipt-clause-left t c = c.with_right.ensures ∙ (right_leaves c.args.receipt (λ w. []) c.args.tree c.in-Some.fork.value c.take_right-fork.result.1 c.take_right-fork.result.0.value.waiting c.take_right-fork.result.0.value.left c.without-right.result.0 removal_keeps c.in-Some.ensures.fork.0 c.in-Some.ensures.fork.1 (grind (arith, c.if-here-receipt.true)) c.take_right-fork.ensures.right c.take_right-fork.ensures.waiting c.take_right-fork.ensures.left c.without-right.ensures.left).is

pub returns-then-here-receipt-clause-taken : goal.returns-then-here-receipt-clause-taken
returns-then-here-receipt-clause-taken t c = get_right c.args.receipt c.args.tree c.in-Some.fork.value.left c.in-Some.fork.value.waiting c.in-Some.fork.value.right c.without-right.result.1 c.in-Some.ensures.fork.0 c.in-Some.ensures.fork.1.rises (grind (arith, c.if-here-receipt.true)) (c.without-right.ensures.taken ∙ ap (found c.args.receipt) c.take_right-fork.ensures.right)

pub joined-requires-clause-rises : goal.joined-requires-clause-rises
joined-requires-clause-rises t c =
    let same : c.args.receipt ≡ c.in-Some.fork.value.waiting.entry.receipt = grind (arith, c.if-receipt-here.false, c.if-here-receipt.false) in
    (middle_leaves c.args.receipt (λ w. []) c.args.tree c.in-Some.fork.value (c.parts-left.result.0 ++ c.parts-left.result.2) removal_keeps c.in-Some.ensures.fork.0 c.in-Some.ensures.fork.1 same (λ i. c.parts-left.ensures.left i ++ c.parts-left.ensures.right i)).rises

pub joined-requires-clause-few : goal.joined-requires-clause-few
joined-requires-clause-few t c =
    let same : c.args.receipt ≡ c.in-Some.fork.value.waiting.entry.receipt = grind (arith, c.if-receipt-here.false, c.if-here-receipt.false) in
    (middle_leaves c.args.receipt (λ w. []) c.args.tree c.in-Some.fork.value (c.parts-left.result.0 ++ c.parts-left.result.2) removal_keeps c.in-Some.ensures.fork.0 c.in-Some.ensures.fork.1 same (λ i. c.parts-left.ensures.left i ++ c.parts-left.ensures.right i)).few

pub returns-clause-left : goal.returns-clause-left
returns-clause-left t c =
    let same : c.args.receipt ≡ c.in-Some.fork.value.waiting.entry.receipt = grind (arith, c.if-receipt-here.false, c.if-here-receipt.false) in
    c.joined.ensures ∙ (middle_leaves c.args.receipt (λ w. []) c.args.tree c.in-Some.fork.value (c.parts-left.result.0 ++ c.parts-left.result.2) removal_keeps c.in-Some.ensures.fork.0 c.in-Some.ensures.fork.1 same (λ i. c.parts-left.ensures.left i ++ c.parts-left.ensures.right i)).is

pub returns-clause-taken : goal.returns-clause-taken
returns-clause-taken t c =
    let same : c.args.receipt ≡ c.in-Some.fork.value.waiting.entry.receipt = grind (arith, c.if-receipt-here.false, c.if-here-receipt.false) in
    ap Some c.parts-left.ensures.waiting ∙ get_here c.args.receipt c.args.tree c.in-Some.fork.value.left c.in-Some.fork.value.waiting c.in-Some.fork.value.right c.in-Some.ensures.fork.0 c.in-Some.ensures.fork.1.rises same
