use Rattle.std.specs.Ordering.{is_lt}
use Rattle.std.specs.List.Sorted.{IsSortedWithin}
use Rattle.text_spec.specs.Compact.{text_cmp}
use Rattle.json_tree.proofs.canonical_text.are_in_order.Given as goal

abbrev pub invariant-loop-at : goal.invariant-loop-at
invariant-loop-at l = IsSortedWithin (λ x y. is_lt (text_cmp x.now.0 y.now.0)) l.part 0 l.at
