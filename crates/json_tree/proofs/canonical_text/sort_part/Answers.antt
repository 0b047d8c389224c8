use Rattle.std.specs.Ordering.{is_lt}
use Rattle.std.proofs.Common.{rules}
use Rattle.std.proofs.lemmas.Cmp.{nat_list_cmp_total}
use Rattle.std.proofs.lemmas.List.Sorted.{ranks_by, answers_always}
use Rattle.text_spec.specs.Compact.{text_cmp}
use Rattle.json_tree.proofs.canonical_text.sort_part.Goals as goal

pub returns-then-not-are_in_order-clause-sorted : goal.returns-then-not-are_in_order-clause-sorted
returns-then-not-are_in_order-clause-sorted c = c.sort_unstable_by.ensures.sorted (λ x y. is_lt (text_cmp x.now.0 y.now.0)) (ranks_by nat_list_cmp_total (λ x. x.now.0)) (answers_always _ _ _ (λ f a r g h. search rules))
