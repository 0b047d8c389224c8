-- These stand in `wire_laws`.
pub use Rattle.spool_spec.proofs.of_text_spec.TextOrder.{text_tied}
pub use Rattle.wire_laws.proofs.SortedTexts.{text_cmp_total, apart_texts, turned_less, sorted_texts_are_sorted, Among-sorted_texts, Among-from_sorted_texts, sorted_texts_by_members}
