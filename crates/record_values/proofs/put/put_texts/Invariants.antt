use Rattle.std.proofs.Common.{◌≡◌, ◌++◌, drop}
use Rattle.std.specs.List.{AllByRecursion, flat_map}
use Rattle.record_fields.specs.history_spec.Lawful.{IsText}
use Rattle.record_fields.specs.record_spec.Parts.{bytes_text, list_text}
use Rattle.record_values.proofs.put.put_texts.Given as goal

abbrev pub invariant-loop-text : goal.invariant-loop-text
invariant-loop-text l = record {
  so_far : l.out.items ++ flat_map bytes_text (drop l.text-index l.texts) ≡ l.fn.out.items ++ list_text bytes_text l.texts;
  are : AllByRecursion IsText (drop l.text-index l.texts);
}
