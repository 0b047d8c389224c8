use Rattle.std.proofs.Common.{◌≡◌, ◌++◌, ◌∷◌, drop, map, false}
use Rattle.dump_laws.specs.dump_spec.text_spec.Json.{string, items_of}
use Rattle.dump_laws.specs.dump_spec.text_spec.Compact.{compact_items}
use Rattle.dump_writer.proofs.shown.put_tags.Given as goal

abbrev pub invariant-loop-tag : goal.invariant-loop-tag
invariant-loop-tag l = l.out.items ++ compact_items l.later (items_of (map string (drop l.tag-index l.tags))) ≡ l.fn.out.items ++ 91 ∷ compact_items false (items_of (map string l.tags))
