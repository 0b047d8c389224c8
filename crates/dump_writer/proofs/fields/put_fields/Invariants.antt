use Rattle.std.proofs.Common.{◌≡◌, ◌++◌, drop, map, false}
use Rattle.std.specs.List.{AllByRecursion}
use Rattle.dump_laws.specs.dump_spec.Payloads.{there}
use Rattle.dump_writer.specs.Shown.{CanBeShown, field, pairs_text}
use Rattle.dump_writer.proofs.fields.put_fields.Given as goal

abbrev pub invariant-loop-shown : goal.invariant-loop-shown
invariant-loop-shown l = record {
  can : AllByRecursion (λ c. CanBeShown c.1) (drop l.shown-index l.fields);
  text : l.out.items ++ pairs_text l.later (there (map field (drop l.shown-index l.fields))) ≡ l.fn.out.items ++ pairs_text false (there (map field l.fields));
}
