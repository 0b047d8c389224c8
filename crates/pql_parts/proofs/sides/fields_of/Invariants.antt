use Rattle.std.proofs.Common.{◌≡◌, ◌++◌, map}
use Rattle.std.specs.Vec.Iter.{into_iter_items}
use Rattle.query_spec.specs.Parts.{field_named}
use Rattle.pql_parts.proofs.sides.fields_of.Given as goal

abbrev pub invariant-names : goal.invariant-names
invariant-names l = record {
  can : (goal.iterator-names).can_next l.name-iterator;
  ends : (goal.iterator-names).is_finite l.name-iterator;
  rest : l.fields ++ map field_named (into_iter_items l.name-iterator) ≡ map field_named l.fn.names.items;
}
