use Rattle.std.proofs.Common.{◌≡◌, ◌++◌, drop}
use Rattle.query_reach.specs.Reach.{fields_facts}
use Rattle.query_reach.specs.Seen.{texts_seen}
use Rattle.query_reach.proofs.facts.push_fields.Given as goal

abbrev pub invariant-walking : goal.invariant-walking
invariant-walking l =
    texts_seen l.names.items ++ fields_facts (drop l.field-index l.fields) ≡ texts_seen l.initial.names.items ++ fields_facts l.fields
