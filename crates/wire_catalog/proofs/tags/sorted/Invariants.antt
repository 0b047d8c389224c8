use Rattle.std.proofs.Common.{◌≡◌, ◌++◌, vec_len}
use Rattle.wire_fields.specs.fleet_rows.Texts.{sorted_texts}
use Rattle.wire_catalog.proofs.FallLaws.{Fall}
use Rattle.wire_catalog.proofs.tags.sorted.Given as goal

abbrev pub invariant-taking : goal.invariant-taking
invariant-taking l = record {
  falls : Fall l.texts.items;
  rest : l.names ++ sorted_texts l.texts.items ≡ sorted_texts l.fn.texts.items;
}

abbrev pub decreases-taking : goal.decreases-taking
decreases-taking l = vec_len l.texts
