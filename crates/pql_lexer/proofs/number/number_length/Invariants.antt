use Rattle.std.proofs.Common.{◌≡◌, ◌≤◌, drop, None}
use Rattle.std.specs.Option.{IfSome}
use Rattle.pql_spec.specs.json_tree.declared.number.NumberState.TheVariants.{Start}
use Rattle.pql_lexer.specs.Fronts.{number_length}
use Rattle.pql_lexer.proofs.number.number_length.Given as goal

abbrev pub invariant-bytes : goal.invariant-bytes
invariant-bytes l = record {
  read : l.read ≡ l.byte-index;
  found : IfSome l.found (λ n. n ≤ l.byte-index);
  same : number_length l.state l.byte-index l.found (drop l.byte-index l.bytes) ≡ number_length Start 0 None l.bytes;
}
