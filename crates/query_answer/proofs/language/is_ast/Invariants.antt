use Rattle.std.proofs.Common.{◌≡◌, drop}
use Rattle.query_answer.specs.Language.{is_ast}
use Rattle.query_answer.proofs.language.is_ast.Given as goal

abbrev pub invariant-loop-byte : goal.invariant-loop-byte
invariant-loop-byte l = is_ast (drop l.byte-index l.text) ≡ is_ast l.text
