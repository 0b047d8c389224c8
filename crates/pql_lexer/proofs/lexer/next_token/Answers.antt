use Rattle.std.proofs.Common.{arith}
use Rattle.pql_lexer.proofs.FirstBytes.{nothing}
use Rattle.pql_lexer.proofs.lexer.next_token.Goals as goal

pub returns-in-empty : goal.returns-in-empty
returns-in-empty c = nothing c.args.number_of_token c.args.bytes.now (omega (arith, c.in-empty.len_below))
