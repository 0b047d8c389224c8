use Rattle.std.proofs.Common.{◌≤◌, length, refl, subst, arith, Err}
use Rattle.pql_spec.specs.Texts.{bad}
use Rattle.pql_reader.specs.Goes.{Reads}
use Rattle.pql_reader.proofs.AnswerLaws.{answered}
use Rattle.pql_reader.proofs.read.read_pql.Goals as goal
use Rattle.query_spec.specs.Limits.{most_query}

pub returns-in-Ok : goal.returns-in-Ok
returns-in-Ok c =
    let short : length c.args.text.now ≤ most_query = omega (arith, c.if-is_long.false) in
    answered c.args.text.now c.in-Ok.level c.checked.result short c.in-Ok.ensures c.checked.ensures

pub returns-in-Err-Bad : goal.returns-in-Err-Bad
returns-in-Err-Bad c =
    let short : length c.args.text.now ≤ most_query = omega (arith, c.if-is_long.false) in
    bad c.in-Err-Bad.at short (subst (λ s. Reads c.args.text.now (Err s)) c.in-Err-Bad.field-0-is c.in-Err-Bad.ensures) refl
