use Rattle.std.proofs.Common.{◌≤◌, length, arith, Err, ap, subst, sym}
use Rattle.json_read.specs.json_tree.Tree.{json_of}
use Rattle.query_spec.specs.Answer.{query}
use Rattle.ast_reader.specs.Answered.{AnsweredAs}
use Rattle.ast_reader.proofs.AnswerLaws.{answered, unspelt}
use Rattle.ast_reader.proofs.read.read_ast.Goals as goal
use Rattle.query_spec.specs.Limits.{most_query}

pub returns-in-Ok : goal.returns-in-Ok
returns-in-Ok c =
    let short : length c.args.text.now ≤ most_query = omega (arith, c.if-text-gt-MOST_QUERY.false) in
    answered query c.args.text.now (json_of c.in-Ok.json) c.query_of.result short c.in-Ok.ensures.found c.query_of.ensures

pub returns-in-Err : goal.returns-in-Err
returns-in-Err c =
    let short : length c.args.text.now ≤ most_query = omega (arith, c.if-text-gt-MOST_QUERY.false) in
    subst (λ e. AnsweredAs query c.args.text.now (Err e)) (sym c.not_json.ensures)
    (unspelt query c.args.text.now c.in-Err.fault short (λ at h. c.in-Err.ensures.not_json at (ap Err h)) (λ at h. c.in-Err.ensures.too_deep at (ap Err h)))
