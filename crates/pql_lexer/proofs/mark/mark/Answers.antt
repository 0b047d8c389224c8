use Rattle.std.proofs.Common.{◌∙◌}
use Rattle.pql_lexer.proofs.MarkFronts.{mark_found, mark_missed, ascii_missed}
use Rattle.pql_lexer.proofs.mark.mark.Goals as goal

pub returns-in-Err : goal.returns-in-Err
returns-in-Err c = ascii_missed c.args.number c.mark_length-length.result c.args.bytes.now c.front.result.now c.in_ok-place.place c.requires c.mark_length-length.ensures c.front.ensures c.in-Err.ensures.cases.0

pub returns-in-None : goal.returns-in-None
returns-in-None c =
    mark_missed c.args.number c.mark_length-length.result c.args.bytes.now c.in-Ok.mark.now _ c.requires c.mark_length-length.ensures (c.in-Ok.ensures.cases.0 ∙ c.front.ensures) c.in_ok-place.ensures c.in-None.ensures

pub returns-in-Some : goal.returns-in-Some
returns-in-Some c =
    mark_found c.args.number c.mark_length-length.result c.args.bytes.now c.in-Ok.mark.now _ c.requires c.mark_length-length.ensures (c.in-Ok.ensures.cases.0 ∙ c.front.ensures) c.in-Some.token c.in_ok-place.ensures c.in-Some.ensures
