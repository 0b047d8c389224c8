use Rattle.std.proofs.Common.{◌∙◌}
use Rattle.pql_lexer.proofs.TextFronts.{end_missed, utf8_missed, text_told}
use Rattle.pql_lexer.proofs.quoted.quoted.Goals as goal

pub returns-in-None : goal.returns-in-None
returns-in-None c = end_missed c.args.number c.args.quote c.args.bytes.now c.in_ok-found.found c.requires c.in_ok-found.ensures.value c.in-None.is

pub returns-in-Err : goal.returns-in-Err
returns-in-Err c =
    utf8_missed c.args.number c.args.quote c.args.bytes.now c.in_ok-found.found c.requires c.in_ok-found.ensures.value c.in-Some.held c.in-Some.length c.in-Some.is c.as_slice.result.now c.as_slice.ensures.value c.in-Err.ensures.cases.0

pub returns : goal.returns
returns c =
    text_told c.args.number c.args.quote c.args.bytes.now c.in_ok-found.found c.requires c.in_ok-found.ensures.value c.in-Some.held c.in-Some.length c.in-Some.is c.as_slice.result.now c.as_slice.ensures.value _ _ c.in-Ok.ensures.cases.1 (c.in_ok-from_str-in-Ok.ensures ∙ c.in-Ok.ensures.cases.0) c.in_ok-place-in-Some.ensures
