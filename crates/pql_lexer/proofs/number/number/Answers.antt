use Rattle.std.proofs.Common.{◌∙◌, sym, subst}
use Rattle.std.specs.Str.{IsUtf8}
use Rattle.json_machine.specs.text_spec.Number.{IsNumber}
use Rattle.json_machine.proofs.SpelledBytes.{number-utf8}
use Rattle.pql_lexer.proofs.NumberFronts.{no_number, is_number, number_found}
use Rattle.pql_lexer.proofs.number.number.Goals as goal

pub returns-in-None : goal.returns-in-None
returns-in-None c = no_number _ _ c.requires (sym c.in-None.ensures.value)

pub from_bytes-requires : goal.from_bytes-requires
from_bytes-requires c =
    subst IsUtf8 (sym c.front.ensures) (number-utf8 _ (is_number c.args.bytes.now c.in-Some.length (sym c.in-Some.ensures.value)))

pub of-requires : goal.of-requires
of-requires c =
    subst IsNumber (sym (c.in_ok-text-in-Some.ensures ∙ c.front.ensures)) (is_number c.args.bytes.now c.in-Some.length (sym c.in-Some.ensures.value))

pub returns-in_ok-place-in-Some : goal.returns-in_ok-place-in-Some
returns-in_ok-place-in-Some c =
    number_found c.args.number c.in-Some.length c.args.bytes.now _ _ c.requires c.in-Some.ensures.value (c.of.ensures ∙ c.in_ok-text-in-Some.ensures ∙ c.front.ensures) c.in_ok-place-in-Some.ensures
