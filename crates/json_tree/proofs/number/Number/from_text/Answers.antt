use Rattle.std.proofs.Common.{◌∙◌, sym, ap, refl}
use Rattle.text_spec.proofs.of_plain_laws.Booleans.{both_ways}
use Rattle.json_tree.specs.declared.number.NumberState.TheVariants.{Start}
use Rattle.json_tree.specs.Numbers.{completes}
use Rattle.json_tree.proofs.NumberLaws.{completes_number, number_completes}
use Rattle.json_tree.proofs.number.Number.from_text.Goals as goal

pub invariant_of-result : goal.invariant_of-result
invariant_of-result c = number_completes c.args.spelling (ap (completes Start) (sym c.as_str.ensures) ∙ sym c.is_number.ensures ∙ c.if-is_number.true)

pub returns-then-is_number : goal.returns-then-is_number
returns-then-is_number c = (refl, number_completes c.args.spelling (ap (completes Start) (sym c.as_str.ensures) ∙ sym c.is_number.ensures ∙ c.if-is_number.true))

pub returns-else-is_number : goal.returns-else-is_number
returns-else-is_number c = λ h. both_ways (completes Start c.args.spelling) (completes_number c.args.spelling h) (ap (completes Start) (sym c.as_str.ensures) ∙ sym c.is_number.ensures ∙ c.if-is_number.false)
