use Rattle.std.proofs.Common.{◌∙◌, sym, subst, arith}
use Rattle.same_text.specs.text_spec.Number.{IsNumber}
use Rattle.query_plan.proofs.of_means_spec.SumTexts.{sum_is_number}
use Rattle.level_answers.proofs.sums.number_of.Goals as goal

pub of-requires : goal.of-requires
of-requires c = subst IsNumber (sym (c.from_string-text.ensures ∙ c.in_ok-scaled_text.ensures.text)) (sum_is_number c.args.m.now (omega (arith, c.in_ok-scaled_text.ensures.bound)))

pub returns : goal.returns
returns c = c.of.ensures ∙ c.from_string-text.ensures ∙ c.in_ok-scaled_text.ensures.text
