use Rattle.std.proofs.Common.{◌≡◌, ◌∙◌, ap, sym, subst}
use Rattle.std.specs.Str.Parse.{AllDigits}
use Rattle.text_spec.specs.Number.{number_in, digits_front, behind_digits, behind_minus, fraction_front, fraction_digits, behind_fraction, exponent_front}
use Rattle.json_tree.specs.Scaled.{exponent_digits, is_lowered}
use Rattle.json_tree.proofs.ScaledLaws.{number_has, assembled}
use Rattle.json_tree.proofs.scaled.scaled_text.Goals as goal

whole_is : (c : goal.After-exponent-1) → c.split_digits.result.0.now ≡ (number_in c.args.text.now).whole
whole_is c = c.split_digits.ensures.digits ∙ ap digits_front c.split_minus-minus.ensures.rest

behind_is : (c : goal.After-exponent-1) → c.split_digits.result.1.now ≡ behind_digits (behind_minus c.args.text.now)
behind_is c = c.split_digits.ensures.rest ∙ ap behind_digits c.split_minus-minus.ensures.rest

fraction_is : (c : goal.After-exponent-1) → c.split_fraction.result.0.now ≡ fraction_digits (number_in c.args.text.now).fraction
fraction_is c = c.split_fraction.ensures.digits ∙ ap (λ t. fraction_digits (fraction_front t)) (behind_is c)

rest_is : (c : goal.After-exponent-1) → c.split_fraction.result.1.now ≡ behind_fraction (behind_digits (behind_minus c.args.text.now))
rest_is c = c.split_fraction.ensures.rest ∙ ap behind_fraction (behind_is c)

exponent_is : (c : goal.After-exponent-1) → c.split_exponent-lowered.result.1.now ≡ exponent_digits (number_in c.args.text.now).exponent
exponent_is c = c.split_exponent-lowered.ensures.digits ∙ ap (λ t. exponent_digits (exponent_front t)) (rest_is c)

pub size_of-requires-clause-whole : goal.size_of-requires-clause-whole
size_of-requires-clause-whole c = subst (AllDigits 10) (sym (whole_is c)) (number_has c.args.text.now c.requires).whole

pub size_of-requires-clause-fraction : goal.size_of-requires-clause-fraction
size_of-requires-clause-fraction c = subst (AllDigits 10) (sym (fraction_is c)) (number_has c.args.text.now c.requires).fraction

pub size_of-requires-clause-exponent : goal.size_of-requires-clause-exponent
size_of-requires-clause-exponent c = subst (AllDigits 10) (sym (exponent_is c)) (number_has c.args.text.now c.requires).exponent

pub returns : goal.returns
returns c =
    let t = c.args.text.now in
    let behind : c.split_digits.result.1.now ≡ behind_digits (behind_minus t) = c.split_digits.ensures.rest ∙ ap behind_digits c.split_minus-minus.ensures.rest in
    let rest : c.split_fraction.result.1.now ≡ behind_fraction (behind_digits (behind_minus t)) = c.split_fraction.ensures.rest ∙ ap behind_fraction behind in
    assembled t c.split_minus-minus.result.0 c.split_exponent-lowered.result.0 c.split_digits.result.0.now c.split_fraction.result.0.now c.split_exponent-lowered.result.1.now c.size_of.result c.with_sign.result
    c.split_minus-minus.ensures.minus
    (c.split_digits.ensures.digits ∙ ap digits_front c.split_minus-minus.ensures.rest)
    (c.split_fraction.ensures.digits ∙ ap (λ x. fraction_digits (fraction_front x)) behind)
    (c.split_exponent-lowered.ensures.lowered ∙ ap (λ x. is_lowered (exponent_front x)) rest)
    (c.split_exponent-lowered.ensures.digits ∙ ap (λ x. exponent_digits (exponent_front x)) rest)
    c.size_of.ensures.size c.with_sign.ensures
