use Rattle.std.proofs.Common.{◌∙◌, sym}
use Rattle.http_front.proofs.FieldValues.{first_says, last_says, more_says}
use Rattle.http_front.proofs.fields.says_close.Goals as goal

pub returns-then-is_alike : goal.returns-then-is_alike
returns-then-is_alike c = sym (first_says c.options.rest.now _ _ _ c.first_option.ensures.split (sym c.if-is_alike.true ∙ c.is_alike.ensures)) ∙ c.options.invariant

pub returns-in-None : goal.returns-in-None
returns-in-None c =
    sym (last_says c.options.rest.now c.first_option.result.0.now c.first_option.result.1 c.first_option.ensures.split c.in-None.is (sym c.if-is_alike.false ∙ c.is_alike.ensures)) ∙ c.options.invariant

pub options-preserved : goal.options-preserved
options-preserved c =
    sym (more_says c.options.rest.now c.first_option.result.0.now c.first_option.result.1 c.in-Some.more c.first_option.ensures.split c.in-Some.is (sym c.if-is_alike.false ∙ c.is_alike.ensures)) ∙ c.options.invariant
