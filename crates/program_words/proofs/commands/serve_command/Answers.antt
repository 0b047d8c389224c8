use Rattle.std.proofs.Common.{◌≡◌, ◌∙◌, codes, ap, ap₂}
use Rattle.std.proofs.lemmas.Result.{IfOk-weaker}
use Rattle.clap.specs.Words.{App, app_of, new_app, with_rule}
use Rattle.program_words.specs.Words.{links_option}
use Rattle.program_words.specs.Made.{option_made}
use Rattle.program_words.proofs.commands.serve_command.Goals as goal

pub returns-clause-shape : goal.returns-clause-shape
returns-clause-shape c =
    let one : app_of c.in_ok-arg.field-0 ≡ with_rule (new_app (codes "serve")) (option_made links_option) = c.in_ok-arg.ensures.shape c.option.ensures.global ∙ ap₂ with_rule c.new.ensures.app c.option.ensures.rule in
    IfOk-weaker c.arg-2.result _ _ (λ r h. ap (λ (a : App). a.top) (h.shape c.plain.ensures.global ∙ ap₂ with_rule one c.plain.ensures.rule)) c.arg-2.ensures
