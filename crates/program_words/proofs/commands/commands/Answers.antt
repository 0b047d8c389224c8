use Rattle.std.proofs.Common.{◌≡◌, ◌∙◌, ap, codes, true}
use Rattle.std.proofs.lemmas.Result.{IfOk-weaker}
use Rattle.clap.specs.Words.{App, app_of, new_app}
use Rattle.clap.specs.Simple.{app_of_fields, on_top}
use Rattle.program_words.specs.Made.{top_made, with_command}
use Rattle.program_words.proofs.commands.commands.Goals as goal

pub returns : goal.returns
returns c =
    let one : app_of c.no_binary_name.result ≡ on_top (λ s. record s { no_binary_name = true }) (new_app (codes "jadlungin")) =
    ap app_of_fields c.no_binary_name.ensures ∙ ap (on_top (λ s. record s { no_binary_name = true })) c.new.ensures.app in
    let two = ap app_of_fields c.disable_help_flag.ensures ∙ ap (on_top (λ s. record s { disable_help_flag = true })) one in
    let three = ap app_of_fields c.disable_help_subcommand.ensures ∙ ap (on_top (λ s. record s { disable_help_subcommand = true })) two in
    let top : app_of c.subcommand_required-top.result ≡ top_made = ap app_of_fields c.subcommand_required-top.ensures ∙ ap (on_top (λ s. record s { subcommand_required = true })) three in
    let show : app_of c.in_ok-show.show ≡ with_command top_made (codes "show") = c.in_ok-show.ensures ∙ ap (λ (a : App). with_command a (codes "show")) top in
    let init : app_of c.in_ok-init.init ≡ with_command (with_command top_made (codes "show")) (codes "init") = c.in_ok-init.ensures ∙ ap (λ (a : App). with_command a (codes "init")) show in
    let run : app_of c.in_ok-run.run' ≡ with_command (with_command (with_command top_made (codes "show")) (codes "init")) (codes "run") = c.in_ok-run.ensures ∙ ap (λ (a : App). with_command a (codes "run")) init in
    let serve = c.in_ok-serve.ensures ∙ ap (λ (a : App). with_command a (codes "serve")) run in
    let sweep = c.in_ok-sweep.ensures ∙ ap (λ (a : App). with_command a (codes "sweep")) serve in
    let compact = c.in_ok-compact.ensures ∙ ap (λ (a : App). with_command a (codes "compact")) sweep in
    let discards = c.in_ok-discards.ensures ∙ ap (λ (a : App). with_command a (codes "discards")) compact in
    let payload = c.in_ok-payload.ensures ∙ ap (λ (a : App). with_command a (codes "payload")) discards in
    let query = c.in_ok-query.ensures ∙ ap (λ (a : App). with_command a (codes "query")) payload in
    IfOk-weaker c.with_plain-8.result _ _ (λ r h. h ∙ ap (λ (a : App). with_command a (codes "make")) query) c.with_plain-8.ensures
