use Rattle.std.proofs.Common.{◌∙◌, List, refl, subst}
use Rattle.clap.specs.Simple.{subcommand_rows_of}
use Rattle.clap.specs.Words.{app_of}
use Rattle.program_words.specs.Words.{Word}
use Rattle.program_words.specs.Splitting.{IsMet, IsUnread}
use Rattle.program_words.proofs.Below.{is_met, is_unread, map_same}
use Rattle.program_words.proofs.split.parsed.Goals as goal

pub returns-in-Ok : goal.returns-in-Ok
returns-in-Ok c =
    subst (λ (words : List Word). IsMet words (subcommand_rows_of c.in-Ok.matches)) (map_same _ c.args.words.now (λ _. refl))
    (is_met (app_of c.in_ok-command.command) _ c.in-Ok.matches c.in_ok-command.ensures c.in-Ok.ensures.kinds c.in-Ok.ensures.matches)

pub returns : goal.returns
returns c =
    subst IsUnread (map_same _ c.args.words.now (λ _. refl))
    (is_unread (app_of c.in_ok-command.command) _ c.in-Err.error c.in_ok-command.ensures c.in-Err.ensures.kinds (λ e. c.in_default.not-OutOfMemory (c.kind.ensures ∙ e)))
