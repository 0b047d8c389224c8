-- The command that clap is given: a subcommand for each command of the table.
use Rattle.std.specs.Prelude.{◌≡◌, Bool, true, cond, Some, codes, List, [], ◌∷◌, fold}
use Rattle.std.specs.List.{list_any}
use Rattle.std.specs.Str.{bytes_eq}
use Rattle.clap.specs.Words.{App, Rule, Shape, Text, new_app, new_rule, with_rule, with_subcommand}
use Rattle.clap.specs.Simple.{on_top}
use Rattle.clap.specs.declared.builder.action.ArgAction.TheVariants.{Append}
use Rattle.program_words.specs.Words.{Word, Name, serve_option, links_option, Split, IsSplit}
use Rattle.program_words.specs.Scanning.{Takes, name_id, takes_at}

abbrev pub plain_id : Word
plain_id = codes "plain"

abbrev pub option_made : Name → Rule
option_made name = record (new_rule (name_id name)) { long = Some (name_id name) }

-- one positional, of which each plain argument is a use
abbrev pub plain_made : Rule
plain_made = record (new_rule plain_id) { action = Some Append }

abbrev pub with_option : Takes → App → Name → App
with_option takes app name = cond (takes name) (with_rule app (option_made name)) app

-- a command with the options that it takes, and its plain arguments
abbrev pub command_with : Takes → Text → Shape
command_with takes name = (with_rule (with_option takes (with_option takes (new_app name) serve_option) links_option) plain_made).top

abbrev pub command_made : Text → Shape
command_made name = command_with (takes_at name) name

abbrev pub verbs : List Text
verbs = codes "show" ∷ codes "init" ∷ codes "run" ∷ codes "serve" ∷ codes "sweep" ∷ codes "compact" ∷ codes "discards" ∷ codes "payload" ∷ codes "query" ∷ codes "make" ∷ []

abbrev pub top_made : App
top_made = on_top (λ s. record s { no_binary_name = true; disable_help_flag = true; disable_help_subcommand = true; subcommand_required = true }) (new_app (codes "jadlungin"))

abbrev pub with_command : App → Text → App
with_command app name = with_subcommand app (command_made name)

abbrev pub all : App
all = fold with_command top_made verbs

abbrev pub is_verb : List Text → Text → Bool
is_verb vs word = list_any (λ v. bytes_eq v word) vs

-- the first argument is the command, and the others split so
abbrev pub Names : List Word → Word → Split → Type 0
Names [] verb split = ⊥
Names (command ∷ words) verb split = (command ≡ verb) × (is_verb verbs command ≡ true) × IsSplit words split
