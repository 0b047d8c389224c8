use Rattle.std.proofs.Common.{◌≡◌, ◌∙◌, Some, None, option_map, refl, ap}
use Rattle.clap.specs.Matches.{found_of}
use Rattle.clap.specs.Walk.{rows_of}
use Rattle.program_words.specs.Words.{Word, Split}
use Rattle.program_words.specs.Splitting.{command_split, few, split_of}
use Rattle.program_words.proofs.Below.{name_is, rows_are, told_below}
use Rattle.program_words.proofs.split.command_of.Goals as goal

pub returns-in_err-told : goal.returns-in_err-told
returns-in_err-told c = λ word rows split met are.
    let inner = found_of c.in_ok-name.inner.now in
    let same : rows_of inner ≡ rows = rows_are c.args.matches.now (rows_of inner) rows word c.in_ok-name.ensures.rows met in
    let kept : None ≡ few split = c.in_err-told.ensures split (told_below inner (rows_of inner) rows split refl same are) in
    ap command_split c.from_residual-in_err-told.ensures ∙ ap (option_map (λ (s : Split). (word, s))) kept

pub returns : goal.returns
returns c = λ word rows split met are.
    let inner = found_of c.in_ok-name.inner.now in
    let same : rows_of inner ≡ rows = rows_are c.args.matches.now (rows_of inner) rows word c.in_ok-name.ensures.rows met in
    let kept : Some (split_of c.in_ok-told.told) ≡ few split = c.in_ok-told.ensures split (told_below inner (rows_of inner) rows split refl same are) in
    let named = name_is c.args.matches.now c.in_ok-name.name.now word rows c.in_ok-name.ensures.name met in
    ap (λ (w : Word). Some (w, split_of c.in_ok-told.told)) named ∙ ap (option_map (λ (s : Split). (word, s))) kept
