-- A regex says of a text what its own text is read as, of one text and of many.
use Rattle.std.proofs.Common.{◌≡◌, ◌∙◌, ◌<◌, ◌+◌, ℕ, List, [], ◌∷◌, ◌++◌, append_assoc, length, drop, map, get_or, ap, sym, Bool, true, false, Option, Some, None, is_some}
use Rattle.std.proofs.lemmas.List.{drop_more}
use Rattle.std.specs.Borrow.{Bor}
use Rattle.std.specs.Option.{option_map_or}
use Rattle.std.specs.Prelude.{IsSomeAnd}
use Rattle.std.specs.Str.{chars}
use Rattle.regex.specs.declared.string.regex.Regex.{Regex}
use Rattle.regex.specs.Patterns.{find_str, default_config, Reads}
use Rattle.regex.specs.Strings.{regex_source, regex_config, regex_pattern, IsReadFromSource}
use Rattle.regex.proofs.ForCallers.{is_match_alike}
use Rattle.regex_syntax.specs.Grammar.{read}
use Rattle.pattern_port.specs.Course.{texts_of}
use Rattle.pattern_regex.specs.Regexes.{regex_says}

from_read : {A : Type 0} (o : Option A) (P : A → Type 0) (f : A → Bool) (b : Bool) → ((x : A) → P x → b ≡ f x) → IsSomeAnd o P → b ≡ option_map_or f o false
from_read (Some x) P f b same h = same x h
from_read None P f b same h = absurd h

pub says_what_is_read : (r : Regex) (text : List ℕ) → ((k : ℕ) → get_or text k 0 < 256) → regex_config r ≡ default_config → IsReadFromSource r → is_some (find_str (regex_pattern r) text 0) ≡ regex_says (regex_source r) text
unfolding Reads
says_what_is_read r text bytes config is_read =
    let reads : Reads default_config (regex_source r) r.pattern.program.hir _ = rw config at is_read in
    from_read (read default_config (chars (regex_source r))) _ (λ found. is_some (find_str found.0.value text 0)) _
    (λ x h. is_match_alike h.1 text bytes true 0) reads

-- one more answer behind the others, and the rest
pub one_more : (says : List ℕ → Bool) (list : List (Bor (List ℕ))) (i : ℕ) (d : Bor (List ℕ)) → i < length list → (old new all : List Bool) → new ≡ old ++ says (get_or list i d).now ∷ [] → old ++ map says (texts_of (drop i list)) ≡ all → new ++ map says (texts_of (drop (i + 1) list)) ≡ all
one_more says list i d inside old new all is rest =
    ap (λ l. l ++ map says (texts_of (drop (i + 1) list))) is
    ∙ append_assoc old (says (get_or list i d).now ∷ []) (map says (texts_of (drop (i + 1) list)))
    ∙ ap (λ l. old ++ map says (texts_of l)) (sym (drop_more list i d inside))
    ∙ rest
