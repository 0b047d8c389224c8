-- What is kept of what clap tells.
use Rattle.std.proofs.Common.{◌≡◌, ◌∙◌, List, [], ◌∷◌, Option, Some, None, refl, sym, ap}
use Rattle.std.specs.Prelude.{option_map, option_and_then, slice_get, find}
use Rattle.std.specs.Str.{bytes_eq}
use Rattle.clap.specs.Walk.{Text, Row, all_of, first_of, rows_of}
use Rattle.clap.specs.Matches.{first_value}
use Rattle.clap.specs.declared.parser.matches.Found.{Found}
use Rattle.clap.proofs.WalkLemmas.{first_value-rows, raw_values-rows}
use Rattle.program_words.specs.Words.{Word, serve_option, links_option, Split}
use Rattle.program_words.specs.Scanning.{name_id, value_of}
use Rattle.program_words.specs.Made.{plain_id}
use Rattle.program_words.specs.Splitting.{one, RowsAre, HasTold, some_words, few_words, few}

first_all : (id : Text) (rows : List Row) → first_of id rows ≡ option_and_then (λ vs. slice_get vs 0) (all_of id rows)
first_all id rows = go (find (λ r. bytes_eq r.id id) rows)
  where
    go : (o : Option Row) → option_and_then (λ (r : Row). slice_get r.values 0) o ≡ option_and_then (λ (vs : List Text). slice_get vs 0) (option_map (λ (r : Row). r.values) o)
    go None = refl
    go (Some r) = refl

first_one : (o : Option Word) → option_and_then (λ (vs : List Word). slice_get vs 0) (option_map one o) ≡ o
first_one None = refl
first_one (Some v) = refl

pub told : (f : Found) (split : Split) → RowsAre (rows_of f) split → HasTold f split
told f split are = record {
  values = λ name. first_value-rows f (name_id name) ∙ first_all (name_id name) (rows_of f) ∙ ap (option_and_then (λ vs. slice_get vs 0)) (are.values name) ∙ first_one (value_of name split);
  plain = raw_values-rows f plain_id ∙ are.plain;
}

-- ---- what is kept of it

pub plain_is : (plain words : List Word) → some_words plain ≡ Some words → plain ≡ words
plain_is [] words e = absurd (cc)
plain_is (w ∷ plain) words e = cc

pub no_plain : (plain : List Word) → some_words plain ≡ None → plain ≡ []
no_plain [] e = refl
no_plain (w ∷ plain) e = absurd (cc)

pub told_made : (f : Found) (split : Split) (serve links : Option Word) (plain words : List Word) → HasTold f split → serve ≡ first_value f (name_id serve_option)
    → links ≡ first_value f (name_id links_option) → split.plain ≡ words → Some plain ≡ few_words words → Some (record { serve = serve; links = links; plain = plain }) ≡ few split
told_made f split serve links plain words told first second same made =
    let is_serve : serve ≡ split.serve = first ∙ told.values serve_option in
    let is_links : links ≡ split.links = second ∙ told.values links_option in
    (λ i. Some (record { serve = is_serve i; links = is_links i; plain = plain }))
    ∙ ap (option_map (λ (p : List Word). record split { plain = p })) made
    ∙ ap (λ (ws : List Word). option_map (λ (p : List Word). record split { plain = p }) (few_words ws)) (sym same)

pub told_none : (f : Found) (split : Split) (words : List Word) → HasTold f split → split.plain ≡ words → None ≡ few_words words → None ≡ few split
told_none f split words told same made =
    ap (option_map (λ (p : List Word). record split { plain = p })) made ∙ ap (λ (ws : List Word). option_map (λ (p : List Word). record split { plain = p }) (few_words ws)) (sym same)
