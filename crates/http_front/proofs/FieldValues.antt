-- The limit of sizes, the options of a value, and lengths.
use Rattle.std.proofs.Common.{◌≡◌, ◌∙◌, ℕ, ◌+◌, ◌-◌, ◌≤◌, ◌<◌, List, [], ◌∷◌, ◌++◌, length, take, drop, get_or, arith, refl, sym, ap, subst, Bool, true, false, All, Option, Some, None, Bor}
use Rattle.std.specs.Prelude.{◌↔◌, IsTrue, bytes_eq, codes, nat_le, if◌then◌else◌, ◌||◌, ◌&&◌}
use Rattle.std.specs.List.{list_all, list_any, slice_split}
use Rattle.std.specs.Option.{option_map_or}
use Rattle.std.specs.Str.{str_eq_ignore_ascii_case}
use Rattle.std.specs.Str.Parse.{digits_value}
use Rattle.std.proofs.lemmas.List.{drop_more, length-drop, take_all, take-append-drop}
use Rattle.std.proofs.lemmas.List.Elements.{All-more}
use Rattle.std.proofs.lemmas.List.Splits.{slice_split_at, slice_split_none}
use Rattle.std.proofs.lemmas.Slice.Eq.{bytes_eq-Decides}
use Rattle.http_spec.proofs.of_plain_laws.Lists.{bytes_eq-itself}
use Rattle.http_spec.proofs.of_plain_laws.Options.{some_none, some_is}
use Rattle.http_spec.specs.declared.request.HttpFault.TheVariants as fault
use Rattle.http_spec.specs.Framing.{sized, refused, first_of, within_limit, is_between, is_length, by_lengths, says_close}
use Rattle.http_spec.specs.json_tree.Limits.{most_payload}

-- ---- names

pub told_equal : (b : Bool) (xs ys : List ℕ) → (IsTrue b ↔ xs ≡ ys) → b ≡ bytes_eq xs ys
told_equal true xs ys h = sym ((bytes_eq-Decides xs ys).1 (h.0 refl))
told_equal false xs ys h = by_test (bytes_eq xs ys) refl
  where
    by_test : (t : Bool) → bytes_eq xs ys ≡ t → false ≡ t
    by_test true e = h.1 ((bytes_eq-Decides xs ys).0 e)
    by_test false e = refl

-- ---- sizes

too_many : (n : ℕ) → 16_777_217 ≤ n → within_limit n ≡ refused fault.BodyTooLarge
too_many n h = let no_more : nat_le n most_payload ≡ false = grind arith in ap (λ (b : Bool). if b then sized n else refused fault.BodyTooLarge) no_more

-- once a number is above the limit, how far above doesn't count
pub past_limit : (n : ℕ) → 16_777_217 ≤ n → within_limit n ≡ within_limit 16_777_217
past_limit n h = too_many n h ∙ sym (too_many 16_777_217 (omega arith))

-- ---- the options of a value

abbrev is_close : List ℕ → Bool
is_close option = str_eq_ignore_ascii_case option (codes "close")

abbrev NoneBetween : List ℕ → Type 0
NoneBetween xs = All (λ x. is_between x ≡ false) xs

pub option_there : (xs : List ℕ) (i : ℕ) → i < length xs → is_between (get_or xs i 0) ≡ true → NoneBetween (take i xs)
    → slice_split is_between xs ≡ take i xs ∷ slice_split is_between (take (length xs - (i + 1)) (drop (i + 1) xs))
option_there xs i inside e h =
    ap (slice_split is_between) (sym (take-append-drop i xs) ∙ ap (λ ys. take i xs ++ ys) (drop_more xs i 0 inside))
    ∙ slice_split_at is_between (take i xs) (get_or xs i 0) (drop (i + 1) xs) h e
    ∙ ap (λ ys. take i xs ∷ slice_split is_between ys) (sym (take_all (length xs - (i + 1)) (drop (i + 1) xs) (omega (arith, length-drop (i + 1) xs))))

pub still_none : (xs : List ℕ) (i : ℕ) → i < length xs → is_between (get_or xs i 0) ≡ false → NoneBetween (take i xs) → NoneBetween (take (i + 1) xs)
still_none xs i inside e h = All-more (λ x. is_between x ≡ false) xs i 0 inside h e

pub last_there : (xs : List ℕ) (i : ℕ) → length xs ≤ i → NoneBetween (take i xs) → slice_split is_between xs ≡ xs ∷ []
last_there xs i far h = slice_split_none is_between xs (subst NoneBetween (take_all i xs far) h)

-- whether the first option is `close`, or one behind it
pub first_says : (value option : List ℕ) (parts : List (List ℕ)) (b : Bool) → slice_split is_between value ≡ option ∷ parts → b ≡ is_close option
    → says_close value ≡ (b || list_any is_close parts)
first_says value option parts b h e = ap (list_any is_close) h ∙ ap (λ t. t || list_any is_close parts) (sym e)

-- what stands behind the first option
abbrev behind_of : Option (Bor (List ℕ)) → List (List ℕ)
behind_of behind = option_map_or (λ (rest : Bor (List ℕ)). slice_split is_between rest.now) behind []

pub last_says : (value option : List ℕ) (behind : Option (Bor (List ℕ))) → slice_split is_between value ≡ option ∷ behind_of behind → behind ≡ None → false ≡ is_close option → says_close value ≡ false
last_says value option behind h none e = first_says value option (behind_of behind) false h e ∙ ap (λ o. list_any is_close (behind_of o)) none

pub more_says : (value option : List ℕ) (behind : Option (Bor (List ℕ))) (more : Bor (List ℕ)) → slice_split is_between value ≡ option ∷ behind_of behind → behind ≡ Some more → false ≡ is_close option
    → says_close value ≡ says_close more.now
more_says value option behind more h some e = first_says value option (behind_of behind) false h e ∙ ap (λ o. list_any is_close (behind_of o)) some

-- ---- the lengths

-- of the first length, and of whether it is one and the others are equal
pub framed : (method value : List ℕ) (lengths : List (List ℕ)) → Some value ≡ first_of lengths → (s t : Bool) → is_length value ≡ s → list_all (λ other. bytes_eq other value) lengths ≡ t
    → by_lengths method lengths ≡ (if s && t then within_limit (digits_value 10 value) else refused fault.BadLength)
framed method value [] first s t a b = some_none value first
framed method value (v ∷ vs) first s t a b =
    let same : v ≡ value = sym (some_is value v first) in
    let others : list_all (λ other. bytes_eq other value) vs ≡ t = ap (λ e. e && list_all (λ other. bytes_eq other value) vs) (sym (ap (λ x. bytes_eq x value) same ∙ bytes_eq-itself value)) ∙ b in
    ap (λ x. by_lengths method (x ∷ vs)) same ∙ (λ i. if a i && others i then within_limit (digits_value 10 value) else refused fault.BadLength)
