-- Members by their names.
use Rattle.std.proofs.Common.{◌≡◌, ◌∙◌, ℕ, ◌+◌, ◌-◌, List, [], ◌∷◌, drop, take, length, get_or, ◌<◌, ◌≤◌, sym, ap, arith, true, false, Option, Some, None, if◌then◌else◌}
use Rattle.std.specs.Borrow.{Bor}
use Rattle.std.specs.Option.{option_and_then}
use Rattle.std.specs.Prelude.{slice_get}
use Rattle.std.specs.Str.{bytes_eq}
use Rattle.std.proofs.lemmas.List.{drop_more, drop_all, take_all}
use Rattle.std.proofs.lemmas.Option.{slice_get_within, get_or_from_slice_get}
use Rattle.fleet_rows.proofs.of_text_spec.JsonLemmas.{members_list-of}
use Rattle.fleet_rows.specs.text_spec.Json.{Json, find_member}
use Rattle.fact_paths.specs.Leaves.{key, value_in, value_at}
use Rattle.fact_paths.specs.Steps.{along, dotted}

module _ (name : List ℕ) (ms : List (List ℕ × Json)) (at : ℕ) (m : List ℕ × Json) (is : slice_get ms at ≡ Some m) where
  find_from : find_member name (drop at ms) ≡ (if bytes_eq name m.0 then Some m.1 else find_member name (drop (at + 1) ms))
  find_from =
      ap (find_member name) (drop_more ms at m (slice_get_within ms at m is) ∙ ap (λ x. x ∷ drop (at + 1) ms) (get_or_from_slice_get ms at m m is))

  pub find_here : bytes_eq name m.0 ≡ true → find_member name (drop at ms) ≡ Some m.1
  find_here e = find_from ∙ rw e (λ i. Some m.1)

  pub find_later : bytes_eq name m.0 ≡ false → find_member name (drop at ms) ≡ find_member name (drop (at + 1) ms)
  find_later e = find_from ∙ rw e (λ i. find_member name (drop (at + 1) ms))

-- ---- paths of names

pub first_name : (facts : List (List ℕ × Json)) (path : List (Bor (List ℕ))) (d : Bor (List ℕ)) → 1 ≤ length path → dotted facts path ≡ option_and_then (value_at (along (take (length path - 1) (drop 1 path)))) (find_member (get_or path 0 d).now facts)
first_name facts [] d h = absurd (omega (arith, h))
first_name facts (name ∷ path) d h =
    let enough : length path ≤ length (name ∷ path) - 1 = omega arith in
    ap (λ ms. option_and_then (value_at (along path)) (find_member name.now ms)) (members_list-of facts)
    ∙ ap (λ rest. option_and_then (value_at (along rest)) (find_member name.now facts)) (sym (take_all (length (name ∷ path) - 1) path enough))

module _ (path : List (Bor (List ℕ))) (j : Json) (whole : Option Json) (i : ℕ) where
  turn : (d : Bor (List ℕ)) → i < length path → value_at (along (drop i path)) j ≡ option_and_then (value_at (along (drop (i + 1) path))) (value_in (key (get_or path i d).now) j)
  turn d h = ap (λ p. value_at (along p) j) (drop_more path i d h)

  pub goes_on : (d : Bor (List ℕ)) (next : Json) → i < length path → Some next ≡ value_in (key (get_or path i d).now) j → value_at (along (drop i path)) j ≡ whole → value_at (along (drop (i + 1) path)) next ≡ whole
  goes_on d next h found inv = ap (option_and_then (value_at (along (drop (i + 1) path)))) found ∙ sym (turn d h) ∙ inv

  pub ends_early : (d : Bor (List ℕ)) → i < length path → None ≡ value_in (key (get_or path i d).now) j → value_at (along (drop i path)) j ≡ whole → None ≡ whole
  ends_early d h missing inv = ap (option_and_then (value_at (along (drop (i + 1) path)))) missing ∙ sym (turn d h) ∙ inv

  pub at_end : length path ≤ i → value_at (along (drop i path)) j ≡ whole → Some j ≡ whole
  at_end h inv = ap (λ p. value_at (along p) j) (sym (drop_all i path h)) ∙ inv
