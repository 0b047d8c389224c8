-- Runs of bytes that stand for themselves in a string.
use Rattle.std.proofs.Common.{◌≡◌, ◌∙◌, ℕ, zero, suc, ◌+◌, ◌-◌, ◌<◌, ◌≤◌, List, [], ◌∷◌, ◌++◌, length, take, drop, get_or, append_assoc, sym, ap, subst, true, flat_map, arith, length-drop}
use Rattle.std.specs.Prelude.{slice_range}
use Rattle.std.proofs.lemmas.Grind.{flat_map-append}
use Rattle.std.proofs.lemmas.List.{drop_more, get_or-take, get_or-drop, length-take}
use Rattle.std.proofs.lemmas.List.Edits.{between_more}
use Rattle.std.proofs.lemmas.List.Folds.{drop_split}
use Rattle.text_spec.specs.Compact.{escaped}
use Rattle.json_tree.specs.Plain.{is_plain}

escaped-plain : (x : ℕ) → is_plain x ≡ true → escaped x ≡ x ∷ []
unfolding escaped
escaped-plain x h = grind arith

-- the run goes on with one more byte
pub run-more : (xs : List ℕ) (start at : ℕ) → start ≤ at → at < length xs → is_plain (get_or xs at 0) ≡ true → flat_map escaped (slice_range xs start at) ≡ slice_range xs start at → flat_map escaped (slice_range xs start (at + 1)) ≡ slice_range xs start (at + 1)
run-more xs start at le lt plain run =
    let more = between_more xs start at 0 le lt in
    ap (flat_map escaped) more
    ∙ flat_map-append escaped (slice_range xs start at) (get_or xs at 0 ∷ [])
    ∙ (λ i. run i ++ (escaped-plain (get_or xs at 0) plain i ++ []))
    ∙ sym more

-- the run goes on with so many more bytes
pub run-on : (xs : List ℕ) (start at end n : ℕ) → at + n ≡ end → start ≤ at → end ≤ length xs → ((k : ℕ) → at ≤ k → k < end → is_plain (get_or xs k 0) ≡ true) → flat_map escaped (slice_range xs start at) ≡ slice_range xs start at → flat_map escaped (slice_range xs start end) ≡ slice_range xs start end
run-on xs start at end zero e le lt all run =
    let same : at ≡ end = omega (arith, e) in
    subst (λ i. flat_map escaped (slice_range xs start i) ≡ slice_range xs start i) same run
run-on xs start at end (suc n) e le lt all run =
    run-on xs start (at + 1) end n (omega (arith, e)) (omega (arith, le)) lt (λ k l u. all k (omega (arith, l)) u)
    (run-more xs start at le (omega (arith, e, lt)) (all at (omega arith) (omega (arith, e))) run)

-- each byte of a piece is plain, so each of these is
pub piece-plain : (xs : List ℕ) (start end : ℕ) → end ≤ length xs → ((j : ℕ) → j < length (slice_range xs start end) → is_plain (get_or (slice_range xs start end) j 0) ≡ true) → (k : ℕ) → start ≤ k → k < end → is_plain (get_or xs k 0) ≡ true
piece-plain xs start end lt all k l u =
    let back : start + (k - start) ≡ k = omega (arith, l) in
    let count : k - start < length (take (end - start) (drop start xs)) = omega (arith, l, u, lt, length-take (end - start) (drop start xs), length-drop start xs) in
    subst (λ x. is_plain x ≡ true) (get_or-take (end - start) (drop start xs) (k - start) 0 (omega (arith, l, u)) ∙ get_or-drop start xs (k - start) 0 ∙ ap (λ i. get_or xs i 0) back) (all (k - start) count)

-- a run and the byte behind it are written
pub runs-more : (out xs : List ℕ) (at end : ℕ) → at ≤ end → end < length xs → flat_map escaped (slice_range xs at end) ≡ slice_range xs at end → out ++ slice_range xs at end ++ escaped (get_or xs end 0) ++ flat_map escaped (drop (end + 1) xs) ≡ out ++ flat_map escaped (drop at xs)
runs-more out xs at end le lt run =
    let part = slice_range xs at end in
    let rest = flat_map escaped (drop (end + 1) xs) in
    append_assoc (out ++ part) (escaped (get_or xs end 0)) rest
    ∙ append_assoc out part (escaped (get_or xs end 0) ++ rest)
    ∙ ap (λ x. out ++ x)
    ((λ i. sym run i ++ flat_map escaped (sym (drop_more xs end 0 lt) i))
    ∙ sym (flat_map-append escaped part (drop end xs))
    ∙ ap (flat_map escaped) (sym (drop_split xs at end le)))
