-- The numbers of rows before each of the first groups.
use Rattle.std.proofs.Common.{◌≡◌, ◌∙◌, ℕ, zero, suc, ◌+◌, ◌-◌, ◌<◌, ◌≤◌, List, [], ◌∷◌, ◌++◌, length, take, drop, slice_get, Some, true, false, nat_eq, refl, sym, ap, subst, arith, append_assoc, length-append}
use Rattle.std.specs.List.{insert}
use Rattle.std.proofs.Math.ListN.{set}
use Rattle.std.proofs.lemmas.Grind.{flat_map-append}
use Rattle.std.proofs.lemmas.List.{take-take}
use Rattle.checkpoint_spec.specs.fleet_rows.declared.row.Entity.{Entity}
use Rattle.checkpoint_spec.specs.table_machine.Rows.{node_rows}
use Rattle.checkpoint_spec.specs.table_machine.Table.{Node}
use Rattle.kept_nodes.specs.declared.counts.Counts.{Counts}
use Rattle.kept_nodes.proofs.RowPlaces.{get_right}
use Rattle.fleet_tables.specs.Groups.{joined, rows_of, AreBefore, AreCountsOf, AreStarts, HaveRow, IsRowOf}
use Rattle.fleet_tables.proofs.JoinedNodes.{Groups}

-- ---- what is cut stays right

pub no_starts : (groups : Groups) → AreStarts [] groups
no_starts groups = λ k c e. cc

got_taken : {X : Type 0} (xs : List X) (n k : ℕ) (x : X) → slice_get (take n xs) k ≡ Some x → (k < n) × (slice_get xs k ≡ Some x)
got_taken xs zero k x e = cc
got_taken [] (suc n) k x e = cc
got_taken (y ∷ ys) (suc n) zero x e = (omega arith, e)
got_taken (y ∷ ys) (suc n) (suc k) x e = let rest = got_taken ys n k x e in (omega (arith, rest.0), rest.1)

-- where the groups before a place are as they were, so is what is counted up to there
pub starts_cut : (starts : List Counts) (old new : Groups) (at : ℕ) → take at new ≡ take at old → AreStarts starts old → AreStarts (take (at + 1) starts) new
starts_cut starts old new at same h = λ k c e.
    let there = got_taken starts (at + 1) k c e in
    let within : k ≤ at = omega (arith, there.0) in
    let alike : take k new ≡ take k old = sym (take-take k at new within) ∙ ap (take k) same ∙ take-take k at old within in
    subst (λ (groups : Groups). AreCountsOf c (joined groups)) (sym alike) (h k c there.1)

-- a group that is split leaves those before it
pub split_before : (groups : Groups) (at : ℕ) (lower upper : List Node) → at < length groups → take at (insert (set groups at lower) (suc at) upper) ≡ take at groups
split_before [] at lower upper h = absurd (omega (arith, h))
split_before (g ∷ gs) zero lower upper h = refl
split_before (g ∷ gs) (suc at) lower upper h = ap (λ l. g ∷ l) (split_before gs at lower upper (omega (arith, h)))

pub some_start : (n : ℕ) → nat_eq n 0 ≡ false → 0 < n
some_start zero e = cc
some_start (suc n) e = omega arith

pub is_zero : (n : ℕ) → nat_eq n 0 ≡ true → n ≡ 0
is_zero n e = grind (arith, e)

pub no_groups : (groups : Groups) → length groups ≡ 0 → groups ≡ []
no_groups [] e = refl
no_groups (g ∷ gs) e = absurd (omega (arith, e))

none_before : (k : ℕ) → joined (take k []) ≡ joined (take k ([] ∷ []))
none_before zero = refl
none_before (suc zero) = refl
none_before (suc (suc k)) = refl

-- the first group, which is empty, comes
pub first_starts : (starts : List Counts) → AreStarts starts [] → AreStarts starts ([] ∷ [])
first_starts starts h = λ k c e. subst (AreCountsOf c) (none_before k) (h k c e)

-- ---- one group more is counted

more_at : (starts : List Counts) (c : Counts) (P : ℕ → Counts → Type 0) → ((k : ℕ) (d : Counts) → slice_get starts k ≡ Some d → P k d) → P (length starts) c
    → (k : ℕ) (d : Counts) → slice_get (starts ++ c ∷ []) k ≡ Some d → P k d
more_at [] c P h p zero d e = let same : c ≡ d = cc in subst (P 0) same p
more_at [] c P h p (suc k) d e = cc
more_at (s ∷ ss) c P h p zero d e = h zero d e
more_at (s ∷ ss) c P h p (suc k) d e = more_at ss c (λ j. P (suc j)) (λ j x there. h (suc j) x there) p k d e

pub starts_more : (starts : List Counts) (groups : Groups) (c : Counts) → AreStarts starts groups → AreCountsOf c (joined (take (length starts) groups)) → AreStarts (starts ++ c ∷ []) groups
starts_more starts groups c h p = more_at starts c (λ k d. AreCountsOf d (joined (take k groups))) h p

-- ---- a row behind the groups that are counted

halves : (k : ℕ) (groups : Groups) → joined groups ≡ joined (take k groups) ++ joined (drop k groups)
halves zero groups = refl
halves (suc k) [] = refl
halves (suc k) (g ∷ gs) = ap (λ x. g ++ x) (halves k gs) ∙ sym (append_assoc g (joined (take k gs)) (joined (drop k gs)))

pub row_from : (entity : Entity) (groups : Groups) (k before i : ℕ) → before ≤ i → AreBefore entity groups k before → HaveRow entity i (joined groups)
    → IsRowOf entity (joined groups) i (joined (drop k groups)) (i - before)
row_from entity groups k before i le counted has = λ ttls expiry.
    let f = rows_of entity ttls expiry in
    let front = joined (take k groups) in
    let behind = joined (drop k groups) in
    let all : f (joined groups) ≡ f front ++ f behind = ap f (halves k groups) ∙ flat_map-append (node_rows entity ttls expiry) front behind in
    let place : i ≡ length (f front) + (i - before) = omega (arith, le, counted ttls expiry) in (
      omega (arith, le, counted ttls expiry, has ttls expiry, ap length all, length-append (f front) (f behind)),
      ap (λ l. slice_get l i) all ∙ get_right (f front) (f behind) i (i - before) place,
      λ d lt.
          let further : i + d ≡ length (f front) + ((i - before) + d) = omega (arith, le, counted ttls expiry) in
          ap (λ l. slice_get l (i + d)) all ∙ get_right (f front) (f behind) (i + d) ((i - before) + d) further,
    )
