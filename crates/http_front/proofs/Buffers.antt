-- What a body takes of the buffer, and when the link is asked for more.
use Rattle.std.proofs.Common.{◌≡◌, ◌∙◌, ◌⊎◌, inl, inr, ℕ, ◌+◌, ◌≤◌, ◌<◌, List, [], ◌∷◌, ◌++◌, length, take, arith, refl, ap, subst, Option, length-append}
use Rattle.std.specs.Prelude.{slice_range}
use Rattle.std.proofs.lemmas.List.{length-take-le}
use Rattle.std.specs.Io.KnownBytes.{Consumes, Keeps, prepend_known}
use Rattle.std.proofs.KnownBytes.{Consumes-kept, prepend_known-nil}
use Rattle.http_spec.proofs.of_plain_laws.ReadAhead.{written, more_range}
use Rattle.http_front.specs.Inside.{IsShort}

-- the buffer grows by what was read
pub grows_by : (items r into post v old : List ℕ) (len s e n : ℕ) → s ≡ 0 → r ≡ items → slice_range items s e ≡ old → e ≤ length r → 1 ≤ n → n ≤ length into → e + n ≤ len
    → (fresh : List ℕ) × (0 < length fresh) × (slice_range (written len e r into post v) s (e + n) ≡ old ++ fresh)
grows_by items r into post v old len s e n zero_start same is_old h some k l =
    let size : length (take n into) ≡ n = length-take-le n into k in
    (take n into, omega (arith, size, some), more_range items r into post v old len s e n zero_start same is_old h k l)

-- ---- the link is asked only where the buffered bytes don't do

some_or_none : (n : ℕ) → (n ≡ 0) ⊎ (0 < n)
some_or_none n = grind arith

pub gave_of : (n : ℕ) (into old new : List ℕ) → n ≤ length into → old ≡ take n into ++ new → n + length new ≡ length old
gave_of n into old new h e =
    let count = length-take-le n into h in
    let all = ap length e in
    omega (arith, count, all, length-append (take n into) new)

-- so far a body came from the buffer alone, or the buffer had less than the body
pub asks_more : {X : Type 0} (start now next : X) (filled n had has all size : ℕ) → ((now ≡ start) × (filled + had ≡ all)) ⊎ (all < size) → filled < size → (0 < had → (next ≡ now) × (n + has ≡ had))
    → ((next ≡ start) × ((filled + n) + has ≡ all)) ⊎ (all < size)
asks_more start now next filled n had has all size (inr short) inside h = inr short
asks_more start now next filled n had has all size (inl same) inside h = by_count (some_or_none had)
  where
    by_count : (had ≡ 0) ⊎ (0 < had) → ((next ≡ start) × ((filled + n) + has ≡ all)) ⊎ (all < size)
    by_count (inl none) = let count = same.1 in inr (omega (arith, count, none, inside))
    by_count (inr some) = let gave = h some in let count = same.1 in let left = gave.1 in inl (gave.0 ∙ same.0, omega (arith, count, left))

pub asks_end : {X : Type 0} (start now : X) (filled had all size : ℕ) → ((now ≡ start) × (filled + had ≡ all)) ⊎ (all < size) → filled < size → (0 < had → ⊥) → all < size
asks_end start now filled had all size (inr short) inside h = short
asks_end start now filled had all size (inl same) inside h = by_count (some_or_none had)
  where
    by_count : (had ≡ 0) ⊎ (0 < had) → all < size
    by_count (inl none) = let count = same.1 in omega (arith, count, none, inside)
    by_count (inr some) = absurd (h some)

-- a read failed behind a part of the body
no_bytes : (bs : List ℕ) → length bs ≡ 0 → bs ≡ []
no_bytes [] h = refl
no_bytes (b ∷ bs) h = absurd (omega (arith, h))

pub stops_short : (old mid rest : Option (List ℕ)) (bs body : List ℕ) (filled size : ℕ) → Consumes old mid (take filled body) → Keeps mid (prepend_known bs rest) → length bs ≡ 0 → filled ≤ length body → filled < size
    → IsShort size old rest
stops_short old mid rest bs body filled size gone kept none inside fewer = record {
  part = take filled body;
  is_taken =
      subst (λ r. Consumes old r (take filled body)) (ap (λ xs. prepend_known xs rest) (no_bytes bs none) ∙ prepend_known-nil rest)
      (Consumes-kept old mid (prepend_known bs rest) (take filled body) gone kept);
  short = omega (arith, length-take-le filled body inside, fewer);
}
