-- The bytes of a link up to its bound.
use Rattle.std.proofs.Common.{◌≡◌, ◌∙◌, ℕ, zero, suc, ◌+◌, ◌-◌, ◌≤◌, List, [], ◌++◌, length, take, arith, refl, sym, ap, subst, Option, Some, None, length-append}
use Rattle.std.proofs.lemmas.List.{length-take-le, take-append-le}
use Rattle.std.specs.Io.KnownBytes.{Keeps, Consumes, IsAtEnd}
use Rattle.http_spec.proofs.of_plain_laws.ReadAhead.{take_past}
use Rattle.http_front.specs.Link.{limited}
use Rattle.http_spec.specs.Limits.{most_link}

take_nothing : (n : ℕ) → take {A = ℕ} n [] ≡ []
take_nothing zero = refl
take_nothing (suc n) = refl

consumed : (t n : ℕ) (a b : Option (List ℕ)) (f : List ℕ) → length f ≡ n → n ≤ most_link - t → Consumes a b f → Consumes (limited t a) (limited (t + n) b) f
consumed t n None b f l k h = tt
consumed t n (Some x) None f l k h = absurd h
consumed t n (Some x) (Some y) f l k h =
    ap (take (most_link - t)) h ∙ take_past f y (most_link - t) (most_link - (t + n)) (omega (arith, l, k))

-- bytes that were read into the front of a room
pub taken_some : (t n : ℕ) (a b : Option (List ℕ)) (part rest : List ℕ) → 1 ≤ n → n ≤ length part → length part ≤ most_link - t → Consumes a b (take n part)
    → (1 ≤ n) × (n ≤ length (part ++ rest)) × Consumes (limited t a) (limited (t + n) b) (take n (part ++ rest))
taken_some t n a b part rest some k l h = (
  some,
  omega (arith, k, length-append part rest),
  subst (Consumes (limited t a) (limited (t + n) b)) (sym (take-append-le n part rest k)) (consumed t n a b (take n part) (length-take-le n part k) (omega (arith, k, l)) h),
)

pub still_kept : (t : ℕ) (a b : Option (List ℕ)) → Keeps a b → Keeps (limited t a) (limited t b)
still_kept t None b h = tt
still_kept t (Some x) None h = h
still_kept t (Some x) (Some y) h = ap (take (most_link - t)) h

pub still_ended : (t : ℕ) (b : Option (List ℕ)) → IsAtEnd b → IsAtEnd (limited t b)
still_ended t None h = tt
still_ended t (Some x) h = ap (take (most_link - t)) h ∙ take_nothing (most_link - t)

none_taken : (n : ℕ) (xs : List ℕ) → n ≡ 0 → take n xs ≡ []
none_taken n xs h = ap (λ k. take k xs) h

pub bound_ended : (t : ℕ) (b : Option (List ℕ)) → most_link - t ≡ 0 → IsAtEnd (limited t b)
bound_ended t None h = tt
bound_ended t (Some x) h = none_taken (most_link - t) x h

-- what was read ahead, and then taken
pub after_kept : (a b c : Option (List ℕ)) (f : List ℕ) → Keeps a b → Consumes b c f → Consumes a c f
after_kept None b c f h k = tt
after_kept (Some x) None c f h k = absurd h
after_kept (Some x) (Some y) None f h k = k
after_kept (Some x) (Some y) (Some z) f h k = sym h ∙ k
