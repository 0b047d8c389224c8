-- Lists that differ in order alone: each test counts the same in them.
use Rattle.std.proofs.Common.{◌≡◌, ◌∙◌, suc, List, ◌∷◌, refl, sym, ap, length, Bool, true, false, cond, ◌&&◌}
use Rattle.std.specs.List.{filter}
use Rattle.history_laws.proofs.Filters.{filter-filter}
use Rattle.history_laws.proofs.SameMembers.{SameMembers, same_members-refl, same_members-through, same_members-cons, same_members-swapped}

abbrev pub SameCounts : {X : Type 0} → List X → List X → Type 0
SameCounts {X} xs ys = (p : X → Bool) → length (filter p xs) ≡ length (filter p ys)

-- and so have the same elements
pub record Rearranged {X : Type 0} (xs ys : List X) : Type 0 where
  pub members : SameMembers xs ys
  pub counts : SameCounts xs ys

module _ {X : Type 0} where
  pub same_counts-through : (xs ys zs : List X) → SameCounts xs ys → SameCounts ys zs → SameCounts xs zs
  same_counts-through xs ys zs h k = λ p. h p ∙ k p

  cons_step : (b : Bool) (x : X) (xs ys : List X) → length xs ≡ length ys → length (cond b (x ∷ xs) xs) ≡ length (cond b (x ∷ ys) ys)
  cons_step true x xs ys h = ap suc h
  cons_step false x xs ys h = h

  pub same_counts-cons : (x : X) (xs ys : List X) → SameCounts xs ys → SameCounts (x ∷ xs) (x ∷ ys)
  same_counts-cons x xs ys h = λ p. cons_step (p x) x (filter p xs) (filter p ys) (h p)

  swap_step : (b c : Bool) (x y : X) (xs : List X) → length (cond b (x ∷ cond c (y ∷ xs) xs) (cond c (y ∷ xs) xs)) ≡ length (cond c (y ∷ cond b (x ∷ xs) xs) (cond b (x ∷ xs) xs))
  swap_step true true x y xs = refl
  swap_step true false x y xs = refl
  swap_step false true x y xs = refl
  swap_step false false x y xs = refl

  pub same_counts-swapped : (x y : X) (xs : List X) → SameCounts (x ∷ y ∷ xs) (y ∷ x ∷ xs)
  same_counts-swapped x y xs = λ p. swap_step (p x) (p y) x y (filter p xs)

  -- what two tests leave that agree
  pub same_counts-filter : (q r : X → Bool) (xs ys : List X) → ((x : X) → q x ≡ r x) → SameCounts xs ys → SameCounts (filter q xs) (filter r ys)
  same_counts-filter q r xs ys same h =
      λ p. ap length (filter-filter p q xs) ∙ h (λ x. q x && p x) ∙ ap length (sym (filter-filter p q ys)) ∙ (λ i. length (filter p (filter (λ x. same x i) ys)))

  pub rearranged-refl : (xs : List X) → Rearranged xs xs
  rearranged-refl xs = record { members = same_members-refl xs; counts = λ p. refl }

  -- the same element in front, and then the first two change places
  pub rearranged-second : (x y : X) (xs ys : List X) → Rearranged xs (y ∷ ys) → Rearranged (x ∷ xs) (y ∷ x ∷ ys)
  rearranged-second x y xs ys h = record {
    members = same_members-through (x ∷ xs) (x ∷ y ∷ ys) (y ∷ x ∷ ys) (same_members-cons x xs (y ∷ ys) h.members) (same_members-swapped x y ys);
    counts = same_counts-through (x ∷ xs) (x ∷ y ∷ ys) (y ∷ x ∷ ys) (same_counts-cons x xs (y ∷ ys) h.counts) (same_counts-swapped x y ys);
  }
