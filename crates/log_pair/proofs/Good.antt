-- What each pair of images of a pair that can be called stands for.
use Rattle.std.proofs.Common.{◌≡◌, ℕ, ◌≤◌, nat_lt, false, List, refl, ◌∙◌, ap, arith}
use Rattle.std.proofs.lemmas.Bool.Decides.{nat_tests}
use Rattle.plain_laws.proofs.Booleans.{if_false, if_true}
use Rattle.log_spec.specs.Image.{Image, closed, damaged, standing}
use Rattle.log_spec.specs.ImageOf.{image_of}
use Rattle.log_spec.specs.PairImage.{counts, pair_image}
use Rattle.log_spec.specs.declared.side.Side.{Side}
use Rattle.log_spec.specs.declared.side.Side.TheVariants.{A, B}
use Rattle.log_spec.proofs.Walks.{nat_lt-true}
use Rattle.record_log.specs.Log.{gate_of}
use Rattle.log_pair.specs.declared.pair.Pair.{Pair}
use Rattle.log_pair.specs.Pair.{side_of, log_of, newest_of, other_of, generation_of_pair, pair_frames, picked, AllPairs, IsPair, IsBehind, IsGood}
use Rattle.log_pair.specs.Turns.{old_image}

not_below : (g h : ℕ) → h ≤ g → nat_lt g h ≡ false
not_below g h le = grind (arith, nat_tests)

-- beside one that is behind it a file counts
counts_a : (g : ℕ) (fs : List (List ℕ)) (q : ℕ) (y : Image) → IsBehind A g y → pair_image (standing g fs q) y ≡ counts A g fs q
counts_a g fs q closed behind = refl
counts_a g fs q (damaged at) behind = absurd behind
counts_a g fs q (standing h gs p) behind = if_false (nat_lt g h) (counts B h gs p) (counts A g fs q) (not_below g h behind)

counts_b : (g : ℕ) (fs : List (List ℕ)) (q : ℕ) (x : Image) → IsBehind B g x → pair_image x (standing g fs q) ≡ counts B g fs q
counts_b g fs q closed behind = refl
counts_b g fs q (damaged at) behind = absurd behind
counts_b g fs q (standing h gs p) behind = if_true (nat_lt h g) (counts B g fs q) (counts A h gs p) (nat_lt-true h g behind)

module _ {D : Type 0} (may_leave : D → List ℕ → Type 0) where
  by_side : (s : Side) (one other : D) (g : ℕ) (fs : List (List ℕ)) (q : ℕ) → ((c : List ℕ) → may_leave one c → image_of c ≡ standing g fs q) → ((e : List ℕ) → may_leave other e → IsBehind s g (image_of e))
      → (a b : List ℕ) → may_leave (picked A s one other) a → may_leave (picked B s one other) b → IsPair (counts s g fs q) a b
  by_side A one other g fs q stands behind a b is_a is_b = ap (λ (x : Image). pair_image x (image_of b)) (stands a is_a) ∙ counts_a g fs q (image_of b) (behind b is_b)
  by_side B one other g fs q stands behind a b is_a is_b = ap (λ (y : Image). pair_image (image_of a) y) (stands b is_b) ∙ counts_b g fs q (image_of a) (behind a is_a)

pub good_pairs : {D : Type 0} (seen : D → List ℕ) (may_leave : D → List ℕ → Type 0) (pair : Pair D) → IsGood seen may_leave pair → AllPairs may_leave pair (IsPair (old_image seen pair))
good_pairs seen may_leave pair good =
    by_side may_leave (side_of pair) (newest_of pair) (other_of pair) (generation_of_pair pair) (pair_frames seen pair) (gate_of (log_of pair)) good.log good.other
