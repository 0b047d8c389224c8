-- Marks, one after the other.
use Rattle.std.proofs.Common.{◌≡◌, ℕ, List, [], ◌∷◌, ◌++◌, append_assoc, refl, ap}
use Rattle.pattern_memory.specs.Marks.{Reading, step, walk, with_pattern, with_text}
use Rattle.pattern_memory.specs.declared.mark.Mark.{Mark}
use Rattle.pattern_memory.specs.declared.mark.Mark.TheVariants.{Pattern, Text}

pub walk_one : (r : Reading) (marks : List (Mark × ℕ)) (m : Mark × ℕ) → walk r (marks ++ m ∷ []) ≡ step (walk r marks) m.0
walk_one r [] m = refl
walk_one r (x ∷ xs) m = walk_one (step r x.0) xs m

pub pattern_on : (r : Reading) (byte : ℕ) (more : List ℕ) → with_pattern (step r (Pattern byte)) more ≡ with_pattern r (byte ∷ more)
pattern_on r byte more = ap (λ p. record { pattern = p; text = r.text; acts = r.acts }) (append_assoc r.pattern (byte ∷ []) more)

pub text_on : (r : Reading) (byte : ℕ) (more : List ℕ) → with_text (step r (Text byte)) more ≡ with_text r (byte ∷ more)
text_on r byte more = ap (λ t. record { pattern = r.pattern; text = t; acts = r.acts }) (append_assoc r.text (byte ∷ []) more)
