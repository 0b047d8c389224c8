-- The acts that a list of marks spells.
use Rattle.std.specs.Prelude.{ℕ, List, [], ◌∷◌, ◌++◌}
use Rattle.pattern_port.specs.Course.{Act, read, tried}
use Rattle.pattern_memory.specs.declared.mark.Mark.{Mark}
use Rattle.pattern_memory.specs.declared.mark.Mark.TheVariants.{Begin, Pattern, Text, Read, Tried}

-- the texts of the act being spelled, and the acts before it
pub record Reading : Type 0 where
  pub pattern : List ℕ
  pub text : List ℕ
  pub acts : List Act

abbrev pub step : Reading → Mark → Reading
step r Begin = record { pattern = []; text = []; acts = r.acts }
step r (Pattern byte) = record { pattern = r.pattern ++ byte ∷ []; text = r.text; acts = r.acts }
step r (Text byte) = record { pattern = r.pattern; text = r.text ++ byte ∷ []; acts = r.acts }
step r (Read refused) = record { pattern = r.pattern; text = r.text; acts = r.acts ++ read r.pattern refused ∷ [] }
step r Tried = record { pattern = r.pattern; text = r.text; acts = r.acts ++ tried r.pattern r.text ∷ [] }

abbrev pub walk : Reading → List (Mark × ℕ) → Reading
walk r [] = r
walk r (m ∷ ms) = walk (step r m.0) ms

abbrev pub reading_of : List (Mark × ℕ) → Reading
reading_of = walk (record { pattern = []; text = []; acts = [] })

abbrev pub acts_of : List (Mark × ℕ) → List Act
acts_of marks = (reading_of marks).acts

abbrev pub with_pattern : Reading → List ℕ → Reading
with_pattern r more = record { pattern = r.pattern ++ more; text = r.text; acts = r.acts }

abbrev pub with_text : Reading → List ℕ → Reading
with_text r more = record { pattern = r.pattern; text = r.text ++ more; acts = r.acts }
