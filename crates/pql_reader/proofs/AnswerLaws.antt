-- From the level that a text spells, or the place where it goes wrong, to what it is answered.
use Rattle.std.proofs.Common.{◌≡◌, ◌≤◌, ℕ, List, length, Result, Ok, Err, refl, sym}
use Rattle.query_spec.specs.Query.{Level}
use Rattle.pql_spec.specs.Texts as texts
use Rattle.pql_spec.specs.Texts.{TextSpells, checked, spelt}
use Rattle.pql_reader.specs.declared.read.PqlFault.{PqlFault}
use Rattle.pql_reader.specs.declared.read.PqlFault.TheVariants.{TooLong, PqlBad, UnknownEntity, UnknownField, BadOperand, Memory}
use Rattle.pql_reader.specs.Answered.{Answers, Answered}
use Rattle.query_spec.specs.Limits.{most_query}

-- the level that the text spells is answered
pub answered : (text : List ℕ) (q : Level) (r : Result Level PqlFault) → length text ≤ most_query → TextSpells text q → Answers r (checked q) → Answered text r
answered text q (Ok p) f s a = spelt q f s (sym a)
answered text q (Err TooLong) f s a = spelt q f s (sym a)
answered text q (Err (PqlBad at)) f s a = spelt q f s (sym a)
answered text q (Err (UnknownEntity p)) f s a = spelt q f s (sym a)
answered text q (Err (UnknownField p)) f s a = spelt q f s (sym a)
answered text q (Err (BadOperand p)) f s a = spelt q f s (sym a)
answered text q (Err Memory) f s a = tt
