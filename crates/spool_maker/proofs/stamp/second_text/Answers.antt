use Rattle.std.proofs.Common.{[], ◌∷◌}
use Rattle.made_spec.specs.Made.{second_text}
use Rattle.spool_maker.proofs.stamp.second_text.Goals as goal

pub returns : goal.returns
unfolding second_text
returns c = λ i. 50 ∷ 48 ∷ 50 ∷ 52 ∷ 45 ∷ 48 ∷ 53 ∷ 45 ∷ 48 ∷ 49 ∷ 84 ∷ c.digit.ensures i ∷ c.digit-2.ensures i ∷ 58 ∷ c.digit-3.ensures i ∷ c.digit-4.ensures i ∷ 58 ∷ c.digit-5.ensures i ∷ c.digit-6.ensures i ∷ 90 ∷ []
