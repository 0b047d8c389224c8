use Rattle.std.proofs.Common.{subst}
use Rattle.log_spec.specs.PairImage.{PairImage, IsPairImage}
use Rattle.log_spec.proofs.Pairs.{is_pair_image, one_pair_image, pair_image_is}
use Rattle.log_spec.proofs.laws.each_pair_has_one_image.Goals as goal

pub returns-clause-some : goal.returns-clause-some
returns-clause-some c a b = is_pair_image a b

pub returns-clause-one : goal.returns-clause-one
returns-clause-one c a b = one_pair_image a b

pub returns-clause-same : goal.returns-clause-same
returns-clause-same c a b image = (λ is. subst (λ (i : PairImage). IsPairImage a b i) is (is_pair_image a b), pair_image_is a b image)
