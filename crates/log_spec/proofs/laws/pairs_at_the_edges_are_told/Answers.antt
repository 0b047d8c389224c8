use Rattle.std.proofs.Common.{◌≡◌, [], ℕ, List, take, set, refl, subst}
use Rattle.log_spec.specs.declared.side.Side.TheVariants.{A, B}
use Rattle.log_spec.specs.Example.{store_file, store_frames, bare_file}
use Rattle.log_spec.specs.ImageOf.{image_of, walk}
use Rattle.log_spec.specs.PairImage.{PairImage, IsPairImage, broken, counts, pair_image}
use Rattle.log_spec.proofs.Pairs.{is_pair_image}
use Rattle.log_spec.proofs.laws.pairs_at_the_edges_are_told.Goals as goal

told : (a b : List ℕ) (image : PairImage) → pair_image (image_of a) (image_of b) ≡ image → IsPairImage a b image
told a b image is = subst (λ (i : PairImage). IsPairImage a b i) is (is_pair_image a b)

pub returns-clause-none : goal.returns-clause-none
unfolding image_of walk
returns-clause-none c = told (take 16 bare_file) [] (broken A 0) refl

pub returns-clause-first_is_damaged : goal.returns-clause-first_is_damaged
unfolding image_of walk
returns-clause-first_is_damaged c = told (set bare_file 16 1) (set store_file 7 50) (broken A 16) refl

pub returns-clause-second_is_damaged : goal.returns-clause-second_is_damaged
unfolding image_of walk
returns-clause-second_is_damaged c = told store_file (set bare_file 16 1) (broken B 16) refl

pub returns-clause-second_alone : goal.returns-clause-second_alone
unfolding image_of walk
returns-clause-second_alone c = told [] store_file (counts B 1 store_frames 43) refl

pub returns-clause-second_is_newer : goal.returns-clause-second_is_newer
unfolding image_of walk
returns-clause-second_is_newer c = told store_file bare_file (counts B 7 [] 16) refl

pub returns-clause-as_new : goal.returns-clause-as_new
unfolding image_of walk
returns-clause-as_new c = told (set bare_file 8 1) store_file (counts A 1 [] 16) refl
