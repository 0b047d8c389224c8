-- The laws of a keeper over a pair.
use Rattle.std.proofs.Common.{◌≡◌, ℕ, List, Option, ap, ◌∙◌, sym}
use Rattle.log_pair.specs.log_spec.ImageOf.{image_of}
use Rattle.log_pair.specs.log_spec.PairImage.{pair_image}
use Rattle.log_pair.specs.declared.pair.Pair.{Pair}
use Rattle.log_pair.specs.Pair.{disk_a, disk_b, IsGood}
use Rattle.log_pair.specs.Turns.{old_image}
use Rattle.log_pair.proofs.Good.{good_pairs}
use Rattle.fleet_keeper.specs.Records.{AllAre, records_in}
use Rattle.fleet_keeper.specs.Pairs.{pair_records, PairImages}

module _ {A D : Type 0} (read : List ℕ → Option A) (seen : D → List ℕ) (may_leave : D → List ℕ → Type 0) (pair : Pair D) (good : IsGood seen may_leave pair) where
  -- in each two images this file counts, with this generation
  pub image_is : (a b : List ℕ) → may_leave (disk_a pair) a → may_leave (disk_b pair) b → pair_image (image_of a) (image_of b) ≡ old_image seen pair
  image_is = good_pairs seen may_leave pair good

  -- a pair that can be called has one image, as records
  pub one_image : AllAre (PairImages read may_leave pair) (pair_records read seen pair)
  one_image o image = image.4 ∙ ap (records_in read) (good_pairs seen may_leave pair good image.0 image.1 image.2 image.3)

  -- that image is what a read gives
  pub seen_image : may_leave (disk_a pair) (seen (disk_a pair)) → may_leave (disk_b pair) (seen (disk_b pair)) → PairImages read may_leave pair (pair_records read seen pair)
  seen_image a b = (seen (disk_a pair), seen (disk_b pair), a, b, sym (ap (records_in read) (good_pairs seen may_leave pair good (seen (disk_a pair)) (seen (disk_b pair)) a b)))
