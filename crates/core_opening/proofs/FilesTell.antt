-- What two files say of the frames that were read of them.
use Rattle.std.proofs.Common.{◌≡◌, ℕ, ◌+◌, ◌-◌, ◌^◌, ◌<◌, min, List, refl, sym, subst}
use Rattle.core_state.specs.log_spec.ImageOf.{image_of}
use Rattle.core_state.specs.log_spec.PairImage.{PairImage, counts, pair_image}
use Rattle.core_state.specs.log_spec.declared.side.Side.{Side}
use Rattle.core_state.specs.log_spec.declared.side.Side.TheVariants.{A, B}
use Rattle.core_state.specs.fleet_keeper.Opened.{gate_at}
use Rattle.core_state.proofs.of_fleet_keeper.Openings.{place_is}
use Rattle.core_opening.specs.Replayed.{IsQueueDamaged}
use Rattle.core_opening.specs.Opened.{queue_name, IsQueueDamageOf, IsQueueDamageAt}

-- ---- the file of a damage

queue_at_name : (image : PairImage) (side : Side) (at : ℕ) → IsQueueDamageOf image side at → IsQueueDamageAt image (queue_name side) at
queue_at_name image A at damage = damage
queue_at_name image B at damage = damage

module _ (a b : List ℕ) (g : ℕ) (fs : List (List ℕ)) (q : ℕ) (side : Side) (small : q + 1 < 2 ^ 64) (is : pair_image (image_of a) (image_of b) ≡ counts side g fs q) where
  pub queue_frame_damaged : (at index : ℕ) → IsQueueDamaged fs index → at ≡ min (gate_at fs index) (2 ^ 64 - 1) → IsQueueDamageAt (pair_image (image_of a) (image_of b)) (queue_name side) at
  queue_frame_damaged at index damaged place =
      queue_at_name (pair_image (image_of a) (image_of b)) side at (subst (λ (i : PairImage). IsQueueDamageOf i side at) (sym is) (refl, (index, damaged, place_is a b g fs q side at index small is place)))
