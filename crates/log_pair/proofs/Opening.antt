-- A file that may be closed or laid beside a closed one.
use Rattle.std.proofs.Common.{◌≡◌, ◌⊎◌, inl, inr, ℕ, List, ◌∙◌, ap}
use Rattle.log_spec.specs.Image.{Image, closed}
use Rattle.log_spec.specs.ImageOf.{image_of, laid_image}
use Rattle.log_spec.specs.PairImage.{pair_image}
use Rattle.log_pair.specs.Lay.{IsOpeningPair}

pub opening : (frames : List (List ℕ)) (a b : List ℕ) → (image_of a ≡ closed) ⊎ (image_of a ≡ laid_image 1 frames) → image_of b ≡ closed → IsOpeningPair frames a b
opening frames a b (inl shut) other = inl (ap (λ (x : Image). pair_image x (image_of b)) shut ∙ ap (λ (y : Image). pair_image closed y) other)
opening frames a b (inr laid) other = inr (ap (λ (x : Image). pair_image x (image_of b)) laid ∙ ap (λ (y : Image). pair_image (laid_image 1 frames) y) other)
