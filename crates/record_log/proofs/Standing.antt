-- The frames of a log are those of each image, and so of what a read gives.
use Rattle.std.proofs.Common.{ℕ, List, sym, ◌∙◌, ap}
use Rattle.log_spec.specs.Image.{standing}
use Rattle.log_spec.specs.ImageOf.{image_of, frames_in}
use Rattle.record_log.specs.Log.{AllStand}

pub restands : {D : Type 0} (seen : D → List ℕ) (may_leave : D → List ℕ → Type 0) (Told : Type 0) (stays : (d : D) → Told → may_leave d (seen d)) (told : (d : D) (c : List ℕ) → may_leave d c → Told)
    (disk : D) (generation : ℕ) (frames : List (List ℕ)) (gate : ℕ) → AllStand (may_leave disk) (standing generation frames gate)
    → AllStand (may_leave disk) (standing generation (frames_in (image_of (seen disk))) gate)
restands seen may_leave Told stays told disk generation frames gate stand c left =
    let is = stand (seen disk) (stays disk (told disk c left)) in
    stand c left ∙ ap (λ (fs : List (List ℕ)). standing generation fs gate) (sym (ap frames_in is))
