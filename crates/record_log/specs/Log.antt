-- What contracts see of a log, and what the images of its disk stand for.
use Rattle.std.specs.Prelude.{◌≡◌, ◌⊎◌, ℕ, ◌+◌, Bool, List, [], ◌∷◌, ◌++◌, length}
use Rattle.fleet_ports.specs.Disks.{Torn}
use Rattle.log_spec.specs.Image.{Image, standing}
use Rattle.log_spec.specs.ImageOf.{image_of, frames_in}
use Rattle.record_log.specs.declared.log.Log.{Log}
use Rattle.record_log.specs.declared.put.Appended.{Appended}
use Rattle.record_log.specs.declared.put.Appended.TheVariants as appended

abbrev pub disk_of : {D : Type 0} → Log D → D
disk_of log = log.disk

abbrev pub generation_of : {D : Type 0} → Log D → ℕ
generation_of log = log.generation

-- the offset of the first closed gate
abbrev pub gate_of : {D : Type 0} → Log D → ℕ
gate_of log = log.gate.place

-- the bytes up to and including the first closed gate
abbrev pub size_of : {D : Type 0} → Log D → ℕ
size_of log = log.gate.place + 1

abbrev pub down_of : {D : Type 0} → Log D → Bool
down_of log = log.down

-- each of the files has this image
abbrev pub AllStand : (List ℕ → Type 0) → Image → Type 0
AllStand images image = (c : List ℕ) → images c → image_of c ≡ image

-- one of the files, in which a write tore n bytes from `at` on
abbrev pub TornFrom : (List ℕ → Type 0) → ℕ → ℕ → List ℕ → Type 0
TornFrom images at n c = (d : List ℕ) × images d × Torn at n d c

-- the image with one more frame
abbrev pub grown : ℕ → List (List ℕ) → ℕ → List ℕ → Image
grown generation frames gate frame = standing generation (frames ++ frame ∷ []) (gate + 5 + length frame)

-- the file stands for the old frames, or for those and one more
abbrev pub IsOldOrNew : ℕ → List (List ℕ) → ℕ → List ℕ → List ℕ → Type 0
IsOldOrNew generation frames gate frame c = (image_of c ≡ standing generation frames gate) ⊎ (image_of c ≡ grown generation frames gate frame)

-- the images after a frame was appended or refused
abbrev pub AfterPut : Appended → ℕ → List (List ℕ) → ℕ → List ℕ → (List ℕ → Type 0) → Type 0
AfterPut appended.Ok generation frames gate frame images = AllStand images (grown generation frames gate frame)
AfterPut appended.Down generation frames gate frame images = (c : List ℕ) → images c → IsOldOrNew generation frames gate frame c
AfterPut appended.Failed generation frames gate frame images = AllStand images (standing generation frames gate)
AfterPut appended.Memory generation frames gate frame images = AllStand images (standing generation frames gate)
AfterPut appended.TooLong generation frames gate frame images = AllStand images (standing generation frames gate)

-- each image of the log's disk is open with the log's generation, these frames and its gate
abbrev pub StandsFor : {D : Type 0} → (D → List ℕ → Type 0) → Log D → List (List ℕ) → Type 0
StandsFor may_leave log frames = AllStand (may_leave log.disk) (standing log.generation frames log.gate.place)

-- the frames in what the disk gives to a read
abbrev pub log_frames : {D : Type 0} → (D → List ℕ) → Log D → List (List ℕ)
log_frames seen log = frames_in (image_of (seen log.disk))

-- the answers that report a disk fault
abbrev pub IsFaulty : Appended → Type 0
IsFaulty appended.Ok = ⊥
IsFaulty appended.Failed = Unit {0}
IsFaulty appended.Down = Unit {0}
IsFaulty appended.Memory = ⊥
IsFaulty appended.TooLong = ⊥

-- the answers after which the old frames remain
abbrev pub IsRefusal : Appended → Type 0
IsRefusal appended.Ok = ⊥
IsRefusal appended.Down = ⊥
IsRefusal appended.Failed = Unit {0}
IsRefusal appended.Memory = Unit {0}
IsRefusal appended.TooLong = Unit {0}
