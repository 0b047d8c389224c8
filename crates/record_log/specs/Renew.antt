-- What the images of a disk stand for after an attempt to lay a new file over an old one.
use Rattle.std.specs.Prelude.{ℕ, List}
use Rattle.fleet_ports.specs.Disks.{NoMore}
use Rattle.log_spec.specs.ImageOf.{laid_image}
use Rattle.record_log.specs.Log.{AllStand}
use Rattle.record_log.specs.Lay.{IsLaying, IsOldOrClosed}
use Rattle.record_log.specs.declared.renewal.Renewed.{Renewed}
use Rattle.record_log.specs.declared.renewal.Renewed.TheVariants as renewed

abbrev pub AfterRenew : Renewed → (List ℕ → Type 0) → (List ℕ → Type 0) → ℕ → List (List ℕ) → Type 0
AfterRenew renewed.Done old new generation frames = AllStand new (laid_image generation frames)
AfterRenew renewed.Failed old new generation frames = (c : List ℕ) → new c → IsOldOrClosed old c
AfterRenew renewed.Down old new generation frames = (c : List ℕ) → new c → IsLaying old generation frames c
AfterRenew renewed.TooLong old new generation frames = NoMore old new

-- the answers that report a disk fault
abbrev pub IsRenewFault : Renewed → Type 0
IsRenewFault renewed.Done = ⊥
IsRenewFault renewed.Failed = Unit {0}
IsRenewFault renewed.Down = Unit {0}
IsRenewFault renewed.TooLong = ⊥
