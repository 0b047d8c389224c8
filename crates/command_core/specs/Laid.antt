-- Initialized files can be opened.
use Rattle.std.specs.Prelude.{ℕ, List}
use Rattle.core_layout.specs.fleet_rows.declared.settings.Ttls.{Ttls}
use Rattle.core_layout.specs.log_spec.ImageOf.{image_of}
use Rattle.core_layout.specs.log_spec.PairImage.{pair_image}
use Rattle.core_layout.specs.core_spec.History.{History}
use Rattle.core_layout.specs.core_spec.Files as laid
use Rattle.core_opening.specs.declared.faults.FileName.{FileName}
use Rattle.core_opening.specs.Opened.{IsCoreDamage}
use Rattle.core_opening.specs.Opened as opened

-- Files that stand for a history by the spelling of their records stand for it by what is read from them.
abbrev pub LaidFilesStand : Type 0
LaidFilesStand = (ttls : Ttls) (history : History) (qa qb sa sb : List ℕ) → laid.FilesStand ttls history qa qb sa sb → opened.FilesStand ttls qa qb sa sb history

-- such files have no damage
abbrev pub LaidFilesAreUndamaged : Type 0
LaidFilesAreUndamaged = (ttls : Ttls) (history : History) (qa qb sa sb : List ℕ) → laid.FilesStand ttls history qa qb sa sb
    → (file : FileName) (at : ℕ) → IsCoreDamage (pair_image (image_of qa) (image_of qb)) (pair_image (image_of sa) (image_of sb)) file at → ⊥
