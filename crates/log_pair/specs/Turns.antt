-- What a pair stands for within an append or a checkpoint, and what their answers say.
use Rattle.std.specs.Prelude.{◌⊎◌, ℕ, ◌+◌, List, [], ◌∷◌, ◌++◌, length}
use Rattle.log_spec.specs.ImageOf.{frame_texts}
use Rattle.log_spec.specs.PairImage.{PairImage, counts}
use Rattle.record_log.specs.Log.{generation_of, gate_of, log_frames}
use Rattle.log_pair.specs.declared.pair.Pair.{Pair}
use Rattle.log_pair.specs.declared.checkpoint.Checked.{Checked}
use Rattle.log_pair.specs.declared.checkpoint.Checked.TheVariants as checked
use Rattle.log_pair.specs.Pair.{flipped, IsPair}

-- what a pair stands for, from what a read gives
abbrev pub old_image : {D : Type 0} → (D → List ℕ) → Pair D → PairImage
old_image seen pair = counts pair.side (generation_of pair.log) (log_frames seen pair.log) (gate_of pair.log)

-- the same with one more frame
abbrev pub grown_image : {D : Type 0} → (D → List ℕ) → Pair D → List ℕ → PairImage
grown_image seen pair frame =
    counts pair.side (generation_of pair.log) (log_frames seen pair.log ++ frame ∷ []) (gate_of pair.log + 5 + length frame)

-- these frames in the other file, with the next generation
abbrev pub renewed_image : {D : Type 0} → Pair D → List (List ℕ) → PairImage
renewed_image pair frames = counts (flipped pair.side) (generation_of pair.log + 1) frames (16 + length (frame_texts frames))

-- one or the other
abbrev pub IsEither : PairImage → PairImage → List ℕ → List ℕ → Type 0
IsEither one other a b = IsPair one a b ⊎ IsPair other a b

-- the answers that report a disk fault
abbrev pub IsCheckFault : Checked → Type 0
IsCheckFault checked.Ok = ⊥
IsCheckFault checked.Failed = Unit {0}
IsCheckFault checked.Down = Unit {0}
IsCheckFault checked.Spent = ⊥
IsCheckFault checked.TooLong = ⊥

-- the answers after which the old frames remain
abbrev pub IsCheckRefusal : Checked → Type 0
IsCheckRefusal checked.Ok = ⊥
IsCheckRefusal checked.Failed = Unit {0}
IsCheckRefusal checked.Down = ⊥
IsCheckRefusal checked.Spent = Unit {0}
IsCheckRefusal checked.TooLong = Unit {0}
