-- What opening a keeper answers about frames and about two files.
use Rattle.std.specs.Prelude.{◌≡◌, ℕ, ◌+◌, ◌-◌, ◌^◌, min, List, map, length, take, Option, Some, None, Result, Ok, Err}
use Rattle.log_pair.specs.log_spec.ImageOf.{frame_texts}
use Rattle.log_pair.specs.log_spec.PairImage.{PairImage, broken, counts}
use Rattle.log_pair.specs.log_spec.declared.side.Side.{Side}
use Rattle.log_pair.specs.declared.opened.PairFault.{PairFault}
use Rattle.log_pair.specs.declared.opened.PairFault.TheVariants.{Damaged, DiskFault, Memory}
use Rattle.log_pair.specs.Pair.{side_of, generation_of_pair, size_of_pair, disk_a, disk_b}
use Rattle.core_spec.specs.record_spec.declared.store.StoreRecord.{StoreRecord}
use Rattle.store_records.specs.Reading.{store_at}
use Rattle.core_spec.specs.Damage.{AreKept, IsStoreLog, IsDamagedFrame}
use Rattle.fleet_keeper.specs.declared.frames.Unread.{Unread}
use Rattle.fleet_keeper.specs.declared.frames.Unread.TheVariants as unread
use Rattle.fleet_keeper.specs.declared.log_keeper.LogKeeper.{LogKeeper}
use Rattle.fleet_keeper.specs.Keeper.{pair_of}
use Rattle.fleet_keeper.specs.Records.{read_all, records_in}

-- this record was read off the frame
abbrev pub IsRead : {A : Type 0} → Option A → A → Type 0
IsRead o x = o ≡ Some x

-- The frame at this index is the first that can't continue a log of the store. It is no record, or one that may not stand there;
-- or no frame is left, and the log has fewer than its first records.
abbrev pub IsDamaged : List (List ℕ) → ℕ → Type 0
IsDamaged frames index = IsDamagedFrame IsRead AreKept 2 (map store_at frames) index

-- the byte offset of the frame's gate in the file; the first gate stands at 16
abbrev pub gate_at : List (List ℕ) → ℕ → ℕ
gate_at frames index = 16 + length (frame_texts (take index frames))

-- the frames spell these records, which are a log of the store, or they are damaged at this offset
abbrev pub MatchRead : Result (List StoreRecord) Unread → List (List ℕ) → Type 0
MatchRead (Ok records) frames = (read_all store_at frames ≡ Some records) × IsStoreLog records
MatchRead (Err (unread.Damaged at)) frames = (index : ℕ) × IsDamaged frames index × (at ≡ min (gate_at frames index) (2 ^ 64 - 1))
MatchRead (Err unread.Memory) frames = Unit {0}

-- Two files are damaged at an offset of this file, by their bytes or at a frame that can't continue a log of the store.
abbrev pub IsDamageOf : PairImage → Side → ℕ → Type 0
IsDamageOf (broken side place) file at = (file ≡ side) × (at ≡ place)
IsDamageOf (counts side generation frames gate) file at = (file ≡ side) × ((index : ℕ) × IsDamaged frames index × (at ≡ gate_at frames index))

-- the file that counts, its generation, and its number of bytes up to and including the first closed gate
abbrev pub head_in : PairImage → Option (Side × ℕ × ℕ)
head_in (broken side place) = None
head_in (counts side generation frames gate) = Some (side, generation, gate + 1)

-- Ok answers the records, which are a log of the store, and the file that counts. Damaged tells where the files are damaged.
-- DiskFault and Memory tell nothing about the files.
abbrev pub MatchKeeper : {D : Type 0} → Result (LogKeeper D × List StoreRecord) (PairFault × D × D) → PairImage → Type 0
MatchKeeper (Ok it) image =
    (records_in store_at image ≡ Some it.1) × (head_in image ≡ Some (side_of (pair_of it.0), generation_of_pair (pair_of it.0), size_of_pair (pair_of it.0)))
MatchKeeper (Err (Damaged file at, a, b)) image = IsDamageOf image file at
MatchKeeper (Err (DiskFault, a, b)) image = Unit {0}
MatchKeeper (Err (Memory, a, b)) image = Unit {0}

abbrev pub IsOpenFault : {D : Type 0} → Result (LogKeeper D × List StoreRecord) (PairFault × D × D) → Type 0
IsOpenFault (Ok it) = ⊥
IsOpenFault (Err (Damaged file at, a, b)) = ⊥
IsOpenFault (Err (DiskFault, a, b)) = Unit {0}
IsOpenFault (Err (Memory, a, b)) = ⊥

-- the first disk, in the keeper or handed back
abbrev pub first_disk : {D : Type 0} → Result (LogKeeper D × List StoreRecord) (PairFault × D × D) → D
first_disk (Ok it) = disk_a (pair_of it.0)
first_disk (Err e) = e.1

abbrev pub second_disk : {D : Type 0} → Result (LogKeeper D × List StoreRecord) (PairFault × D × D) → D
second_disk (Ok it) = disk_b (pair_of it.0)
second_disk (Err e) = e.2
