-- What contracts see of the queue's log: the records of a pair of files, and what a crash may leave of them.
use Rattle.std.specs.Prelude.{◌≡◌, ◌⊎◌, ℕ, Bool, List, Option}
use Rattle.fleet_keeper.specs.fleet_ports.declared.disk.Disk as disk
use Rattle.fleet_keeper.specs.fleet_ports.Counts.{RoseBy}
use Rattle.fleet_keeper.specs.log_spec.declared.side.Side.{Side}
use Rattle.fleet_keeper.specs.log_pair.declared.pair.Pair.{Pair}
use Rattle.fleet_keeper.specs.log_pair.Pair.{side_of, size_of_pair, is_down_of, disk_a, disk_b, Within, IsGood}
use Rattle.fleet_keeper.specs.record_spec.declared.queue.QueueRecord.{QueueRecord}
use Rattle.queue_records.specs.Reading.{queue_at}
use Rattle.fleet_keeper.specs.Pairs.{pair_records, records_at, PairImages, PairSince}
use Rattle.queue_log.specs.declared.queue.QueueLog.{QueueLog}

abbrev pub queue_pair : {D : Type 0} → QueueLog D → Pair D
queue_pair log = log.pair

-- the records, oldest first; None if the content is no list of records
abbrev pub queued : {D : Type 0} → (D → List ℕ) → QueueLog D → Option (List QueueRecord)
queued seen log = pair_records queue_at seen log.pair

-- what a crash at this moment may leave
abbrev pub QueueImages : {D : Type 0} → (D → List ℕ → Type 0) → QueueLog D → Option (List QueueRecord) → Type 0
QueueImages may_leave log = PairImages queue_at may_leave log.pair

-- the log isn't down, and each image has its records
abbrev pub QueueIsUp : {D : Type 0} → (D → List ℕ) → (D → List ℕ → Type 0) → QueueLog D → Type 0
QueueIsUp seen may_leave log = IsGood seen may_leave log.pair

abbrev pub queue_down : {D : Type 0} → QueueLog D → Bool
queue_down log = is_down_of log.pair

-- the bytes of the file that counts
abbrev pub queue_size : {D : Type 0} → QueueLog D → ℕ
queue_size log = size_of_pair log.pair

abbrev pub queue_side : {D : Type 0} → QueueLog D → Side
queue_side log = side_of log.pair

-- ---- moments

-- the moment: a number for each file
abbrev pub queue_moment : {D : Type 0} → (D → ℕ) → QueueLog D → ℕ × ℕ
queue_moment moment log = (moment (disk_a log.pair), moment (disk_b log.pair))

-- What a crash at a moment since a given one may leave. Within a run of puts this is exact, since they write only one file.
abbrev pub QueueSince : {D : Type 0} → (D → ℕ → List ℕ → Type 0) → QueueLog D → ℕ × ℕ → Option (List QueueRecord) → Type 0
QueueSince left_since log = PairSince queue_at left_since log.pair

-- A run of puts wrote the file that counts, and left the other one unchanged. P holds of each image at every moment within.
pub record QueueLeaves {D : Type 0} (may_leave : D → List ℕ → Type 0) (moment : D → ℕ) (left_since : D → ℕ → List ℕ → Type 0) (old new : QueueLog D) (P : Option (List QueueRecord) → Type 0) : Type 0 where
  pub side : side_of new.pair ≡ side_of old.pair
  pub run : Within may_leave moment left_since (side_of old.pair) old.pair new.pair (λ a b. P (records_at queue_at a b))

-- the same, with the ghosts of the trait as one value
abbrev pub QueueLeavesOnly : {D : Type 0} → disk.Ghosts D → QueueLog D → QueueLog D → (Option (List QueueRecord) → Type 0) → Type 0
QueueLeavesOnly d = QueueLeaves d.may_leave d.moment d.left_since

-- ---- faults

-- the fault count of one of two disks rose by two, or stands at 2^64 - 1
abbrev pub RoseTwice : ℕ → ℕ → ℕ → ℕ → Type 0
RoseTwice a now_a b now_b = RoseBy 2 a now_a ⊎ RoseBy 2 b now_b
