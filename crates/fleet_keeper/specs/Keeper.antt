-- What contracts see of a keeper over a pair.
use Rattle.std.specs.Prelude.{◌≡◌, ◌⊎◌, ℕ, ◌+◌, ◌-◌, ◌^◌, ◌≤◌, true}
use Rattle.port_memory.specs.fleet_ports.Counts.{RoseBy}
use Rattle.log_pair.specs.declared.pair.Pair.{Pair}
use Rattle.log_pair.specs.Pair.{disk_a, disk_b, is_down_of}
use Rattle.fleet_keeper.specs.declared.log_keeper.LogKeeper.{LogKeeper}

abbrev pub pair_of : {D : Type 0} → LogKeeper D → Pair D
pair_of keeper = keeper.pair

-- the number of faults of its calls
abbrev pub faults_of : {D : Type 0} → LogKeeper D → ℕ
faults_of keeper = keeper.faults

-- the fault counts of its two disks when it was opened
abbrev pub opened_of : {D : Type 0} → LogKeeper D → ℕ × ℕ
opened_of keeper = (keeper.opened_a, keeper.opened_b)

-- A count rose by at most as much as two others together, unless one of these stands at 2^64 - 1.
abbrev pub IsBounded : ℕ × ℕ × ℕ → ℕ → ℕ → ℕ → Type 0
IsBounded since count a b = (count + since.1 + since.2 ≤ since.0 + a + b) ⊎ (2 ^ 64 - 1 ≤ a) ⊎ (2 ^ 64 - 1 ≤ b)

-- The counts of two disks didn't fall. If their pair is down, one of them rose by two: in a call, and in its repair.
abbrev pub AreBehind : {D : Type 0} → (D → ℕ) → Pair D → ℕ → ℕ → Type 0
AreBehind fault_count pair a b =
    (a ≤ fault_count (disk_a pair)) × (b ≤ fault_count (disk_b pair))
    × (is_down_of pair ≡ true → RoseBy 2 a (fault_count (disk_a pair)) ⊎ RoseBy 2 b (fault_count (disk_b pair)))

-- the keeper's count is bounded by those of its disks, and those didn't fall
abbrev pub IsWithin : {D : Type 0} → (D → ℕ) → LogKeeper D → ℕ × ℕ × ℕ → Type 0
IsWithin fault_count keeper since =
    IsBounded since keeper.faults (fault_count (disk_a keeper.pair)) (fault_count (disk_b keeper.pair)) × AreBehind fault_count keeper.pair since.1 since.2
