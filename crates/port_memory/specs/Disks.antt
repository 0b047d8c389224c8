-- The words that clauses use for disks in memory.
use Rattle.std.specs.Prelude.{◌≡◌, ◌⊎◌, ℕ, ◌+◌, ◌-◌, ◌^◌, ◌==◌, min, if◌then◌else◌, IsTrue, List, length, reverse}
use Rattle.fleet_ports.specs.Disks.{NoMore}
use Rattle.port_memory.specs.Calls.{is_listed, next}
use Rattle.port_memory.specs.Ways.{left_after}
use Rattle.port_memory.specs.History.{held, longest_after, Images, Since}
use Rattle.port_memory.specs.declared.fuse.FuseDisk.{FuseDisk}
use Rattle.port_memory.specs.declared.disk.MemoryDisk.{MemoryDisk}

-- the bytes that a read gives
abbrev pub bytes_of : MemoryDisk → List ℕ
bytes_of d = held d.start d.written

-- the images
abbrev pub images_of : MemoryDisk → List ℕ → Type 0
images_of d = Images d.start (reverse d.steps.items)

-- the greatest length since the last sync
abbrev pub longest_of : MemoryDisk → ℕ
longest_of d = longest_after d.start (reverse d.steps.items)

-- the moment: the number of calls so far that changed what a crash may leave
abbrev pub moment_of : MemoryDisk → ℕ
moment_of d = length (reverse d.steps.items)

-- the images at the moments since t
abbrev pub images_since : MemoryDisk → ℕ → List ℕ → Type 0
images_since d t = Since d.start t (reverse d.steps.items)

-- the numbers of the calls that fail
abbrev pub fails_of : MemoryDisk → List ℕ
fails_of d = d.fail

-- the number of calls so far
abbrev pub calls_of : MemoryDisk → ℕ
calls_of d = d.calls

abbrev pub faults_of : MemoryDisk → ℕ
faults_of d = d.faults

abbrev pub starved_of : MemoryDisk → ℕ
starved_of d = d.starved

-- how many failed writes and cuts couldn't be recorded, for lack of memory
abbrev pub unnoted_of : MemoryDisk → ℕ
unnoted_of d = d.unnoted

-- A write or a cut was recorded: whatever it may make of an old image is a new image.
pub record Leaves (step : List ℕ → List ℕ → Type 0) (old new : MemoryDisk) : Type 0 where
  pub unnoted : unnoted_of new ≡ unnoted_of old
  pub each : (d c : List ℕ) → images_of old d → step d c → images_of new c

-- A write or a cut couldn't be recorded, which is counted: the images are unchanged.
pub record IsUnnoted (old new : MemoryDisk) : Type 0 where
  pub unnoted : unnoted_of new ≡ next (unnoted_of old)
  pub no_more : NoMore (images_of old) (images_of new)
  pub no_fewer : NoMore (images_of new) (images_of old)

-- A write or a cut failed: its range is open to any bytes, unless memory was too short to record it.
abbrev pub Opens : (List ℕ → List ℕ → Type 0) → MemoryDisk → MemoryDisk → Type 0
Opens step old new = Leaves step old new ⊎ IsUnnoted old new

-- the call that left this disk was listed to fail
abbrev pub IsListed : MemoryDisk → MemoryDisk → Type 0
IsListed old new = IsTrue (is_listed (fails_of old) (calls_of new))

-- One call: it takes the next number, and the list of failing numbers stays. If its number is listed, it fails, and not for lack
-- of memory. Otherwise it fails only for lack of memory. A failed call counts one fault, and any other call none.
pub record IsCall (old new : MemoryDisk) (Fails : Type 0) : Type 0 where
  pub number : calls_of new ≡ next (calls_of old)
  pub fails : fails_of new ≡ fails_of old
  pub listed : IsListed old new → Fails × (starved_of new ≡ starved_of old)
  pub starved : Fails → (IsListed old new → ⊥) → starved_of new ≡ next (starved_of old)
  pub fault : Fails → faults_of new ≡ next (faults_of old)
  pub calm : (Fails → ⊥) → (faults_of new ≡ faults_of old) × (starved_of new ≡ starved_of old)

-- a disk with these bytes, of which a crash leaves the same, and which hasn't been called yet
pub record IsFresh (d : MemoryDisk) (bytes : List ℕ) : Type 0 where
  pub bytes_are : bytes_of d ≡ bytes
  pub only : (c : List ℕ) → images_of d c → c ≡ bytes
  pub calls : calls_of d ≡ 0
  pub faults : faults_of d ≡ 0
  pub starved : starved_of d ≡ 0
  pub unnoted : unnoted_of d ≡ 0

-- the disk behind the fuse
abbrev pub behind : FuseDisk → MemoryDisk
behind f = f.disk

-- how many calls the fuse still lets through
abbrev pub left_of : FuseDisk → ℕ
left_of f = f.calls

-- the sum of both counts, up to 2^64 - 1
abbrev pub both_faults : ℕ → ℕ → ℕ
both_faults a b = min (a + b) (2 ^ 64 - 1)

-- how many calls of the disk and of the fuse have failed
abbrev pub fuse_faults : FuseDisk → ℕ
fuse_faults f = both_faults (faults_of f.disk) f.refused

-- the disk wasn't called: its counters stay
pub record IsUncalled (old new : MemoryDisk) : Type 0 where
  pub calls : calls_of new ≡ calls_of old
  pub fails : fails_of new ≡ fails_of old
  pub faults : faults_of new ≡ faults_of old
  pub starved : starved_of new ≡ starved_of old

-- A call through the fuse. If the fuse is spent, the call fails and Stays holds of the disk. Otherwise it is one call of the
-- disk, and the fuse lets one call less through. A failed call counts one fault.
pub record IsFused (old new : FuseDisk) (Fails Stays : Type 0) : Type 0 where
  pub spent : left_of old ≡ 0 → Fails × (left_of new ≡ 0) × Stays
  pub passed : (left_of old ≡ 0 → ⊥) → (left_of old ≡ left_of new + 1) × IsCall (behind old) (behind new) Fails
  pub fault : Fails → fuse_faults new ≡ next (fuse_faults old)

-- what a crash leaves of a disk by a choice: choice 0 gives what a read gives, n + 1 follows its steps by the pattern n
abbrev pub crash_left : MemoryDisk → ℕ → List ℕ
crash_left d choice = if choice == 0 then bytes_of d else left_after d.start (choice - 1) (reverse d.steps.items)
