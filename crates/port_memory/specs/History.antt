-- The images of a disk in memory, computed from its list of steps, newest first.
use Rattle.std.specs.Prelude.{◌≡◌, ◌⊎◌, ℕ, ◌+◌, ◌≤◌, max, if◌then◌else◌, List, [], ◌∷◌, length, take, Option, None, Some, Vec}
use Rattle.std.specs.declared.alloc.Global.{Global}
use Rattle.fleet_ports.specs.Disks.{overlaid, Torn, Cut}
use Rattle.port_memory.specs.Calls.{next}
use Rattle.port_memory.specs.declared.step.Step.{Step}
use Rattle.port_memory.specs.declared.step.Step.TheVariants.{Wrote, Opened, Shortened, Synced}

-- what a read gives: the initial bytes until the first write or cut, then the written bytes
abbrev pub held : List ℕ → Option (Vec ℕ Global) → List ℕ
held start None = start
held start (Some written) = written.items

-- what a read gives after a step
abbrev pub next_seen : Step → List ℕ → List ℕ
next_seen (Wrote at bytes done) seen = if done then overlaid seen at bytes else seen
next_seen (Opened at len) seen = seen
next_seen (Shortened len done) seen = if done then take len seen else seen
next_seen Synced seen = seen

-- what a read gives after these steps, of a disk that held `start`
abbrev pub seen_after : List ℕ → List Step → List ℕ
seen_after start [] = start
seen_after start (step ∷ earlier) = next_seen step (seen_after start earlier)

-- the greatest length since the last sync after a step: a write may lengthen the file even if it failed; a sync starts over
abbrev pub next_longest : Step → List ℕ → ℕ → ℕ
next_longest (Wrote at bytes done) seen longest = max longest (at + length bytes)
next_longest (Opened at len) seen longest = max longest (at + len)
next_longest (Shortened len done) seen longest = longest
next_longest Synced seen longest = length seen

-- the same after these steps
abbrev pub longest_after : List ℕ → List Step → ℕ
longest_after start [] = length start
longest_after start (step ∷ earlier) = next_longest step (seen_after start earlier) (longest_after start earlier)

-- what a crash may make of an image by a step, if a read gave `seen` before it
abbrev pub Takes : Step → List ℕ → List ℕ → List ℕ → Type 0
Takes (Wrote at bytes done) seen old new = Torn at (length bytes) old new
Takes (Opened at len) seen old new = Torn at len old new
Takes (Shortened len done) seen old new = Cut len old new
Takes Synced seen old new = new ≡ seen

-- the images after these steps: what a read gives, and what a crash may make of an earlier image by the last step
abbrev pub Images : List ℕ → List Step → List ℕ → Type 0
Images start [] c = c ≡ start
Images start (step ∷ earlier) c =
    (c ≡ seen_after start (step ∷ earlier)) ⊎ ((d : List ℕ) × Images start earlier d × Takes step (seen_after start earlier) d c)

-- the images at a moment from t on
abbrev pub Since : List ℕ → ℕ → List Step → List ℕ → Type 0
Since start t [] c = Images start [] c
Since start t (step ∷ earlier) c = Images start (step ∷ earlier) c ⊎ ((t ≤ length earlier) × Since start t earlier c)

-- The steps and the counter before and after a failed call: the call was recorded, or it couldn't be and was counted.
abbrev pub Noted : Step → List Step → List Step → ℕ → ℕ → Type 0
Noted step old new before now = ((new ≡ step ∷ old) × (now ≡ before)) ⊎ ((new ≡ old) × (now ≡ next before))
