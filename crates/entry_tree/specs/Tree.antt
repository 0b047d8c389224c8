-- What contracts see of a fork of the tree, and what holds of it.
use Rattle.std.specs.Prelude.{◌≡◌, ℕ, ◌≤◌, ◌-◌, ◌^◌, min, List, [], ◌∷◌, ◌++◌, length}
use Rattle.entry_tree.specs.declared.waiting.Waiting.{Waiting}
use Rattle.entry_tree.specs.declared.tree.Fork.{Fork}
use Rattle.entry_tree.specs.declared.tree.Branch.{Branch}
use Rattle.entry_tree.specs.declared.tree.Branch.TheVariants.{End, Top}
use Rattle.entry_tree.specs.declared.tree.Sums.{Sums}
use Rattle.entry_tree.specs.Waits.{Rises, candidate_number, unclaimed_number, bytes_in}
use Rattle.core_machine.specs.fleet_rows.Limits.{most_pending}

abbrev pub of_fork : Fork → List Waiting
of_fork f = f.left ++ f.waiting ∷ f.right

abbrev pub all : Branch → List Waiting
all End = []
all (Top f) = of_fork f.value

abbrev pub sums_of : List Waiting → Sums
sums_of ws = record { count = length ws; candidates = candidate_number ws; queued = unclaimed_number ws; size = min (bytes_in ws) (2 ^ 64 - 1) }

pub record IsFork (f : Fork) : Type 0 where
  pub rises : Rises (of_fork f)
  pub few : length (of_fork f) ≤ most_pending
  pub sums : f.sums ≡ sums_of (of_fork f)

abbrev pub IsTree : Branch → Type 0
IsTree End = Unit {0}
IsTree (Top f) = IsFork f.value
