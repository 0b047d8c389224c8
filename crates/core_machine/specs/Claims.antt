-- Which pending commands may be claimed, as tests on the list.
use Rattle.std.specs.Prelude.{ℕ, ◌==◌, List, [], ◌∷◌, Bool, false, not, ◌&&◌, ◌||◌, if◌then◌else◌, Option, Some, None}
use Rattle.std.specs.List.{list_any}
use Rattle.std.specs.Ordering.{is_lt}
use Rattle.std.specs.Str.{bytes_eq}
use Rattle.core_spec.specs.fleet_rows.Change.{kind_number}
use Rattle.core_spec.specs.fleet_rows.Rank.{rank_cmp}
use Rattle.core_spec.specs.fleet_rows.declared.command.Group.{Group}
use Rattle.core_spec.specs.fleet_rows.declared.rank.Rank.{Rank}
use Rattle.core_spec.specs.declared.entry.Entry.{Entry}
use Rattle.core_spec.specs.Commands.{Key}
use Rattle.core_spec.specs.Legal.{rank_at}

abbrev pub same_group : Group → Group → Bool
same_group g h = bytes_eq g.certname h.certname && (kind_number g.kind == kind_number h.kind)

-- The entry `e` with this key holds back the command of key `k` and receipt `r`. It is of the same group, and is claimed or has a
-- greater rank.
abbrev pub holds_back : Key → ℕ → Entry → Option Key → Bool
holds_back k r e None = false
holds_back k r e (Some l) = same_group k.0 l.0 && (e.claimed || is_lt (rank_cmp (rank_at k.1 r) (rank_at l.1 e.receipt)))

abbrev pub is_held : Option Key → ℕ → List Entry → Bool
is_held None r es = false
is_held (Some k) r es = list_any (λ (e : Entry). holds_back k r e e.group) es

-- a candidate is queued, and no entry of its group holds it back
abbrev pub is_candidate : List Entry → Entry → Bool
is_candidate es e = not e.claimed && not (is_held e.group e.receipt es)

-- the first candidate of the rest, tested against the whole list
abbrev pub first_candidate : List Entry → List Entry → Option Entry
first_candidate es [] = None
first_candidate es (e ∷ rest) = if is_candidate es e then Some e else first_candidate es rest

abbrev pub is_below : Rank → Option Rank → Bool
is_below rank None = false
is_below rank (Some other) = is_lt (rank_cmp rank other)

-- a command of this key and receipt is stale: its rank is below that of the newest applied command of its group
abbrev pub is_older : Option Key → ℕ → (Group → Option Rank) → Bool
is_older None r newest = false
is_older (Some k) r newest = is_below (rank_at k.1 r) (newest k.0)

-- the command of this receipt is pending and claimed
abbrev pub is_claimed : ℕ → List Entry → Bool
is_claimed r es = list_any (λ (e : Entry). r == e.receipt && e.claimed) es

-- the number of times that the store failed at the pending command of this receipt, or 0
abbrev pub attempts_of : ℕ → List Entry → ℕ
attempts_of r [] = 0
attempts_of r (e ∷ es) = if r == e.receipt then e.attempts else attempts_of r es
