-- What the applied commands of one node say about it. Each definition is a maximum over the list. Ranks are distinct, so the
-- order of the list doesn't matter.
use Rattle.std.specs.Prelude.{ℕ, ◌*◌, ℤ, pos, ◌+ℤ◌, ◌-ℤ◌, int_lt, List, [], ◌∷◌, Bool, true, false, ◌||◌, if◌then◌else◌, Option, Some, None, is_some}
use Rattle.std.specs.Ordering.{is_lt}
use Rattle.wire_spec.specs.fleet_rows.Rank.{rank_cmp}
use Rattle.wire_spec.specs.fleet_rows.declared.change.Change.{Change}
use Rattle.wire_spec.specs.fleet_rows.declared.change.Change.TheVariants.{Expiration}
use Rattle.wire_spec.specs.fleet_rows.declared.command.Kind.{Kind}
use Rattle.wire_spec.specs.fleet_rows.declared.command.Kind.TheVariants as kind
use Rattle.wire_spec.specs.fleet_rows.declared.settings.Ttls.{Ttls}
use Rattle.wire_spec.specs.fleet_rows.declared.applied.Applied.{Applied}
use Rattle.history_spec.specs.Trace.{is_kind, rank_of}
use Rattle.wire_spec.specs.fleet_rows.Change.{change_stamp}

-- n days in nanoseconds
abbrev pub days : ℕ → ℤ
days n = pos (n * 86_400_000_000_000)

-- the later of two moments
abbrev pub later : ℤ → Option ℤ → Option ℤ
later m None = Some m
later m (Some n) = Some (if int_lt m n then n else m)

-- ---- the newest command of a kind

-- the command with the greater rank
abbrev pub greater : Applied → Option Applied → Option Applied
greater x None = Some x
greater x (Some y) = Some (if is_lt (rank_cmp (rank_of x) (rank_of y)) then y else x)

abbrev pub newest : Kind → List Applied → Option Applied
newest k [] = None
newest k (x ∷ xs) = if is_kind k x then greater x (newest k xs) else newest k xs

-- ---- deactivated

-- facts, catalogs and reports show that a node is alive
abbrev pub is_activity : Applied → Bool
is_activity x = is_kind kind.Facts x || is_kind kind.Catalog x || is_kind kind.Report x

-- the greatest stamp of activity
abbrev pub greatest_activity : List Applied → Option ℤ
greatest_activity [] = None
greatest_activity (x ∷ xs) = if is_activity x then later (change_stamp x.change) (greatest_activity xs) else greatest_activity xs

-- the greatest stamp of a deactivation
abbrev pub greatest_deactivation : List Applied → Option ℤ
greatest_deactivation [] = None
greatest_deactivation (x ∷ xs) = if is_kind kind.Deactivate x then later (change_stamp x.change) (greatest_deactivation xs) else greatest_deactivation xs

-- a deactivation takes effect unless some activity is later
abbrev pub not_before : Option ℤ → Option ℤ → Option ℤ
not_before None active = None
not_before (Some d) None = Some d
not_before (Some d) (Some a) = if int_lt d a then None else Some d

-- the moment at which the node was deactivated, if it is
abbrev pub deactivated : List Applied → Option ℤ
deactivated xs = not_before (greatest_deactivation xs) (greatest_activity xs)

-- ---- expired

abbrev pub lets_expire : Change → Bool
lets_expire (Expiration c) = c.expire
lets_expire _ = true

abbrev pub newest_lets_expire : Option Applied → Bool
newest_lets_expire None = true
newest_lets_expire (Some x) = lets_expire x.change

-- the newest configure expiration, if any, lets the node expire
abbrev pub may_expire : List Applied → Bool
may_expire xs = newest_lets_expire (newest kind.Expiration xs)

abbrev pub expired_at : ℤ → Option ℤ → Option ℤ → Option ℤ
expired_at lifetime None sweep = None
expired_at lifetime (Some a) None = None
expired_at lifetime (Some a) (Some e) = if int_lt (a +ℤ lifetime) e then Some (a +ℤ lifetime) else None

-- the moment at which the node expired, if it did: its greatest activity plus its lifetime, if a sweep of expiry was later than
-- that
abbrev pub expired : Ttls → Option ℤ → List Applied → Option ℤ
expired ttls sweep xs = if may_expire xs then expired_at (days ttls.node_days) (greatest_activity xs) sweep else None

-- ---- inactive nodes, and nodes to purge

abbrev pub inactive : Ttls → Option ℤ → List Applied → Bool
inactive ttls sweep xs = is_some (deactivated xs) || is_some (expired ttls sweep xs)

abbrev pub is_before : Option ℤ → ℤ → Bool
is_before None m = false
is_before (Some t) m = int_lt t m

-- a purge at m removes the node: it was inactive for longer than the purge lifetime
abbrev pub is_purged : Ttls → ℤ → Option ℤ → List Applied → Bool
is_purged ttls m sweep xs =
    let edge = m -ℤ days ttls.purge_days in
    is_before (deactivated xs) edge || is_before (expired ttls sweep xs) edge
