-- The order of events between two purges has no effect.
use Rattle.std.specs.Prelude.{◌≡◌, ◌≢◌, ◌↔◌, ℕ, List, [], ◌∷◌, ◌++◌, false}
use Rattle.std.specs.List.{Contains, AllByRecursion}
use Rattle.std.specs.List.Sorted.{IsPermutation}
use Rattle.spool_spec.specs.fleet_rows.declared.command.Kind.{Kind}
use Rattle.spool_spec.specs.fleet_rows.declared.settings.Ttls.{Ttls}
use Rattle.spool_spec.specs.fleet_rows.declared.applied.Applied.{Applied}
use Rattle.spool_spec.specs.history_spec.Trace.{TraceEvent, applied, swept, Trace, receipts}
use Rattle.spool_spec.specs.history_spec.Node as node
use Rattle.spool_spec.specs.history_spec.Life.{life, nodes, greatest_expiry, greatest_retention, is_inactive, kept_reports}
use Rattle.spool_spec.specs.history_spec.Facts as facts

abbrev pub IsNoPurge : TraceEvent → Type 0
IsNoPurge (applied x) = Unit {0}
IsNoPurge (swept kinds m) = kinds.purge ≡ false

-- the second history is the first after swaps of two neighbouring events, neither of which is a purge
pub data Reordered : Trace → Trace → Type 0 where
  unchanged : {history : Trace} → Reordered history history
  swapped : (e f : TraceEvent) {earlier : Trace} → IsNoPurge e → IsNoPurge f → Reordered (e ∷ f ∷ earlier) (f ∷ e ∷ earlier)
  behind : (e : TraceEvent) {history other : Trace} → Reordered history other → Reordered (e ∷ history) (e ∷ other)
  stepwise : {history between other : Trace} → Reordered history between → Reordered between other → Reordered history other

-- every permutation of adjacent events without a purge is such a reordering
abbrev pub PermutationsReorder : Type 0
PermutationsReorder =
    (later between others earlier : Trace) → AllByRecursion IsNoPurge between → IsPermutation between others
    → Reordered (later ++ (between ++ earlier)) (later ++ (others ++ earlier))

abbrev pub AreDistinct : List ℕ → Type 0
AreDistinct [] = Unit {0}
AreDistinct (r ∷ rs) = AllByRecursion (λ s. s ≢ r) rs × AreDistinct rs

-- both histories lead to the same state of each node n
pub record SayTheSame (ttls : Ttls) (history other : Trace) : Type 0 where
  pub expiry : greatest_expiry history ≡ greatest_expiry other
  pub retention : greatest_retention history ≡ greatest_retention other
  pub nodes : nodes ttls history ≡ nodes ttls other
  pub activity : (n : List ℕ) → node.greatest_activity (life ttls n history) ≡ node.greatest_activity (life ttls n other)
  pub newest : (k : Kind) (n : List ℕ) → node.newest k (life ttls n history) ≡ node.newest k (life ttls n other)
  pub deactivated : (n : List ℕ) → node.deactivated (life ttls n history) ≡ node.deactivated (life ttls n other)
  pub expired : (n : List ℕ) → node.expired ttls (greatest_expiry history) (life ttls n history) ≡ node.expired ttls (greatest_expiry other) (life ttls n other)
  pub inactive : (n : List ℕ) → is_inactive ttls history n ≡ is_inactive ttls other n
  pub fact_rows : facts.fact_rows ttls history ≡ facts.fact_rows ttls other
  pub active_fact_rows : facts.active_fact_rows ttls history ≡ facts.active_fact_rows ttls other
  pub reports : (n : List ℕ) (x : Applied) → Contains (kept_reports ttls n history) x ↔ Contains (kept_reports ttls n other) x

abbrev pub TheOrderBetweenPurgesSaysNothing : Type 0
TheOrderBetweenPurgesSaysNothing =
    (ttls : Ttls) (history other : Trace) → AreDistinct (receipts history) → Reordered history other → SayTheSame ttls history other
