-- What the first candidate of the list is in the history.
use Rattle.std.proofs.Common.{◌≡◌, ◌∙◌, inl, inr, ℕ, suc, ◌<◌, ◌≤◌, ◌==◌, List, [], ◌∷◌, ◌++◌, length, arith, refl, sym, ap, subst, Bool, true, false, if◌then◌else◌, Option, Some, None}
use Rattle.std.specs.List.{flat_map}
use Rattle.std.specs.Option.{option_map, option_and_then}
use Rattle.std.specs.Ordering.{is_lt}
use Rattle.core_state.proofs.of_plain_laws.Options.{none_some, some_none, some_same}
use Rattle.core_state.specs.fleet_rows.Rank.{rank_cmp}
use Rattle.core_state.specs.fleet_rows.declared.applied.Applied.{Applied}
use Rattle.core_state.specs.fleet_rows.declared.command.Group.{Group}
use Rattle.core_state.specs.fleet_rows.declared.command.Kind.{Kind}
use Rattle.core_state.specs.fleet_rows.declared.command.Kind.TheVariants as kind
use Rattle.core_state.specs.fleet_rows.declared.rank.Rank.{Rank}
use Rattle.core_state.specs.fleet_rows.declared.settings.Ttls.{Ttls}
use Rattle.core_state.specs.history_spec.Life.{life}
use Rattle.core_state.specs.history_spec.Node.{newest}
use Rattle.core_state.specs.history_spec.Trace.{rank_of}
use Rattle.core_state.proofs.of_history_laws.Members.{Among}
use Rattle.core_state.specs.table_machine.Table.{Table}
use Rattle.core_state.proofs.of_fleet_tables.Known.{newest_known}
use Rattle.core_state.specs.fleet_tables.Asked.{newest_in}
use Rattle.core_state.specs.fleet_tables.Stands as sheets
use Rattle.core_state.specs.core_spec.declared.entry.Entry.{Entry}
use Rattle.core_state.specs.core_spec.Commands.{Key, key_of}
use Rattle.core_state.specs.core_spec.History.{History, command, trace_of}
use Rattle.core_state.specs.core_spec.Legal.{IsOutdated, rank_at}
use Rattle.core_state.specs.core_spec.Pending.{pending_of}
use Rattle.core_state.specs.core_machine.Claims.{first_candidate, is_candidate, is_below, is_older}
use Rattle.core_state.specs.core_machine.Steps.{at_receipt}
use Rattle.core_state.proofs.of_core_laws.Claims.{first_candidates_are_claimable, older_candidates_are_superseded, none_found_is_none}
use Rattle.core_state.proofs.of_core_laws.Entries.{entry_is_of}
use Rattle.core_state.proofs.of_core_laws.Keys.{key_is_no_report}
use Rattle.core_state.specs.core_laws.Claims.{IsCandidate, IsLeastClaim, newest_rank}
use Rattle.core_state.specs.Seen.{Held}
use Rattle.core_state.specs.StandsFor.{IsHeld}
use Rattle.core_claims.specs.Choice.{newer, newer_than}

-- ---- what the tables say of the newest

abbrev rank_in : Table → Group → Option Rank
rank_in table group = newest_in table group.certname group.kind

newest_of_kind : (k : Kind) (xs : List Applied) → (k ≡ kind.Report → ⊥) → sheets.newest_of k xs ≡ option_map rank_of (newest k xs)
newest_of_kind kind.Facts xs h = refl
newest_of_kind kind.Catalog xs h = refl
newest_of_kind kind.Report xs h = absurd (h refl)
newest_of_kind kind.Deactivate xs h = refl
newest_of_kind kind.Expiration xs h = refl

rank_in_is : (table : Table) (history : History) (group : Group) → sheets.Stands table (trace_of history) → (group.kind ≡ kind.Report → ⊥) → rank_in table group ≡ newest_rank table.ttls history group
rank_in_is table history group s h = newest_known table (trace_of history) group.certname s group.kind ∙ newest_of_kind group.kind (life table.ttls group.certname (trace_of history)) h

-- what is told of a newer rank
record IsNewer (table : Table) (r p : ℕ) (o : Option Key) : Type 0 where
  key_is : Key
  rank : Rank
  group : o ≡ Some key_is
  newest : rank_in table key_is.0 ≡ Some rank
  below : is_lt (rank_cmp (rank_at key_is.1 r) rank) ≡ true
  receipt : rank.receipt ≡ p

newer_tells : (rank other : Rank) (p : ℕ) (b : Bool) → is_lt (rank_cmp rank other) ≡ b → (if b then Some other.receipt else None) ≡ Some p → (is_lt (rank_cmp rank other) ≡ true) × (other.receipt ≡ p)
newer_tells rank other p true e h = (e, sym (some_same other.receipt p h))
newer_tells rank other p false e h = none_some p h

is_newer_in : (table : Table) (r p : ℕ) (k : Key) (o : Option Rank) → rank_in table k.0 ≡ o → newer (rank_at k.1 r) o ≡ Some p → IsNewer table r p (Some k)
is_newer_in table r p k None e h = none_some p h
is_newer_in table r p k (Some other) e h =
    let told = newer_tells (rank_at k.1 r) other p (is_lt (rank_cmp (rank_at k.1 r) other)) refl h in
    record { key_is = k; rank = other; group = refl; newest = e; below = told.0; receipt = told.1 }

is_newer : (table : Table) (r p : ℕ) (o : Option Key) → newer_than table r o ≡ Some p → IsNewer table r p o
is_newer table r p None h = none_some p h
is_newer table r p (Some k) h = is_newer_in table r p k (rank_in table k.0) refl h

not_newer_step : (rank other : Rank) (b : Bool) → is_lt (rank_cmp rank other) ≡ b → (if b then Some other.receipt else None) ≡ None → b ≡ false
not_newer_step rank other false e h = refl
not_newer_step rank other true e h = some_none other.receipt h

not_below : (rank : Rank) (o : Option Rank) → newer rank o ≡ None → is_below rank o ≡ false
not_below rank None h = refl
not_below rank (Some other) h = not_newer_step rank other (is_lt (rank_cmp rank other)) refl h

not_older : (table : Table) (r : ℕ) (o : Option Key) → newer_than table r o ≡ None → is_older o r (rank_in table) ≡ false
not_older table r None h = refl
not_older table r (Some k) h = not_below (rank_at k.1 r) (rank_in table k.0) h

-- ---- the list

first_among_step : (b : Bool) (all : List Entry) (e x : Entry) (rest : List Entry) → (if b then Some x else first_candidate all rest) ≡ Some e → (first_candidate all rest ≡ Some e → Among e rest) → Among e (x ∷ rest)
first_among_step true all e x rest h next = inl (some_same x e h)
first_among_step false all e x rest h next = inr (next h)

pub first_among : (all rest : List Entry) (e : Entry) → first_candidate all rest ≡ Some e → Among e rest
first_among all [] e h = none_some e h
first_among all (x ∷ rest) e h = first_among_step (is_candidate all x) all e x rest h (first_among all rest e)

no_longer_step : (b : Bool) (e : Entry) (es : List Entry) (n : ℕ) → length es ≤ n → length ((if b then [] else e ∷ []) ++ es) ≤ suc n
no_longer_step true e es n h = omega (arith, h)
no_longer_step false e es n h = omega (arith, h)

no_longer : (r : ℕ) (es : List Entry) → length (flat_map (at_receipt r (λ e. [])) es) ≤ length es
no_longer r [] = omega arith
no_longer r (e ∷ es) = no_longer_step (r == e.receipt) e (flat_map (at_receipt r (λ e. [])) es) (length es) (no_longer r es)

itself : (n : ℕ) → (n == n) ≡ true
itself n = grind arith

shorter_step : (b : Bool) (r : ℕ) (x e : Entry) (es : List Entry) → (r == x.receipt) ≡ b → r ≡ e.receipt → Among e (x ∷ es) → (Among e es → length (flat_map (at_receipt r (λ e. [])) es) < length es) → length ((if b then [] else x ∷ []) ++ flat_map (at_receipt r (λ e. [])) es) < suc (length es)
shorter_step true r x e es f g a next = omega (arith, no_longer r es)
shorter_step false r x e es f g (inl same) next =
    absurd (let is : (r == x.receipt) ≡ true = ap (λ n. n == x.receipt) (g ∙ ap (λ (y : Entry). y.receipt) same) ∙ itself x.receipt in let apart : true ≡ false = sym is ∙ f in cc)
shorter_step false r x e es f g (inr a) next = omega (arith, next a)

-- taking out what is there makes the list shorter
pub shorter : (r : ℕ) (e : Entry) (es : List Entry) → r ≡ e.receipt → Among e es → length (flat_map (at_receipt r (λ e. [])) es) < length es
shorter r e [] g a = absurd a
shorter r e (x ∷ es) g a = shorter_step (r == x.receipt) r x e es refl g a (shorter r e es g)

-- ---- in the history

module _ (held : Held) (count : ℕ) (history : History) (is : IsHeld held count history) where
  abbrev ttls : Ttls
  ttls = held.table.ttls

  first_of_history : (o : Option Entry) → first_candidate held.pending held.pending ≡ o → first_candidate (pending_of history) (pending_of history) ≡ o
  first_of_history o h = subst (λ (fs : List Entry). first_candidate fs fs ≡ o) is.pending h

  no_report : (e : Entry) (k : Key) → Among e held.pending → e.group ≡ Some k → k.0.kind ≡ kind.Report → ⊥
  no_report e k a g =
      let of = entry_is_of ttls history e is.plain.legal (subst (λ (fs : List Entry). Among e fs) is.pending a) in
      key_is_no_report e.command k (sym (ap (option_and_then key_of) of.command_is) ∙ of.key_is ∙ g)

  -- one that is older than what was applied is outdated
  pub outdated : (e : Entry) (p : ℕ) → first_candidate held.pending held.pending ≡ Some e → newer_than held.table e.receipt e.group ≡ Some p → IsOutdated ttls e.receipt p history
  outdated e p h n =
      let t = is_newer held.table e.receipt p e.group n in
      let there = first_among held.pending held.pending e h in
      let rank : newest_rank ttls history t.key_is.0 ≡ Some t.rank = sym (rank_in_is held.table history t.key_is.0 is.tables (no_report e t.key_is there t.group)) ∙ t.newest in
      subst (λ n. IsOutdated ttls e.receipt n history) t.receipt
      (older_candidates_are_superseded ttls history e t.key_is t.rank is.plain.legal (first_of_history (Some e) h) t.group rank t.below)

  older_is : (e : Entry) (o : Option Key) → Among e held.pending → e.group ≡ o → is_older o e.receipt (rank_in held.table) ≡ is_older o e.receipt (newest_rank ttls history)
  older_is e None a g = refl
  older_is e (Some k) a g = ap (is_below (rank_at k.1 e.receipt)) (rank_in_is held.table history k.0 is.tables (no_report e k a g))

  -- another is the least that may be claimed
  pub least : (e : Entry) → first_candidate held.pending held.pending ≡ Some e → newer_than held.table e.receipt e.group ≡ None → IsLeastClaim ttls e.receipt history × (command e.receipt history ≡ Some e.command)
  least e h n =
      first_candidates_are_claimable ttls history e is.plain.legal is.plain.few (first_of_history (Some e) h)
      (sym (older_is e e.group (first_among held.pending held.pending e h) refl) ∙ not_older held.table e.receipt e.group n)

  pub rests : first_candidate held.pending held.pending ≡ None → (q : ℕ) → IsCandidate q history → ⊥
  rests h q c = none_found_is_none ttls history q is.plain.legal (first_of_history None h) c
