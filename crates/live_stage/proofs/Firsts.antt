-- Tables that are made from the list of a core's tables have the first events.
use Rattle.std.proofs.Common.{◌≡◌, ◌∙◌, false, List, [], refl, sym, ap, subst}
use mathlib.Core.List.{IsPrefix}
use Rattle.lock_calls.specs.Calls.{Lasts}
use Rattle.lock_calls.proofs.Lasting.{facts_last}
use Rattle.core_ends.specs.fleet_rows.declared.settings.Ttls.{Ttls}
use Rattle.core_ends.specs.fleet_rows.declared.store.StoreList.{StoreList}
use Rattle.core_ends.specs.fleet_tables.Stands.{Stands}
use Rattle.core_ends.specs.fleet_tables.checkpoint_spec.Histories.{checkpoint}
use Rattle.core_ends.specs.fleet_tables.checkpoint_spec.Lists.{table_of_list}
use Rattle.core_ends.specs.history_spec.Trace.{Trace, IsTrace}
use Rattle.core_ends.specs.table_machine.Table.{Table}
use Rattle.core_ends.specs.core_state.declared.state.CoreState.{CoreState}
use Rattle.core_ends.specs.core_course.Sight.{Sight}
use Rattle.hub_calls.proofs.Steps.{nothing_follows}
use Rattle.live_stage.specs.declared.note.Staged.{Staged}
use Rattle.live_stage.specs.Notes.{list_of}
use Rattle.live_stage.specs.Trace.{snapshot, HasFirstIn}
use Rattle.live_stage.specs.StageCalls.{fresh}
use Rattle.live_stage.specs.First.{FirstView, AreFirstOf}
use Rattle.live_stage.proofs.Copies.{made_ttls}
use Rattle.live_stage.proofs.Lookups.{first_lasts, whole_first}

module _ {D K : Type 0} (w : Sight D K) (core : CoreState D K) (f : FirstView) (tables : Table) where
  -- the tables stand for all that the core's tables stand for
  stand_alike : AreFirstOf core f → ((history : Trace) → IsTrace history → f.list ≡ checkpoint f.list.ttls history → Stands tables history) → (history : Trace) → Stands core.tables history → Stands tables history
  stand_alike of made history stands =
      let is = of.list history stands in
      made history stands.0 (subst (λ (t : Ttls). f.list ≡ checkpoint t history) (sym (ap (λ (l : StoreList). l.ttls) is)) is)

  pub begins_first : (seen : List (Staged D K)) → AreFirstOf core f → IsPrefix (list_of (fresh core)) seen
      → tables ≡ table_of_list f.list → ((history : Trace) → IsTrace history → f.list ≡ checkpoint f.list.ttls history → Stands tables history) → Lasts (HasFirstIn w (snapshot f.live tables [])) seen
  begins_first seen of begins is made =
      let s = snapshot f.live tables [] in
      let nothing = nothing_follows w false core in
      facts_last (HasFirstIn w s) (list_of (fresh core)) seen begins
      (first_lasts w (fresh core) s (list_of (fresh core)) nothing (whole_first w (fresh core) f.live tables nothing of.live (made_ttls f.list tables is ∙ of.lifetimes) (stand_alike of made)) refl)
