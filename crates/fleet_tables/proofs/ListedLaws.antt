-- One element of a list after the other, and what tables stand for that a list led to.
use Rattle.std.proofs.Common.{◌≡◌, ◌∙◌, ℕ, ◌+◌, ◌<◌, List, ◌∷◌, length, drop, get_or, sym, ap, subst}
use Rattle.std.specs.List.{AllByRecursion}
use Rattle.std.proofs.lemmas.List.{drop_more}
use Rattle.checkpoint_spec.specs.fleet_rows.declared.applied.Applied.{Applied}
use Rattle.checkpoint_spec.specs.fleet_rows.declared.settings.Ttls.{Ttls}
use Rattle.checkpoint_spec.specs.fleet_rows.declared.store.StoreList.{StoreList}
use Rattle.checkpoint_spec.specs.history_spec.Trace.{Trace, IsTrace}
use Rattle.checkpoint_spec.specs.table_machine.Table.{Table, table_of}
use Rattle.checkpoint_spec.specs.Histories.{checkpoint, goes_on, with_events}
use Rattle.checkpoint_spec.specs.Lists.{table_of_list, list_of}
use Rattle.checkpoint_spec.proofs.ListLaws.{checkpoints_lead_to_the_table, further_commands_are_followed, tables_list_the_checkpoint}
use Rattle.fleet_tables.specs.Stands.{Stands}

-- ---- the next element

module _ {X : Type 0} (xs : List X) (k : ℕ) (x : X) (within : k < length xs) (is : x ≡ get_or xs k x) where
  here : drop k xs ≡ x ∷ drop (k + 1) xs
  here = drop_more xs k x within ∙ ap (λ y. y ∷ drop (k + 1) xs) (sym is)

  pub one_further : {T : Type 0} (steps : List X → T → T) (step : X → T → T) → ((y : X) (ys : List X) (t : T) → steps (y ∷ ys) t ≡ steps ys (step y t))
      → (t new whole : T) → new ≡ step x t → steps (drop k xs) t ≡ whole → steps (drop (k + 1) xs) new ≡ whole
  one_further steps step same t new whole e h =
      ap (steps (drop (k + 1) xs)) e ∙ sym (same x (drop (k + 1) xs) t) ∙ ap (λ l. steps l t) (sym here) ∙ h

  pub holds_here : (P : X → Type 0) → AllByRecursion P (drop k xs) → P x
  holds_here P all = (subst (AllByRecursion P) here all).0

  pub holds_behind : (P : X → Type 0) → AllByRecursion P (drop k xs) → AllByRecursion P (drop (k + 1) xs)
  holds_behind P all = (subst (AllByRecursion P) here all).1

-- ---- the tables

told : (table : Table) (ttls : Ttls) (history : Trace) → IsTrace history → table ≡ table_of ttls history → Stands table history
told table ttls history is e = (is, e ∙ ap (λ (t : Table). table_of t.ttls history) (sym e))

pub stands_listed : (list : StoreList) (table : Table) (history : Trace) → table ≡ table_of_list list → IsTrace history → list ≡ checkpoint list.ttls history → Stands table history
stands_listed list table history made is e =
    told table list.ttls history is (made ∙ ap table_of_list e ∙ checkpoints_lead_to_the_table list.ttls history is)

pub stands_further : (list : StoreList) (table : Table) (history : Trace) (xs : List Applied) → table ≡ table_of_list list → IsTrace (with_events xs history)
    → list ≡ goes_on xs (checkpoint list.ttls history) → Stands table (with_events xs history)
stands_further list table history xs made is e =
    told table list.ttls (with_events xs history) is (made ∙ ap table_of_list e ∙ further_commands_are_followed list.ttls history xs is)

pub lists_checkpoint : (list : StoreList) (table : Table) (history : Trace) → list ≡ list_of table → Stands table history → list ≡ checkpoint table.ttls history
lists_checkpoint list table history e s = e ∙ ap list_of s.1 ∙ tables_list_the_checkpoint table.ttls history s.0
