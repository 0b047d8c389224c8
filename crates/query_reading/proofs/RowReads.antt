-- A row is chosen by the facts that its filter names as it is by all facts; and what a stage reads.
use Rattle.std.proofs.Common.{◌≡◌, ◌∙◌, ◌≤◌, ◌+◌, ◌*◌, ℕ, List, [], ◌∷◌, length, Bool, true, Option, Some, refl, sym, ap, subst, if◌then◌else◌}
use Rattle.std.specs.Borrow.{Bor}
use Rattle.std.specs.Prelude.{filter, slice_get}
use Rattle.std.proofs.lemmas.List.{length-map}
use Rattle.std.specs.List.{AllByRecursion}
use Rattle.fleet_tables.specs.Asked.{is_inactive_in}
use Rattle.fleet_tables.specs.fleet_rows.declared.row.Entity.{Entity}
use Rattle.fleet_tables.specs.fleet_rows.declared.row.Entity.TheVariants.{Facts}
use Rattle.fleet_tables.specs.table_machine.Rows.{table_rows}
use Rattle.fleet_tables.specs.table_machine.Table.{Table}
use Rattle.query_plan.specs.means_spec.Cells.{node_in}
use Rattle.query_plan.specs.means_spec.World.{World}
use Rattle.query_plan.specs.table_spec.Rows.{Cells}
use Rattle.query_plan.specs.Plan.{Stage, Step, is_chosen}
use Rattle.query_reach.specs.Pins.{step_pins, steps_facts, stage_reads}
use Rattle.query_reach.specs.Reach.{Pin, is_found, reach}
use Rattle.query_reach.specs.Seen.{texts_seen}
use Rattle.query_reach.proofs.Found.{chosen_rows_are_found, pins_find}
use Rattle.query_rows.specs.Tables.{world_of}
use Rattle.query_reading.specs.Fetched.{SameFact, fetched, one_in, slice_one}
use Rattle.query_reading.specs.Wanted.{IsPinsFor}
use Rattle.query_reading.specs.declared.reading.Reading.{Reading}
use Rattle.query_reading.specs.declared.reading.Reading.TheVariants.{All, InReach}
use Rattle.query_reading.proofs.FactLaws.{row_alike}
use Rattle.query_reading.proofs.FetchedLaws.{fetched_serve}

module _ (table : Table) (says : List ℕ → List ℕ → Bool) (ps : List (List ℕ)) (found : List (List Cells)) (s : Stage) (e : Entity) (of : s.entity ≡ Some e) where
  -- the world in which these are the rows of facts
  abbrev pub seen_world : List Cells → World
  seen_world facts = record { rows = λ x. facts; is_inactive = is_inactive_in table; matches = says }

  pub chosen_at : (facts : List Cells) (names : List (List ℕ)) → names ≡ steps_facts s.steps → (place : ℕ) (row : Cells) → facts ≡ fetched (node_in (Some e) row) (table_rows Facts table) names
      → slice_get (table_rows e table) place ≡ Some row
      → filter (is_chosen (seen_world facts) ps found s) (row ∷ []) ≡ filter (is_chosen (world_of table says) ps found s) (slice_one (table_rows e table) place)
  chosen_at facts names are place row read there =
      let all = table_rows Facts table in
      let node = node_in (Some e) row in
      let few : AllByRecursion (SameFact node facts all) names = subst (λ l. AllByRecursion (SameFact node l all) names) (sym read) (fetched_serve node all names) in
      let named : AllByRecursion (SameFact node facts all) (steps_facts s.steps) = subst (AllByRecursion (SameFact node facts all)) are few in
      let own : AllByRecursion (SameFact (node_in s.entity row) facts all) (steps_facts s.steps) =
      subst (λ (o : Option Entity). AllByRecursion (SameFact (node_in o row) facts all) (steps_facts s.steps)) (sym of) named in
      let same = row_alike (λ x. facts) (λ x. table_rows x table) (is_inactive_in table) says ps found s row own in
      ap (λ b. if b then row ∷ [] else []) same ∙ ap (λ o. filter (is_chosen (world_of table says) ps found s) (one_in o)) (sym there)

  -- where the filter names no fact, each row is chosen alike
  pub block_alike : (facts : List Cells) → steps_facts s.steps ≡ [] → is_chosen (seen_world facts) ps found s ≡ is_chosen (world_of table says) ps found s
  block_alike facts none = λ i row.
      row_alike (λ x. facts) (λ x. table_rows x table) (is_inactive_in table) says ps found s row
      (subst (AllByRecursion (SameFact (node_in s.entity row) facts (table_rows Facts table))) (sym none) tt) i

-- ---- what a stage reads

-- a row that a stage chooses is in reach of the pins by which its rows are read
pub pins_imply : (w : World) (ps : List (List ℕ)) (found : List (List Cells)) (s : Stage) (reading : Reading) (steps : List Step) (pins : List Pin) → steps ≡ s.steps → IsPinsFor reading steps pins
    → (row : Cells) → is_chosen w ps found s row ≡ true → is_found s.entity pins row ≡ true
pins_imply w ps found s All steps pins same none row h = subst (λ l. is_found s.entity l row ≡ true) (sym none) (pins_find s.entity row [] refl)
pins_imply w ps found s InReach steps pins same are row h =
    subst (λ l. is_found s.entity l row ≡ true) (sym (are ∙ ap step_pins same)) (chosen_rows_are_found w ps found s row h)

-- the rows in reach, and for each the facts that are named
pub stage_cost : (rows : Entity → List Cells) (s : Stage) (reading : Reading) (steps : List Step) (pins : List Pin) (names : List (Bor (List ℕ))) (old new : ℕ) → steps ≡ s.steps → IsPinsFor reading steps pins
    → texts_seen names ≡ steps_facts steps → new ≤ old + reach rows s.entity pins * (1 + length names) → reading ≡ InReach → new ≤ old + stage_reads rows s
stage_cost rows s reading steps pins names old new same are named cost in_reach =
    let own : pins ≡ step_pins steps = subst (λ r. IsPinsFor r steps pins) in_reach are in
    let many : length names ≡ length (steps_facts s.steps) = sym (length-map names (λ (t : Bor (List ℕ)). t.now)) ∙ ap length (named ∙ ap steps_facts same) in
    let few : reach rows s.entity pins * (1 + length names) ≡ stage_reads rows s = λ i. reach rows s.entity ((own ∙ ap step_pins same) i) * (1 + many i) in
    subst (λ n. new ≤ old + n) few cost
