-- The fields of "replace facts" 5, combined in the order in which they are checked.
use Rattle.std.specs.Prelude.{ℕ, ℤ, List, Option, Ok}
use Rattle.wire_fields.specs.fleet_rows.declared.change.Change.{Change}
use Rattle.wire_fields.specs.fleet_rows.declared.change.Change.TheVariants.{Facts}
use Rattle.wire_fields.specs.fleet_rows.declared.change.FactsChange.{FactsChange}
use Rattle.wire_fields.specs.wire_spec.Table.{Pairs, Checked, ◌>>=◌}

abbrev pub facts_fields : Checked (List ℕ) → Checked (Option (List ℕ)) → Checked Pairs → Checked ℤ → Checked (Option (List ℕ)) → Checked FactsChange
facts_fields certname environment values moment producer = do
  a ← certname
  b ← environment
  c ← values
  d ← moment
  e ← producer
  Ok (record { certname = a; environment = b; values = c; stamp = d; producer = e })

-- the change, or the first refusal
abbrev pub facts_in_order : Checked (List ℕ) → Checked (Option (List ℕ)) → Checked Pairs → Checked ℤ → Checked (Option (List ℕ)) → Checked Change
facts_in_order certname environment values moment producer =
    facts_fields certname environment values moment producer >>= (λ c. Ok (Facts c))
