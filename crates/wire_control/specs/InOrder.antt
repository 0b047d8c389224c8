-- The fields of "deactivate node" 3 and of "configure expiration" 1, combined in the order in which they are checked.
use Rattle.std.specs.Prelude.{ℕ, ℤ, List, Ok}
use Rattle.wire_fields.specs.fleet_rows.declared.change.Change.{Change}
use Rattle.wire_fields.specs.fleet_rows.declared.change.Change.TheVariants.{Deactivate, Expiration}
use Rattle.wire_fields.specs.fleet_rows.declared.change.DeactivateChange.{DeactivateChange}
use Rattle.wire_fields.specs.fleet_rows.declared.change.ExpirationChange.{ExpirationChange}
use Rattle.wire_fields.specs.fleet_rows.declared.refusal.Field.TheVariants.{ExpireFacts}
use Rattle.wire_fields.specs.wire_spec.Table.{Pairs, Checked, ◌>>=◌, top, required, bool}

abbrev pub deactivate_fields : Checked (List ℕ) → Checked ℤ → Checked DeactivateChange
deactivate_fields certname moment = do
  a ← certname
  b ← moment
  Ok (record { certname = a; stamp = b })

-- the change, or the first refusal
abbrev pub deactivate_in_order : Checked (List ℕ) → Checked ℤ → Checked Change
deactivate_in_order certname moment = deactivate_fields certname moment >>= (λ c. Ok (Deactivate c))

abbrev pub expiration_fields : Checked (List ℕ) → Checked ℤ → Checked Pairs → Checked ExpirationChange
expiration_fields certname moment expire = do
  a ← certname
  b ← moment
  ms ← expire
  facts ← required bool (top ExpireFacts) ms
  Ok (record { certname = a; stamp = b; expire = facts })

abbrev pub expiration_in_order : Checked (List ℕ) → Checked ℤ → Checked Pairs → Checked Change
expiration_in_order certname moment expire = expiration_fields certname moment expire >>= (λ c. Ok (Expiration c))
