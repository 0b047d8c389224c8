-- The value of a field is found under its name in the object of those fields that have one.
use Rattle.std.proofs.Common.{◌≡◌, ℕ, List, [], ◌∷◌, refl, sym, ap, subst, Bool, true, false, not, ◌&&◌, ◌||◌, if◌then◌else◌, Option, Some, None}
use Rattle.std.specs.Str.{bytes_eq}
use Rattle.dump_spec.specs.text_spec.Json.{Json, find_member, HasDistinctKeys}
use Rattle.dump_spec.specs.fleet_rows.declared.refusal.Place.{Place}
use Rattle.dump_spec.specs.wire_spec.Refusals.{field_key}
use Rattle.dump_spec.specs.wire_spec.Table.{Takes, required, taken, optional, taken_if}
use Rattle.dump_spec.specs.Payloads.{Fields, in_front, there}
use Rattle.dump_spec.proofs.of_plain_laws.Booleans.{both_true, neither}
use Rattle.dump_spec.proofs.of_plain_laws.Lists.{one_text}

abbrev pub lookup : List ℕ → Fields → Option Json
lookup k [] = None
lookup k (field ∷ fields) = if bytes_eq k field.0 then field.1 else lookup k fields

abbrev pub is_named : List ℕ → Fields → Bool
is_named k [] = false
is_named k (field ∷ fields) = bytes_eq k field.0 || is_named k fields

-- no two fields have one name
abbrev pub are_apart : Fields → Bool
are_apart [] = true
are_apart (field ∷ fields) = not (is_named field.0 fields) && are_apart fields

not_named : (b : Bool) → not b ≡ true → b ≡ false
not_named true h = absurd (let apart : false ≡ true = h in cc)
not_named false h = refl

absent_step : (k name : List ℕ) (o : Option Json) (fields : Fields) → bytes_eq k name ≡ false → find_member k (there fields) ≡ None → find_member k (in_front name o (there fields)) ≡ None
absent_step k name None fields e h = h
absent_step k name (Some value) fields e h = rw e h

-- a name of none of them isn't found
pub absent : (k : List ℕ) (fields : Fields) → is_named k fields ≡ false → find_member k (there fields) ≡ None
absent k [] h = refl
absent k (field ∷ fields) h =
    let parts = neither (bytes_eq k field.0) (is_named k fields) h in
    absent_step k field.0 field.1 fields parts.0 (absent k fields parts.1)

found_step : (b : Bool) (k name : List ℕ) (o : Option Json) (fields : Fields) → bytes_eq k name ≡ b → is_named name fields ≡ false → find_member k (there fields) ≡ lookup k fields
    → find_member k (in_front name o (there fields)) ≡ (if b then o else lookup k fields)
found_step true k name None fields e apart h = subst (λ n. find_member n (there fields) ≡ None) (sym (one_text k name e)) (absent name fields apart)
found_step true k name (Some value) fields e apart h = rw e refl
found_step false k name None fields e apart h = h
found_step false k name (Some value) fields e apart h = rw e h

pub found : (k : List ℕ) (fields : Fields) → are_apart fields ≡ true → find_member k (there fields) ≡ lookup k fields
found k [] h = refl
found k (field ∷ fields) h =
    let parts = both_true (not (is_named field.0 fields)) (are_apart fields) h in
    found_step (bytes_eq k field.0) k field.0 field.1 fields refl (not_named (is_named field.0 fields) parts.0) (found k fields parts.1)

keys_step : (name : List ℕ) (o : Option Json) (fields : Fields) → find_member name (there fields) ≡ None → HasDistinctKeys (there fields) → HasDistinctKeys (in_front name o (there fields))
keys_step name None fields h rest = rest
keys_step name (Some value) fields h rest = (h, rest)

pub distinct_keys : (fields : Fields) → are_apart fields ≡ true → HasDistinctKeys (there fields)
distinct_keys [] h = tt
distinct_keys (field ∷ fields) h =
    let parts = both_true (not (is_named field.0 fields)) (are_apart fields) h in
    keys_step field.0 field.1 fields (absent field.0 fields (not_named (is_named field.0 fields) parts.0)) (distinct_keys fields parts.1)

-- ---- a field that is taken

module _ (fields : Fields) (apart : are_apart fields ≡ true) {A : Type 0} (takes : Takes A) (p : Place) where
  pub required_is : required takes p (there fields) ≡ taken takes p (lookup (field_key p.field) fields)
  required_is = ap (taken takes p) (found (field_key p.field) fields apart)

  pub optional_is : optional takes p (there fields) ≡ taken_if takes p (lookup (field_key p.field) fields)
  optional_is = ap (taken_if takes p) (found (field_key p.field) fields apart)
