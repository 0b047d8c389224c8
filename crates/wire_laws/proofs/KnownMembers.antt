-- A change depends on what is found under the keys of its fields alone.
use Rattle.std.proofs.Common.{◌≡◌, ◌≢◌, ◌∙◌, ℕ, List, [], ◌∷◌, ◌++◌, refl, sym, ap, Bool, true, false, Option, Some, None, Ok, if◌then◌else◌}
use Rattle.std.specs.Prelude.{IsPermutation, unwrap_or}
use Rattle.std.specs.List.{AllByRecursion}
use Rattle.std.specs.Str.{bytes_eq}
use Rattle.std.proofs.lemmas.Slice.Eq.{bytes_eq-Decides}
use Rattle.history_spec.specs.text_spec.Json.{Json, find_member, HasDistinctKeys}
use Rattle.text_laws.proofs.MemberLaws.{FindAlike-moved}
use Rattle.history_spec.specs.fleet_rows.declared.change.Change.TheVariants as change
use Rattle.history_spec.specs.fleet_rows.declared.command.Kind.{Kind}
use Rattle.history_spec.specs.fleet_rows.declared.command.Kind.TheVariants.{Facts, Catalog, Report, Deactivate, Expiration}
use Rattle.history_spec.specs.fleet_rows.declared.refusal.Field.{Field}
use Rattle.history_spec.specs.fleet_rows.declared.refusal.Field.TheVariants as field
use Rattle.history_spec.specs.wire_spec.Refusals.{field_key}
use Rattle.history_spec.specs.wire_spec.Table.{Pairs, ◌>>=◌, top, text, nonempty_text, bool, whole_number, stamp, members, items, taken, taken_if, required, each_from, resources_from, edge, distinct_edges, report_resource, object_in, object_change}
use Rattle.wire_laws.specs.TableLaws.{fields_of, UnknownKeysSayNothing, OrderOfMembersSaysNothing}

-- the same is found under the key of each field
abbrev FindSame : List Field → Pairs → Pairs → Type 0
FindSame fields ms ns = AllByRecursion (λ f. find_member (field_key f) ms ≡ find_member (field_key f) ns) fields

same_change : (kind : Kind) (ms ns : Pairs) → FindSame (fields_of kind) ms ns → object_change kind ms ≡ object_change kind ns
same_change Facts ms ns h = rw (h.0, h.1.0, h.1.1.0, h.1.1.1.0, h.1.1.1.1.0) refl
same_change Catalog ms ns h = rw (h.0, h.1.0, h.1.1.0, h.1.1.1.0, h.1.1.1.1.0, h.1.1.1.1.1.0, h.1.1.1.1.1.1.0, h.1.1.1.1.1.1.1.0, h.1.1.1.1.1.1.1.1.0, h.1.1.1.1.1.1.1.1.1.0, h.1.1.1.1.1.1.1.1.1.1.0) refl
same_change Report ms ns h = rw (h.0, h.1.0, h.1.1.0, h.1.1.1.0, h.1.1.1.1.0, h.1.1.1.1.1.0, h.1.1.1.1.1.1.0, h.1.1.1.1.1.1.1.0, h.1.1.1.1.1.1.1.1.0, h.1.1.1.1.1.1.1.1.1.0, h.1.1.1.1.1.1.1.1.1.1.0, h.1.1.1.1.1.1.1.1.1.1.1.0, h.1.1.1.1.1.1.1.1.1.1.1.1.0, h.1.1.1.1.1.1.1.1.1.1.1.1.1.0, h.1.1.1.1.1.1.1.1.1.1.1.1.1.1.0) refl
same_change Deactivate ms ns h = rw (h.0, h.1.0) refl
same_change Expiration ms ns h = rw (h.0, h.1.0, h.1.1.0) refl

-- ---- an unknown key

other_key : (key k : List ℕ) → key ≢ k → bytes_eq key k ≡ false
other_key key k apart = by_answer (bytes_eq key k) refl
  where
    by_answer : (b : Bool) → bytes_eq key k ≡ b → b ≡ false
    by_answer true e = absurd (apart ((bytes_eq-Decides key k).0 e))
    by_answer false e = refl

found_step : (b : Bool) (key : List ℕ) (m : List ℕ × Json) (ms ns : Pairs) → find_member key ms ≡ find_member key ns → (if b then Some m.1 else find_member key ms) ≡ (if b then Some m.1 else find_member key ns)
found_step true key m ms ns next = refl
found_step false key m ms ns next = next

found_beside : (key k : List ℕ) (j : Json) (before after : Pairs) → key ≢ k → find_member key (before ++ (k, j) ∷ after) ≡ find_member key (before ++ after)
found_beside key k j [] after apart = rw (other_key key k apart) refl
found_beside key k j (m ∷ before) after apart = found_step (bytes_eq key m.0) key m (before ++ (k, j) ∷ after) (before ++ after) (found_beside key k j before after apart)

all_beside : (fields : List Field) (k : List ℕ) (j : Json) (before after : Pairs) → AllByRecursion (λ f. field_key f ≢ k) fields → FindSame fields (before ++ (k, j) ∷ after) (before ++ after)
all_beside [] k j before after h = tt
all_beside (f ∷ fields) k j before after h = (found_beside (field_key f) k j before after h.0, all_beside fields k j before after h.1)

pub unknown_keys_say_nothing : UnknownKeysSayNothing
unknown_keys_say_nothing kind before after key value h = same_change kind (before ++ (key, value) ∷ after) (before ++ after) (all_beside (fields_of kind) key value before after h)

-- ---- another order

all_found : (fields : List Field) (ms ns : Pairs) → ((key : List ℕ) → find_member key ms ≡ find_member key ns) → FindSame fields ms ns
all_found [] ms ns h = tt
all_found (f ∷ fields) ms ns h = (h (field_key f), all_found fields ms ns h)

pub order_of_members_says_nothing : OrderOfMembersSaysNothing
order_of_members_says_nothing kind ms moved distinct is = same_change kind ms moved (all_found (fields_of kind) ms moved (FindAlike-moved ms moved is distinct).finds)
