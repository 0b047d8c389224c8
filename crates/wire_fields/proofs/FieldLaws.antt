-- Fields of an object that others have left, and checks of what is kept as it came.
use Rattle.std.proofs.Common.{◌≡◌, ◌∙◌, ℕ, List, ◌∷◌, true, refl, ap, Option, Ok, Err}
use Rattle.wire_spec.specs.text_spec.Json.{without_member}
use Rattle.wire_spec.specs.fleet_rows.declared.refusal.Place.{Place}
use Rattle.wire_spec.specs.Refusals.{field_key}
use Rattle.wire_spec.specs.Table.{Pairs, Checked, Takes, ◌>>=◌, required, optional, taken, taken_if}
use Rattle.wire_fields.specs.Checks.{checked}
use Rattle.wire_fields.proofs.MemberLaws.{without_all, is_apart, find-without_all}

module _ {A : Type 0} (takes : Takes A) (p : Place) (gone : List (List ℕ)) (ms : Pairs) (apart : is_apart (field_key p.field) gone ≡ true) where
  -- a field is taken as from the whole object, where the fields that have left have other keys
  pub required-without_all : required takes p (without_all gone ms) ≡ required takes p ms
  required-without_all = ap (taken takes p) (find-without_all (field_key p.field) gone ms apart)

  pub optional-without_all : optional takes p (without_all gone ms) ≡ optional takes p ms
  optional-without_all = ap (taken_if takes p) (find-without_all (field_key p.field) gone ms apart)

-- a field of `place` that was taken at `p`, an equal place, from `now`, what the fields `gone` have left of `ms`
module _ {A : Type 0} (takes : Takes A) (place : Place) (gone : List (List ℕ)) (ms : Pairs) {p : Place} {now : Pairs} (at : p ≡ place) (left : now ≡ without_all gone ms) where
  pub required_is : {r : Checked A} → r ≡ required takes p now → is_apart (field_key place.field) gone ≡ true → r ≡ required takes place ms
  required_is is apart = is ∙ (λ i. required takes (at i) (left i)) ∙ required-without_all takes place gone ms apart

  pub optional_is : {r : Checked (Option A)} → r ≡ optional takes p now → is_apart (field_key place.field) gone ≡ true → r ≡ optional takes place ms
  optional_is is apart = is ∙ (λ i. optional takes (at i) (left i)) ∙ optional-without_all takes place gone ms apart

-- what is left once that field has left too
pub left_is : (place : Place) (gone : List (List ℕ)) (ms : Pairs) {p : Place} {now new : Pairs} → p ≡ place → now ≡ without_all gone ms → new ≡ without_member (field_key p.field) now → new ≡ without_all (field_key place.field ∷ gone) ms
left_is place gone ms at left is = is ∙ (λ i. without_member (field_key (at i).field) (left i))

-- of what is kept as it came only the refusal counts
pub checked-then : {A B : Type 0} (c : Checked A) (rest : Checked B) → c >>= (λ a. rest) ≡ checked c >>= (λ u. rest)
checked-then (Ok a) rest = refl
checked-then (Err refusal) rest = refl
