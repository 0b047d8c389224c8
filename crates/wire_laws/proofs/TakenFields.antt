-- What is taken of a field, and why it is refused.
use Rattle.std.proofs.Common.{◌≡◌, ◌≢◌, ◌∙◌, ℕ, ℤ, List, [], ◌∷◌, refl, sym, ap, subst, Bool, true, false, Option, Some, None, Result, Ok, Err, ◌⊎◌, inl, inr, ◌↔◌, if◌then◌else◌}
use Rattle.history_spec.proofs.of_plain_laws.Options.{none_some, some_none}
use Rattle.history_spec.specs.text_spec.Json.{Json, null, boolean, number, string, array, object, Items, Members, items_list, members_list, find_member}
use Rattle.history_spec.specs.text_spec.Stamp.{IsStampOf}
use Rattle.history_spec.specs.text_spec.StampReader.{stamp_of}
use Rattle.text_laws.proofs.StampLaws.{stamps_are_read}
use Rattle.std.specs.Str.Parse.{digits_value}
use Rattle.history_spec.specs.fleet_rows.declared.refusal.Place.{Place}
use Rattle.history_spec.specs.fleet_rows.declared.refusal.Refusal.{Refusal}
use Rattle.history_spec.specs.fleet_rows.declared.refusal.Refusal.TheVariants.{Missing, Wrong, BadStamp}
use Rattle.history_spec.specs.wire_spec.Refusals.{field_key}
use Rattle.history_spec.specs.wire_spec.Table.{Pairs, Checked, Takes, text, nonempty_text, bool, is_whole, whole_number, stamp_or, stamp, members, items, taken, required, some_of, taken_if, optional}
use Rattle.wire_laws.specs.TableLaws.{MissingIsAbsence, MissingIsAbsenceOfEachKind, NothingIsAbsenceOrNull, NothingIsAbsenceOrNullOfEachKind, WrongIsAnotherKind, TakenIsTheValue, BadStampIsNoStamp}

ok_err : {A P : Type 0} (a : A) (r : Refusal) → ◌≡◌ {A = Checked A} (Ok a) (Err r) → P
ok_err a r h = absurd (let apart : ◌≡◌ {A = Result _ Refusal} (Ok a) (Err r) = h in cc)

wrong_missing : {A P : Type 0} (p q : Place) → ◌≡◌ {A = Checked A} (Err (Wrong p)) (Err (Missing q)) → P
wrong_missing p q h = absurd (let apart : ◌≡◌ {A = Result _ Refusal} (Err (Wrong p)) (Err (Missing q)) = h in cc)

stamp_missing : {A P : Type 0} (p q : Place) → ◌≡◌ {A = Checked A} (Err (BadStamp p)) (Err (Missing q)) → P
stamp_missing p q h = absurd (let apart : ◌≡◌ {A = Result _ Refusal} (Err (BadStamp p)) (Err (Missing q)) = h in cc)

wrong_stamp : {A P : Type 0} (p q : Place) → ◌≡◌ {A = Checked A} (Err (Wrong p)) (Err (BadStamp q)) → P
wrong_stamp p q h = absurd (let apart : ◌≡◌ {A = Result _ Refusal} (Err (Wrong p)) (Err (BadStamp q)) = h in cc)

stamp_unlike : {A P : Type 0} (p q : Place) → ◌≡◌ {A = Checked A} (Err (BadStamp p)) (Err (Wrong q)) → P
stamp_unlike p q h = wrong_stamp q p (sym h)

-- ---- Missing

module _ {A : Type 0} (takes : Takes A) (never : (p : Place) (j : Json) → takes p j ≡ Err (Missing p) → ⊥) where
  absent : (p : Place) (o : Option Json) → (taken takes p o ≡ Err (Missing p)) ↔ (o ≡ None)
  absent p None = (λ h. refl, λ h. refl)
  absent p (Some j) = (λ h. absurd (never p j h), λ h. some_none j h)

  missing_is_absence : MissingIsAbsence takes
  missing_is_absence p ms = absent p (find_member (field_key p.field) ms)

text_never : (p : Place) (j : Json) → text p j ≡ Err (Missing p) → ⊥
text_never p null h = wrong_missing p p h
text_never p (boolean b) h = wrong_missing p p h
text_never p (number s) h = wrong_missing p p h
text_never p (string s) h = ok_err s (Missing p) h
text_never p (array js) h = wrong_missing p p h
text_never p (object ms) h = wrong_missing p p h

nonempty_text_never : (p : Place) (j : Json) → nonempty_text p j ≡ Err (Missing p) → ⊥
nonempty_text_never p null h = wrong_missing p p h
nonempty_text_never p (boolean b) h = wrong_missing p p h
nonempty_text_never p (number s) h = wrong_missing p p h
nonempty_text_never p (string []) h = wrong_missing p p h
nonempty_text_never p (string (x ∷ s)) h = ok_err (x ∷ s) (Missing p) h
nonempty_text_never p (array js) h = wrong_missing p p h
nonempty_text_never p (object ms) h = wrong_missing p p h

bool_never : (p : Place) (j : Json) → bool p j ≡ Err (Missing p) → ⊥
bool_never p null h = wrong_missing p p h
bool_never p (boolean b) h = ok_err b (Missing p) h
bool_never p (number s) h = wrong_missing p p h
bool_never p (string s) h = wrong_missing p p h
bool_never p (array js) h = wrong_missing p p h
bool_never p (object ms) h = wrong_missing p p h

whole_missing : (p : Place) (s : List ℕ) (b : Bool) → ◌≡◌ {A = Checked ℕ} (if b then Ok (digits_value 10 s) else Err (Wrong p)) (Err (Missing p)) → ⊥
whole_missing p s true h = ok_err (digits_value 10 s) (Missing p) h
whole_missing p s false h = wrong_missing p p h

whole_number_never : (p : Place) (j : Json) → whole_number p j ≡ Err (Missing p) → ⊥
whole_number_never p null h = wrong_missing p p h
whole_number_never p (boolean b) h = wrong_missing p p h
whole_number_never p (number s) h = whole_missing p s (is_whole s) h
whole_number_never p (string s) h = wrong_missing p p h
whole_number_never p (array js) h = wrong_missing p p h
whole_number_never p (object ms) h = wrong_missing p p h

moment_missing : (p : Place) (o : Option ℤ) → stamp_or p o ≡ Err (Missing p) → ⊥
moment_missing p (Some m) h = ok_err m (Missing p) h
moment_missing p None h = stamp_missing p p h

stamp_never : (p : Place) (j : Json) → stamp p j ≡ Err (Missing p) → ⊥
stamp_never p null h = wrong_missing p p h
stamp_never p (boolean b) h = wrong_missing p p h
stamp_never p (number s) h = wrong_missing p p h
stamp_never p (string s) h = moment_missing p (stamp_of s) h
stamp_never p (array js) h = wrong_missing p p h
stamp_never p (object ms) h = wrong_missing p p h

members_never : (p : Place) (j : Json) → members p j ≡ Err (Missing p) → ⊥
members_never p null h = wrong_missing p p h
members_never p (boolean b) h = wrong_missing p p h
members_never p (number s) h = wrong_missing p p h
members_never p (string s) h = wrong_missing p p h
members_never p (array js) h = wrong_missing p p h
members_never p (object ms) h = ok_err (members_list ms) (Missing p) h

items_never : (p : Place) (j : Json) → items p j ≡ Err (Missing p) → ⊥
items_never p null h = wrong_missing p p h
items_never p (boolean b) h = wrong_missing p p h
items_never p (number s) h = wrong_missing p p h
items_never p (string s) h = wrong_missing p p h
items_never p (array js) h = ok_err (items_list js) (Missing p) h
items_never p (object ms) h = wrong_missing p p h

pub missing_is_absence_of_each_kind : MissingIsAbsenceOfEachKind
missing_is_absence_of_each_kind = (missing_is_absence text text_never, missing_is_absence nonempty_text nonempty_text_never, missing_is_absence bool bool_never, missing_is_absence whole_number whole_number_never, missing_is_absence stamp stamp_never, missing_is_absence members members_never, missing_is_absence items items_never)

-- ---- nothing

module _ {A : Type 0} where
  some_nothing : (c : Checked A) → some_of c ≡ Ok None → ⊥
  some_nothing (Ok a) h = let apart : ◌≡◌ {A = Result (Option A) Refusal} (Ok (Some a)) (Ok None) = h in cc
  some_nothing (Err r) h = let apart : ◌≡◌ {A = Result (Option A) Refusal} (Err r) (Ok None) = h in cc

  there : (takes : Takes A) (p : Place) (j : Json) → (j ≡ null → ⊥) → (some_of (takes p j) ≡ Ok None) ↔ ((Some j ≡ None) ⊎ (Some j ≡ Some null))
  there takes p j other = (λ h. absurd (some_nothing (takes p j) h), λ h. absurd (elim h [ inl e ↦ some_none j e | inr e ↦ other (let same : j ≡ null = cc in same) ]))

  nothing : (takes : Takes A) (p : Place) (o : Option Json) → (taken_if takes p o ≡ Ok None) ↔ ((o ≡ None) ⊎ (o ≡ Some null))
  nothing takes p None = (λ h. inl refl, λ h. refl)
  nothing takes p (Some null) = (λ h. inr refl, λ h. refl)
  nothing takes p (Some (boolean b)) = there takes p (boolean b) (λ e. let apart : boolean b ≡ null = e in cc)
  nothing takes p (Some (number s)) = there takes p (number s) (λ e. let apart : number s ≡ null = e in cc)
  nothing takes p (Some (string s)) = there takes p (string s) (λ e. let apart : string s ≡ null = e in cc)
  nothing takes p (Some (array js)) = there takes p (array js) (λ e. let apart : array js ≡ null = e in cc)
  nothing takes p (Some (object ms)) = there takes p (object ms) (λ e. let apart : object ms ≡ null = e in cc)

nothing_is_absence_or_null : {A : Type 0} (takes : Takes A) → NothingIsAbsenceOrNull takes
nothing_is_absence_or_null takes p ms = nothing takes p (find_member (field_key p.field) ms)

pub nothing_is_absence_or_null_of_each_kind : NothingIsAbsenceOrNullOfEachKind
nothing_is_absence_or_null_of_each_kind =
    (nothing_is_absence_or_null text, nothing_is_absence_or_null nonempty_text, nothing_is_absence_or_null bool, nothing_is_absence_or_null whole_number, nothing_is_absence_or_null stamp, nothing_is_absence_or_null members, nothing_is_absence_or_null items)

-- ---- Wrong

text_wrong : (p : Place) (j : Json) → (text p j ≡ Err (Wrong p)) ↔ ((s : List ℕ) → j ≢ string s)
text_wrong p null = (λ h. λ t e. let apart : null ≡ string t = e in cc, λ h. refl)
text_wrong p (boolean b) = (λ h. λ t e. let apart : boolean b ≡ string t = e in cc, λ h. refl)
text_wrong p (number s) = (λ h. λ t e. let apart : number s ≡ string t = e in cc, λ h. refl)
text_wrong p (string s) = (λ h. ok_err s (Wrong p) h, λ h. absurd (h s refl))
text_wrong p (array js) = (λ h. λ t e. let apart : array js ≡ string t = e in cc, λ h. refl)
text_wrong p (object ms) = (λ h. λ t e. let apart : object ms ≡ string t = e in cc, λ h. refl)

nonempty_text_wrong : (p : Place) (j : Json) → (nonempty_text p j ≡ Err (Wrong p)) ↔ ((x : ℕ) (s : List ℕ) → j ≢ string (x ∷ s))
nonempty_text_wrong p null = (λ h. λ x t e. let apart : null ≡ string (x ∷ t) = e in cc, λ h. refl)
nonempty_text_wrong p (boolean b) = (λ h. λ x t e. let apart : boolean b ≡ string (x ∷ t) = e in cc, λ h. refl)
nonempty_text_wrong p (number s) = (λ h. λ x t e. let apart : number s ≡ string (x ∷ t) = e in cc, λ h. refl)
nonempty_text_wrong p (string []) = (λ h. λ x t e. let apart : string [] ≡ string (x ∷ t) = e in cc, λ h. refl)
nonempty_text_wrong p (string (x ∷ s)) = (λ h. ok_err (x ∷ s) (Wrong p) h, λ h. absurd (h x s refl))
nonempty_text_wrong p (array js) = (λ h. λ x t e. let apart : array js ≡ string (x ∷ t) = e in cc, λ h. refl)
nonempty_text_wrong p (object ms) = (λ h. λ x t e. let apart : object ms ≡ string (x ∷ t) = e in cc, λ h. refl)

bool_wrong : (p : Place) (j : Json) → (bool p j ≡ Err (Wrong p)) ↔ ((b : Bool) → j ≢ boolean b)
bool_wrong p null = (λ h. λ t e. let apart : null ≡ boolean t = e in cc, λ h. refl)
bool_wrong p (boolean b) = (λ h. ok_err b (Wrong p) h, λ h. absurd (h b refl))
bool_wrong p (number s) = (λ h. λ t e. let apart : number s ≡ boolean t = e in cc, λ h. refl)
bool_wrong p (string s) = (λ h. λ t e. let apart : string s ≡ boolean t = e in cc, λ h. refl)
bool_wrong p (array js) = (λ h. λ t e. let apart : array js ≡ boolean t = e in cc, λ h. refl)
bool_wrong p (object ms) = (λ h. λ t e. let apart : object ms ≡ boolean t = e in cc, λ h. refl)

whole_wrong_step : (p : Place) (s : List ℕ) (b : Bool) → is_whole s ≡ b → (◌≡◌ {A = Checked ℕ} (if b then Ok (digits_value 10 s) else Err (Wrong p)) (Err (Wrong p))) ↔ ((t : List ℕ) → is_whole t ≡ true → number s ≢ number t)
whole_wrong_step p s true e = (λ h. ok_err (digits_value 10 s) (Wrong p) h, λ h. absurd (h s e refl))
whole_wrong_step p s false e = (λ h. λ t w f. let same : s ≡ t = cc in let apart : true ≡ false = sym w ∙ ap is_whole (sym same) ∙ e in cc, λ h. refl)

whole_number_wrong : (p : Place) (j : Json) → (whole_number p j ≡ Err (Wrong p)) ↔ ((s : List ℕ) → is_whole s ≡ true → j ≢ number s)
whole_number_wrong p null = (λ h. λ t w e. let apart : null ≡ number t = e in cc, λ h. refl)
whole_number_wrong p (boolean b) = (λ h. λ t w e. let apart : boolean b ≡ number t = e in cc, λ h. refl)
whole_number_wrong p (number s) = whole_wrong_step p s (is_whole s) refl
whole_number_wrong p (string s) = (λ h. λ t w e. let apart : string s ≡ number t = e in cc, λ h. refl)
whole_number_wrong p (array js) = (λ h. λ t w e. let apart : array js ≡ number t = e in cc, λ h. refl)
whole_number_wrong p (object ms) = (λ h. λ t w e. let apart : object ms ≡ number t = e in cc, λ h. refl)

moment_wrong : (p : Place) (o : Option ℤ) → stamp_or p o ≡ Err (Wrong p) → ⊥
moment_wrong p (Some m) h = ok_err m (Wrong p) h
moment_wrong p None h = stamp_unlike p p h

stamp_wrong : (p : Place) (j : Json) → (stamp p j ≡ Err (Wrong p)) ↔ ((s : List ℕ) → j ≢ string s)
stamp_wrong p null = (λ h. λ t e. let apart : null ≡ string t = e in cc, λ h. refl)
stamp_wrong p (boolean b) = (λ h. λ t e. let apart : boolean b ≡ string t = e in cc, λ h. refl)
stamp_wrong p (number s) = (λ h. λ t e. let apart : number s ≡ string t = e in cc, λ h. refl)
stamp_wrong p (string s) = (λ h. absurd (moment_wrong p (stamp_of s) h), λ h. absurd (h s refl))
stamp_wrong p (array js) = (λ h. λ t e. let apart : array js ≡ string t = e in cc, λ h. refl)
stamp_wrong p (object ms) = (λ h. λ t e. let apart : object ms ≡ string t = e in cc, λ h. refl)

members_wrong : (p : Place) (j : Json) → (members p j ≡ Err (Wrong p)) ↔ ((ms : Members) → j ≢ object ms)
members_wrong p null = (λ h. λ t e. let apart : null ≡ object t = e in cc, λ h. refl)
members_wrong p (boolean b) = (λ h. λ t e. let apart : boolean b ≡ object t = e in cc, λ h. refl)
members_wrong p (number s) = (λ h. λ t e. let apart : number s ≡ object t = e in cc, λ h. refl)
members_wrong p (string s) = (λ h. λ t e. let apart : string s ≡ object t = e in cc, λ h. refl)
members_wrong p (array js) = (λ h. λ t e. let apart : array js ≡ object t = e in cc, λ h. refl)
members_wrong p (object ms) = (λ h. ok_err (members_list ms) (Wrong p) h, λ h. absurd (h ms refl))

items_wrong : (p : Place) (j : Json) → (items p j ≡ Err (Wrong p)) ↔ ((js : Items) → j ≢ array js)
items_wrong p null = (λ h. λ t e. let apart : null ≡ array t = e in cc, λ h. refl)
items_wrong p (boolean b) = (λ h. λ t e. let apart : boolean b ≡ array t = e in cc, λ h. refl)
items_wrong p (number s) = (λ h. λ t e. let apart : number s ≡ array t = e in cc, λ h. refl)
items_wrong p (string s) = (λ h. λ t e. let apart : string s ≡ array t = e in cc, λ h. refl)
items_wrong p (array js) = (λ h. ok_err (items_list js) (Wrong p) h, λ h. absurd (h js refl))
items_wrong p (object ms) = (λ h. λ t e. let apart : object ms ≡ array t = e in cc, λ h. refl)

pub wrong_is_another_kind : WrongIsAnotherKind
wrong_is_another_kind p j = (text_wrong p j, nonempty_text_wrong p j, bool_wrong p j, whole_number_wrong p j, stamp_wrong p j, members_wrong p j, items_wrong p j)

-- ---- what is taken

pub taken_is_the_value : TakenIsTheValue
taken_is_the_value p = (λ s. refl, λ x s. refl, λ b. refl, λ s w. rw w refl, λ s m is. ap (stamp_or p) ((stamps_are_read s m).1 is), λ ms. refl, λ js. refl)

-- ---- BadStamp

bad_step : (p : Place) (s : List ℕ) (o : Option ℤ) → stamp_of s ≡ o → (stamp_or p o ≡ Err (BadStamp p)) ↔ ((t : List ℕ) × (string s ≡ string t) × ((m : ℤ) → IsStampOf t m → ⊥))
bad_step p s (Some m) e = (λ h. ok_err m (BadStamp p) h, λ h. absurd (let same : s ≡ h.0 = let f : string s ≡ string h.0 = h.1 in cc in h.2 m (subst (λ t. IsStampOf t m) same ((stamps_are_read s m).0 e))))
bad_step p s None e = (λ h. (s, refl, λ m is. none_some m (sym e ∙ (stamps_are_read s m).1 is)), λ h. refl)

pub bad_stamp_is_no_stamp : BadStampIsNoStamp
bad_stamp_is_no_stamp p null = (λ h. wrong_stamp p p h, λ h. absurd (let apart : null ≡ string h.0 = h.1 in cc))
bad_stamp_is_no_stamp p (boolean b) = (λ h. wrong_stamp p p h, λ h. absurd (let apart : boolean b ≡ string h.0 = h.1 in cc))
bad_stamp_is_no_stamp p (number s) = (λ h. wrong_stamp p p h, λ h. absurd (let apart : number s ≡ string h.0 = h.1 in cc))
bad_stamp_is_no_stamp p (string s) = bad_step p s (stamp_of s) refl
bad_stamp_is_no_stamp p (array js) = (λ h. wrong_stamp p p h, λ h. absurd (let apart : array js ≡ string h.0 = h.1 in cc))
bad_stamp_is_no_stamp p (object ms) = (λ h. wrong_stamp p p h, λ h. absurd (let apart : object ms ≡ string h.0 = h.1 in cc))
