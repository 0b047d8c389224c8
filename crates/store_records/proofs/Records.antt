-- What is read of a record is spelled so, and what is spelled so is read.
use Rattle.std.proofs.Common.{◌≡◌, ℕ, zero, suc, ◌^◌, ◌<◌, ◌≤◌, Bool, true, false, ℤ, List, [], ◌∷◌, ◌++◌, Option, Some, None, refl, sym, ap, subst, ◌∙◌, append_assoc, arith}
use Rattle.std.specs.Prelude.{MatchOption, Result, IfOk, Ok, Err}
use Rattle.std.specs.Int.{w64}
use Rattle.wire_catalog.specs.fleet_rows.declared.change.Change.{Change}
use Rattle.wire_catalog.specs.fleet_rows.declared.settings.Kinds.{Kinds}
use Rattle.wire_catalog.specs.fleet_rows.declared.store.Mark.{Mark}
use Rattle.record_fields.specs.history_spec.Lawful.{HasStamp, IfMoment, IsCertname, IsChange}
use Rattle.record_fields.specs.record_spec.declared.store.StoreRecord.{StoreRecord}
use Rattle.record_fields.specs.record_spec.declared.store.StoreRecord.TheVariants as store
use Rattle.record_fields.specs.record_spec.Parts.{bytes_text, short_text, long_text, moment_text, optional, kinds_number}
use Rattle.record_fields.specs.record_spec.Changes.{change_text}
use Rattle.record_fields.specs.record_spec.Store.{days_text, store_text, IfReceipt, IsStoreRecord}
use Rattle.record_fields.specs.Reading.{◌>>=◌, Reader, read_as, both_at, number_at, moment_at, optional_at, ended}
use Rattle.record_fields.proofs.Fields.{IsBytes, IsBytes-rest, bind_some, some_is, ended_some, Takes, all_taken, IsField, alone, bare_takes}
use Rattle.record_fields.proofs.Joins.{both, respelled}
use Rattle.record_fields.proofs.Parts.{number64}
use Rattle.record_fields.proofs.Moments.{moments}
use Rattle.store_records.specs.Reading.{whole, Days, lifetimes_at, make_settings, settings_at, make_limits, limits_at, make_base, base_at, make_marks, marks_at, kinds_with, kinds_at, make_swept, swept_at, make_applied, applied_at, make_received, received_at, store_at}
use Rattle.record_values.specs.Fields.{certname_at, between_at}
use Rattle.change_reader.specs.Changes.{change_at}
use Rattle.record_values.proofs.Singles.{IsBetween, certnames, betweens, if_longs, if_moments}
use Rattle.change_reader.proofs.Changes.{changes}
use Rattle.json_read.specs.stamp_time.Limits.{most_days}

abbrev Reads : List ℕ → StoreRecord → Type 0
Reads bytes r = IsStoreRecord r × (bytes ≡ store_text r)

-- ---- a record of one variant: its fields, and no byte behind them

module _ {A : Type 0} (text : A → List ℕ) (read : Reader A) (Fits : A → Type 0) (field : IsField text read Fits) (make : A → StoreRecord) (tag : ℕ)
    (same : (x : A) → store_text (make x) ≡ tag ∷ text x) (fits : (x : A) → Fits x → IsStoreRecord (make x)) where
  whole_takes : (bytes : List ℕ) (r : StoreRecord) → IsBytes (tag ∷ bytes) → whole (read_as make read bytes) ≡ Some r → Reads (tag ∷ bytes) r
  whole_takes bytes r are e =
      let a = bind_some (read_as make read bytes) (λ a. ended a.0 a.1) r e in
      let b = bind_some (read bytes) (λ b. Some (make b.0, b.1)) a.0 a.1 in
      let z = ended_some a.0.0 r a.0.1 a.2 in
      let pair : (make b.0.0, b.0.1) ≡ a.0 = some_is (make b.0.0, b.0.1) a.0 b.2 in
      let t = field.takes bytes b.0.0 b.0.1 (IsBytes-rest tag bytes are) b.1 in
      let nothing : b.0.1 ≡ [] = ap (λ (p : StoreRecord × List ℕ). p.1) pair ∙ z.0 in
      let is : make b.0.0 ≡ r = ap (λ (p : StoreRecord × List ℕ). p.0) pair ∙ z.1 in
      subst (λ q. Reads (tag ∷ bytes) q) is (fits b.0.0 t.1, ap (λ (l : List ℕ). tag ∷ l) (all_taken bytes (text b.0.0) b.0.1 t.0 nothing) ∙ sym (same b.0.0))

  whole_again : (x : A) → Fits x → whole (read_as make read (text x)) ≡ Some (make x)
  whole_again x f = ap (λ (o : Option (A × List ℕ)). whole (o >>= λ a. Some (make a.0, a.1))) (alone text read Fits field x f)

-- ---- the fields of each

abbrev days_of : Days → List ℕ
days_of p = days_text p.0 p.1.0 p.1.1

abbrev AreDays : Days → Type 0
AreDays p = IsBetween 1 most_days p.0 × (IsBetween 1 most_days p.1.0 × IsBetween 1 most_days p.1.1)

lifetimes : IsField days_of lifetimes_at AreDays
unfolding lifetimes_at
lifetimes = both (betweens 1 most_days (omega arith)) (both (betweens 1 most_days (omega arith)) (betweens 1 most_days (omega arith)))

kind_bits : Kinds → List ℕ
kind_bits k = kinds_number k ∷ []

abbrev AnyKinds : Kinds → Type 0
AnyKinds k = Unit {0}

kinds_take : (bytes : List ℕ) (x : Kinds) (rest : List ℕ) → IsBytes bytes → kinds_at bytes ≡ Some (x, rest) → Takes bytes (kind_bits x) rest × AnyKinds x
unfolding kind_bits
kinds_take [] x rest are e = absurd cc
kinds_take (zero ∷ bytes) x rest are e = bare_takes kind_bits AnyKinds 0 (kinds_with false false false) refl tt bytes x rest are e
kinds_take (suc zero ∷ bytes) x rest are e = bare_takes kind_bits AnyKinds 1 (kinds_with true false false) refl tt bytes x rest are e
kinds_take (suc (suc zero) ∷ bytes) x rest are e = bare_takes kind_bits AnyKinds 2 (kinds_with false true false) refl tt bytes x rest are e
kinds_take (suc (suc (suc zero)) ∷ bytes) x rest are e = bare_takes kind_bits AnyKinds 3 (kinds_with true true false) refl tt bytes x rest are e
kinds_take (suc (suc (suc (suc zero))) ∷ bytes) x rest are e = bare_takes kind_bits AnyKinds 4 (kinds_with false false true) refl tt bytes x rest are e
kinds_take (suc (suc (suc (suc (suc zero)))) ∷ bytes) x rest are e = bare_takes kind_bits AnyKinds 5 (kinds_with true false true) refl tt bytes x rest are e
kinds_take (suc (suc (suc (suc (suc (suc zero))))) ∷ bytes) x rest are e = bare_takes kind_bits AnyKinds 6 (kinds_with false true true) refl tt bytes x rest are e
kinds_take (suc (suc (suc (suc (suc (suc (suc zero)))))) ∷ bytes) x rest are e = bare_takes kind_bits AnyKinds 7 (kinds_with true true true) refl tt bytes x rest are e
kinds_take (suc (suc (suc (suc (suc (suc (suc (suc number))))))) ∷ bytes) x rest are e = absurd cc

kinds_step : (expire purge reports : Bool) (rest : List ℕ) → kinds_at (kind_bits (kinds_with expire purge reports) ++ rest) ≡ Some (kinds_with expire purge reports, rest)
unfolding kind_bits
kinds_step false false false rest = refl
kinds_step true false false rest = refl
kinds_step false true false rest = refl
kinds_step true true false rest = refl
kinds_step false false true rest = refl
kinds_step true false true rest = refl
kinds_step false true true rest = refl
kinds_step true true true rest = refl

sweeps : IsField kind_bits kinds_at AnyKinds
sweeps = record { takes = kinds_take; again = λ x rest fits. kinds_step x.expire x.purge x.reports rest }

abbrev base_text : Option ℤ × (Option ℤ × Option ℕ) → List ℕ
base_text p = optional moment_text p.0 ++ (optional moment_text p.1.0 ++ optional long_text p.1.1)

abbrev marks_text : List ℕ × (Option ℤ × Option ℤ) → List ℕ
marks_text p = bytes_text p.0 ++ (optional moment_text p.1.0 ++ optional moment_text p.1.1)

limits_fields : IsField (λ (p : Days × ℕ). days_of p.0 ++ short_text p.1) (both_at lifetimes_at (between_at 1 1_000_000)) (λ p. AreDays p.0 × IsBetween 1 1_000_000 p.1)
limits_fields = both lifetimes (betweens 1 1_000_000 (omega arith))

base_fields : IsField base_text (both_at (optional_at moment_at) (both_at (optional_at moment_at) (optional_at (number_at w64)))) (λ p. IfMoment p.0 × (IfMoment p.1.0 × IfReceipt p.1.1))
base_fields = both if_moments (both if_moments if_longs)

marks_fields : IsField marks_text (both_at certname_at (both_at (optional_at moment_at) (optional_at moment_at))) (λ p. IsCertname p.0 × (IfMoment p.1.0 × IfMoment p.1.1))
marks_fields = both certnames (both if_moments if_moments)

swept_fields : IsField (λ (p : Kinds × ℤ). kind_bits p.0 ++ moment_text p.1) (both_at kinds_at moment_at) (λ p. AnyKinds p.0 × HasStamp p.1)
swept_fields = both sweeps moments

applied_fields : IsField (λ (p : ℕ × Change). long_text p.0 ++ change_text p.1) (both_at (number_at w64) change_at) (λ p. (p.0 < 2 ^ 64) × IsChange p.1)
applied_fields = both number64 changes

received_fields : IsField (λ (p : ℕ × (Option ℤ × Change)). long_text p.0 ++ (optional moment_text p.1.0 ++ change_text p.1.1)) (both_at (number_at w64) (both_at (optional_at moment_at) change_at)) (λ p. (p.0 < 2 ^ 64) × (IfMoment p.1.0 × IsChange p.1.1))
received_fields = both number64 (both if_moments changes)

-- ---- a record

days_fit : (p : Days) → AreDays p → IsStoreRecord (make_settings p)
days_fit p f = (f.0, f.1.0, f.1.1)

limits_fit : (p : Days × ℕ) → AreDays p.0 × IsBetween 1 1_000_000 p.1 → IsStoreRecord (make_limits p)
limits_fit p f = ((f.0.0, f.0.1.0, f.0.1.1), f.1)

limits_same : (p : Days × ℕ) → store_text (make_limits p) ≡ 6 ∷ days_of p.0 ++ short_text p.1
limits_same p = refl

swept_same : (p : Kinds × ℤ) → store_text (make_swept p) ≡ 4 ∷ kind_bits p.0 ++ moment_text p.1
unfolding kind_bits
swept_same p = refl

pub store_takes : (bytes : List ℕ) (r : StoreRecord) → IsBytes bytes → store_at bytes ≡ Some r → Reads bytes r
unfolding store_at settings_at base_at marks_at applied_at swept_at received_at limits_at
store_takes [] r are e = absurd cc
store_takes (zero ∷ rest) r are e = whole_takes days_of lifetimes_at AreDays lifetimes make_settings 0 (λ p. refl) days_fit rest r are e
store_takes (suc zero ∷ rest) r are e = whole_takes base_text _ _ base_fields make_base 1 (λ p. refl) (λ p f. (f.0, f.1.0, f.1.1)) rest r are e
store_takes (suc (suc zero) ∷ rest) r are e = whole_takes marks_text _ _ marks_fields make_marks 2 (λ p. refl) (λ p f. (f.0, f.1.0, f.1.1)) rest r are e
store_takes (suc (suc (suc zero)) ∷ rest) r are e = whole_takes _ _ _ applied_fields make_applied 3 (λ p. refl) (λ p f. (f.0, f.1)) rest r are e
store_takes (suc (suc (suc (suc zero))) ∷ rest) r are e = whole_takes _ _ _ swept_fields make_swept 4 swept_same (λ p f. f.1) rest r are e
store_takes (suc (suc (suc (suc (suc zero)))) ∷ rest) r are e = whole_takes _ _ _ received_fields make_received 5 (λ p. refl) (λ p f. (f.0, f.1.0, f.1.1)) rest r are e
store_takes (suc (suc (suc (suc (suc (suc zero))))) ∷ rest) r are e = whole_takes _ _ _ limits_fields make_limits 6 limits_same limits_fit rest r are e
store_takes (suc (suc (suc (suc (suc (suc (suc tag)))))) ∷ rest) r are e = absurd cc

pub store_again : (r : StoreRecord) → IsStoreRecord r → store_at (store_text r) ≡ Some r
unfolding store_at settings_at base_at marks_at applied_at swept_at received_at limits_at kind_bits
store_again (store.Settings node purge report) fits = whole_again days_of lifetimes_at AreDays lifetimes make_settings 0 (λ p. refl) days_fit (node, (purge, report)) (fits.0, (fits.1, fits.2))
store_again (store.Base expire retain taken) fits = whole_again base_text _ _ base_fields make_base 1 (λ p. refl) (λ p f. (f.0, f.1.0, f.1.1)) (expire, (retain, taken)) (fits.0, (fits.1, fits.2))
store_again (store.Marks m) fits = whole_again marks_text _ _ marks_fields make_marks 2 (λ p. refl) (λ p f. (f.0, f.1.0, f.1.1)) (m.certname, (m.active, m.deactivated)) (fits.0, (fits.1, fits.2))
store_again (store.Applied receipt c) fits = whole_again _ _ _ applied_fields make_applied 3 (λ p. refl) (λ p f. (f.0, f.1)) (receipt, c) (fits.0, fits.1)
store_again (store.Swept kinds m) fits = whole_again _ _ _ swept_fields make_swept 4 swept_same (λ p f. f.1) (kinds, m) (tt, fits)
store_again (store.Received receipt received c) fits = whole_again _ _ _ received_fields make_received 5 (λ p. refl) (λ p f. (f.0, f.1.0, f.1.1)) (receipt, (received, c)) (fits.0, (fits.1, fits.2))
store_again (store.Limits node purge report count) fits = whole_again _ _ _ limits_fields make_limits 6 limits_same limits_fit ((node, (purge, report)), count) ((fits.0.0, (fits.0.1, fits.0.2)), fits.1)

-- no record has the spelling of another
pub store_told : (r q : StoreRecord) → IsStoreRecord r → IsStoreRecord q → store_text r ≡ store_text q → r ≡ q
store_told r q fits too same =
    let e : Some r ≡ Some q = sym (store_again r fits) ∙ ap store_at same ∙ store_again q too in cc

-- and bytes off which nothing is read are no record's
pub store_not : (bytes : List ℕ) → store_at bytes ≡ None → (r : StoreRecord) → IsStoreRecord r → bytes ≡ store_text r → ⊥
store_not bytes is r fit text =
    let e : None ≡ Some r = sym is ∙ ap store_at text ∙ store_again r fit in cc

store_found : (bytes : List ℕ) (o : Option StoreRecord) → IsBytes bytes → o ≡ store_at bytes
    → MatchOption o ((r : StoreRecord) → IsStoreRecord r → bytes ≡ store_text r → ⊥) (λ r. IsStoreRecord r × (bytes ≡ store_text r))
store_found bytes None fits is = store_not bytes (sym is)
store_found bytes (Some r) fits is = store_takes bytes r fits (sym is)

pub store_read : {E : Type 0} (bytes : List ℕ) (r : Result (Option StoreRecord) E) → IsBytes bytes → IfOk r (λ o. o ≡ store_at bytes)
    → IfOk r (λ o. MatchOption o ((r : StoreRecord) → IsStoreRecord r → bytes ≡ store_text r → ⊥) (λ r. IsStoreRecord r × (bytes ≡ store_text r)))
store_read bytes (Ok o) fits is = store_found bytes o fits is
store_read bytes (Err e) fits is = tt
