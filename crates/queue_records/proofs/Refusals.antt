-- Fields' numbers, places, refusals and causes.
use Rattle.std.proofs.Common.{◌≡◌, ℕ, zero, suc, ◌+◌, List, [], ◌∷◌, ◌++◌, map, slice_get, Option, Some, None, refl, sym, ap, subst, ◌∙◌, append_assoc, arith}
use Rattle.std.specs.Option.{option_map}
use Rattle.std.specs.Int.{w32, w64}
use Rattle.std.proofs.lemmas.Option.{slice_get-map}
use Rattle.record_fields.specs.fleet_rows.declared.refusal.Field.{Field}
use Rattle.record_fields.specs.fleet_rows.declared.refusal.Field.TheVariants as field
use Rattle.record_fields.specs.fleet_rows.declared.refusal.Place.{Place}
use Rattle.record_fields.specs.fleet_rows.declared.refusal.Refusal.{Refusal}
use Rattle.record_fields.specs.fleet_rows.declared.refusal.Refusal.TheVariants as refusal
use Rattle.record_fields.specs.fleet_rows.declared.refusal.Cause.{Cause}
use Rattle.record_fields.specs.fleet_rows.declared.refusal.Cause.TheVariants as cause
use Rattle.record_fields.specs.record_spec.Parts.{optional, short_text, long_text}
use Rattle.record_fields.specs.record_spec.Refusals.{fields, field_number, place_bytes, refusal_bytes, cause_bytes, IsIndex, IsPlace, IsRefusal, IsCause}
use Rattle.record_fields.specs.Reading.{◌>>=◌, number_at, optional_at}
use Rattle.record_fields.proofs.Fields.{IsBytes, IsBytes-rest, bind_some, some_is, Takes, Takes-then, IsField, bare_takes, variant_takes}
use Rattle.record_fields.proofs.Joins.{as_option}
use Rattle.record_fields.proofs.Parts.{IsShort, IsLong, number32, number64}
use Rattle.queue_records.specs.Reading.{with_rest, field_at, place_at, refusal_at, cause_at}

indices : IsField (optional short_text) (optional_at (number_at w32)) IsIndex
indices = as_option number32 IsIndex tt (λ n lt. lt) (λ n lt. lt)

-- ---- fields

abbrev field_text : Field → List ℕ
field_text f = field_number f ∷ []

abbrev Always : Field → Type 0
Always f = Unit {0}

-- a field stands at its number
field_stands : (f : Field) → slice_get fields (field_number f) ≡ Some f
field_stands field.Certname = refl
field_stands field.Environment = refl
field_stands field.Values = refl
field_stands field.ProducerTimestamp = refl
field_stands field.Producer = refl
field_stands field.Version = refl
field_stands field.TransactionUuid = refl
field_stands field.CatalogUuid = refl
field_stands field.CodeId = refl
field_stands field.JobId = refl
field_stands field.Edges = refl
field_stands field.Resources = refl
field_stands field.«Type» = refl
field_stands field.Title = refl
field_stands field.Exported = refl
field_stands field.File = refl
field_stands field.Line = refl
field_stands field.Tags = refl
field_stands field.Parameters = refl
field_stands field.Source = refl
field_stands field.SourceType = refl
field_stands field.SourceTitle = refl
field_stands field.Target = refl
field_stands field.TargetType = refl
field_stands field.TargetTitle = refl
field_stands field.Relationship = refl
field_stands field.PuppetVersion = refl
field_stands field.ReportFormat = refl
field_stands field.ConfigurationVersion = refl
field_stands field.StartTime = refl
field_stands field.EndTime = refl
field_stands field.Noop = refl
field_stands field.Status = refl
field_stands field.Logs = refl
field_stands field.Metrics = refl
field_stands field.ResourceType = refl
field_stands field.ResourceTitle = refl
field_stands field.Events = refl
field_stands field.Timestamp = refl
field_stands field.Property = refl
field_stands field.Message = refl
field_stands field.Expire = refl
field_stands field.ExpireFacts = refl

-- and what stands at a number has it
counting : ℕ → ℕ → List ℕ
counting first zero = []
counting first (suc n) = first ∷ counting (suc first) n

counts : (first n k m : ℕ) → slice_get (counting first n) k ≡ Some m → m ≡ first + k
unfolding counting
counts first zero k m is = absurd cc
counts first (suc n) zero m is = let e : first ≡ m = some_is first m is in omega (arith, e)
counts first (suc n) (suc k) m is = let e = counts (suc first) n k m is in omega (arith, e)

numbered : map field_number fields ≡ counting 0 43
unfolding counting
numbered = refl

number_is : (k : ℕ) (f : Field) → slice_get fields k ≡ Some f → field_number f ≡ k
number_is k f is =
    let mapped : slice_get (counting 0 43) k ≡ Some (field_number f) = ap (λ (l : List ℕ). slice_get l k) (sym numbered) ∙ slice_get-map field_number fields k ∙ ap (option_map field_number) is in
    let e = counts 0 43 k (field_number f) mapped in omega (arith, e)

with_rest_some : (rest : List ℕ) (o : Option Field) (x : Field) (left : List ℕ) → with_rest rest o ≡ Some (x, left) → (o ≡ Some x) × (rest ≡ left)
with_rest_some rest None x left e = absurd cc
with_rest_some rest (Some f) x left e =
    let p : (f, rest) ≡ (x, left) = some_is (f, rest) (x, left) e in
    (ap (λ (q : Field × List ℕ). Some q.0) p, ap (λ (q : Field × List ℕ). q.1) p)

field_takes : (bytes : List ℕ) (x : Field) (rest : List ℕ) → IsBytes bytes → field_at bytes ≡ Some (x, rest) → Takes bytes (field_text x) rest × Always x
field_takes [] x rest are e = absurd cc
field_takes (number ∷ bytes) x rest are e =
    let w = with_rest_some bytes (slice_get fields number) x rest e in
    let n : number ≡ field_number x = sym (number_is number x w.0) in
    (record { parts = λ i. n i ∷ w.1 i; rest_fits = subst IsBytes w.1 (IsBytes-rest number bytes are) }, tt)

field_again : (x : Field) (rest : List ℕ) → Always x → field_at (field_text x ++ rest) ≡ Some (x, rest)
field_again x rest fits = ap (with_rest rest) (field_stands x)

pub field_field : IsField field_text field_at Always
field_field = record { takes = field_takes; again = field_again }

-- ---- places

place_takes : (bytes : List ℕ) (x : Place) (rest : List ℕ) → IsBytes bytes → place_at bytes ≡ Some (x, rest) → Takes bytes (place_bytes x) rest × IsPlace x
unfolding place_at
place_takes bytes x rest are e =
    let a = bind_some (field_at bytes) (λ f. optional_at (number_at w32) f.1 >>= λ outer. optional_at (number_at w32) outer.1 >>= λ inner. Some (record { field = f.0; outer = outer.0; inner = inner.0 }, inner.1)) (x, rest) e in
    let b = bind_some (optional_at (number_at w32) a.0.1) (λ outer. optional_at (number_at w32) outer.1 >>= λ inner. Some (record { field = a.0.0; outer = outer.0; inner = inner.0 }, inner.1)) (x, rest) a.2 in
    let d = bind_some (optional_at (number_at w32) b.0.1) (λ inner. Some (record { field = a.0.0; outer = b.0.0; inner = inner.0 }, inner.1)) (x, rest) b.2 in
    let s = field_field.takes bytes a.0.0 a.0.1 are a.1 in
    let t = indices.takes a.0.1 b.0.0 b.0.1 s.0.rest_fits b.1 in
    let u = indices.takes b.0.1 d.0.0 d.0.1 t.0.rest_fits d.1 in
    let tu = Takes-then a.0.1 (optional short_text b.0.0) b.0.1 (optional short_text d.0.0) d.0.1 t.0 u.0 in
    let all = Takes-then bytes (field_text a.0.0) a.0.1 (optional short_text b.0.0 ++ optional short_text d.0.0) d.0.1 s.0 tu in
    let made : Place = record { field = a.0.0; outer = b.0.0; inner = d.0.0 } in
    subst (λ (p : Place × List ℕ). Takes bytes (place_bytes p.0) p.1 × IsPlace p.0) (some_is (made, d.0.1) (x, rest) d.2) (all, (t.1, u.1))

place_again : (x : Place) (rest : List ℕ) → IsPlace x → place_at (place_bytes x ++ rest) ≡ Some (x, rest)
unfolding place_at
place_again x rest fits =
    let regrouped : place_bytes x ++ rest ≡ field_text x.field ++ (optional short_text x.outer ++ (optional short_text x.inner ++ rest)) = ap (λ (l : List ℕ). field_number x.field ∷ l) (append_assoc (optional short_text x.outer) (optional short_text x.inner) rest) in
    ap place_at regrouped ∙ rw (field_again x.field (optional short_text x.outer ++ (optional short_text x.inner ++ rest)) tt, indices.again x.outer (optional short_text x.inner ++ rest) fits.0, indices.again x.inner rest fits.1) refl

pub places : IsField place_bytes place_at IsPlace
places = record { takes = place_takes; again = place_again }

-- ---- refusals

refusal_takes : (bytes : List ℕ) (x : Refusal) (rest : List ℕ) → IsBytes bytes → refusal_at bytes ≡ Some (x, rest) → Takes bytes (refusal_bytes x) rest × IsRefusal x
unfolding refusal_at
refusal_takes [] x rest are e = absurd cc
refusal_takes (zero ∷ bytes) x rest are e = bare_takes refusal_bytes IsRefusal 0 refusal.BadVersion refl tt bytes x rest are e
refusal_takes (suc zero ∷ bytes) x rest are e = variant_takes long_text (number_at w64) IsLong number64 refusal.NotJson refusal_bytes IsRefusal 1 (λ n. refl) (λ n lt. lt) bytes x rest are e
refusal_takes (suc (suc zero) ∷ bytes) x rest are e = variant_takes long_text (number_at w64) IsLong number64 refusal.TooDeep refusal_bytes IsRefusal 2 (λ n. refl) (λ n lt. lt) bytes x rest are e
refusal_takes (suc (suc (suc zero)) ∷ bytes) x rest are e = bare_takes refusal_bytes IsRefusal 3 refusal.NotObject refl tt bytes x rest are e
refusal_takes (suc (suc (suc (suc zero))) ∷ bytes) x rest are e = variant_takes place_bytes place_at IsPlace places refusal.Missing refusal_bytes IsRefusal 4 (λ n. refl) (λ n lt. lt) bytes x rest are e
refusal_takes (suc (suc (suc (suc (suc zero)))) ∷ bytes) x rest are e = variant_takes place_bytes place_at IsPlace places refusal.Wrong refusal_bytes IsRefusal 5 (λ n. refl) (λ n lt. lt) bytes x rest are e
refusal_takes (suc (suc (suc (suc (suc (suc zero))))) ∷ bytes) x rest are e = variant_takes place_bytes place_at IsPlace places refusal.BadStamp refusal_bytes IsRefusal 6 (λ n. refl) (λ n lt. lt) bytes x rest are e
refusal_takes (suc (suc (suc (suc (suc (suc (suc zero)))))) ∷ bytes) x rest are e = variant_takes short_text (number_at w32) IsShort number32 refusal.DuplicateResource refusal_bytes IsRefusal 7 (λ n. refl) (λ n lt. lt) bytes x rest are e
refusal_takes (suc (suc (suc (suc (suc (suc (suc (suc zero))))))) ∷ bytes) x rest are e = variant_takes short_text (number_at w32) IsShort number32 refusal.BadRelationship refusal_bytes IsRefusal 8 (λ n. refl) (λ n lt. lt) bytes x rest are e
refusal_takes (suc (suc (suc (suc (suc (suc (suc (suc (suc tag)))))))) ∷ bytes) x rest are e = absurd cc

refusal_again : (x : Refusal) (rest : List ℕ) → IsRefusal x → refusal_at (refusal_bytes x ++ rest) ≡ Some (x, rest)
unfolding refusal_at
refusal_again refusal.BadVersion rest fits = refl
refusal_again (refusal.NotJson x) rest fits = rw (number64.again x rest fits) refl
refusal_again (refusal.TooDeep x) rest fits = rw (number64.again x rest fits) refl
refusal_again refusal.NotObject rest fits = refl
refusal_again (refusal.Missing x) rest fits = rw (places.again x rest fits) refl
refusal_again (refusal.Wrong x) rest fits = rw (places.again x rest fits) refl
refusal_again (refusal.BadStamp x) rest fits = rw (places.again x rest fits) refl
refusal_again (refusal.DuplicateResource x) rest fits = rw (number32.again x rest fits) refl
refusal_again (refusal.BadRelationship x) rest fits = rw (number32.again x rest fits) refl

pub refusals : IsField refusal_bytes refusal_at IsRefusal
refusals = record { takes = refusal_takes; again = refusal_again }

cause_takes : (bytes : List ℕ) (x : Cause) (rest : List ℕ) → IsBytes bytes → cause_at bytes ≡ Some (x, rest) → Takes bytes (cause_bytes x) rest × IsCause x
unfolding cause_at
cause_takes [] x rest are e = absurd cc
cause_takes (zero ∷ bytes) x rest are e = variant_takes refusal_bytes refusal_at IsRefusal refusals cause.Refused cause_bytes IsCause 0 (λ n. refl) (λ n fits. fits) bytes x rest are e
cause_takes (suc zero ∷ bytes) x rest are e = bare_takes cause_bytes IsCause 1 cause.Failures refl tt bytes x rest are e
cause_takes (suc (suc tag) ∷ bytes) x rest are e = absurd cc

cause_again : (x : Cause) (rest : List ℕ) → IsCause x → cause_at (cause_bytes x ++ rest) ≡ Some (x, rest)
unfolding cause_at
cause_again (cause.Refused r) rest fits = rw (refusals.again r rest fits) refl
cause_again cause.Failures rest fits = refl

pub causes : IsField cause_bytes cause_at IsCause
causes = record { takes = cause_takes; again = cause_again }
