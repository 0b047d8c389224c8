-- The field of a relationship.
use Rattle.std.proofs.Common.{◌≡◌, ℕ, ◌^◌, ◌<◌, Bool, true, false, cond, ◌&&◌, ltb, List, [], ◌∷◌, ◌++◌, length, Option, Some, codes, refl, ap, subst, ◌∙◌, arith}
use Rattle.std.specs.Str.{IsUtf8, bytes_eq}
use Rattle.std.proofs.lemmas.Bool.{ltb-true}
use Rattle.std.proofs.lemmas.Str.{IsUtf8-nil, IsUtf8-append}
use Rattle.std.proofs.lemmas.Slice.Eq.{bytes_eq-Decides}
use Rattle.json_read.proofs.of_plain_laws.Booleans.{both_true}
use Rattle.wire_catalog.specs.fleet_rows.declared.catalog.Relationship.{Relationship}
use Rattle.wire_catalog.specs.fleet_rows.declared.catalog.Relationship.TheVariants as relationship
use Rattle.wire_catalog.specs.wire_spec.Table.{relationship_name}
use Rattle.record_fields.specs.history_spec.Lawful.{IsText}
use Rattle.record_fields.specs.record_spec.Parts.{bytes_text}
use Rattle.record_fields.specs.Reading.{◌>>=◌, text_at}
use Rattle.record_fields.proofs.Fields.{IsBytes, bind_some, some_is, Takes, IsField}
use Rattle.record_fields.proofs.Parts.{texts}
use Rattle.json_read.proofs.of_json_machine.SpelledBytes.{ascii-utf8}
use Rattle.change_reader.specs.Relationships.{relationship_named, relationship_at}

abbrev pub relationship_text : Relationship → List ℕ
relationship_text r = bytes_text (relationship_name r)

abbrev pub AnyRelationship : Relationship → Type 0
AnyRelationship r = Unit {0}

if_same : (b : Bool) (s : List ℕ) (r q : Relationship) (other : Option Relationship) → bytes_eq s (relationship_name r) ≡ b → cond b (Some r) other ≡ Some q → (other ≡ Some q → s ≡ relationship_name q) → s ≡ relationship_name q
if_same true s r q other is e next = (bytes_eq-Decides s (relationship_name r)).0 is ∙ ap relationship_name (some_is r q e)
if_same false s r q other is e next = next e

name_is : (s : List ℕ) (q : Relationship) → relationship_named s ≡ Some q → s ≡ relationship_name q
name_is s q e =
    if_same _ s relationship.Contains q _ refl e
    (λ e. if_same _ s relationship.Before q _ refl e
    (λ e. if_same _ s relationship.RequiredBy q _ refl e
    (λ e. if_same _ s relationship.Notifies q _ refl e
    (λ e. if_same _ s relationship.SubscriptionOf q _ refl e (λ e. absurd cc)))))

is_named : (r : Relationship) → relationship_named (relationship_name r) ≡ Some r
is_named relationship.Contains = refl
is_named relationship.Before = refl
is_named relationship.RequiredBy = refl
is_named relationship.Notifies = refl
is_named relationship.SubscriptionOf = refl

all_low : List ℕ → Bool
all_low [] = true
all_low (b ∷ bs) = ltb b 128 && all_low bs

ascii_text : (s : List ℕ) → all_low s ≡ true → IsUtf8 s
unfolding all_low
ascii_text [] low = IsUtf8-nil
ascii_text (b ∷ bs) low =
    let two = both_true (ltb b 128) (all_low bs) low in
    IsUtf8-append (b ∷ []) bs (ascii-utf8 (b ∷ []) (ltb-true _ _ two.0, tt)) (ascii_text bs two.1)

name_text : (r : Relationship) → IsText (relationship_name r)
unfolding all_low
name_text relationship.Contains = record { utf8 = ascii_text (codes "contains") refl; counted = omega arith }
name_text relationship.Before = record { utf8 = ascii_text (codes "before") refl; counted = omega arith }
name_text relationship.RequiredBy = record { utf8 = ascii_text (codes "required-by") refl; counted = omega arith }
name_text relationship.Notifies = record { utf8 = ascii_text (codes "notifies") refl; counted = omega arith }
name_text relationship.SubscriptionOf = record { utf8 = ascii_text (codes "subscription-of") refl; counted = omega arith }

pub name_counted : (r : Relationship) → length (relationship_name r) < 2 ^ 32
name_counted r = (name_text r).counted

relationship_takes : (bytes : List ℕ) (x : Relationship) (rest : List ℕ) → IsBytes bytes → relationship_at bytes ≡ Some (x, rest) → Takes bytes (relationship_text x) rest × AnyRelationship x
unfolding relationship_at
relationship_takes bytes x rest are e =
    let a = bind_some (text_at bytes) (λ text. relationship_named text.0 >>= λ r. Some (r, text.1)) (x, rest) e in
    let b = bind_some (relationship_named a.0.0) (λ r. Some (r, a.0.1)) (x, rest) a.2 in
    let t = texts.takes bytes a.0.0 a.0.1 are a.1 in
    let whole : Takes bytes (relationship_text b.0) a.0.1 = subst (λ (l : List ℕ). Takes bytes (bytes_text l) a.0.1) (name_is a.0.0 b.0 b.1) t.0 in
    subst (λ (p : Relationship × List ℕ). Takes bytes (relationship_text p.0) p.1 × AnyRelationship p.0) (some_is (b.0, a.0.1) (x, rest) b.2) (whole, tt)

relationship_again : (x : Relationship) (rest : List ℕ) → AnyRelationship x → relationship_at (relationship_text x ++ rest) ≡ Some (x, rest)
unfolding relationship_at
relationship_again x rest fits = rw (texts.again (relationship_name x) rest (name_text x), is_named x) refl

pub relationships : IsField relationship_text relationship_at AnyRelationship
relationships = record { takes = relationship_takes; again = relationship_again }
