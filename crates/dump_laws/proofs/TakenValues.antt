-- Values that are taken as what they were made of.
use Rattle.std.proofs.Common.{◌≡◌, ◌≢◌, ℕ, ◌<◌, ◌≤◌, ◌^◌, ℤ, List, [], ◌∷◌, length, map, arith, refl, ap, Bool, true, false, ◌&&◌, if◌then◌else◌, Option, Some, None, Ok, unwrap_or}
use Rattle.std.specs.Prelude.{decimal, nat_le}
use Rattle.std.specs.Char.{is_ascii_digit}
use Rattle.std.specs.List.{list_all}
use Rattle.std.specs.List.Sorted.{IsStrictlySortedBy}
use Rattle.std.specs.Option.{option_map}
use Rattle.std.proofs.lemmas.Fmt.{length-decimal-le, decimal_nonempty, digits_value-decimal, decimal_is_IsNumeral}
use Rattle.dump_spec.specs.text_spec.Compact.{text_cmp}
use Rattle.dump_spec.specs.text_spec.Json.{Json, boolean, string}
use Rattle.dump_spec.specs.fleet_rows.Texts.{sorted_texts}
use Rattle.dump_spec.specs.fleet_rows.declared.refusal.Place.{Place}
use Rattle.dump_spec.specs.history_spec.Lawful.{IfWhole, IfMoment, HasStamp}
use Rattle.dump_spec.specs.wire_spec.Table as table
use Rattle.dump_spec.specs.wire_spec.Table.{Pairs, ◌>>=◌, taken, taken_if, is_whole, stamp_or}
use Rattle.dump_spec.specs.Payloads.{list, members, whole, stamp, if_any, if_true}
use Rattle.dump_spec.specs.Stamps.{short_text}
use Rattle.dump_spec.proofs.of_plain_laws.Booleans.{true_both}
use Rattle.dump_spec.proofs.of_plain_laws.Digits.{numerals}
use Rattle.dump_spec.proofs.of_plain_laws.StrictlySorted.{sorted-unique}
use Rattle.dump_spec.proofs.of_history_laws.SortedTexts.{text_cmp_total, sorted_texts_are_sorted, Among-sorted_texts, Among-from_sorted_texts}
use Rattle.dump_spec.proofs.of_text_spec.JsonLemmas.{members_list-of, items_list-of}
use Rattle.dump_spec.proofs.of_text_laws.StampLaws.{stamp_is_read}
use Rattle.dump_laws.proofs.ShortStamps.{short_texts_are_stamps}

pub nonempty : (p : Place) (s : List ℕ) → s ≢ [] → table.nonempty_text p (string s) ≡ Ok s
nonempty p [] h = absurd (h refl)
nonempty p (x ∷ s) h = refl

pub text_if : (p : Place) (o : Option (List ℕ)) → taken_if table.text p (option_map string o) ≡ Ok o
text_if p None = refl
text_if p (Some s) = refl

pub bool_if : (p : Place) (o : Option Bool) → taken_if table.bool p (option_map boolean o) ≡ Ok o
bool_if p None = refl
bool_if p (Some b) = refl

pub stamp_is : (p : Place) (m : ℤ) → HasStamp m → table.stamp p (stamp m) ≡ Ok m
stamp_is p m h = ap (stamp_or p) (stamp_is_read (short_text m) m (short_texts_are_stamps m h))

pub stamp_if : (p : Place) (o : Option ℤ) → IfMoment o → taken_if table.stamp p (option_map stamp o) ≡ Ok o
stamp_if p None h = refl
stamp_if p (Some m) h = ap (λ c. c >>= (λ a. Ok (Some a))) (stamp_is p m h)

pub members_is : (p : Place) (ms : Pairs) → table.members p (members ms) ≡ Ok ms
members_is p ms = ap (λ l. Ok l) (members_list-of ms)

pub items_is : (p : Place) (js : List Json) → table.items p (list js) ≡ Ok js
items_is p js = ap (λ l. Ok l) (items_list-of js)

-- ---- numbers

all_digits : (n : ℕ) → n < 2 ^ 64 → list_all is_ascii_digit (decimal n) ≡ true
all_digits n h = numerals.from (decimal n) (decimal_is_IsNumeral n h).0.1

decimal_is_whole : (n : ℕ) → n < 10 ^ 18 → is_whole (decimal n) ≡ true
decimal_is_whole n h =
    let fits : n < 2 ^ 64 = omega (arith, h) in
    let some = decimal_nonempty n fits in
    let few = length-decimal-le 18 n (omega arith) h fits in
    true_both (nat_le 1 (length (decimal n)) && nat_le (length (decimal n)) 18) (list_all is_ascii_digit (decimal n))
    (true_both (nat_le 1 (length (decimal n))) (nat_le (length (decimal n)) 18) (at_least 1 (length (decimal n)) (omega (arith, some))) (at_least (length (decimal n)) 18 few)) (all_digits n fits)
  where
    at_least : (a b : ℕ) → a ≤ b → nat_le a b ≡ true
    at_least a b le = grind arith

whole_is : (p : Place) (n : ℕ) → n < 10 ^ 18 → table.whole_number p (whole n) ≡ Ok n
whole_is p n h = rw (decimal_is_whole n h) (ap (λ v. Ok v) (digits_value-decimal numerals n (omega (arith, h))))

pub whole_if : (p : Place) (o : Option ℕ) → IfWhole o → taken_if table.whole_number p (option_map whole o) ≡ Ok o
whole_if p None h = refl
whole_if p (Some n) h = ap (λ c. c >>= (λ a. Ok (Some a))) (whole_is p n h)

-- ---- defaults

abbrev pub if_so : Bool → Option Bool
if_so b = if b then Some true else None

pub true_if : (p : Place) (b : Bool) → taken_if table.bool p (if_true b) ≡ Ok (if_so b)
true_if p true = refl
true_if p false = refl

pub so_is : (b : Bool) → unwrap_or (if_so b) false ≡ b
so_is true = refl
so_is false = refl

abbrev pub if_some : {A : Type 0} → List A → Option (List A)
if_some [] = None
if_some (x ∷ xs) = Some (x ∷ xs)

pub some_is : {A : Type 0} (xs : List A) → unwrap_or (if_some xs) [] ≡ xs
some_is [] = refl
some_is (x ∷ xs) = refl

pub items_if : (p : Place) (js : List Json) → taken_if table.items p (if_any list js) ≡ Ok (if_some js)
items_if p [] = refl
items_if p (j ∷ js) = ap (λ l. Ok (Some l)) (items_list-of (j ∷ js))

pub members_if : (p : Place) (ms : Pairs) → taken_if table.members p (if_any members ms) ≡ Ok (if_some ms)
members_if p [] = refl
members_if p (m ∷ ms) = ap (λ l. Ok (Some l)) (members_list-of (m ∷ ms))

pub tags_if : (p : Place) (tags : List (List ℕ)) → taken_if table.items p (if_any (λ ts. list (map string ts)) tags) ≡ Ok (if_some (map string tags))
tags_if p [] = refl
tags_if p (t ∷ ts) = ap (λ l. Ok (Some l)) (items_list-of (string t ∷ map string ts))

-- tags that rise are in order already
pub sorted_already : (tags : List (List ℕ)) → IsStrictlySortedBy text_cmp tags → sorted_texts tags ≡ tags
sorted_already tags s =
    sorted-unique text_cmp text_cmp_total (sorted_texts tags) tags (sorted_texts_are_sorted tags) s (λ t a. Among-from_sorted_texts t tags a) (λ t a. Among-sorted_texts t tags a)
