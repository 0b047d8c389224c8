-- A stamp stands in a string as it is: none of its bytes is escaped.
use Rattle.std.proofs.Common.{◌≡◌, ◌⊎◌, inl, inr, ℕ, ℤ, ◌<◌, ◌+◌, ◌%◌, List, [], ◌∷◌, ◌++◌, refl, sym, subst, Option, Some, None, flat_map, arith}
use Rattle.std.specs.Char.{digit_value}
use Rattle.std.specs.List.{AllByRecursion}
use Rattle.std.specs.Str.Parse.{AllDigits}
use Rattle.dump_laws.specs.dump_spec.history_spec.Lawful.{HasStamp}
use Rattle.dump_laws.specs.dump_spec.text_spec.Compact.{escaped}
use Rattle.dump_laws.specs.dump_spec.text_spec.Stamp.{Zone, utc, ahead, behind, IsZone, IsFraction, StampText, IsStampText, stamp_text, date_text, hour_text, fraction_text, zone_text, digits_text}
use Rattle.dump_laws.specs.dump_spec.Stamps.{short_text}
use Rattle.dump_laws.proofs.of_dump_spec.of_plain_laws.Members.{all_both}
use Rattle.dump_laws.proofs.of_dump_spec.of_text_laws.StampDigits.{AllDigits-digits_text}
use Rattle.dump_laws.proofs.ShortStamps.{short_texts_are_stamps}

abbrev IsPlain : ℕ → Type 0
IsPlain x = escaped x ≡ x ∷ []

abbrev ArePlain : List ℕ → Type 0
ArePlain = AllByRecursion IsPlain

plain_stays : (s : List ℕ) → ArePlain s → flat_map escaped s ≡ s
plain_stays [] all = refl
plain_stays (x ∷ s) all = λ i. all.0 i ++ plain_stays s all.1 i

digit : (x n : ℕ) → x ≡ 48 + n % 10 → IsPlain x
unfolding escaped
digit x n e = rw e (grind arith)

value_of : (x : ℕ) → digit_value x < 10 → x ≡ 48 + digit_value x % 10
value_of x h = grind arith

marks : ArePlain (43 ∷ 45 ∷ 46 ∷ 58 ∷ [])
unfolding escaped
marks = (refl, (refl, (refl, (refl, tt))))

letter : (x a b : ℕ) → (x ≡ a) ⊎ (x ≡ b) → IsPlain a → IsPlain b → IsPlain x
letter x a b (inl e) h k = subst IsPlain (sym e) h
letter x a b (inr e) h k = subst IsPlain (sym e) k

letters : ArePlain (84 ∷ 116 ∷ 90 ∷ 122 ∷ [])
unfolding escaped
letters = (refl, (refl, (refl, (refl, tt))))

all_digits : (ds : List ℕ) → AllDigits 10 ds → ArePlain ds
all_digits [] h = tt
all_digits (d ∷ ds) h = (digit d (digit_value d) (value_of d h.0), all_digits ds h.1)

number : (width n : ℕ) → ArePlain (digits_text width n)
number width n = all_digits (digits_text width n) (AllDigits-digits_text width n)

-- a number, and a text behind this byte
behind_mark : (width n mark : ℕ) (rest : List ℕ) → IsPlain mark → ArePlain rest → ArePlain (digits_text width n ++ mark ∷ rest)
behind_mark width n mark rest h k = all_both IsPlain (digits_text width n) (mark ∷ rest) (number width n) (h, k)

fraction : (o : Option (List ℕ)) → IsFraction o → ArePlain (fraction_text o)
fraction None h = tt
fraction (Some ds) h = (marks.1.1.0, all_digits ds h.2)

zone : (z : Zone) → IsZone z → ArePlain (zone_text z)
zone (utc x) h = (letter x 90 122 h letters.1.1.0 letters.1.1.1.0, tt)
zone (ahead hour minute) h = (marks.0, behind_mark 2 hour 58 (digits_text 2 minute) marks.1.1.1.0 (number 2 minute))
zone (behind hour minute) h = (marks.1.0, behind_mark 2 hour 58 (digits_text 2 minute) marks.1.1.1.0 (number 2 minute))

stamp : (s : StampText) → IsStampText s → ArePlain (stamp_text s)
stamp s h =
    let ends = fraction_text s.fraction ++ zone_text s.zone in
    let hours = hour_text s.hour s.minute ++ 58 ∷ (digits_text 2 s.second ++ ends) in
    all_both IsPlain (date_text s.year s.month s.day) (s.letter ∷ hours)
    (behind_mark 4 s.year 45 (digits_text 2 s.month ++ 45 ∷ digits_text 2 s.day) marks.1.0 (behind_mark 2 s.month 45 (digits_text 2 s.day) marks.1.0 (number 2 s.day))) (
      letter s.letter 84 116 h.letter letters.0 letters.1.0,
      all_both IsPlain (hour_text s.hour s.minute) (58 ∷ (digits_text 2 s.second ++ ends)) (behind_mark 2 s.hour 58 (digits_text 2 s.minute) marks.1.1.1.0 (number 2 s.minute)) (
        marks.1.1.1.0,
        all_both IsPlain (digits_text 2 s.second) ends (number 2 s.second)
            (all_both IsPlain (fraction_text s.fraction) (zone_text s.zone) (fraction s.fraction h.fraction) (zone s.zone h.zone)),
      ),
    )

pub short_text-stays : (m : ℤ) → HasStamp m → flat_map escaped (short_text m) ≡ short_text m
short_text-stays m h =
    let is = short_texts_are_stamps m h in
    plain_stays (short_text m) (subst ArePlain (sym is.text_is) (stamp is.stamp is.is_stamp))
