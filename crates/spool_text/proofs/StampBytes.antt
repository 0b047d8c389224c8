-- A stamp is ASCII.
use Rattle.std.proofs.Common.{◌≡◌, ℕ, zero, suc, ◌+◌, ◌/◌, ◌%◌, ◌<◌, ℤ, List, [], ◌∷◌, ◌++◌, get_or, arith, refl, Option, Some, None, ◌⊎◌, inl, inr}
use Rattle.std.specs.Str.{IsUtf8}
use Rattle.std.proofs.lemmas.Str.{IsUtf8-from_ascii}
use Rattle.std.specs.Char.{digit_value}
use Rattle.std.specs.Str.Parse.{AllDigits}
use Rattle.std.specs.List.{AllByRecursion}
use Rattle.text_spec.specs.Stamp.{digits_text, date_text, hour_text, fraction_text, zone_text, stamp_text, Zone, utc, ahead, behind, IsZone, IsFraction, StampText, IsStampText}
use Rattle.text_spec.specs.StampReader.{stamp_of}
use Rattle.history_laws.proofs.of_text_laws.StampLaws.{stamps_are_read}

abbrev Low : List ℕ → Type 0
Low = AllByRecursion (λ c. c < 128)

low-append : (xs ys : List ℕ) → Low xs → Low ys → Low (xs ++ ys)
low-append [] ys h k = k
low-append (x ∷ xs) ys h k = (h.0, low-append xs ys h.1 k)

low-between : (xs : List ℕ) (c : ℕ) (ys : List ℕ) → Low xs → c < 128 → Low ys → Low (xs ++ c ∷ ys)
low-between xs c ys h small k = low-append xs (c ∷ ys) h (small, k)

low-digits_text : (width n : ℕ) → Low (digits_text width n)
low-digits_text zero n = tt
low-digits_text (suc width) n =
    low-append (digits_text width (n / 10)) ((48 + n % 10) ∷ []) (low-digits_text width (n / 10)) (omega arith, tt)

low-digit : (d : ℕ) → digit_value d < 10 → d < 128
low-digit d h = grind arith

low-digits : (ds : List ℕ) → AllDigits 10 ds → Low ds
low-digits [] h = tt
low-digits (d ∷ ds) h = (low-digit d h.0, low-digits ds h.1)

low-hour : (hour minute : ℕ) → Low (hour_text hour minute)
low-hour hour minute = low-between (digits_text 2 hour) 58 (digits_text 2 minute) (low-digits_text 2 hour) (omega arith) (low-digits_text 2 minute)

low-fraction : (fraction : Option (List ℕ)) → IsFraction fraction → Low (fraction_text fraction)
low-fraction None h = tt
low-fraction (Some ds) h = (omega arith, low-digits ds h.2)

letter : (c x y : ℕ) → x < 128 → y < 128 → (c ≡ x) ⊎ (c ≡ y) → c < 128
letter c x y a b (inl e) = omega (arith, e, a)
letter c x y a b (inr e) = omega (arith, e, b)

low-zone : (zone : Zone) → IsZone zone → Low (zone_text zone)
low-zone (utc c) h = (letter c 90 122 (omega arith) (omega arith) h, tt)
low-zone (ahead hour minute) h = (omega arith, low-hour hour minute)
low-zone (behind hour minute) h = (omega arith, low-hour hour minute)

low-date : (year month day : ℕ) → Low (date_text year month day)
low-date year month day =
    low-between (digits_text 4 year) 45 (digits_text 2 month ++ 45 ∷ digits_text 2 day) (low-digits_text 4 year) (omega arith)
    (low-between (digits_text 2 month) 45 (digits_text 2 day) (low-digits_text 2 month) (omega arith) (low-digits_text 2 day))

low-stamp_text : (s : StampText) → IsStampText s → Low (stamp_text s)
low-stamp_text s h =
    let end = fraction_text s.fraction ++ zone_text s.zone in
    low-between (date_text s.year s.month s.day) s.letter (hour_text s.hour s.minute ++ 58 ∷ (digits_text 2 s.second ++ end)) (low-date s.year s.month s.day) (letter s.letter 84 116 (omega arith) (omega arith) h.letter)
    (low-between (hour_text s.hour s.minute) 58 (digits_text 2 s.second ++ end) (low-hour s.hour s.minute) (omega arith)
    (low-append (digits_text 2 s.second) end (low-digits_text 2 s.second)
    (low-append (fraction_text s.fraction) (zone_text s.zone) (low-fraction s.fraction h.fraction) (low-zone s.zone h.zone))))

ascii-low : (xs : List ℕ) → Low xs → (i : ℕ) → get_or xs i 0 < 128
ascii-low [] h i = omega arith
ascii-low (x ∷ xs) h zero = h.0
ascii-low (x ∷ xs) h (suc i) = ascii-low xs h.1 i

-- bytes that are no UTF-8 are no stamp
pub not_utf8_is_no_stamp : (text : List ℕ) → ¬ IsUtf8 text → None ≡ stamp_of text
not_utf8_is_no_stamp text h = step (stamp_of text) refl
  where
    step : (o : Option ℤ) → stamp_of text ≡ o → None ≡ o
    step None e = refl
    step (Some m) e =
        let is_stamp = (stamps_are_read text m).0 e in
        let low : Low text = rw is_stamp.text_is (low-stamp_text is_stamp.stamp is_stamp.is_stamp) in
        absurd (h (IsUtf8-from_ascii text (ascii-low text low)))
