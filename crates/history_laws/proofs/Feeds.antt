-- Texts without a line feed: digits and stamps.
use Rattle.std.proofs.Common.{◌≡◌, ◌≢◌, ℕ, zero, suc, ◌+◌, ◌/◌, ◌%◌, ◌<◌, ℤ, List, [], ◌∷◌, ◌++◌, arith, Option, Some, None, ◌⊎◌, inl, inr}
use Rattle.std.specs.Char.{digit_value}
use Rattle.std.specs.Str.Parse.{AllDigits}
use Rattle.std.specs.List.{AllByRecursion}
use Rattle.spool_spec.specs.text_spec.Stamp.{digits_text, date_text, hour_text, fraction_text, zone_text, stamp_text, Zone, utc, ahead, behind, IsZone, IsFraction, StampText, IsStampText, IsStampOf}

abbrev pub NoFeed : List ℕ → Type 0
NoFeed = AllByRecursion (λ c. c ≢ 10)

pub no_feed-append : (xs ys : List ℕ) → NoFeed xs → NoFeed ys → NoFeed (xs ++ ys)
no_feed-append [] ys h k = k
no_feed-append (x ∷ xs) ys h k = (h.0, no_feed-append xs ys h.1 k)

no_feed-digits_text : (width n : ℕ) → NoFeed (digits_text width n)
no_feed-digits_text zero n = tt
no_feed-digits_text (suc width) n =
    no_feed-append (digits_text width (n / 10)) ((48 + n % 10) ∷ []) (no_feed-digits_text width (n / 10)) ((λ e. omega (arith, e)), tt)

pub no_feed-digits : (ds : List ℕ) → AllDigits 10 ds → NoFeed ds
no_feed-digits [] h = tt
no_feed-digits (d ∷ ds) h = ((λ (e : d ≡ 10). let small : digit_value 10 < 10 = rw e at h.0 in omega (arith, small)), no_feed-digits ds h.1)

pub no_feed-between : (xs : List ℕ) (c : ℕ) (ys : List ℕ) → NoFeed xs → c ≢ 10 → NoFeed ys → NoFeed (xs ++ c ∷ ys)
no_feed-between xs c ys h other k = no_feed-append xs (c ∷ ys) h (other, k)

no_feed-hour : (hour minute : ℕ) → NoFeed (hour_text hour minute)
no_feed-hour hour minute =
    no_feed-between (digits_text 2 hour) 58 (digits_text 2 minute) (no_feed-digits_text 2 hour) (λ e. omega (arith, e)) (no_feed-digits_text 2 minute)

no_feed-fraction : (fraction : Option (List ℕ)) → IsFraction fraction → NoFeed (fraction_text fraction)
no_feed-fraction None h = tt
no_feed-fraction (Some ds) h = ((λ e. omega (arith, e)), no_feed-digits ds h.2)

letter : (c x y : ℕ) → 10 < x → 10 < y → (c ≡ x) ⊎ (c ≡ y) → c ≢ 10
letter c x y a b (inl e) = λ f. omega (arith, e, f)
letter c x y a b (inr e) = λ f. omega (arith, e, f)

no_feed-zone : (zone : Zone) → IsZone zone → NoFeed (zone_text zone)
no_feed-zone (utc c) h = (letter c 90 122 (omega arith) (omega arith) h, tt)
no_feed-zone (ahead hour minute) h = ((λ e. omega (arith, e)), no_feed-hour hour minute)
no_feed-zone (behind hour minute) h = ((λ e. omega (arith, e)), no_feed-hour hour minute)

no_feed-date : (year month day : ℕ) → NoFeed (date_text year month day)
no_feed-date year month day =
    no_feed-between (digits_text 4 year) 45 (digits_text 2 month ++ 45 ∷ digits_text 2 day) (no_feed-digits_text 4 year) (λ e. omega (arith, e))
    (no_feed-between (digits_text 2 month) 45 (digits_text 2 day) (no_feed-digits_text 2 month) (λ e. omega (arith, e)) (no_feed-digits_text 2 day))

no_feed-stamp_text : (s : StampText) → IsStampText s → NoFeed (stamp_text s)
no_feed-stamp_text s h =
    let end = fraction_text s.fraction ++ zone_text s.zone in
    no_feed-between (date_text s.year s.month s.day) s.letter (hour_text s.hour s.minute ++ 58 ∷ (digits_text 2 s.second ++ end)) (no_feed-date s.year s.month s.day) (letter s.letter 84 116 (omega arith) (omega arith) h.letter)
    (no_feed-between (hour_text s.hour s.minute) 58 (digits_text 2 s.second ++ end) (no_feed-hour s.hour s.minute) (λ e. omega (arith, e))
    (no_feed-append (digits_text 2 s.second) end (no_feed-digits_text 2 s.second)
    (no_feed-append (fraction_text s.fraction) (zone_text s.zone) (no_feed-fraction s.fraction h.fraction) (no_feed-zone s.zone h.zone))))

pub no_feed-stamp : (text : List ℕ) (m : ℤ) → IsStampOf text m → NoFeed text
no_feed-stamp text m h = rw h.text_is (no_feed-stamp_text h.stamp h.is_stamp)
