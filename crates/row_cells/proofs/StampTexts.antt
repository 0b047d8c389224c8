-- A stamp stands in a string as it is.
use Rattle.std.proofs.Common.{◌≡◌, ◌∙◌, ℕ, ℤ, zero, suc, ◌+◌, ◌/◌, ◌%◌, List, [], ◌∷◌, ◌++◌, take, refl, flat_map, arith}
use Rattle.std.proofs.lemmas.Grind.{flat_map-append}
use Rattle.table_spec.specs.text_spec.Compact.{escaped}
use Rattle.table_spec.specs.text_spec.Stamp.{Clock, digits_text, clock_text, date_text, hour_text}
use Rattle.table_spec.specs.fleet_rows.Printed.{full_text, clock_at}

abbrev Stays : List ℕ → Type 0
Stays s = flat_map escaped s ≡ s

joined : (s t : List ℕ) → Stays s → Stays t → Stays (s ++ t)
joined s t h k = flat_map-append escaped s t ∙ (λ i. h i ++ k i)

behind : (x : ℕ) (s : List ℕ) → escaped x ≡ x ∷ [] → Stays s → Stays (x ∷ s)
behind x s h k = λ i. h i ++ k i

digit : (n : ℕ) → escaped (48 + n % 10) ≡ (48 + n % 10) ∷ []
unfolding escaped
digit n = grind arith

dash : escaped 45 ≡ 45 ∷ []
unfolding escaped
dash = refl

colon : escaped 58 ≡ 58 ∷ []
unfolding escaped
colon = refl

point : escaped 46 ≡ 46 ∷ []
unfolding escaped
point = refl

letter_t : escaped 84 ≡ 84 ∷ []
unfolding escaped
letter_t = refl

letter_z : escaped 90 ≡ 90 ∷ []
unfolding escaped
letter_z = refl

digits : (width n : ℕ) → Stays (digits_text width n)
digits zero n = refl
digits (suc width) n = joined (digits_text width (n / 10)) ((48 + n % 10) ∷ []) (digits width (n / 10)) (behind (48 + n % 10) [] (digit n) refl)

date : (year month day : ℕ) → Stays (date_text year month day)
date year month day =
    joined (digits_text 4 year) (45 ∷ (digits_text 2 month ++ 45 ∷ digits_text 2 day)) (digits 4 year)
    (behind 45 (digits_text 2 month ++ 45 ∷ digits_text 2 day) dash
    (joined (digits_text 2 month) (45 ∷ digits_text 2 day) (digits 2 month) (behind 45 (digits_text 2 day) dash (digits 2 day))))

time : (hour minute : ℕ) → Stays (hour_text hour minute)
time hour minute = joined (digits_text 2 hour) (58 ∷ digits_text 2 minute) (digits 2 hour) (behind 58 (digits_text 2 minute) colon (digits 2 minute))

nanos : (n : ℕ) → Stays (take 9 (digits_text 9 n))
nanos n = digits 9 n

clock : (c : Clock) → Stays (clock_text 9 c)
clock c =
    let fraction = take 9 (digits_text 9 c.nanos) ++ 90 ∷ [] in
    let seconds = digits_text 2 c.second ++ 46 ∷ fraction in
    let hours = hour_text c.hour c.minute ++ 58 ∷ seconds in
    joined (date_text c.year c.month c.day) (84 ∷ hours) (date c.year c.month c.day)
    (behind 84 hours letter_t
    (joined (hour_text c.hour c.minute) (58 ∷ seconds) (time c.hour c.minute)
    (behind 58 seconds colon
    (joined (digits_text 2 c.second) (46 ∷ fraction) (digits 2 c.second)
    (behind 46 fraction point (joined (take 9 (digits_text 9 c.nanos)) (90 ∷ []) (nanos c.nanos) (behind 90 [] letter_z refl)))))))

pub full_text-stays : (m : ℤ) → flat_map escaped (full_text m) ≡ full_text m
unfolding full_text
full_text-stays m = clock (clock_at m)
