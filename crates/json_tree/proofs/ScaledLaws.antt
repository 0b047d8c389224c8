-- The size of a number by its digits without the zeros at their end.
use Rattle.std.proofs.Common.{◌≡◌, ◌∙◌, ◌⊎◌, ⊎_elim, inl, inr, ℕ, zero, suc, ◌+◌, ◌-◌, ◌*◌, ◌/◌, ◌%◌, ◌^◌, ◌<◌, ◌≤◌, List, [], ◌∷◌, ◌++◌, length, take, drop, get_or, Bool, true, false, ◌&&◌, ◌==◌, nat_lt, if◌then◌else◌, Option, Some, None, refl, sym, ap, subst, arith, ℤ}
use Rattle.std.specs.Prelude.{option_map, MatchOption}
use Rattle.std.specs.Char.{is_ascii_digit, digit_value}
use Rattle.std.specs.Str.Parse.{digits_value, digits_value_after, AllDigits}
use Rattle.std.proofs.Math.Nat.{one-le-pow, pow-le-pow_right, mul-le-mul_left}
use Rattle.std.proofs.lemmas.Nat.{pow-add, div-mul-add, mod-mul-add}
use Rattle.std.proofs.lemmas.Bool.{cases_lt}
use Rattle.std.proofs.lemmas.Bool.Decides.{nat_tests}
use Rattle.std.proofs.lemmas.List.{length-drop}
use Rattle.text_spec.specs.Number.{NumberText, Exponent, IsNumber, IsFraction, IsExponent, number_in, scaled, signed, coefficient, raised, lowered, digits_front, behind_digits, fraction_digits, exponent_up, exponent_down}
use Rattle.text_spec.specs.StampReader.{digit_run}
use Rattle.text_spec.proofs.NumberParts.{number_in_number_text, all_digits}
use Rattle.json_tree.specs.Scaled.{if_small, scaled_size, exponent_digits, is_lowered, IsCut}

positive : (k : ℕ) → 0 < 10 ^ k
positive k = one-le-pow k 10 (omega arith)

-- ---- the number is whole in these units

-- q times the unit u
whole_size : (w u q : ℕ) → 0 < u → w ≡ q * u → (if (w % u == 0) && nat_lt (w / u) (10 ^ 37) then Some (w / u) else None) ≡ if_small q
whole_size w u q h e =
    let is : w / u ≡ q = ap (λ x. x / u) (let f : w ≡ q * u + 0 = omega (arith, e) in f) ∙ div-mul-add q u 0 h in
    let rest : w % u ≡ 0 = ap (λ x. x % u) (let f : w ≡ q * u + 0 = omega (arith, e) in f) ∙ mod-mul-add q u 0 h in
    rw (rest, is) refl

powers : (c t r d : ℕ) → d ≤ t + r → c * 10 ^ t * 10 ^ r ≡ c * 10 ^ (t + r - d) * 10 ^ d
powers c t r d le =
    let one : 10 ^ (t + r) ≡ 10 ^ t * 10 ^ r = pow-add 10 t r in
    let two : 10 ^ (t + r - d + d) ≡ 10 ^ (t + r - d) * 10 ^ d = pow-add 10 (t + r - d) d in
    let same : 10 ^ (t + r - d + d) ≡ 10 ^ (t + r) = ap (λ k. 10 ^ k) (omega arith) in
    let left : c * 10 ^ t * 10 ^ r ≡ c * (10 ^ t * 10 ^ r) = omega arith in
    let right : c * 10 ^ (t + r - d) * 10 ^ d ≡ c * (10 ^ (t + r - d) * 10 ^ d) = omega arith in
    left ∙ ap (λ x. c * x) (sym one ∙ sym same ∙ two) ∙ sym right

pub size_whole : (c t up down : ℕ) → down ≤ t + (up + 18) → scaled_size (c * 10 ^ t) up down ≡ if_small (c * 10 ^ (t + (up + 18) - down))
unfolding scaled_size
size_whole c t up down le = whole_size _ (10 ^ down) (c * 10 ^ (t + (up + 18) - down)) (positive down) (powers c t (up + 18) down le)

pub size_zero : (up down : ℕ) → scaled_size 0 up down ≡ Some 0
unfolding scaled_size
size_zero up down = whole_size (0 * 10 ^ (up + 18)) (10 ^ down) 0 (positive down) (omega arith)

-- ---- it isn't

-- what is no multiple of ten, times less tens than the unit has
left_over : (c a b : ℕ) → a < b → ¬ (c % 10 ≡ 0) → ¬ (c * 10 ^ a % 10 ^ b ≡ 0)
left_over c a b lt odd h =
    let u = 10 ^ a in
    let split : 10 ^ b ≡ 10 ^ (b - a - 1) * 10 ^ (1 + a) = ap (λ k. 10 ^ k) (let e : b ≡ b - a - 1 + (1 + a) = omega arith in e) ∙ pow-add 10 (b - a - 1) (1 + a) in
    let ten : 10 ^ (1 + a) ≡ 10 * u = pow-add 10 1 a in
    let q = c * u / 10 ^ b in
    let k = 10 ^ (b - a - 1) in
    let product : c * u ≡ q * 10 ^ b = grind (arith, nat_tests, positive b) in
    let out : c * u ≡ q * k * 10 * u + 0 = product ∙ ap (λ x. q * x) (split ∙ ap (λ x. k * x) ten) ∙ omega arith in
    let is : c ≡ q * k * 10 = sym (div-mul-add c u 0 (positive a)) ∙ ap (λ x. x / u) (let f : c * u + 0 ≡ q * k * 10 * u + 0 = omega (arith, out) in f) ∙ div-mul-add (q * k * 10) u 0 (positive a) in
    odd (ap (λ x. x % 10) (let f : c ≡ q * k * 10 + 0 = omega (arith, is) in f) ∙ mod-mul-add (q * k) 10 0 (omega arith))

no_size : (w u : ℕ) → ¬ (w % u ≡ 0) → (if (w % u == 0) && nat_lt (w / u) (10 ^ 37) then Some (w / u) else None) ≡ None
no_size w u h = let no : (w % u == 0) ≡ false = grind (arith, nat_tests) in rw no refl

pub size_part : (c t up down : ℕ) → t + (up + 18) < down → ¬ (c % 10 ≡ 0) → scaled_size (c * 10 ^ t) up down ≡ None
unfolding scaled_size
size_part c t up down lt odd =
    let one : 10 ^ (t + (up + 18)) ≡ 10 ^ t * 10 ^ (up + 18) = pow-add 10 t (up + 18) in
    let flat : c * 10 ^ t * 10 ^ (up + 18) ≡ c * 10 ^ (t + (up + 18)) = (let f : c * 10 ^ t * 10 ^ (up + 18) ≡ c * (10 ^ t * 10 ^ (up + 18)) = omega arith in f) ∙ ap (λ x. c * x) (sym one) in
    no_size (c * 10 ^ t * 10 ^ (up + 18)) (10 ^ down) (λ z. left_over c (t + (up + 18)) down lt odd (ap (λ x. x % 10 ^ down) (sym flat) ∙ z))

-- ---- it is too large

large : (n : ℕ) → 10 ^ 37 ≤ n → if_small n ≡ None
large n h = let no : nat_lt n (10 ^ 37) ≡ false = grind (arith, nat_tests) in rw no refl

grown : (c k m : ℕ) → m ≤ c → m ≤ c * 10 ^ k
grown c k m h = let more : c * 1 ≤ c * 10 ^ k = mul-le-mul_left c (positive k) in omega (arith, more)

pub size_large : (c t up down : ℕ) → 10 ^ 37 ≤ c → ¬ (c % 10 ≡ 0) → scaled_size (c * 10 ^ t) up down ≡ None
size_large c t up down big odd =
    ⊎_elim (λ lt. size_part c t up down lt odd)
    (λ ge. size_whole c t up down ge ∙ large _ (grown c (t + (up + 18) - down) (10 ^ 37) big))
    (cases_lt (t + (up + 18)) down)

pub size_far : (c t up down : ℕ) → 0 < c → down + 37 ≤ t + (up + 18) → scaled_size (c * 10 ^ t) up down ≡ None
size_far c t up down some far =
    let k = t + (up + 18) - down in
    let enough : 37 ≤ k = omega arith in
    let most : 10 ^ 37 ≤ 10 ^ k = pow-le-pow_right (omega arith) enough in
    let turned : 1 * 10 ^ k ≤ c * 10 ^ k = grind (arith, mul-le-mul_left (10 ^ k) some) in
    size_whole c t up down (omega arith) ∙ large _ (omega (arith, most, turned))

-- ---- the value with its sign

signed_step : (minus b : Bool) (q : ℕ) → (if b then Some (signed minus q) else None) ≡ option_map (signed minus) (if b then Some q else None)
signed_step minus true q = refl
signed_step minus false q = refl

pub scaled_is_size : (s : List ℕ) → scaled s ≡ option_map (signed (number_in s).minus) (scaled_size (coefficient (number_in s)) (raised (number_in s)) (lowered (number_in s)))
unfolding scaled scaled_size
scaled_is_size s = signed_step (number_in s).minus _ _

-- ---- digits

after-more : (n : ℕ) (ds : List ℕ) (i : ℕ) → i < length ds → digits_value_after 10 n (take (suc i) ds) ≡ digits_value_after 10 n (take i ds) * 10 + digit_value (get_or ds i 0)
after-more n [] i h = absurd (omega arith)
after-more n (d ∷ ds) zero h = refl
after-more n (d ∷ ds) (suc i) h = after-more (n * 10 + digit_value d) ds i (omega arith)

after-append : (n : ℕ) (xs ys : List ℕ) → digits_value_after 10 n (xs ++ ys) ≡ digits_value_after 10 (digits_value_after 10 n xs) ys
after-append n [] ys = refl
after-append n (x ∷ xs) ys = after-append (n * 10 + digit_value x) xs ys

after-ge : (n : ℕ) (ds : List ℕ) → n ≤ digits_value_after 10 n ds
after-ge n [] = omega arith
after-ge n (d ∷ ds) = omega (arith, after-ge (n * 10 + digit_value d) ds)

-- the digit at i is among what follows
pub after-ge_next : (n : ℕ) (ds : List ℕ) (i : ℕ) → i < length ds → n * 10 + digit_value (get_or ds i 0) ≤ digits_value_after 10 n (drop i ds)
after-ge_next n [] i h = absurd (omega arith)
after-ge_next n (d ∷ ds) zero h = after-ge (n * 10 + digit_value d) ds
after-ge_next n (d ∷ ds) (suc i) h = after-ge_next n ds i (omega arith)

pub digits-at : (ds : List ℕ) (i : ℕ) → i < length ds → AllDigits 10 ds → digit_value (get_or ds i 0) < 10
digits-at [] i h all = absurd (omega arith)
digits-at (d ∷ ds) zero h all = all.0
digits-at (d ∷ ds) (suc i) h all = digits-at ds i (omega arith) all.1

pub digits-take : (ds : List ℕ) (i : ℕ) → AllDigits 10 ds → AllDigits 10 (take i ds)
digits-take [] zero all = tt
digits-take [] (suc i) all = tt
digits-take (d ∷ ds) zero all = tt
digits-take (d ∷ ds) (suc i) all = (all.0, digits-take ds i all.1)

-- ---- zeros at the end

last_digit_is : (n : ℕ) (ds : List ℕ) (end : ℕ) → 0 < end → end ≤ length ds → digits_value_after 10 n (take end ds) ≡ digits_value_after 10 n (take (end - 1) ds) * 10 + digit_value (get_or ds (end - 1) 0)
last_digit_is n ds zero some h = absurd (omega arith)
last_digit_is n ds (suc i) some h = let e : suc i - 1 ≡ i = omega arith in rw e (after-more n ds i (omega arith))

pub zero_more : (n : ℕ) (ds : List ℕ) (end : ℕ) → 0 < end → end ≤ length ds → get_or ds (end - 1) 0 ≡ 48 → digits_value_after 10 n ds ≡ digits_value_after 10 n (take end ds) * 10 ^ (length ds - end) → digits_value_after 10 n ds ≡ digits_value_after 10 n (take (end - 1) ds) * 10 ^ (length ds - (end - 1))
zero_more n ds end some h byte so_far =
    let front = digits_value_after 10 n (take (end - 1) ds) in
    let none : digit_value (get_or ds (end - 1) 0) ≡ 0 = ap digit_value byte in
    let last : digits_value_after 10 n (take end ds) ≡ front * 10 = omega (arith, last_digit_is n ds end some h, none) in
    let power : 10 ^ (length ds - (end - 1)) ≡ 10 * 10 ^ (length ds - end) = ap (λ k. 10 ^ k) (let e : length ds - (end - 1) ≡ 1 + (length ds - end) = omega arith in e) ∙ pow-add 10 1 (length ds - end) in
    so_far ∙ ap (λ x. x * 10 ^ (length ds - end)) last ∙ (let e : front * 10 * 10 ^ (length ds - end) ≡ front * (10 * 10 ^ (length ds - end)) = omega arith in e) ∙ ap (λ x. front * x) (sym power)

pub last_odd : (n : ℕ) (ds : List ℕ) (end : ℕ) → 0 < end → end ≤ length ds → AllDigits 10 ds → ¬ (get_or ds (end - 1) 0 ≡ 48) → ¬ (digits_value_after 10 n (take end ds) % 10 ≡ 0)
last_odd n ds end some h all byte none =
    let x = get_or ds (end - 1) 0 in
    let low : digit_value x < 10 = digits-at ds (end - 1) (omega arith) all in
    let is : digits_value_after 10 n (take end ds) % 10 ≡ digit_value x = ap (λ y. y % 10) (last_digit_is n ds end some h) ∙ mod-mul-add _ 10 (digit_value x) low in
    let zero_is : digit_value x ≡ 0 = sym is ∙ none in
    byte (is_zero x zero_is)
  where
    is_zero : (x : ℕ) → digit_value x ≡ 0 → x ≡ 48
    is_zero x e = grind arith

-- ---- both slices

abbrev Written : ℕ → Option ℕ → Type 0
Written total o = MatchOption o (10 ^ 37 ≤ total) (λ v. (v ≡ total) × (v < 10 ^ 37))

pub joined_some : (o : Option ℕ) (w f : List ℕ) (v : ℕ) → v ≡ digits_value_after 10 0 w → Written (digits_value_after 10 v f) o → Written (digits_value 10 (w ++ f)) o
joined_some o w f v e h = subst (λ total. Written total o) (ap (λ x. digits_value_after 10 x f) e ∙ sym (after-append 0 w f)) h

pub joined_none : (w f : List ℕ) → 10 ^ 37 ≤ digits_value_after 10 0 w → 10 ^ 37 ≤ digits_value 10 (w ++ f)
joined_none w f h = omega (arith, after-ge (digits_value_after 10 0 w) f, after-append 0 w f)

module _ (w f : List ℕ) (kept : ℕ) (zeros : (n : ℕ) → digits_value_after 10 n f ≡ digits_value_after 10 n (take kept f) * 10 ^ (length f - kept)) where
  pub cut_behind : (o : Option ℕ) → 0 < kept → ((n : ℕ) → 0 < kept → ¬ (digits_value_after 10 n (take kept f) % 10 ≡ 0)) → Written (digits_value 10 (w ++ take kept f)) o → IsCut (digits_value 10 (w ++ f)) o (length f - kept)
  cut_behind o some last h = record {
    left = digits_value 10 (w ++ take kept f);
    number_is = after-append 0 w f ∙ zeros (digits_value_after 10 0 w) ∙ ap (λ x. x * 10 ^ (length f - kept)) (sym (after-append 0 w (take kept f)));
    odd = inr (λ e. last (digits_value_after 10 0 w) some (ap (λ x. x % 10) (sym (after-append 0 w (take kept f))) ∙ e));
    written = h;
  }

  pub cut_before : (o : Option ℕ) (front : ℕ) → kept ≡ 0 → ((n : ℕ) → digits_value_after 10 n w ≡ digits_value_after 10 n (take front w) * 10 ^ (length w - front)) → ((n : ℕ) → 0 < front → ¬ (digits_value_after 10 n (take front w) % 10 ≡ 0)) → Written (digits_value 10 (take front w)) o → IsCut (digits_value 10 (w ++ f)) o (length w - front + length f)
  cut_before o front nothing zeros_before last h =
      let left = digits_value 10 (take front w) in
      let behind : digits_value_after 10 (digits_value 10 w) f ≡ digits_value 10 w * 10 ^ length f = zeros (digits_value 10 w) ∙ (λ i. digits_value_after 10 (digits_value 10 w) (take (nothing i) f) * 10 ^ (length f - nothing i)) ∙ ap (λ k. digits_value 10 w * 10 ^ k) (let e : length f - 0 ≡ length f = omega arith in e) in
      let power : 10 ^ (length w - front + length f) ≡ 10 ^ (length w - front) * 10 ^ length f = pow-add 10 (length w - front) (length f) in
      record {
        left = left;
        number_is = after-append 0 w f ∙ behind ∙ ap (λ x. x * 10 ^ length f) (zeros_before 0) ∙ (let e : left * 10 ^ (length w - front) * 10 ^ length f ≡ left * (10 ^ (length w - front) * 10 ^ length f) = omega arith in e) ∙ ap (λ x. left * x) (sym power);
        odd = left_odd front last;
        written = h;
      }
    where
      left_odd : (front : ℕ) → ((n : ℕ) → 0 < front → ¬ (digits_value_after 10 n (take front w) % 10 ≡ 0)) → (digits_value 10 (take front w) ≡ 0) ⊎ ¬ (digits_value 10 (take front w) % 10 ≡ 0)
      left_odd zero last = inl refl
      left_odd (suc i) last = inr (last 0 (omega arith))

-- ---- the digits at the front

front_step : (b : Bool) (x : ℕ) (xs : List ℕ) → take (digit_run xs) xs ≡ digits_front xs → take (if b then suc (digit_run xs) else 0) (x ∷ xs) ≡ (if b then x ∷ digits_front xs else [])
front_step true x xs h = ap (λ ys. x ∷ ys) h
front_step false x xs h = refl

pub front_is : (xs : List ℕ) → take (digit_run xs) xs ≡ digits_front xs
front_is [] = refl
front_is (x ∷ xs) = front_step (is_ascii_digit x) x xs (front_is xs)

behind_step : (b : Bool) (x : ℕ) (xs : List ℕ) → drop (digit_run xs) xs ≡ behind_digits xs → drop (if b then suc (digit_run xs) else 0) (x ∷ xs) ≡ (if b then behind_digits xs else x ∷ xs)
behind_step true x xs h = h
behind_step false x xs h = refl

behind_is : (xs : List ℕ) → drop (digit_run xs) xs ≡ behind_digits xs
behind_is [] = refl
behind_is (x ∷ xs) = behind_step (is_ascii_digit x) x xs (behind_is xs)

take_all : (xs : List ℕ) → take (length xs) xs ≡ xs
take_all [] = refl
take_all (x ∷ xs) = ap (λ ys. x ∷ ys) (take_all xs)

pub rest_is : (xs : List ℕ) (n : ℕ) → n ≡ digit_run xs → take (length xs - n) (drop n xs) ≡ behind_digits xs
rest_is xs n e = ap (λ k. take k (drop n xs)) (sym (length-drop n xs)) ∙ take_all (drop n xs) ∙ ap (λ k. drop k xs) e ∙ behind_is xs

-- ---- the parts of a number

pub record HasDigits (n : NumberText) : Type 0 where
  pub whole : AllDigits 10 n.whole
  pub fraction : AllDigits 10 (fraction_digits n.fraction)
  pub exponent : AllDigits 10 (exponent_digits n.exponent)

fraction_has : (f : Option (List ℕ)) → IsFraction f → AllDigits 10 (fraction_digits f)
fraction_has None h = tt
fraction_has (Some ds) h = h.1

exponent_has : (e : Option Exponent) → IsExponent e → AllDigits 10 (exponent_digits e)
exponent_has None h = tt
exponent_has (Some e) h = h.2.1

pub number_has : (s : List ℕ) → IsNumber s → HasDigits (number_in s)
number_has s h =
    let e : number_in s ≡ h.0 = ap number_in h.2 ∙ number_in_number_text h.0 h.1 in
    subst HasDigits (sym e) (record { whole = all_digits h.0.whole h.1.0; fraction = fraction_has h.0.fraction h.1.1; exponent = exponent_has h.0.exponent h.1.2 })

pub up_is : (e : Option Exponent) → (if is_lowered e then 0 else digits_value 10 (exponent_digits e)) ≡ exponent_up e
up_is None = refl
up_is (Some e) = refl

pub down_is : (e : Option Exponent) → (if is_lowered e then digits_value 10 (exponent_digits e) else 0) ≡ exponent_down e
down_is None = refl
down_is (Some e) = refl

-- ---- the steps of the loops

pub digit_minus : (x : ℕ) → digit_value x < 10 → x - 48 ≡ digit_value x
digit_minus x h = grind arith

pub ten_less : (v left : ℕ) → 0 < left → v * 10 * 10 ^ (left - 1) ≡ v * 10 ^ left
ten_less v left some =
    let power : 10 ^ left ≡ 10 * 10 ^ (left - 1) = ap (λ k. 10 ^ k) (let e : left ≡ 1 + (left - 1) = omega arith in e) ∙ pow-add 10 1 (left - 1) in
    (let e : v * 10 * 10 ^ (left - 1) ≡ v * (10 * 10 ^ (left - 1)) = omega arith in e) ∙ ap (λ x. v * x) (sym power)

pub too_large : (v left total : ℕ) → 0 < left → 10 ^ 37 ≤ v * 10 → v * 10 ^ left ≡ total → None ≡ if_small total
too_large v left total some big e =
    sym (large total (subst (λ x. 10 ^ 37 ≤ x) (ten_less v left some ∙ e) (grown (v * 10) (left - 1) (10 ^ 37) big)))

-- ---- the size by what is left without zeros

pub nothing_is_left : (n zeros up down : ℕ) → n ≡ 0 → Some 0 ≡ scaled_size (n * 10 ^ zeros) up down
nothing_is_left n zeros up down e =
    let none : n * 10 ^ zeros ≡ 0 = ap (λ x. x * 10 ^ zeros) e ∙ omega arith in
    sym (ap (λ x. scaled_size x up down) none ∙ size_zero up down)

pub odd_left : (left : ℕ) → 0 < left → (left ≡ 0) ⊎ ¬ (left % 10 ≡ 0) → ¬ (left % 10 ≡ 0)
odd_left left some (inl e) = absurd (omega arith)
odd_left left some (inr odd) = odd

pub much_is_left : (n zeros up down : ℕ) → IsCut n None zeros → None ≡ scaled_size n up down
much_is_left n zeros up down cut =
    let big : 10 ^ 37 ≤ cut.left = cut.written in
    sym (ap (λ x. scaled_size x up down) cut.number_is ∙ size_large cut.left zeros up down big (odd_left cut.left (omega (arith, big)) cut.odd))

pub far_exponent : (lowered : Bool) (c zeros power behind : ℕ) → 0 < c → ¬ (c % 10 ≡ 0) → zeros < 2 ^ 66 → behind < 2 ^ 64 → 10 ^ 37 ≤ power → scaled_size (c * 10 ^ zeros) (if lowered then 0 else power) ((if lowered then power else 0) + behind) ≡ None
far_exponent true c zeros power behind some odd z b big = size_part c zeros 0 (power + behind) (omega (arith, z, big)) odd
far_exponent false c zeros power behind some odd z b big = size_far c zeros power (0 + behind) some (omega (arith, b, big))

-- ---- the value of a spelling by its parts

pub assembled :
    (t : List ℕ) (minus lowered : Bool) (w f x : List ℕ) (size : Option ℕ) (out : Option ℤ)
    → minus ≡ (number_in t).minus → w ≡ (number_in t).whole → f ≡ fraction_digits (number_in t).fraction
    → lowered ≡ is_lowered (number_in t).exponent → x ≡ exponent_digits (number_in t).exponent
    → size ≡ scaled_size (digits_value 10 (w ++ f)) (if lowered then 0 else digits_value 10 x) ((if lowered then digits_value 10 x else 0) + length f)
    → out ≡ option_map (signed minus) size → out ≡ scaled t
assembled t minus lowered w f x size out em ew ef el ex es eo =
    let n = number_in t in
    eo ∙ (λ i. option_map (signed (em i)) (es i))
    ∙ (λ i. option_map (signed n.minus) (scaled_size (digits_value 10 (ew i ++ ef i)) (if el i then 0 else digits_value 10 (ex i)) ((if el i then digits_value 10 (ex i) else 0) + length (ef i))))
    ∙ (λ i. option_map (signed n.minus) (scaled_size (coefficient n) (up_is n.exponent i) (down_is n.exponent i + length (fraction_digits n.fraction))))
    ∙ sym (scaled_is_size t)

pub cut_odd : (n v z : ℕ) → IsCut n (Some v) z → (v ≡ 0) ⊎ ¬ (v % 10 ≡ 0)
cut_odd n v z cut = subst (λ x. (x ≡ 0) ⊎ ¬ (x % 10 ≡ 0)) (sym cut.written.0) cut.odd

pub cut_is : (n v zeros : ℕ) → IsCut n (Some v) zeros → v * 10 ^ zeros ≡ n
cut_is n v zeros cut = ap (λ x. x * 10 ^ zeros) cut.written.0 ∙ sym cut.number_is
