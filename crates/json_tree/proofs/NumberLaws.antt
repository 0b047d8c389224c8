-- The machine takes exactly the numbers of the grammar.
use Rattle.std.proofs.Common.{◌≡◌, ◌∙◌, ◌⊎◌, ⊎_elim, inl, inr, ℕ, ◌<◌, List, [], ◌∷◌, ◌++◌, refl, sym, ap, subst, Bool, true, false, ◌||◌, Option, Some, None, arith, append_assoc, ◌==◌, if◌then◌else◌}
use Rattle.std.specs.Option.{option_map_or}
use Rattle.std.specs.Char.{digit_value, is_ascii_digit}
use Rattle.std.specs.Str.Parse.{AllDigits, IsNumeral}
use Rattle.std.proofs.lemmas.List.{append-nil}
use Rattle.text_spec.proofs.NumberRests.{ExponentRest, PointRest, DigitsThen, IsSign, exponent_begun, no_fraction, fraction_begun, more, begun, none, no_more}
use Rattle.text_spec.proofs.of_plain_laws.Booleans.{no_truth, eq_is, either_is, neq_is}
use Rattle.text_spec.proofs.of_plain_laws.Options.{choose, none_some, some_same}
use Rattle.text_spec.proofs.of_plain_laws.Lists.{regroup}
use Rattle.text_spec.proofs.of_plain_laws.Digits.{digit_is, digit_no_sign, digit_no_minus, digit_back}
use Rattle.text_spec.specs.Number.{IsNumber, Exponent, exponent_text, IsExponent, fraction_text, IsFraction, IsWhole}
use Rattle.json_tree.specs.declared.number.NumberState.{NumberState}
use Rattle.json_tree.specs.declared.number.NumberState.TheVariants.{Start, AfterMinus, AfterZero, InWhole, AfterPoint, InFraction, AfterE, AfterSign, InExponent}
use Rattle.json_tree.specs.Numbers.{number_step, to_whole, to_point, to_exponent, may_end, completes}

-- ---- a number is taken

whole_step : (b : ℕ) → is_ascii_digit b ≡ true → number_step InWhole b ≡ Some InWhole
whole_step b h = rw h refl

point_step : (b : ℕ) → is_ascii_digit b ≡ true → number_step AfterPoint b ≡ Some InFraction
point_step b h = rw h refl

fraction_step : (b : ℕ) → is_ascii_digit b ≡ true → number_step InFraction b ≡ Some InFraction
fraction_step b h = rw h refl

e_step : (b : ℕ) → is_ascii_digit b ≡ true → number_step AfterE b ≡ Some InExponent
e_step b h = rw (digit_no_sign b h, h) refl

sign_step : (b : ℕ) → is_ascii_digit b ≡ true → number_step AfterSign b ≡ Some InExponent
sign_step b h = rw h refl

exponent_step : (b : ℕ) → is_ascii_digit b ≡ true → number_step InExponent b ≡ Some InExponent
exponent_step b h = rw h refl

digits : (t : NumberState) → ((b : ℕ) → is_ascii_digit b ≡ true → number_step t b ≡ Some t) → (ds r : List ℕ) → AllDigits 10 ds → completes t (ds ++ r) ≡ completes t r
digits t on [] r h = refl
digits t on (d ∷ ds) r h = rw (on d (digit_is d h.0)) (digits t on ds r h.1)

numeral : (t u : NumberState) → ((b : ℕ) → is_ascii_digit b ≡ true → number_step t b ≡ Some u) → ((b : ℕ) → is_ascii_digit b ≡ true → number_step u b ≡ Some u) → (ds r : List ℕ) → IsNumeral 10 ds → completes t (ds ++ r) ≡ completes u r
numeral t u first on [] r h = absurd (omega (arith, h.0))
numeral t u first on (d ∷ ds) r h = rw (first d (digit_is d h.1.0)) (digits u on ds r h.1.1)

last_numeral : (t : NumberState) → ((b : ℕ) → is_ascii_digit b ≡ true → number_step t b ≡ Some InExponent) → (ds : List ℕ) → IsNumeral 10 ds → completes t ds ≡ true
last_numeral t first ds h = ap (completes t) (sym (append-nil ds)) ∙ numeral t InExponent first exponent_step ds [] h

-- behind e: a sign and digits
sign_digits : (sign ds : List ℕ) → (sign ≡ []) ⊎ (sign ≡ 43 ∷ []) ⊎ (sign ≡ 45 ∷ []) → IsNumeral 10 ds → completes AfterE (sign ++ ds) ≡ true
sign_digits sign ds (inl e) h = rw e (last_numeral AfterE e_step ds h)
sign_digits sign ds (inr (inl e)) h = rw e (last_numeral AfterSign sign_step ds h)
sign_digits sign ds (inr (inr e)) h = rw e (last_numeral AfterSign sign_step ds h)

letter : (t : NumberState) (c : ℕ) (sign ds : List ℕ) → number_step t c ≡ Some AfterE → (sign ≡ []) ⊎ (sign ≡ 43 ∷ []) ⊎ (sign ≡ 45 ∷ []) → IsNumeral 10 ds → completes t (c ∷ (sign ++ ds)) ≡ true
letter t c sign ds go e h = rw go (sign_digits sign ds e h)

exponent : (t : NumberState) → number_step t 101 ≡ Some AfterE → number_step t 69 ≡ Some AfterE → may_end t ≡ true → (x : Option Exponent) → IsExponent x → completes t (exponent_text x) ≡ true
exponent t low up end None h = end
exponent t low up end (Some x) h =
    ⊎_elim
    (λ e. rw e (letter t 101 x.sign x.digits low h.1 h.2))
    (λ e. rw e (letter t 69 x.sign x.digits up h.1 h.2)) h.0

point : (t : NumberState) → number_step t 46 ≡ Some AfterPoint → number_step t 101 ≡ Some AfterE → number_step t 69 ≡ Some AfterE → may_end t ≡ true → (f : Option (List ℕ)) (x : Option Exponent) → IsFraction f → IsExponent x → completes t (fraction_text f ++ exponent_text x) ≡ true
point t dot low up end None x hf hx = exponent t low up end x hx
point t dot low up end (Some ds) x hf hx =
    rw dot (numeral AfterPoint InFraction point_step fraction_step ds (exponent_text x) hf ∙ exponent InFraction refl refl refl x hx)

-- behind the first digit d
whole_rest : (b : Bool) (d : ℕ) (ds : List ℕ) (f : Option (List ℕ)) (x : Option Exponent) → (d == 48) ≡ b → IsWhole (d ∷ ds) → IsFraction f → IsExponent x → completes (if b then AfterZero else InWhole) (ds ++ (fraction_text f ++ exponent_text x)) ≡ true
whole_rest true d ds f x e w hf hx =
    let none : ds ≡ [] = w.1 (grind arith) in
    rw none (point AfterZero refl refl refl refl f x hf hx)
whole_rest false d ds f x e w hf hx = digits InWhole whole_step ds _ w.0.1 ∙ point InWhole refl refl refl refl f x hf hx

first_digit : (b : Bool) (d : ℕ) → (d == 48) ≡ b → is_ascii_digit d ≡ true → to_whole d ≡ Some (if b then AfterZero else InWhole)
first_digit true d e h = rw e refl
first_digit false d e h = rw (e, h) refl

taken : (minus : Bool) (w : List ℕ) (f : Option (List ℕ)) (x : Option Exponent) → IsWhole w → IsFraction f → IsExponent x → completes Start ((if minus then 45 ∷ [] else []) ++ w ++ fraction_text f ++ exponent_text x) ≡ true
taken minus [] f x w hf hx = absurd w
taken true (d ∷ ds) f x w hf hx =
    ap (completes Start) (regroup (45 ∷ []) (d ∷ ds) (fraction_text f) (exponent_text x))
    ∙ rw (first_digit (d == 48) d refl (digit_is d w.0.0)) (whole_rest (d == 48) d ds f x refl w hf hx)
taken false (d ∷ ds) f x w hf hx =
    ap (completes Start) (regroup [] (d ∷ ds) (fraction_text f) (exponent_text x))
    ∙ rw (digit_no_minus d (digit_is d w.0.0), first_digit (d == 48) d refl (digit_is d w.0.0)) (whole_rest (d == 48) d ds f x refl w hf hx)

pub completes_number : (text : List ℕ) → IsNumber text → completes Start text ≡ true
completes_number text h = ap (completes Start) h.2 ∙ taken h.0.minus h.0.whole h.0.fraction h.0.exponent h.1.0 h.1.1 h.1.2

-- ---- what is taken is a number

-- what completes a number from each state
abbrev pub Rest : NumberState → List ℕ → Type 0
Rest Start ds = IsNumber ds
Rest AfterMinus ds = DigitsThen IsWhole PointRest ds
Rest AfterZero ds = PointRest ds
Rest InWhole ds = DigitsThen (AllDigits 10) PointRest ds
Rest AfterPoint ds = DigitsThen (IsNumeral 10) ExponentRest ds
Rest InFraction ds = DigitsThen (AllDigits 10) ExponentRest ds
Rest AfterE ds = DigitsThen IsSign (IsNumeral 10) ds
Rest AfterSign ds = IsNumeral 10 ds
Rest InExponent ds = AllDigits 10 ds

arrive : (u t : NumberState) (ds : List ℕ) → Some u ≡ Some t → Rest t ds → Rest u ds
arrive u t ds e r = subst (λ s. Rest s ds) (some_same u t e) r

exponent_more : (b : ℕ) (t : NumberState) (ds : List ℕ) → to_exponent b ≡ Some t → Rest t ds → ExponentRest (b ∷ ds)
exponent_more b t ds h r = choose ((b == 101) || (b == 69)) (Some AfterE) None (Some t) (ExponentRest (b ∷ ds)) h
    (λ e g. exponent_begun b ds (either_is b 101 69 e) (arrive AfterE t ds g r))
    (λ e g. none_some t g)

point_more : (b : ℕ) (t : NumberState) (ds : List ℕ) → to_point b ≡ Some t → Rest t ds → PointRest (b ∷ ds)
point_more b t ds h r = choose (b == 46) (Some AfterPoint) (to_exponent b) (Some t) (PointRest (b ∷ ds)) h
    (λ e g. fraction_begun b ds (eq_is b 46 e) (arrive AfterPoint t ds g r))
    (λ e g. no_fraction (b ∷ ds) (exponent_more b t ds g r))

whole_begun : (b : ℕ) (ds : List ℕ) → (b == 48) ≡ false → digit_value b < 10 → Rest InWhole ds → Rest AfterMinus (b ∷ ds)
whole_begun b ds e d r = (b ∷ r.0, r.1, ((d, r.2), λ z. absurd (neq_is b 48 e z)), r.3, ap (λ x. b ∷ x) r.4)

whole_zero : (b : ℕ) (ds : List ℕ) → b ≡ 48 → PointRest ds → Rest AfterMinus (b ∷ ds)
whole_zero b ds e r = (b ∷ [], ds, ((subst (λ x. digit_value x < 10) (sym e) (omega arith), tt), λ z. refl), r, refl)

digit_or : (b : ℕ) (u t : NumberState) (other : Option NumberState) (ds : List ℕ) (P : Type 0) → (if is_ascii_digit b then Some u else other) ≡ Some t → Rest t ds → (digit_value b < 10 → Rest u ds → P) → (other ≡ Some t → P) → P
digit_or b u t other ds P h r so or = choose (is_ascii_digit b) (Some u) other (Some t) P h (λ e g. so (digit_back b e) (arrive u t ds g r)) (λ e g. or g)

whole_more : (b : ℕ) (t : NumberState) (ds : List ℕ) → to_whole b ≡ Some t → Rest t ds → Rest AfterMinus (b ∷ ds)
whole_more b t ds h r = choose (b == 48) (Some AfterZero) _ (Some t) (Rest AfterMinus (b ∷ ds)) h
    (λ e g. whole_zero b ds (eq_is b 48 e) (arrive AfterZero t ds g r))
    (λ e g. digit_or b InWhole t None ds (Rest AfterMinus (b ∷ ds)) g r (λ d q. whole_begun b ds e d q) (λ g. none_some t g))

joined : (w f e ds rest : List ℕ) → ds ≡ w ++ rest → rest ≡ f ++ e → ds ≡ w ++ f ++ e
joined w f e ds rest h g = h ∙ ap (λ x. w ++ x) g ∙ sym (append_assoc w f e)

signed : (b : ℕ) (ds : List ℕ) → b ≡ 45 → Rest AfterMinus ds → IsNumber (b ∷ ds)
signed b ds e r = (record { minus = true; whole = r.0; fraction = r.3.0; exponent = r.3.1 }, (r.2, r.3.2, r.3.3), λ i. e i ∷ joined r.0 (fraction_text r.3.0) (exponent_text r.3.1) ds r.1 r.4 r.3.4 i)

unsigned : (ds : List ℕ) → Rest AfterMinus ds → IsNumber ds
unsigned ds r = (record { minus = false; whole = r.0; fraction = r.3.0; exponent = r.3.1 }, (r.2, r.3.2, r.3.3), joined r.0 (fraction_text r.3.0) (exponent_text r.3.1) ds r.1 r.4 r.3.4)

-- a step leads to what completes the number
pub rest-step : (s t : NumberState) (b : ℕ) (ds : List ℕ) → number_step s b ≡ Some t → Rest t ds → Rest s (b ∷ ds)
rest-step Start t b ds h r = choose (b == 45) (Some AfterMinus) _ (Some t) (IsNumber (b ∷ ds)) h
    (λ e g. signed b ds (eq_is b 45 e) (arrive AfterMinus t ds g r))
    (λ e g. unsigned (b ∷ ds) (whole_more b t ds g r))
rest-step AfterMinus t b ds h r = whole_more b t ds h r
rest-step AfterZero t b ds h r = point_more b t ds h r
rest-step InWhole t b ds h r = digit_or b InWhole t (to_point b) ds (Rest InWhole (b ∷ ds)) h r (λ d q. more PointRest b ds d q) (λ g. none PointRest (b ∷ ds) (point_more b t ds g r))
rest-step AfterPoint t b ds h r = digit_or b InFraction t None ds (Rest AfterPoint (b ∷ ds)) h r (λ d q. begun ExponentRest b ds d q) (λ g. none_some t g)
rest-step InFraction t b ds h r = digit_or b InFraction t (to_exponent b) ds (Rest InFraction (b ∷ ds)) h r (λ d q. more ExponentRest b ds d q) (λ g. none ExponentRest (b ∷ ds) (exponent_more b t ds g r))
rest-step AfterE t b ds h r = choose ((b == 43) || (b == 45)) (Some AfterSign) _ (Some t) (Rest AfterE (b ∷ ds)) h
    (λ e g. elim (either_is b 43 45 e) [
      | inl x ↦ (b ∷ [], ds, inr (inl (ap (λ y. y ∷ []) x)), arrive AfterSign t ds g r, refl)
      | inr x ↦ (b ∷ [], ds, inr (inr (ap (λ y. y ∷ []) x)), arrive AfterSign t ds g r, refl)
    ])
    (λ e g. digit_or b InExponent t None ds (Rest AfterE (b ∷ ds)) g r (λ d q. ([], b ∷ ds, inl refl, (omega arith, (d, q)), refl)) (λ g. none_some t g))
rest-step AfterSign t b ds h r = digit_or b InExponent t None ds (Rest AfterSign (b ∷ ds)) h r (λ d q. (omega arith, (d, q))) (λ g. none_some t g)
rest-step InExponent t b ds h r = digit_or b InExponent t None ds (Rest InExponent (b ∷ ds)) h r (λ d q. (d, q)) (λ g. none_some t g)

pub rest-ended : (s : NumberState) → may_end s ≡ true → Rest s []
rest-ended Start h = no_truth h
rest-ended AfterMinus h = no_truth h
rest-ended AfterZero h = no_more
rest-ended InWhole h = none PointRest [] no_more
rest-ended AfterPoint h = no_truth h
rest-ended InFraction h = none ExponentRest [] (None, tt, refl)
rest-ended AfterE h = no_truth h
rest-ended AfterSign h = no_truth h
rest-ended InExponent h = tt

stepped : (s : NumberState) (b : ℕ) (bs : List ℕ) (o : Option NumberState) → number_step s b ≡ o → option_map_or (λ t. completes t bs) o false ≡ true → ((t : NumberState) → completes t bs ≡ true → Rest t bs) → Rest s (b ∷ bs)
stepped s b bs None e h next = no_truth h
stepped s b bs (Some t) e h next = rest-step s t b bs e (next t h)

pub rest-completes : (s : NumberState) (bs : List ℕ) → completes s bs ≡ true → Rest s bs
rest-completes s [] h = rest-ended s h
rest-completes s (b ∷ bs) h = stepped s b bs (number_step s b) refl h (λ t. rest-completes t bs)

pub number_completes : (text : List ℕ) → completes Start text ≡ true → IsNumber text
number_completes text h = rest-completes Start text h
