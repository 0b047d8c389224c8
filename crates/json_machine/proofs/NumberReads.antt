-- Law 1 for numbers: the machine reads the text of a number as that number.
use Rattle.std.proofs.Common.{◌≡◌, ◌∙◌, ◌⊎◌, ⊎_elim, inl, inr, ℕ, ◌<◌, List, [], ◌∷◌, ◌++◌, refl, sym, ap, Bool, true, false, ◌||◌, Option, Some, None, arith, append_assoc, ◌==◌, if◌then◌else◌}
use Rattle.std.specs.Char.{is_ascii_digit}
use Rattle.std.specs.Str.Parse.{AllDigits, IsNumeral}
use Rattle.std.proofs.lemmas.List.{append-nil}
use Rattle.text_spec.proofs.of_plain_laws.Digits.{digit_is, digit_no_sign}
use Rattle.text_spec.specs.Json as spec
use Rattle.text_spec.specs.Number.{IsNumber, Exponent, exponent_text, IsExponent, fraction_text, IsFraction, IsWhole}
use Rattle.json_machine.specs.Machine.{NumberState, after_minus, after_zero, in_whole, after_dot, in_fraction, after_e, after_sign, in_exponent, number_step, may_end, Frame, in_array, value, first_item, owed, number, is_space, read, begin, finish}

-- what follows a number does not go on with it
abbrev pub stops : List ℕ → Bool
stops [] = true
stops (b ∷ bs) = is_space b || ((b == 44) || ((b == 93) || (b == 125)))

stop_point : (b : ℕ) → is_space b || ((b == 44) || ((b == 93) || (b == 125))) ≡ true → (b == 46) ≡ false
stop_point b h = grind arith

stop_power : (b : ℕ) → is_space b || ((b == 44) || ((b == 93) || (b == 125))) ≡ true → (b == 101) || (b == 69) ≡ false
stop_power b h = grind arith

stop_digit : (b : ℕ) → is_space b || ((b == 44) || ((b == 93) || (b == 125))) ≡ true → is_ascii_digit b ≡ false
stop_digit b h = grind arith

stop_step : (t : NumberState) (b : ℕ) (bs : List ℕ) → may_end t ≡ true → stops (b ∷ bs) ≡ true → number_step t b ≡ None
stop_step after_minus b bs e h = cc
stop_step after_zero b bs e h = rw (stop_point b h, stop_power b h) refl
stop_step in_whole b bs e h = rw (stop_digit b h, stop_point b h, stop_power b h) refl
stop_step after_dot b bs e h = cc
stop_step in_fraction b bs e h = rw (stop_digit b h, stop_power b h) refl
stop_step after_e b bs e h = cc
stop_step after_sign b bs e h = cc
stop_step in_exponent b bs e h = rw (stop_digit b h) refl

whole_step : (b : ℕ) → is_ascii_digit b ≡ true → number_step in_whole b ≡ Some in_whole
whole_step b h = rw h refl

dot_step : (b : ℕ) → is_ascii_digit b ≡ true → number_step after_dot b ≡ Some in_fraction
dot_step b h = rw h refl

fraction_step : (b : ℕ) → is_ascii_digit b ≡ true → number_step in_fraction b ≡ Some in_fraction
fraction_step b h = rw h refl

e_step : (b : ℕ) → is_ascii_digit b ≡ true → number_step after_e b ≡ Some in_exponent
e_step b h = rw (digit_no_sign b h, h) refl

sign_step : (b : ℕ) → is_ascii_digit b ≡ true → number_step after_sign b ≡ Some in_exponent
sign_step b h = rw h refl

exponent_step : (b : ℕ) → is_ascii_digit b ≡ true → number_step in_exponent b ≡ Some in_exponent
exponent_step b h = rw h refl

ended_last : (fs : List Frame) (t : NumberState) (s : List ℕ) → may_end t ≡ true → finish fs (number t s) ≡ finish fs (owed [] (spec.number s))
ended_last [] t s e = rw e refl
ended_last (g ∷ gs) t s e = refl

module _ (n : ℕ) (fs : List Frame) where
  ended : (t : NumberState) (s r : List ℕ) → may_end t ≡ true → stops r ≡ true → read n fs (number t s) r ≡ read n fs (owed [] (spec.number s)) r
  ended t s (b ∷ bs) e h = rw (e, stop_step t b bs e h) refl
  ended t s [] e h = ended_last fs t s e

  digits : (t : NumberState) → ((b : ℕ) → is_ascii_digit b ≡ true → number_step t b ≡ Some t) → (ds s r : List ℕ) → AllDigits 10 ds → read n fs (number t s) (ds ++ r) ≡ read n fs (number t (s ++ ds)) r
  digits t on [] s r h = ap (λ x. read n fs (number t x) r) (sym (append-nil s))
  digits t on (d ∷ ds) s r h = rw (on d (digit_is d h.0)) (digits t on ds (s ++ d ∷ []) r h.1 ∙ ap (λ x. read n fs (number t x) r) (append_assoc s (d ∷ []) ds))

  numeral : (t u : NumberState) → ((b : ℕ) → is_ascii_digit b ≡ true → number_step t b ≡ Some u) → ((b : ℕ) → is_ascii_digit b ≡ true → number_step u b ≡ Some u) → (ds s r : List ℕ) → IsNumeral 10 ds → read n fs (number t s) (ds ++ r) ≡ read n fs (number u (s ++ ds)) r
  numeral t u first on [] s r h = absurd (omega (arith, h.0))
  numeral t u first on (d ∷ ds) s r h = rw (first d (digit_is d h.1.0)) (digits u on ds (s ++ d ∷ []) r h.1.1 ∙ ap (λ x. read n fs (number u x) r) (append_assoc s (d ∷ []) ds))

  -- behind e: a sign, digits and the end
  sign_digits : (sign ds s r : List ℕ) → (sign ≡ []) ⊎ (sign ≡ 43 ∷ []) ⊎ (sign ≡ 45 ∷ []) → IsNumeral 10 ds → stops r ≡ true → read n fs (number after_e s) (sign ++ (ds ++ r)) ≡ read n fs (owed [] (spec.number (s ++ (sign ++ ds)))) r
  sign_digits sign ds s r (inl e) h stop = rw e (numeral after_e in_exponent e_step exponent_step ds s r h ∙ ended in_exponent (s ++ ds) r refl stop)
  sign_digits sign ds s r (inr (inl e)) h stop = rw e (numeral after_sign in_exponent sign_step exponent_step ds (s ++ 43 ∷ []) r h ∙ ended in_exponent _ r refl stop ∙ ap (λ x. read n fs (owed [] (spec.number x)) r) (append_assoc s (43 ∷ []) ds))
  sign_digits sign ds s r (inr (inr e)) h stop = rw e (numeral after_sign in_exponent sign_step exponent_step ds (s ++ 45 ∷ []) r h ∙ ended in_exponent _ r refl stop ∙ ap (λ x. read n fs (owed [] (spec.number x)) r) (append_assoc s (45 ∷ []) ds))

  letter : (t : NumberState) (c : ℕ) (sign ds s r : List ℕ) → number_step t c ≡ Some after_e → (sign ≡ []) ⊎ (sign ≡ 43 ∷ []) ⊎ (sign ≡ 45 ∷ []) → IsNumeral 10 ds → stops r ≡ true → read n fs (number t s) (c ∷ (sign ++ (ds ++ r))) ≡ read n fs (owed [] (spec.number (s ++ c ∷ (sign ++ ds)))) r
  letter t c sign ds s r go e h stop = rw go (sign_digits sign ds (s ++ c ∷ []) r e h stop ∙ ap (λ x. read n fs (owed [] (spec.number x)) r) (append_assoc s (c ∷ []) (sign ++ ds)))

  power : (t : NumberState) → number_step t 101 ≡ Some after_e → number_step t 69 ≡ Some after_e → may_end t ≡ true → (x : Option Exponent) (s r : List ℕ) → IsExponent x → stops r ≡ true → read n fs (number t s) (exponent_text x ++ r) ≡ read n fs (owed [] (spec.number (s ++ exponent_text x))) r
  power t low up end None s r h stop = ended t s r end stop ∙ ap (λ x. read n fs (owed [] (spec.number x)) r) (sym (append-nil s))
  power t low up end (Some x) s r h stop =
      ap (λ y. read n fs (number t s) (x.letter ∷ y)) (append_assoc x.sign x.digits r) ∙ ⊎_elim
      (λ e. rw e (letter t 101 x.sign x.digits s r low h.1 h.2 stop))
      (λ e. rw e (letter t 69 x.sign x.digits s r up h.1 h.2 stop)) h.0

  point : (t : NumberState) → number_step t 46 ≡ Some after_dot → number_step t 101 ≡ Some after_e → number_step t 69 ≡ Some after_e → may_end t ≡ true → (f : Option (List ℕ)) (x : Option Exponent) (s r : List ℕ) → IsFraction f → IsExponent x → stops r ≡ true → read n fs (number t s) (fraction_text f ++ (exponent_text x ++ r)) ≡ read n fs (owed [] (spec.number (s ++ fraction_text f ++ exponent_text x))) r
  point t dot low up end None x s r f h stop = power t low up end x s r h stop ∙ ap (λ y. read n fs (owed [] (spec.number (y ++ exponent_text x))) r) (sym (append-nil s))
  point t dot low up end (Some ds) x s r f h stop =
      rw dot
      (numeral after_dot in_fraction dot_step fraction_step ds (s ++ 46 ∷ []) (exponent_text x ++ r) f
      ∙ power in_fraction refl refl refl x (s ++ (46 ∷ []) ++ ds) r h stop
      ∙ ap (λ y. read n fs (owed [] (spec.number (y ++ exponent_text x))) r) (append_assoc s (46 ∷ []) ds))

  -- behind the first digit d
  whole_rest : (b : Bool) (d : ℕ) (ds : List ℕ) (f : Option (List ℕ)) (x : Option Exponent) (s r : List ℕ) → (d == 48) ≡ b → IsWhole (d ∷ ds) → IsFraction f → IsExponent x → stops r ≡ true → read n fs (number (if b then after_zero else in_whole) (s ++ d ∷ [])) (ds ++ (fraction_text f ++ (exponent_text x ++ r))) ≡ read n fs (owed [] (spec.number (s ++ d ∷ ds ++ fraction_text f ++ exponent_text x))) r
  whole_rest true d ds f x s r e w hf hx stop =
      let none : ds ≡ [] = w.1 (grind arith) in
      rw none (point after_zero refl refl refl refl f x (s ++ d ∷ []) r hf hx stop)
  whole_rest false d ds f x s r e w hf hx stop =
      digits in_whole whole_step ds (s ++ d ∷ []) _ w.0.1
      ∙ point in_whole refl refl refl refl f x (s ++ d ∷ [] ++ ds) r hf hx stop
      ∙ ap (λ y. read n fs (owed [] (spec.number (y ++ fraction_text f ++ exponent_text x))) r) (append_assoc s (d ∷ []) ds)

  minus_digit : (b : Bool) (d : ℕ) → (d == 48) ≡ b → is_ascii_digit d ≡ true → number_step after_minus d ≡ Some (if b then after_zero else in_whole)
  minus_digit true d e h = rw e refl
  minus_digit false d e h = rw (e, h) refl

other : (d c : ℕ) → is_ascii_digit d ≡ true → 57 < c → (d == c) ≡ false
other d c h above = grind arith

other_low : (d c : ℕ) → is_ascii_digit d ≡ true → c < 48 → (d == c) ≡ false
other_low d c h above = grind arith

digit_no_space : (d : ℕ) → is_ascii_digit d ≡ true → is_space d ≡ false
digit_no_space d h = grind arith

pub begin_digit : (n : ℕ) (fs : List Frame) (b : Bool) (d : ℕ) → (d == 48) ≡ b → is_ascii_digit d ≡ true → begin n fs d ≡ Some (fs, number (if b then after_zero else in_whole) (d ∷ []))
begin_digit n fs true d e h = rw (other d 91 h (omega arith), other d 123 h (omega arith), other_low d 34 h (omega arith), other d 110 h (omega arith), other d 116 h (omega arith), other d 102 h (omega arith), other_low d 45 h (omega arith), e) refl
begin_digit n fs false d e h = rw (other d 91 h (omega arith), other d 123 h (omega arith), other_low d 34 h (omega arith), other d 110 h (omega arith), other d 116 h (omega arith), other d 102 h (omega arith), other_low d 45 h (omega arith), e, h) refl

regroup : (a b c d r : List ℕ) → a ++ b ++ c ++ d ++ r ≡ a ++ (b ++ (c ++ (d ++ r)))
regroup a b c d r = append_assoc (a ++ b ++ c) d r ∙ append_assoc (a ++ b) c (d ++ r) ∙ append_assoc a b (c ++ (d ++ r))

read_parts : (n : ℕ) (fs : List Frame) (minus : Bool) (w : List ℕ) (f : Option (List ℕ)) (x : Option Exponent) (r : List ℕ) → IsWhole w → IsFraction f → IsExponent x → stops r ≡ true → read n fs value ((if minus then 45 ∷ [] else []) ++ w ++ fraction_text f ++ exponent_text x ++ r) ≡ read n fs (owed [] (spec.number ((if minus then 45 ∷ [] else []) ++ w ++ fraction_text f ++ exponent_text x))) r
read_parts n fs minus [] f x r w hf hx stop = absurd w
read_parts n fs true (d ∷ ds) f x r w hf hx stop =
    ap (read n fs value) (regroup (45 ∷ []) (d ∷ ds) (fraction_text f) (exponent_text x) r)
    ∙ rw (minus_digit n fs (d == 48) d refl (digit_is d w.0.0)) (whole_rest n fs (d == 48) d ds f x (45 ∷ []) r refl w hf hx stop)
read_parts n fs false (d ∷ ds) f x r w hf hx stop =
    ap (read n fs value) (regroup [] (d ∷ ds) (fraction_text f) (exponent_text x) r)
    ∙ rw (digit_no_space d (digit_is d w.0.0), begin_digit n fs (d == 48) d refl (digit_is d w.0.0)) (whole_rest n fs (d == 48) d ds f x [] r refl w hf hx stop)

pub read-number : (n : ℕ) (fs : List Frame) (s r : List ℕ) → IsNumber s → stops r ≡ true → read n fs value (s ++ r) ≡ read n fs (owed [] (spec.number s)) r
read-number n fs s r h e = rw h.2 (read_parts n fs h.0.minus h.0.whole h.0.fraction h.0.exponent r h.1.0 h.1.1 h.1.2 e)

first_item_digit : (n : ℕ) (fs : List Frame) (d : ℕ) (r : List ℕ) → is_ascii_digit d ≡ true → read n fs first_item (d ∷ r) ≡ read n (in_array [] ∷ fs) value (d ∷ r)
first_item_digit n fs d r h = rw (digit_no_space d h, other d 93 h (omega arith)) refl

first_item_parts : (n : ℕ) (fs : List Frame) (minus : Bool) (w a b r : List ℕ) → IsWhole w → read n fs first_item ((if minus then 45 ∷ [] else []) ++ w ++ a ++ b ++ r) ≡ read n (in_array [] ∷ fs) value ((if minus then 45 ∷ [] else []) ++ w ++ a ++ b ++ r)
first_item_parts n fs minus [] a b r w = absurd w
first_item_parts n fs true (d ∷ ds) a b r w = refl
first_item_parts n fs false (d ∷ ds) a b r w = first_item_digit n fs d (ds ++ a ++ b ++ r) (digit_is d w.0.0)

pub number-first_item : (n : ℕ) (fs : List Frame) (s r : List ℕ) → IsNumber s → read n fs first_item (s ++ r) ≡ read n (in_array [] ∷ fs) value (s ++ r)
number-first_item n fs s r h = rw h.2 (first_item_parts n fs h.0.minus h.0.whole (fraction_text h.0.fraction) (exponent_text h.0.exponent) r h.1.0)
