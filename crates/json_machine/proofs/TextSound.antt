-- Law 3 for strings: what the machine takes as a string is one.
use Rattle.std.proofs.Common.{◌≡◌, ◌∙◌, ◌⊎◌, inl, inr, ℕ, zero, suc, ◌+◌, ◌-◌, ◌*◌, ◌<◌, ◌≤◌, List, [], ◌∷◌, ◌++◌, length, refl, sym, ap, subst, ◌&&◌, Some, arith, append_assoc, ◌==◌, nat_lt, nat_le}
use Rattle.std.specs.Prelude.{flat_map}
use Rattle.std.specs.Char.{encode_utf8, digit_value}
use Rattle.std.specs.List.{AllByRecursion}
use Rattle.std.specs.Str.Parse.{AllDigits, digits_value_after}
use Rattle.std.proofs.lemmas.List.{append-nil}
use Rattle.std.proofs.lemmas.Str.{encode_ascii}
use Rattle.text_spec.specs.JsonText.{Piece, plain, short, unit as unit_piece, pair, piece_text, piece_bytes, IsPiece, IsHex, hex_value, is_short, short_meaning}
use Rattle.json_machine.specs.Machine.{TextState, inside, tail, tail_e0, tail_ed, tail_f0, tail_f4, escape, hex, hex_d, unit, high, low_escape, low_u, low_hex, low_d, low, Reading, within, closed, is_hex, after_tail, tail_on, lead, unit_left, high_left, low_left, text_step}
use Rattle.std.proofs.lemmas.Bool.{cases_lt}
use Rattle.text_spec.proofs.of_plain_laws.Booleans.{eq_is, neq_is}
use Rattle.text_spec.proofs.of_plain_laws.Options.{choose, none_some, some_same}
use Rattle.json_machine.proofs.Cases.{below, above, both_le, le_lt, hex_is}
use Rattle.json_machine.proofs.Characters.{IsCharacter, low_scalar, two, three, four}

-- ---- what is left of the string behind each state; its bytes so far are s, all of them f

abbrev pub Inside : List ℕ → List ℕ → List ℕ → Type 0
Inside s ds f = (ps : List Piece) × AllByRecursion IsPiece ps × (ds ≡ flat_map piece_text ps ++ 34 ∷ []) × (f ≡ s ++ flat_map piece_bytes ps)

abbrev Conts : ℕ → List ℕ → Type 0
Conts zero [] = Unit {0}
Conts zero (x ∷ xs) = ⊥
Conts (suc n) [] = ⊥
Conts (suc n) (x ∷ xs) = (128 ≤ x) × (x ≤ 191) × Conts n xs

abbrev Tail : ℕ → ℕ → ℕ → List ℕ → List ℕ → List ℕ → Type 0
Tail lo hi n s ds f = (x : ℕ) × (xs : List ℕ) × (rest : List ℕ) × (lo ≤ x) × (x ≤ hi) × Conts n xs × (ds ≡ x ∷ (xs ++ rest)) × Inside (s ++ x ∷ xs) rest f

-- n digits and then P of the digits
abbrev Digits : ℕ → (List ℕ → List ℕ → Type 0) → List ℕ → Type 0
Digits n P ds = (hs : List ℕ) × (rest : List ℕ) × (length hs ≡ n) × AllDigits 16 hs × (ds ≡ hs ++ rest) × P hs rest

abbrev Unit4 : ℕ → List ℕ → List ℕ → List ℕ → Type 0
Unit4 v s f rest = Inside (s ++ encode_utf8 v) rest f

abbrev paired : ℕ → ℕ → ℕ
paired h v = 65_536 + (h - 55_296) * 1_024 + (v - 56_320)

abbrev LowHex : ℕ → List ℕ → List ℕ → List ℕ → Type 0
LowHex h s ds f = (ls : List ℕ) × (rest : List ℕ) × IsHex ls × (56_320 ≤ hex_value ls) × (hex_value ls < 57_344) × (ds ≡ ls ++ rest) × Inside (s ++ encode_utf8 (paired h (hex_value ls))) rest f

abbrev LowU : ℕ → List ℕ → List ℕ → List ℕ → Type 0
LowU h s ds f = (rest : List ℕ) × (ds ≡ 117 ∷ rest) × LowHex h s rest f

abbrev LowEscape : ℕ → List ℕ → List ℕ → List ℕ → Type 0
LowEscape h s ds f = (rest : List ℕ) × (ds ≡ 92 ∷ rest) × LowU h s rest f

abbrev UnitRest : ℕ → ℕ → List ℕ → List ℕ → List ℕ → Type 0
UnitRest n v s ds f = Digits (suc n) (λ hs rest. Inside (s ++ encode_utf8 (digits_value_after 16 v hs)) rest f) ds

abbrev HighRest : ℕ → ℕ → List ℕ → List ℕ → List ℕ → Type 0
HighRest n v s ds f = Digits (suc n) (λ hs rest. LowEscape (digits_value_after 16 v hs) s rest f) ds

abbrev LowRest : ℕ → ℕ → ℕ → List ℕ → List ℕ → List ℕ → Type 0
LowRest h n v s ds f = Digits (suc n) (λ hs rest. Inside (s ++ encode_utf8 (paired h (digits_value_after 16 v hs))) rest f) ds

abbrev pub TextRest : TextState → List ℕ → List ℕ → List ℕ → Type 0
TextRest inside s ds f = Inside s ds f
TextRest (tail n) s ds f = Tail 128 191 n s ds f
TextRest tail_e0 s ds f = Tail 160 191 1 s ds f
TextRest tail_ed s ds f = Tail 128 159 1 s ds f
TextRest tail_f0 s ds f = Tail 144 191 2 s ds f
TextRest tail_f4 s ds f = Tail 128 143 2 s ds f
TextRest escape s ds f = Inside s (92 ∷ ds) f
TextRest hex s ds f = (hs : List ℕ) × (rest : List ℕ) × IsHex hs × (ds ≡ hs ++ rest)
    × ((((hex_value hs < 55_296) ⊎ (57_344 ≤ hex_value hs)) × Inside (s ++ encode_utf8 (hex_value hs)) rest f)
    ⊎ ((55_296 ≤ hex_value hs) × (hex_value hs < 56_320) × LowEscape (hex_value hs) s rest f))
TextRest hex_d s ds f = (x : ℕ) × (rest : List ℕ) × (ds ≡ x ∷ rest)
    × (((digit_value x < 8) × UnitRest 1 (208 + digit_value x) s rest f) ⊎ ((8 ≤ digit_value x) × (digit_value x < 12) × HighRest 1 (208 + digit_value x) s rest f))
TextRest (unit n v) s ds f = UnitRest n v s ds f
TextRest (high n v) s ds f = HighRest n v s ds f
TextRest (low_escape h) s ds f = LowEscape h s ds f
TextRest (low_u h) s ds f = LowU h s ds f
TextRest (low_hex h) s ds f = LowHex h s ds f
TextRest (low_d h) s ds f = (x : ℕ) × (rest : List ℕ) × (12 ≤ digit_value x) × (digit_value x < 16) × (ds ≡ x ∷ rest) × LowRest h 1 (208 + digit_value x) s rest f
TextRest (low h n v) s ds f = LowRest h n v s ds f

abbrev ReadingRest : Reading → List ℕ → List ℕ → Type 0
ReadingRest (within t s) ds f = TextRest t s ds f
ReadingRest (closed s) ds f = (ds ≡ []) × (f ≡ s)

arrive : (p q : Reading) (ds f : List ℕ) → Some p ≡ Some q → ReadingRest q ds f → ReadingRest p ds f
arrive p q ds f e h = subst (λ x. ReadingRest x ds f) (some_same p q e) h

-- ---- pieces

piece : (p : Piece) (s ds f : List ℕ) → IsPiece p → Inside (s ++ piece_bytes p) ds f → Inside s (piece_text p ++ ds) f
piece p s ds f is h =
    (p ∷ h.0, (is, h.1), ap (λ x. piece_text p ++ x) h.2 ∙ sym (append_assoc (piece_text p) (flat_map piece_text h.0) (34 ∷ [])), h.3 ∙ append_assoc s (piece_bytes p) (flat_map piece_bytes h.0))

character : (bs s ds f : List ℕ) → IsCharacter bs → Inside (s ++ bs) ds f → Inside s (bs ++ ds) f
character bs s ds f c h =
    subst (λ x. Inside s (x ++ ds) f) c.bytes
    (piece (plain c.code) s ds f (c.scalar, omega (arith, c.high), (λ e. omega (arith, c.high, e)), (λ e. omega (arith, c.high, e))) (subst (λ x. Inside (s ++ x) ds f) (sym c.bytes) h))

-- ---- steps

module _ (s ds f : List ℕ) (b : ℕ) where
  -- a byte within a character
  tail_goes : (lo hi n : ℕ) (q : Reading) → tail_on lo hi (after_tail n) s b ≡ Some q → ReadingRest q ds f → Tail lo hi n s (b ∷ ds) f
  tail_goes lo hi zero q h r = choose (nat_le lo b && nat_le b hi) _ _ (Some q) (Tail lo hi 0 s (b ∷ ds) f) h
      (λ e g. let w = both_le lo b b hi e in (b, [], ds, w.0, w.1, tt, refl, arrive (within inside (s ++ b ∷ [])) q ds f g r))
      (λ e g. none_some q g)
  tail_goes lo hi (suc n) q h r = choose (nat_le lo b && nat_le b hi) _ _ (Some q) (Tail lo hi (suc n) s (b ∷ ds) f) h
      (λ e g. let w = both_le lo b b hi e in let y : Tail 128 191 n (s ++ b ∷ []) ds f = arrive (within (tail n) (s ++ b ∷ [])) q ds f g r in
      (b, y.0 ∷ y.1, y.2, w.0, w.1, (y.3, y.4, y.5), ap (λ x. b ∷ x) y.6, subst (λ x. Inside x y.2 f) (append_assoc s (b ∷ []) (y.0 ∷ y.1)) y.7))
      (λ e g. none_some q g)

  two_bytes : 194 ≤ b → b < 224 → Tail 128 191 0 (s ++ b ∷ []) ds f → Inside s (b ∷ ds) f
  two_bytes l u (x, [], rest, xl, xu, c, e, h) =
      subst (λ y. Inside s (b ∷ y) f) (sym e) (character (b ∷ x ∷ []) s rest f (two b x l u xl xu) (subst (λ y. Inside y rest f) (append_assoc s (b ∷ []) (x ∷ [])) h))
  two_bytes l u (x, y ∷ ys, rest, xl, xu, c, e, h) = absurd c

  three_bytes : (lo hi : ℕ) → 224 ≤ b → b < 240 → 128 ≤ lo → hi ≤ 191 → (b ≡ 224 → 160 ≤ lo) → (b ≡ 237 → hi ≤ 159) → Tail lo hi 1 (s ++ b ∷ []) ds f → Inside s (b ∷ ds) f
  three_bytes lo hi l u least top e0 ed (x, [], rest, xl, xu, c, e, h) = absurd c
  three_bytes lo hi l u least top e0 ed (x, y ∷ [], rest, xl, xu, c, e, h) =
      let first : b ≡ 224 → 160 ≤ x = λ is. let k = e0 is in omega (arith, k, xl) in
      let last : b ≡ 237 → x ≤ 159 = λ is. let k = ed is in omega (arith, k, xu) in
      subst (λ w. Inside s (b ∷ w) f) (sym e) (character (b ∷ x ∷ y ∷ []) s rest f (three b x y l u (omega (arith, least, xl)) (omega (arith, top, xu)) c.0 c.1 first last) (subst (λ w. Inside w rest f) (append_assoc s (b ∷ []) (x ∷ y ∷ [])) h))
  three_bytes lo hi l u least top e0 ed (x, y ∷ z ∷ zs, rest, xl, xu, c, e, h) = absurd c.2

  four_bytes : (lo hi : ℕ) → 240 ≤ b → b ≤ 244 → 128 ≤ lo → hi ≤ 191 → (b ≡ 240 → 144 ≤ lo) → (b ≡ 244 → hi ≤ 143) → Tail lo hi 2 (s ++ b ∷ []) ds f → Inside s (b ∷ ds) f
  four_bytes lo hi l u least top f0 f4 (x, [], rest, xl, xu, c, e, h) = absurd c
  four_bytes lo hi l u least top f0 f4 (x, y ∷ [], rest, xl, xu, c, e, h) = absurd c.2
  four_bytes lo hi l u least top f0 f4 (x, y ∷ z ∷ [], rest, xl, xu, c, e, h) =
      let first : b ≡ 240 → 144 ≤ x = λ is. let k = f0 is in omega (arith, k, xl) in
      let last : b ≡ 244 → x ≤ 143 = λ is. let k = f4 is in omega (arith, k, xu) in
      subst (λ w. Inside s (b ∷ w) f) (sym e) (character (b ∷ x ∷ y ∷ z ∷ []) s rest f (four b x y z l u (omega (arith, least, xl)) (omega (arith, top, xu)) c.0 c.1 c.2.0 c.2.1 first last) (subst (λ w. Inside w rest f) (append_assoc s (b ∷ []) (x ∷ y ∷ z ∷ [])) h))
  four_bytes lo hi l u least top f0 f4 (x, y ∷ z ∷ w ∷ ws, rest, xl, xu, c, e, h) = absurd c.2.2

  lead_goes : (q : Reading) → lead b s ≡ Some q → ReadingRest q ds f → Inside s (b ∷ ds) f
  lead_goes q h r = choose (nat_lt b 0xC2) _ _ (Some q) P h (λ e g. none_some q g)
      (λ c2 g. choose (nat_lt b 0xE0) _ _ (Some q) P g
      (λ e g. two_bytes (above b 194 c2) (below b 224 e) (arrive (within (tail 0) (s ++ b ∷ [])) q ds f g r))
      (λ low g. choose (b == 0xE0) _ _ (Some q) P g
      (λ e g. let is = eq_is b 224 e in three_bytes 160 191 (omega (arith, is)) (omega (arith, is)) (omega arith) (omega arith) (λ x. omega arith) (λ x. omega (arith, x, is)) (arrive (within tail_e0 (s ++ b ∷ [])) q ds f g r))
      (λ e0 g. choose (b == 0xED) _ _ (Some q) P g
      (λ e g. let is = eq_is b 237 e in three_bytes 128 159 (omega (arith, is)) (omega (arith, is)) (omega arith) (omega arith) (λ x. omega (arith, x, is)) (λ x. omega arith) (arrive (within tail_ed (s ++ b ∷ [])) q ds f g r))
      (λ ed g. choose (nat_lt b 0xF0) _ _ (Some q) P g
      (λ e g. three_bytes 128 191 (above b 224 low) (below b 240 e) (omega arith) (omega arith) (λ x. absurd (neq_is b 224 e0 x)) (λ x. absurd (neq_is b 237 ed x)) (arrive (within (tail 1) (s ++ b ∷ [])) q ds f g r))
      (λ high g. choose (b == 0xF0) _ _ (Some q) P g
      (λ e g. let is = eq_is b 240 e in four_bytes 144 191 (omega (arith, is)) (omega (arith, is)) (omega arith) (omega arith) (λ x. omega arith) (λ x. omega (arith, x, is)) (arrive (within tail_f0 (s ++ b ∷ [])) q ds f g r))
      (λ f0 g. choose (nat_lt b 0xF4) _ _ (Some q) P g
      (λ e g. let small = below b 244 e in four_bytes 128 191 (above b 240 high) (omega (arith, small)) (omega arith) (omega arith) (λ x. absurd (neq_is b 240 f0 x)) (λ x. omega (arith, x, small)) (arrive (within (tail 2) (s ++ b ∷ [])) q ds f g r))
      (λ f4 g. choose (b == 0xF4) _ _ (Some q) P g
      (λ e g. let is = eq_is b 244 e in four_bytes 128 143 (omega (arith, is)) (omega (arith, is)) (omega arith) (omega arith) (λ x. omega (arith, x, is)) (λ x. omega arith) (arrive (within tail_f4 (s ++ b ∷ [])) q ds f g r))
      (λ e g. none_some q g))))))))
    where
      P : Type 0
      P = Inside s (b ∷ ds) f

  ascii : 32 ≤ b → b < 128 → ¬ (b ≡ 34) → ¬ (b ≡ 92) → Inside (s ++ b ∷ []) ds f → Inside s (b ∷ ds) f
  ascii l u quote back h =
      subst (λ x. Inside s (x ++ ds) f) (encode_ascii b u)
      (piece (plain b) s ds f (low_scalar b (omega (arith, u)), l, quote, back) (subst (λ x. Inside (s ++ x) ds f) (sym (encode_ascii b u)) h))

  inside_goes : (q : Reading) → text_step inside s b ≡ Some q → ReadingRest q ds f → Inside s (b ∷ ds) f
  inside_goes q h r = choose (b == 34) _ _ (Some q) P h
      (λ e g. let y : (ds ≡ []) × (f ≡ s) = arrive (closed s) q ds f g r in ([], tt, (λ i. eq_is b 34 e i ∷ y.0 i), y.1 ∙ sym (append-nil s)))
      (λ quote g. choose (b == 92) _ _ (Some q) P g
      (λ e g. subst (λ x. Inside s (x ∷ ds) f) (sym (eq_is b 92 e)) (arrive (within escape s) q ds f g r))
      (λ back g. choose (nat_lt b 32) _ _ (Some q) P g (λ e g. none_some q g)
      (λ low g. choose (nat_lt b 128) _ _ (Some q) P g
      (λ e g. ascii (above b 32 low) (below b 128 e) (neq_is b 34 quote) (neq_is b 92 back) (arrive (within inside (s ++ b ∷ [])) q ds f g r))
      (λ e g. lead_goes q g r))))
    where
      P : Type 0
      P = Inside s (b ∷ ds) f

  -- the digits of \u are read
  from_hex : TextRest hex s ds f → Inside s (92 ∷ 117 ∷ ds) f
  from_hex (hs, rest, is, e, inl h) = subst (λ x. Inside s (92 ∷ 117 ∷ x) f) (sym e) (piece (unit_piece hs) s rest f (is, h.0) h.1)
  from_hex (hs, rest, is, e, inr h) =
      let a = h.2 in
      let u = a.2 in
      let l = u.2 in
      let tail_is : rest ≡ 92 ∷ 117 ∷ (l.0 ++ l.1) = a.1 ∙ ap (λ x. 92 ∷ x) (u.1 ∙ ap (λ x. 117 ∷ x) l.5) in
      subst (λ x. Inside s (92 ∷ 117 ∷ x) f) (sym (e ∙ ap (λ x. hs ++ x) tail_is ∙ sym (append_assoc hs (92 ∷ 117 ∷ l.0) l.1)))
      (piece (pair hs l.0) s l.1 f (is, l.2, h.0, h.1, l.3, l.4) l.6)

  escape_goes : (q : Reading) → text_step escape s b ≡ Some q → ReadingRest q ds f → Inside s (92 ∷ b ∷ ds) f
  escape_goes q h r = choose (is_short b) _ _ (Some q) (Inside s (92 ∷ b ∷ ds) f) h
      (λ e g. piece (short b) s ds f e (arrive (within inside (s ++ short_meaning b ∷ [])) q ds f g r))
      (λ e g. choose (b == 117) _ _ (Some q) (Inside s (92 ∷ b ∷ ds) f) g
      (λ e g. subst (λ x. Inside s (92 ∷ x ∷ ds) f) (sym (eq_is b 117 e)) (from_hex (arrive (within hex s) q ds f g r)))
      (λ e g. none_some q g))

  digits_goes : (n : ℕ) (P Q : List ℕ → List ℕ → Type 0) → digit_value b < 16 → ((hs rest : List ℕ) → P hs rest → Q (b ∷ hs) rest) → Digits n P ds → Digits (suc n) Q (b ∷ ds)
  digits_goes n P Q d on h = (b ∷ h.0, h.1, ap suc h.2, (d, h.3), ap (λ x. b ∷ x) h.4, on h.0 h.1 h.5)

  digit_last : (Q : List ℕ → List ℕ → Type 0) → digit_value b < 16 → Q (b ∷ []) ds → Digits 1 Q (b ∷ ds)
  digit_last Q d h = (b ∷ [], ds, refl, (d, tt), refl, h)

  unit_goes : (n v : ℕ) (q : Reading) → text_step (unit n v) s b ≡ Some q → ReadingRest q ds f → UnitRest n v s (b ∷ ds) f
  unit_goes zero v q h r = choose (is_hex b) _ _ (Some q) (UnitRest 0 v s (b ∷ ds) f) h
      (λ e g. digit_last _ (hex_is b e) (arrive (unit_left 0 (v * 16 + digit_value b) s) q ds f g r))
      (λ e g. none_some q g)
  unit_goes (suc n) v q h r = choose (is_hex b) _ _ (Some q) (UnitRest (suc n) v s (b ∷ ds) f) h
      (λ e g. digits_goes (suc n) (λ hs rest. Inside (s ++ encode_utf8 (digits_value_after 16 (v * 16 + digit_value b) hs)) rest f) (λ hs rest. Inside (s ++ encode_utf8 (digits_value_after 16 v hs)) rest f) (hex_is b e) (λ hs rest y. y) (arrive (unit_left (suc n) (v * 16 + digit_value b) s) q ds f g r))
      (λ e g. none_some q g)

  high_goes : (n v : ℕ) (q : Reading) → text_step (high n v) s b ≡ Some q → ReadingRest q ds f → HighRest n v s (b ∷ ds) f
  high_goes zero v q h r = choose (is_hex b) _ _ (Some q) (HighRest 0 v s (b ∷ ds) f) h
      (λ e g. digit_last _ (hex_is b e) (arrive (high_left 0 (v * 16 + digit_value b) s) q ds f g r))
      (λ e g. none_some q g)
  high_goes (suc n) v q h r = choose (is_hex b) _ _ (Some q) (HighRest (suc n) v s (b ∷ ds) f) h
      (λ e g. digits_goes (suc n) (λ hs rest. LowEscape (digits_value_after 16 (v * 16 + digit_value b) hs) s rest f) (λ hs rest. LowEscape (digits_value_after 16 v hs) s rest f) (hex_is b e) (λ hs rest y. y) (arrive (high_left (suc n) (v * 16 + digit_value b) s) q ds f g r))
      (λ e g. none_some q g)

  low_goes : (k n v : ℕ) (q : Reading) → text_step (low k n v) s b ≡ Some q → ReadingRest q ds f → LowRest k n v s (b ∷ ds) f
  low_goes k zero v q h r = choose (is_hex b) _ _ (Some q) (LowRest k 0 v s (b ∷ ds) f) h
      (λ e g. digit_last _ (hex_is b e) (arrive (low_left k 0 (v * 16 + digit_value b) s) q ds f g r))
      (λ e g. none_some q g)
  low_goes k (suc n) v q h r = choose (is_hex b) _ _ (Some q) (LowRest k (suc n) v s (b ∷ ds) f) h
      (λ e g. digits_goes (suc n) (λ hs rest. Inside (s ++ encode_utf8 (paired k (digits_value_after 16 (v * 16 + digit_value b) hs))) rest f) (λ hs rest. Inside (s ++ encode_utf8 (paired k (digits_value_after 16 v hs))) rest f) (hex_is b e) (λ hs rest y. y) (arrive (low_left k (suc n) (v * 16 + digit_value b) s) q ds f g r))
      (λ e g. none_some q g)

two_digits : (v : ℕ) (hs : List ℕ) → length hs ≡ 2 → AllDigits 16 hs → (v * 256 ≤ digits_value_after 16 v hs) × (digits_value_after 16 v hs < v * 256 + 256)
two_digits v [] e h = absurd (omega (arith, e))
two_digits v (x ∷ []) e h = absurd (omega (arith, e))
two_digits v (x ∷ y ∷ []) e h = (omega (arith, h.0, h.1.0), omega (arith, h.0, h.1.0))
two_digits v (x ∷ y ∷ z ∷ zs) e h = absurd (omega (arith, e))

three_digits : (v : ℕ) (hs : List ℕ) → length hs ≡ 3 → AllDigits 16 hs → (v * 4096 ≤ digits_value_after 16 v hs) × (digits_value_after 16 v hs < v * 4096 + 4096)
three_digits v [] e h = absurd (omega (arith, e))
three_digits v (x ∷ hs) e h =
    let w = two_digits (v * 16 + digit_value x) hs (omega (arith, e)) h.1 in
    (omega (arith, w.0, h.0), omega (arith, w.1, h.0))

module _ (s ds f : List ℕ) (b : ℕ) where
  after_d : digit_value b ≡ 13 → TextRest hex_d s ds f → TextRest hex s (b ∷ ds) f
  after_d is (x, rest, e, inl h) =
      let d = h.1 in
      let same : (0 * 16 + digit_value b) * 16 + digit_value x ≡ 208 + digit_value x = omega (arith, is) in
      let w = two_digits ((0 * 16 + digit_value b) * 16 + digit_value x) d.0 d.2 d.3 in
      let small = h.0 in (
        b ∷ x ∷ d.0,
        d.1,
        (ap (λ n. suc (suc n)) d.2, (omega (arith, is), (omega (arith, small), d.3))),
        ap (λ y. b ∷ y) (e ∙ ap (λ y. x ∷ y) d.4),
        inl (inl (omega (arith, w.1, same, small)), subst (λ v. Inside (s ++ encode_utf8 (digits_value_after 16 v d.0)) d.1 f) (sym same) d.5),
      )
  after_d is (x, rest, e, inr h) =
      let d = h.2 in
      let same : (0 * 16 + digit_value b) * 16 + digit_value x ≡ 208 + digit_value x = omega (arith, is) in
      let w = two_digits ((0 * 16 + digit_value b) * 16 + digit_value x) d.0 d.2 d.3 in
      let big = h.0 in
      let small = h.1 in (
        b ∷ x ∷ d.0,
        d.1,
        (ap (λ n. suc (suc n)) d.2, (omega (arith, is), (omega (arith, small), d.3))),
        ap (λ y. b ∷ y) (e ∙ ap (λ y. x ∷ y) d.4),
        inr (omega (arith, w.0, same, big), omega (arith, w.1, same, small), subst (λ v. LowEscape (digits_value_after 16 v d.0) s d.1 f) (sym same) d.5),
      )

  after_other : ¬ (digit_value b ≡ 13) → digit_value b < 16 → UnitRest 2 (digit_value b) s ds f → TextRest hex s (b ∷ ds) f
  after_other other d h =
      let same : 0 * 16 + digit_value b ≡ digit_value b = omega arith in
      let w = three_digits (0 * 16 + digit_value b) h.0 h.2 h.3 in
      let apart : (hex_value (b ∷ h.0) < 55_296) ⊎ (57_344 ≤ hex_value (b ∷ h.0)) = elim (cases_lt (digit_value b) 13) [
        | inl a ↦ inl (omega (arith, w.1, a))
        | inr a ↦ elim (cases_lt (digit_value b) 14) [
          | inl c ↦ absurd (other (omega (arith, a, c)))
          | inr c ↦ inr (omega (arith, w.0, c))
        ]
      ] in
      (b ∷ h.0, h.1, (ap suc h.2, (d, h.3)), ap (λ y. b ∷ y) h.4, inl (apart, subst (λ v. Inside (s ++ encode_utf8 (digits_value_after 16 v h.0)) h.1 f) (sym same) h.5))

  hex_goes : (q : Reading) → text_step hex s b ≡ Some q → ReadingRest q ds f → TextRest hex s (b ∷ ds) f
  hex_goes q h r = choose (digit_value b == 13) _ _ (Some q) (TextRest hex s (b ∷ ds) f) h
      (λ e g. after_d (eq_is (digit_value b) 13 e) (arrive (within hex_d s) q ds f g r))
      (λ other g. choose (is_hex b) _ _ (Some q) (TextRest hex s (b ∷ ds) f) g
      (λ e g. after_other (neq_is (digit_value b) 13 other) (hex_is b e) (arrive (within (unit 2 (digit_value b)) s) q ds f g r))
      (λ e g. none_some q g))

  hex_d_goes : (q : Reading) → text_step hex_d s b ≡ Some q → ReadingRest q ds f → TextRest hex_d s (b ∷ ds) f
  hex_d_goes q h r = choose (nat_lt (digit_value b) 8) _ _ (Some q) (TextRest hex_d s (b ∷ ds) f) h
      (λ e g. (b, ds, refl, inl (below (digit_value b) 8 e, arrive (within (unit 1 (208 + digit_value b)) s) q ds f g r)))
      (λ l g. choose (nat_lt (digit_value b) 12) _ _ (Some q) (TextRest hex_d s (b ∷ ds) f) g
      (λ e g. (b, ds, refl, inr (above (digit_value b) 8 l, below (digit_value b) 12 e, arrive (within (high 1 (208 + digit_value b)) s) q ds f g r)))
      (λ e g. none_some q g))

  after_low_d : (k : ℕ) → digit_value b ≡ 13 → TextRest (low_d k) s ds f → LowHex k s (b ∷ ds) f
  after_low_d k is h =
      let x = h.0 in
      let d = h.5 in
      let same : (0 * 16 + digit_value b) * 16 + digit_value x ≡ 208 + digit_value x = omega (arith, is) in
      let w = two_digits ((0 * 16 + digit_value b) * 16 + digit_value x) d.0 d.2 d.3 in
      let big = h.2 in
      let small = h.3 in (
        b ∷ x ∷ d.0,
        d.1,
        (ap (λ n. suc (suc n)) d.2, (omega (arith, is), (small, d.3))),
        omega (arith, w.0, same, big),
        omega (arith, w.1, same, small),
        ap (λ y. b ∷ y) (h.4 ∙ ap (λ y. x ∷ y) d.4),
        subst (λ v. Inside (s ++ encode_utf8 (paired k (digits_value_after 16 v d.0))) d.1 f) (sym same) d.5,
      )

  low_hex_goes : (k : ℕ) (q : Reading) → text_step (low_hex k) s b ≡ Some q → ReadingRest q ds f → LowHex k s (b ∷ ds) f
  low_hex_goes k q h r = choose (digit_value b == 13) _ _ (Some q) (LowHex k s (b ∷ ds) f) h
      (λ e g. after_low_d k (eq_is (digit_value b) 13 e) (arrive (within (low_d k) s) q ds f g r))
      (λ e g. none_some q g)

  low_d_goes : (k : ℕ) (q : Reading) → text_step (low_d k) s b ≡ Some q → ReadingRest q ds f → TextRest (low_d k) s (b ∷ ds) f
  low_d_goes k q h r = choose (nat_le 12 (digit_value b) && is_hex b) _ _ (Some q) (TextRest (low_d k) s (b ∷ ds) f) h
      (λ e g. let w = le_lt 12 (digit_value b) (digit_value b) 16 e in (b, ds, w.0, w.1, refl, arrive (within (low k 1 (208 + digit_value b)) s) q ds f g r))
      (λ e g. none_some q g)

  low_escape_goes : (k : ℕ) (q : Reading) → text_step (low_escape k) s b ≡ Some q → ReadingRest q ds f → LowEscape k s (b ∷ ds) f
  low_escape_goes k q h r = choose (b == 92) _ _ (Some q) (LowEscape k s (b ∷ ds) f) h
      (λ e g. (ds, ap (λ x. x ∷ ds) (eq_is b 92 e), arrive (within (low_u k) s) q ds f g r))
      (λ e g. none_some q g)

  low_u_goes : (k : ℕ) (q : Reading) → text_step (low_u k) s b ≡ Some q → ReadingRest q ds f → LowU k s (b ∷ ds) f
  low_u_goes k q h r = choose (b == 117) _ _ (Some q) (LowU k s (b ∷ ds) f) h
      (λ e g. (ds, ap (λ x. x ∷ ds) (eq_is b 117 e), arrive (within (low_hex k) s) q ds f g r))
      (λ e g. none_some q g)

text-goes : (t : TextState) (b : ℕ) (s ds f : List ℕ) (q : Reading) → text_step t s b ≡ Some q → ReadingRest q ds f → TextRest t s (b ∷ ds) f
text-goes inside b s ds f q h r = inside_goes s ds f b q h r
text-goes (tail n) b s ds f q h r = tail_goes s ds f b 128 191 n q h r
text-goes tail_e0 b s ds f q h r = tail_goes s ds f b 160 191 1 q h r
text-goes tail_ed b s ds f q h r = tail_goes s ds f b 128 159 1 q h r
text-goes tail_f0 b s ds f q h r = tail_goes s ds f b 144 191 2 q h r
text-goes tail_f4 b s ds f q h r = tail_goes s ds f b 128 143 2 q h r
text-goes escape b s ds f q h r = escape_goes s ds f b q h r
text-goes hex b s ds f q h r = hex_goes s ds f b q h r
text-goes hex_d b s ds f q h r = hex_d_goes s ds f b q h r
text-goes (unit n v) b s ds f q h r = unit_goes s ds f b n v q h r
text-goes (high n v) b s ds f q h r = high_goes s ds f b n v q h r
text-goes (low_escape k) b s ds f q h r = low_escape_goes s ds f b k q h r
text-goes (low_u k) b s ds f q h r = low_u_goes s ds f b k q h r
text-goes (low_hex k) b s ds f q h r = low_hex_goes s ds f b k q h r
text-goes (low_d k) b s ds f q h r = low_d_goes s ds f b k q h r
text-goes (low k n v) b s ds f q h r = low_goes s ds f b k n v q h r

pub text-sound : (t u : TextState) (b : ℕ) (s z ds f : List ℕ) → text_step t s b ≡ Some (within u z) → TextRest u z ds f → TextRest t s (b ∷ ds) f
text-sound t u b s z ds f h r = text-goes t b s ds f (within u z) h r

pub text-closed : (t : TextState) (b : ℕ) (s f : List ℕ) → text_step t s b ≡ Some (closed f) → TextRest t s (b ∷ []) f
text-closed t b s f h = text-goes t b s [] f (closed f) h (refl, refl)
