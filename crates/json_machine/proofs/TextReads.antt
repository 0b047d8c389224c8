-- Law 1 for strings: the machine reads the text of pieces as what they stand for.
use Rattle.std.proofs.Common.{◌≡◌, ◌∙◌, ◌⊎◌, ⊎_elim, inl, inr, ℕ, ◌+◌, ◌*◌, ◌-◌, ◌/◌, ◌%◌, ◌<◌, ◌≤◌, List, [], ◌∷◌, ◌++◌, refl, sym, ap, Bool, true, false, Some, arith, append_assoc, ◌==◌}
use Rattle.std.specs.Prelude.{flat_map}
use Rattle.std.specs.Char.{encode_utf8, digit_value}
use Rattle.std.specs.List.{AllByRecursion}
use Rattle.std.proofs.Math.Nat.{div-add-mod, mod-lt}
use Rattle.std.proofs.lemmas.Bool.{cases_lt}
use Rattle.std.proofs.lemmas.List.{append-nil}
use Rattle.std.proofs.lemmas.Str.{encode_ascii}
use Rattle.text_spec.proofs.of_plain_laws.Booleans.{eq_true, eq_not}
use Rattle.text_spec.specs.JsonText.{Piece, plain, short, unit as unit_piece, pair, piece_text, piece_bytes, IsPiece, IsHex, hex_value}
use Rattle.json_machine.specs.Machine.{inside, tail, hex, unit, high, low_escape, low_hex, low, closed, text_step, text_run, lead}
use Rattle.json_machine.proofs.Cases.{lt_true, lt_false, le_true, eq_above, is_hex_true}
use Rattle.json_machine.proofs.Characters.{encode_2, encode_3, encode_4, split}

-- ---- escapes

unit_two : (v : ℕ) (s r : List ℕ) (c d : ℕ) → digit_value c < 16 → digit_value d < 16 → text_run (unit 1 v) s (c ∷ d ∷ r) ≡ text_run inside (s ++ encode_utf8 ((v * 16 + digit_value c) * 16 + digit_value d)) r
unit_two v s r c d hc hd = rw (is_hex_true c hc, is_hex_true d hd) refl

high_two : (v : ℕ) (s r : List ℕ) (c d : ℕ) → digit_value c < 16 → digit_value d < 16 → text_run (high 1 v) s (c ∷ d ∷ r) ≡ text_run (low_escape ((v * 16 + digit_value c) * 16 + digit_value d)) s r
high_two v s r c d hc hd = rw (is_hex_true c hc, is_hex_true d hd) refl

low_two : (h v : ℕ) (s r : List ℕ) (c d : ℕ) → digit_value c < 16 → digit_value d < 16 → text_run (low h 1 v) s (c ∷ d ∷ r) ≡ text_run inside (s ++ encode_utf8 (65_536 + (h - 55_296) * 1_024 + (((v * 16 + digit_value c) * 16 + digit_value d) - 56_320))) r
low_two h v s r c d hc hd = rw (is_hex_true c hc, is_hex_true d hd) refl

unit_small : (a b c d : ℕ) → a ≡ 13 → b < 16 → c < 16 → d < 16 → ((((0 * 16 + a) * 16 + b) * 16 + c) * 16 + d < 55_296) ⊎ (57_344 ≤ (((0 * 16 + a) * 16 + b) * 16 + c) * 16 + d) → b < 8
unit_small a b c d ha hb hc hd h = ⊎_elim (λ l. omega arith) (λ l. omega arith) h

unit_run : (x : Bool) (a b c d : ℕ) (s r : List ℕ) → (digit_value a == 13) ≡ x → digit_value a < 16 → digit_value b < 16 → digit_value c < 16 → digit_value d < 16 → (hex_value (a ∷ b ∷ c ∷ d ∷ []) < 55_296) ⊎ (57_344 ≤ hex_value (a ∷ b ∷ c ∷ d ∷ [])) → text_run hex s (a ∷ b ∷ c ∷ d ∷ r) ≡ text_run inside (s ++ encode_utf8 (hex_value (a ∷ b ∷ c ∷ d ∷ []))) r
unit_run true a b c d s r e ha hb hc hd h =
    let is_d : digit_value a ≡ 13 = grind arith in
    let small : digit_value b < 8 = unit_small (digit_value a) (digit_value b) (digit_value c) (digit_value d) is_d hb hc hd h in
    let same : (0 * 16 + digit_value a) * 16 + digit_value b ≡ 208 + digit_value b = omega (arith, is_d) in
    rw (e, lt_true (digit_value b) 8 small) (unit_two (208 + digit_value b) s r c d hc hd ∙ ap (λ v. text_run inside (s ++ encode_utf8 ((v * 16 + digit_value c) * 16 + digit_value d)) r) (sym same))
unit_run false a b c d s r e ha hb hc hd h =
    let same : (0 * 16 + digit_value a) * 16 + digit_value b ≡ digit_value a * 16 + digit_value b = omega arith in
    rw (e, is_hex_true a ha, is_hex_true b hb) (unit_two (digit_value a * 16 + digit_value b) s r c d hc hd ∙ ap (λ v. text_run inside (s ++ encode_utf8 ((v * 16 + digit_value c) * 16 + digit_value d)) r) (sym same))

high_first : (a b c d : ℕ) → a < 16 → b < 16 → c < 16 → d < 16 → 55_296 ≤ (((0 * 16 + a) * 16 + b) * 16 + c) * 16 + d → (((0 * 16 + a) * 16 + b) * 16 + c) * 16 + d < 56_320 → (a ≡ 13) × (8 ≤ b) × (b < 12)
high_first a b c d ha hb hc hd l u = (omega arith, omega arith, omega arith)

low_first : (a b c d : ℕ) → a < 16 → b < 16 → c < 16 → d < 16 → 56_320 ≤ (((0 * 16 + a) * 16 + b) * 16 + c) * 16 + d → (((0 * 16 + a) * 16 + b) * 16 + c) * 16 + d < 57_344 → (a ≡ 13) × (12 ≤ b)
low_first a b c d ha hb hc hd l u = (omega arith, omega arith)

high_run : (a b c d : ℕ) (s r : List ℕ) → digit_value a < 16 → digit_value b < 16 → digit_value c < 16 → digit_value d < 16 → 55_296 ≤ hex_value (a ∷ b ∷ c ∷ d ∷ []) → hex_value (a ∷ b ∷ c ∷ d ∷ []) < 56_320 → text_run hex s (a ∷ b ∷ c ∷ d ∷ r) ≡ text_run (low_escape (hex_value (a ∷ b ∷ c ∷ d ∷ []))) s r
high_run a b c d s r ha hb hc hd l u =
    let f = high_first (digit_value a) (digit_value b) (digit_value c) (digit_value d) ha hb hc hd l u in
    let same : (0 * 16 + digit_value a) * 16 + digit_value b ≡ 208 + digit_value b = omega (arith, f.0) in
    rw (eq_true (digit_value a) 13 f.0, lt_false (digit_value b) 8 f.1, lt_true (digit_value b) 12 f.2) (high_two (208 + digit_value b) s r c d hc hd ∙ ap (λ v. text_run (low_escape ((v * 16 + digit_value c) * 16 + digit_value d)) s r) (sym same))

low_run : (h a b c d : ℕ) (s r : List ℕ) → digit_value a < 16 → digit_value b < 16 → digit_value c < 16 → digit_value d < 16 → 56_320 ≤ hex_value (a ∷ b ∷ c ∷ d ∷ []) → hex_value (a ∷ b ∷ c ∷ d ∷ []) < 57_344 → text_run (low_hex h) s (a ∷ b ∷ c ∷ d ∷ r) ≡ text_run inside (s ++ encode_utf8 (65_536 + (h - 55_296) * 1_024 + (hex_value (a ∷ b ∷ c ∷ d ∷ []) - 56_320))) r
low_run h a b c d s r ha hb hc hd l u =
    let f = low_first (digit_value a) (digit_value b) (digit_value c) (digit_value d) ha hb hc hd l u in
    let same : (0 * 16 + digit_value a) * 16 + digit_value b ≡ 208 + digit_value b = omega (arith, f.0) in
    rw (eq_true (digit_value a) 13 f.0, le_true 12 (digit_value b) f.1, is_hex_true b hb) (low_two h (208 + digit_value b) s r c d hc hd ∙ ap (λ v. text_run inside (s ++ encode_utf8 (65_536 + (h - 55_296) * 1_024 + (((v * 16 + digit_value c) * 16 + digit_value d) - 56_320))) r) (sym same))

unit_piece_run : (ds s r : List ℕ) → IsPiece (unit_piece ds) → text_run hex s (ds ++ r) ≡ text_run inside (s ++ encode_utf8 (hex_value ds)) r
unit_piece_run [] s r h = absurd (omega (arith, h.0.0))
unit_piece_run (a ∷ []) s r h = absurd (omega (arith, h.0.0))
unit_piece_run (a ∷ b ∷ []) s r h = absurd (omega (arith, h.0.0))
unit_piece_run (a ∷ b ∷ c ∷ []) s r h = absurd (omega (arith, h.0.0))
unit_piece_run (a ∷ b ∷ c ∷ d ∷ []) s r h = unit_run (digit_value a == 13) a b c d s r refl h.0.1.0 h.0.1.1.0 h.0.1.1.1.0 h.0.1.1.1.1.0 h.1
unit_piece_run (a ∷ b ∷ c ∷ d ∷ e ∷ ds) s r h = absurd (omega (arith, h.0.0))

high_piece_run : (ds s r : List ℕ) → IsHex ds → 55_296 ≤ hex_value ds → hex_value ds < 56_320 → text_run hex s (ds ++ r) ≡ text_run (low_escape (hex_value ds)) s r
high_piece_run [] s r h l u = absurd (omega (arith, h.0))
high_piece_run (a ∷ []) s r h l u = absurd (omega (arith, h.0))
high_piece_run (a ∷ b ∷ []) s r h l u = absurd (omega (arith, h.0))
high_piece_run (a ∷ b ∷ c ∷ []) s r h l u = absurd (omega (arith, h.0))
high_piece_run (a ∷ b ∷ c ∷ d ∷ []) s r h l u = high_run a b c d s r h.1.0 h.1.1.0 h.1.1.1.0 h.1.1.1.1.0 l u
high_piece_run (a ∷ b ∷ c ∷ d ∷ e ∷ ds) s r h l u = absurd (omega (arith, h.0))

low_piece_run : (first : ℕ) (ds s r : List ℕ) → IsHex ds → 56_320 ≤ hex_value ds → hex_value ds < 57_344 → text_run (low_hex first) s (ds ++ r) ≡ text_run inside (s ++ encode_utf8 (65_536 + (first - 55_296) * 1_024 + (hex_value ds - 56_320))) r
low_piece_run first [] s r h l u = absurd (omega (arith, h.0))
low_piece_run first (a ∷ []) s r h l u = absurd (omega (arith, h.0))
low_piece_run first (a ∷ b ∷ []) s r h l u = absurd (omega (arith, h.0))
low_piece_run first (a ∷ b ∷ c ∷ []) s r h l u = absurd (omega (arith, h.0))
low_piece_run first (a ∷ b ∷ c ∷ d ∷ []) s r h l u = low_run first a b c d s r h.1.0 h.1.1.0 h.1.1.1.0 h.1.1.1.1.0 l u
low_piece_run first (a ∷ b ∷ c ∷ d ∷ e ∷ ds) s r h l u = absurd (omega (arith, h.0))

-- ---- characters

lead_step : (b : ℕ) (s : List ℕ) → 128 ≤ b → text_step inside s b ≡ lead b s
lead_step b s h = rw (eq_above b 34 (omega arith), eq_above b 92 (omega arith), lt_false b 32 (omega arith), lt_false b 128 h) refl

run_2 : (b x : ℕ) (s r : List ℕ) → 194 ≤ b → b < 224 → 128 ≤ x → x ≤ 191 → text_run inside s (b ∷ x ∷ r) ≡ text_run inside (s ++ b ∷ x ∷ []) r
run_2 b x s r l u xl xu = rw (lead_step b s (omega arith), lt_false b 194 l, lt_true b 224 u, le_true 128 x xl, le_true x 191 xu) (ap (λ y. text_run inside y r) (append_assoc s (b ∷ []) (x ∷ [])))

tail_1 : (x y : ℕ) (s r : List ℕ) → 128 ≤ x → x ≤ 191 → 128 ≤ y → y ≤ 191 → text_run (tail 1) s (x ∷ y ∷ r) ≡ text_run inside (s ++ x ∷ y ∷ []) r
tail_1 x y s r xl xu yl yu = rw (le_true 128 x xl, le_true x 191 xu, le_true 128 y yl, le_true y 191 yu) (ap (λ z. text_run inside z r) (append_assoc s (x ∷ []) (y ∷ [])))

tail_2 : (x y z : ℕ) (s r : List ℕ) → 128 ≤ x → x ≤ 191 → 128 ≤ y → y ≤ 191 → 128 ≤ z → z ≤ 191 → text_run (tail 2) s (x ∷ y ∷ z ∷ r) ≡ text_run inside (s ++ x ∷ y ∷ z ∷ []) r
tail_2 x y z s r xl xu yl yu zl zu = rw (le_true 128 x xl, le_true x 191 xu) (tail_1 y z (s ++ x ∷ []) r yl yu zl zu ∙ ap (λ w. text_run inside w r) (append_assoc s (x ∷ []) (y ∷ z ∷ [])))

run_3 : (p q : Bool) (b x y : ℕ) (s r : List ℕ) → (b == 224) ≡ p → (b == 237) ≡ q → 224 ≤ b → b < 240 → 128 ≤ x → x ≤ 191 → (b ≡ 224 → 160 ≤ x) → (b ≡ 237 → x ≤ 159) → 128 ≤ y → y ≤ 191 → text_run inside s (b ∷ x ∷ y ∷ r) ≡ text_run inside (s ++ b ∷ x ∷ y ∷ []) r
run_3 true v b x y s r p q l u xl xu least most yl yu =
    let is : b ≡ 224 = grind arith in
    rw (lead_step b s (omega arith), lt_false b 194 (omega arith), lt_false b 224 l, p, le_true 160 x (least is), le_true x 191 xu, le_true 128 y yl, le_true y 191 yu) (ap (λ z. text_run inside z r) (append_assoc (s ++ b ∷ []) (x ∷ []) (y ∷ []) ∙ append_assoc s (b ∷ []) (x ∷ y ∷ [])))
run_3 false true b x y s r p q l u xl xu least most yl yu =
    let is : b ≡ 237 = grind arith in
    rw (lead_step b s (omega arith), lt_false b 194 (omega arith), lt_false b 224 l, p, q, le_true 128 x xl, le_true x 159 (most is), le_true 128 y yl, le_true y 191 yu) (ap (λ z. text_run inside z r) (append_assoc (s ++ b ∷ []) (x ∷ []) (y ∷ []) ∙ append_assoc s (b ∷ []) (x ∷ y ∷ [])))
run_3 false false b x y s r p q l u xl xu least most yl yu =
    rw (lead_step b s (omega arith), lt_false b 194 (omega arith), lt_false b 224 l, p, q, lt_true b 240 u) (tail_1 x y (s ++ b ∷ []) r xl xu yl yu ∙ ap (λ z. text_run inside z r) (append_assoc s (b ∷ []) (x ∷ y ∷ [])))

three_more : (x y z b : ℕ) (s r : List ℕ) → text_run inside (s ++ b ∷ [] ++ x ∷ [] ++ y ∷ z ∷ []) r ≡ text_run inside (s ++ b ∷ x ∷ y ∷ z ∷ []) r
three_more x y z b s r = ap (λ w. text_run inside w r) (append_assoc (s ++ b ∷ []) (x ∷ []) (y ∷ z ∷ []) ∙ append_assoc s (b ∷ []) (x ∷ y ∷ z ∷ []))

run_4 : (p q : Bool) (b x y z : ℕ) (s r : List ℕ) → (b == 240) ≡ p → (b == 244) ≡ q → 240 ≤ b → b ≤ 244 → 128 ≤ x → x ≤ 191 → (b ≡ 240 → 144 ≤ x) → (b ≡ 244 → x ≤ 143) → 128 ≤ y → y ≤ 191 → 128 ≤ z → z ≤ 191 → text_run inside s (b ∷ x ∷ y ∷ z ∷ r) ≡ text_run inside (s ++ b ∷ x ∷ y ∷ z ∷ []) r
run_4 true v b x y z s r p q l u xl xu least most yl yu zl zu =
    let is : b ≡ 240 = grind arith in
    rw (lead_step b s (omega arith), lt_false b 194 (omega arith), lt_false b 224 (omega arith), eq_above b 224 (omega arith), eq_above b 237 (omega arith), lt_false b 240 l, p, le_true 144 x (least is), le_true x 191 xu) (tail_1 y z (s ++ b ∷ [] ++ x ∷ []) r yl yu zl zu ∙ three_more x y z b s r)
run_4 false true b x y z s r p q l u xl xu least most yl yu zl zu =
    let is : b ≡ 244 = grind arith in
    rw (lead_step b s (omega arith), lt_false b 194 (omega arith), lt_false b 224 (omega arith), eq_above b 224 (omega arith), eq_above b 237 (omega arith), lt_false b 240 l, p, lt_false b 244 (omega (arith, is)), q, le_true 128 x xl, le_true x 143 (most is)) (tail_1 y z (s ++ b ∷ [] ++ x ∷ []) r yl yu zl zu ∙ three_more x y z b s r)
run_4 false false b x y z s r p q l u xl xu least most yl yu zl zu =
    let under : b < 244 = grind arith in
    rw (lead_step b s (omega arith), lt_false b 194 (omega arith), lt_false b 224 (omega arith), eq_above b 224 (omega arith), eq_above b 237 (omega arith), lt_false b 240 l, p, lt_true b 244 under) (tail_2 x y z (s ++ b ∷ []) r xl xu yl yu zl zu ∙ ap (λ w. text_run inside w r) (append_assoc s (b ∷ []) (x ∷ y ∷ z ∷ [])))

plain_2 : (c : ℕ) (s r : List ℕ) → 128 ≤ c → c < 2048 → text_run inside s (encode_utf8 c ++ r) ≡ text_run inside (s ++ encode_utf8 c) r
plain_2 c s r l u =
    let a = split c in
    rw (encode_2 c l u) (run_2 (192 + c / 64) (128 + c % 64) s r (omega (arith, a.sum, a.small)) (omega (arith, a.sum, a.small)) (omega arith) (omega (arith, a.small)))

plain_3 : (c : ℕ) (s r : List ℕ) → 2048 ≤ c → c < 65_536 → (c < 55_296) ⊎ (57_344 ≤ c) → text_run inside s (encode_utf8 c ++ r) ≡ text_run inside (s ++ encode_utf8 c) r
plain_3 c s r l u h =
    let a = split c in
    let b = split (c / 64) in
    let d : 4096 * (c / 4096) + c % 4096 ≡ c = div-add-mod c 4096 in
    let e : c % 4096 < 4096 = mod-lt c (omega arith) in
    let same : c / 64 / 64 ≡ c / 4096 = omega (arith, a.sum, a.small, b.sum, b.small, d, e) in
    let least : 224 + c / 4096 ≡ 224 → 160 ≤ 128 + (c / 64) % 64 = λ is. omega (arith, is, a.sum, a.small, b.sum, b.small, same) in
    let most : 224 + c / 4096 ≡ 237 → 128 + (c / 64) % 64 ≤ 159 = λ is. ⊎_elim (λ x. omega (arith, x, is, a.sum, a.small, b.sum, b.small, same)) (λ x. omega (arith, x, is, a.sum, a.small, b.sum, b.small, same)) h in
    rw (encode_3 c l u) (run_3 _ _ (224 + c / 4096) (128 + (c / 64) % 64) (128 + c % 64) s r refl refl (omega arith) (omega (arith, d, e)) (omega arith) (omega (arith, b.small)) least most (omega arith) (omega (arith, a.small)))

plain_4 : (c : ℕ) (s r : List ℕ) → 65_536 ≤ c → c < 1_114_112 → text_run inside s (encode_utf8 c ++ r) ≡ text_run inside (s ++ encode_utf8 c) r
plain_4 c s r l u =
    let a = split c in
    let b = split (c / 4096) in
    let k = split (c / 64) in
    let d : 4096 * (c / 4096) + c % 4096 ≡ c = div-add-mod c 4096 in
    let e : c % 4096 < 4096 = mod-lt c (omega arith) in
    let f : 262_144 * (c / 262_144) + c % 262_144 ≡ c = div-add-mod c 262_144 in
    let g : c % 262_144 < 262_144 = mod-lt c (omega arith) in
    let same : c / 4096 / 64 ≡ c / 262_144 = omega (arith, d, e, f, g, b.sum, b.small) in
    let least : 240 + c / 262_144 ≡ 240 → 144 ≤ 128 + (c / 4096) % 64 = λ is. omega (arith, is, d, e, b.sum, b.small, same) in
    let most : 240 + c / 262_144 ≡ 244 → 128 + (c / 4096) % 64 ≤ 143 = λ is. omega (arith, is, d, e, b.sum, b.small, same) in
    rw (encode_4 c l) (run_4 _ _ (240 + c / 262_144) (128 + (c / 4096) % 64) (128 + (c / 64) % 64) (128 + c % 64) s r refl refl (omega arith) (omega (arith, f, g)) (omega arith) (omega (arith, b.small)) least most (omega arith) (omega (arith, k.small)) (omega arith) (omega (arith, a.small)))

ascii_run : (c : ℕ) (s r : List ℕ) → c < 128 → 32 ≤ c → ¬ (c ≡ 34) → ¬ (c ≡ 92) → text_run inside s (encode_utf8 c ++ r) ≡ text_run inside (s ++ encode_utf8 c) r
ascii_run c s r u l q b = rw (encode_ascii c u, eq_not c 34 q, eq_not c 92 b, lt_false c 32 l, lt_true c 128 u) refl

plain_run : (c : ℕ) (s r : List ℕ) → IsPiece (plain c) → text_run inside s (encode_utf8 c ++ r) ≡ text_run inside (s ++ encode_utf8 c) r
plain_run c s r h =
    let range : (c < 55_296) ⊎ ((57_344 ≤ c) × (c < 1_114_112)) = grind arith in
    ⊎_elim (λ a. ascii_run c s r a h.1 h.2 h.3) (λ a.
    ⊎_elim (λ b. plain_2 c s r a b) (λ b.
    ⊎_elim (λ d. plain_3 c s r b d (⊎_elim (λ x. inl x) (λ x. inr x.0) range)) (λ d. plain_4 c s r d (⊎_elim (λ x. omega arith) (λ x. x.1) range))
    (cases_lt c 65_536)) (cases_lt c 2048)) (cases_lt c 128)

piece_run : (p : Piece) (s r : List ℕ) → IsPiece p → text_run inside s (piece_text p ++ r) ≡ text_run inside (s ++ piece_bytes p) r
piece_run (plain c) s r h = plain_run c s r h
piece_run (short c) s r h = rw h refl
piece_run (unit_piece ds) s r h = unit_piece_run ds s r h
piece_run (pair h l) s r p =
    ap (λ x. text_run hex s x) (append_assoc h (92 ∷ 117 ∷ l) r)
    ∙ high_piece_run h s (92 ∷ 117 ∷ (l ++ r)) p.0 p.2 p.3
    ∙ low_piece_run (hex_value h) l s r p.1 p.4 p.5

pub text_run-pieces : (ps : List Piece) (s : List ℕ) → AllByRecursion IsPiece ps → text_run inside s (flat_map piece_text ps ++ 34 ∷ []) ≡ Some (closed (s ++ flat_map piece_bytes ps))
text_run-pieces [] s h = ap (λ x. Some (closed x)) (sym (append-nil s))
text_run-pieces (p ∷ ps) s h =
    ap (text_run inside s) (append_assoc (piece_text p) (flat_map piece_text ps) (34 ∷ []))
    ∙ piece_run p s (flat_map piece_text ps ++ 34 ∷ []) h.0
    ∙ text_run-pieces ps (s ++ piece_bytes p) h.1
    ∙ ap (λ x. Some (closed x)) (append_assoc s (piece_bytes p) (flat_map piece_bytes ps))
