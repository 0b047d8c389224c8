-- A string that was read is UTF-8.
use Rattle.std.proofs.Common.{◌≡◌, ⊎_elim, ℕ, ◌+◌, ◌-◌, ◌*◌, ◌<◌, List, [], ◌∷◌, refl, sym, subst, true, Option, Some, None, arith}
use Rattle.std.specs.Prelude.{flat_map}
use Rattle.std.specs.Str.{IsUtf8}
use Rattle.std.specs.List.{AllByRecursion}
use Rattle.std.proofs.lemmas.Str.{IsUtf8-append, IsUtf8-nil, IsUtf8-encode, encode_ascii}
use Rattle.text_spec.specs.JsonText.{Piece, plain, short, unit as unit_piece, pair, piece_bytes, IsPiece, IsHex, hex_value, is_short, short_meaning}
use Rattle.json_machine.specs.Machine.{TextState, inside, Reading, within, closed, text_step, text_ends, text_stuck, text_next, text_verdict}
use Rattle.json_machine.proofs.TextSound.{TextRest, text-sound, text-closed}
use Rattle.json_machine.proofs.Characters.{low_scalar, high_scalar}

stuck_ends : {P : Type 0} (k at : ℕ) (f rest : List ℕ) → text_stuck at ≡ text_ends f k rest → P
stuck_ends k at f rest h = absurd (never h)
  where
    never : text_stuck at ≡ text_ends f k rest → ⊥
    never h = cc

same_text : (f g : List ℕ) (k l : ℕ) (xs ys : List ℕ) → text_ends f k xs ≡ text_ends g l ys → f ≡ g
same_text f g k l xs ys h = cc

verdict_step : (t : TextState) (s : List ℕ) (b at : ℕ) (bs f : List ℕ) (k : ℕ) (rest : List ℕ) (o : Option Reading) → text_step t s b ≡ o → text_next o at bs (λ t s. text_verdict t s (at + 1) bs) ≡ text_ends f k rest → ((u : TextState) (z : List ℕ) → text_verdict u z (at + 1) bs ≡ text_ends f k rest → (ds : List ℕ) × TextRest u z ds f) → (ds : List ℕ) × TextRest t s ds f
verdict_step t s b at bs f k rest None e h more = stuck_ends k at f rest h
verdict_step t s b at bs f k rest (Some (within u z)) e h more = let y = more u z h in (b ∷ y.0, text-sound t u b s z y.0 f e y.1)
verdict_step t s b at bs f k rest (Some (closed g)) e h more = let same = same_text g f (at + 1) k bs rest h in (b ∷ [], subst (TextRest t s (b ∷ [])) same (text-closed t b s g e))

pub verdict-inside : (bs : List ℕ) (at : ℕ) (t : TextState) (s f : List ℕ) (k : ℕ) (rest : List ℕ) → text_verdict t s at bs ≡ text_ends f k rest → (ds : List ℕ) × TextRest t s ds f
verdict-inside [] at t s f k rest h = stuck_ends k at f rest h
verdict-inside (b ∷ bs) at t s f k rest h = verdict_step t s b at bs f k rest (text_step t s b) refl h (λ u z. verdict-inside bs (at + 1) u z f k rest)

short_ascii : (c : ℕ) → is_short c ≡ true → short_meaning c < 128
short_ascii c h = grind arith

pub hex_bound : (ds : List ℕ) → IsHex ds → hex_value ds < 65_536
hex_bound [] h = absurd (omega (arith, h.0))
hex_bound (a ∷ []) h = absurd (omega (arith, h.0))
hex_bound (a ∷ b ∷ []) h = absurd (omega (arith, h.0))
hex_bound (a ∷ b ∷ c ∷ []) h = absurd (omega (arith, h.0))
hex_bound (a ∷ b ∷ c ∷ d ∷ []) h = omega (arith, h.1.0, h.1.1.0, h.1.1.1.0, h.1.1.1.1.0)
hex_bound (a ∷ b ∷ c ∷ d ∷ e ∷ ds) h = absurd (omega (arith, h.0))

piece_utf8 : (p : Piece) → IsPiece p → IsUtf8 (piece_bytes p)
piece_utf8 (plain c) h = IsUtf8-encode c h.0
piece_utf8 (short c) h = let small = short_ascii c h in subst IsUtf8 (encode_ascii (short_meaning c) small) (IsUtf8-encode (short_meaning c) (low_scalar (short_meaning c) (omega (arith, small))))
piece_utf8 (unit_piece ds) h =
    let top = hex_bound ds h.0 in
    IsUtf8-encode (hex_value ds) (⊎_elim (λ a. low_scalar (hex_value ds) a) (λ a. high_scalar (hex_value ds) a (omega (arith, top))) h.1)
piece_utf8 (pair hs ls) h =
    IsUtf8-encode (65_536 + (hex_value hs - 55_296) * 1_024 + (hex_value ls - 56_320)) (high_scalar (65_536 + (hex_value hs - 55_296) * 1_024 + (hex_value ls - 56_320)) (omega arith) (omega (arith, h.2, h.3, h.4, h.5)))

pub pieces_utf8 : (ps : List Piece) → AllByRecursion IsPiece ps → IsUtf8 (flat_map piece_bytes ps)
pieces_utf8 [] h = IsUtf8-nil
pieces_utf8 (p ∷ ps) h = IsUtf8-append (piece_bytes p) (flat_map piece_bytes ps) (piece_utf8 p h.0) (pieces_utf8 ps h.1)

pub verdict-utf8 : (bs : List ℕ) (at : ℕ) (f : List ℕ) (k : ℕ) (rest : List ℕ) → text_verdict inside [] at bs ≡ text_ends f k rest → IsUtf8 f
verdict-utf8 bs at f k rest h = let y = verdict-inside bs at inside [] f k rest h in subst IsUtf8 (sym y.1.3) (pieces_utf8 y.1.0 y.1.1)
