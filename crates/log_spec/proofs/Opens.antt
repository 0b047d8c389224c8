-- An open file, cut at its first closed gate.
use Rattle.std.proofs.Common.{◌≡◌, ◌≢◌, ℕ, zero, suc, ◌+◌, ◌^◌, ◌<◌, ◌≤◌, true, ◌&&◌, if◌then◌else◌, ◌==◌, nat_lt, List, [], ◌∷◌, ◌++◌, length, take, drop, get_or, bytes_eq, refl, sym, ◌∙◌, ap, arith, append_assoc, length-append, take-append-drop, length-drop}
use Rattle.std.proofs.lemmas.Bool.{and_parts, and_from}
use Rattle.std.proofs.lemmas.List.{append-nil, take_at, drop_at, take-append-le, drop-append-le, length-take-le, get_or-take, get_or_append_left}
use Rattle.std.proofs.lemmas.Nat.{from_le_bytes-to_le_bytes_4}
use Rattle.std.specs.Int.{w32, w64, from_le_bytes, to_le_bytes}
use Rattle.plain_laws.proofs.Booleans.{if_true}
use Rattle.log_spec.specs.Image.{closed, damaged, standing, magic}
use Rattle.log_spec.specs.ImageOf.{Found, ends, breaks, behind, stated, walk, opened, image_of, block_text}
use Rattle.log_spec.proofs.Walks.{prepends, true_if, nat_lt-true, true-nat_lt, true-eq, eq-true, block_step, shut_step, front_of}

-- the bytes up to the closed gate, whatever stands behind it
pub record Opens (file : List ℕ) (g : ℕ) (fs : List (List ℕ)) (q : ℕ) : Type 0 where
  pub front : List ℕ
  pub gate : ℕ
  pub rest : List ℕ
  pub split : file ≡ front ++ gate ∷ rest
  pub shut : gate ≢ 1
  pub at : q ≡ length front
  pub low : 16 ≤ q
  pub goes : (b : ℕ) (tail : List ℕ) → (m : ℕ) × (length tail + 1 ≤ m) × (image_of (front ++ b ∷ tail) ≡ opened g (prepends fs (walk m q (b ∷ tail))))

-- sixteen bytes of a head, and something behind them
pub head_step : (h more : List ℕ) (g : ℕ) → length h ≡ 16 → 1 ≤ length more → get_or h 0 0 ≡ 1 → bytes_eq (take 7 (drop 1 h)) magic ≡ true → from_le_bytes w64 (take 8 (drop 8 h)) ≡ g → image_of (h ++ more) ≡ opened g (walk (length (h ++ more)) 16 more)
unfolding image_of
head_step h more g long some first is_magic says =
    let file = h ++ more in
    let inside = opened (from_le_bytes w64 (take 8 (drop 8 file))) (walk (length file) 16 (drop 16 file)) in
    let with_magic = if bytes_eq (take 7 (drop 1 file)) magic then inside else damaged 1 in
    let open_test : (nat_lt 16 (length file) && (get_or file 0 0 == 1)) ≡ true =
    and_from _ _ (nat_lt-true 16 (length file) (omega (arith, length-append h more))) (eq-true (get_or file 0 0) 1 (get_or_append_left h more 0 0 (omega arith) ∙ first)) in
    let magic_same : take 7 (drop 1 file) ≡ take 7 (drop 1 h) = ap (λ (l : List ℕ). take 7 l) (drop-append-le 1 h more (omega arith)) ∙ take-append-le 7 (drop 1 h) more (omega (arith, length-drop 1 h)) in
    let generation_same : take 8 (drop 8 file) ≡ take 8 (drop 8 h) = ap (λ (l : List ℕ). take 8 l) (drop-append-le 8 h more (omega arith)) ∙ take-append-le 8 (drop 8 h) more (omega (arith, length-drop 8 h)) in
    if_true _ with_magic closed open_test
    ∙ if_true _ inside (damaged 1) (ap (λ (l : List ℕ). bytes_eq l magic) magic_same ∙ is_magic)
    ∙ ap (λ (n : ℕ). opened n (walk (length file) 16 (drop 16 file))) (ap (λ (l : List ℕ). from_le_bytes w64 l) generation_same ∙ says)
    ∙ ap (λ (l : List ℕ). opened g (walk (length file) 16 l)) (drop_at h more 16 long)

record IsStanding (h g : ℕ) (w : Found) (fs : List (List ℕ)) (q : ℕ) : Type 0 where
  pub generation : h ≡ g
  pub found : w ≡ ends fs q

is_standing : (h g : ℕ) (w : Found) (fs : List (List ℕ)) (q : ℕ) → opened h w ≡ standing g fs q → IsStanding h g w fs q
is_standing h g (ends gs p) fs q is = record { generation = cc; found = cc }
is_standing h g (breaks p) fs q is = cc

not_closed : (g : ℕ) (fs : List (List ℕ)) (q : ℕ) → closed ≢ standing g fs q
not_closed g fs q is = cc

not_damaged : (g : ℕ) (fs : List (List ℕ)) (q : ℕ) → damaged 1 ≢ standing g fs q
not_damaged g fs q is = cc

pub opens : (file : List ℕ) (g : ℕ) (fs : List (List ℕ)) (q : ℕ) → image_of file ≡ standing g fs q → Opens file g fs q
unfolding image_of
opens file g fs q is =
    let generation = from_le_bytes w64 (take 8 (drop 8 file)) in
    let inside = opened generation (walk (length file) 16 (drop 16 file)) in
    let with_magic = if bytes_eq (take 7 (drop 1 file)) magic then inside else damaged 1 in
    let outer = true_if _ with_magic closed (standing g fs q) is (not_closed g fs q) in
    let inner = true_if (bytes_eq (take 7 (drop 1 file)) magic) inside (damaged 1) (standing g fs q) outer.1 (not_damaged g fs q) in
    let parts = and_parts (nat_lt 16 (length file)) _ outer.0 in
    let long : 16 < length file = true-nat_lt 16 (length file) parts.0 in
    let first : get_or file 0 0 ≡ 1 = true-eq (get_or file 0 0) 1 parts.1 in
    let stands = is_standing generation g (walk (length file) 16 (drop 16 file)) fs q inner.1 in
    let f = front_of (length file) 16 (drop 16 file) fs q stands.found in
    let h = take 16 file in
    let h_long : length h ≡ 16 = length-take-le 16 file (omega arith) in
    let whole : h ++ drop 16 file ≡ file = take-append-drop 16 file in
    let magic_same : take 7 (drop 1 file) ≡ take 7 (drop 1 h) =
    ap (λ (l : List ℕ). take 7 (drop 1 l)) (sym whole) ∙ ap (λ (l : List ℕ). take 7 l) (drop-append-le 1 h (drop 16 file) (omega arith)) ∙ take-append-le 7 (drop 1 h) (drop 16 file) (omega (arith, length-drop 1 h)) in
    let generation_same : take 8 (drop 8 file) ≡ take 8 (drop 8 h) =
    ap (λ (l : List ℕ). take 8 (drop 8 l)) (sym whole) ∙ ap (λ (l : List ℕ). take 8 l) (drop-append-le 8 h (drop 16 file) (omega arith)) ∙ take-append-le 8 (drop 8 h) (drop 16 file) (omega (arith, length-drop 8 h)) in
    let h_first : get_or h 0 0 ≡ 1 = get_or-take 16 file 0 0 (omega arith) ∙ first in
    let h_magic : bytes_eq (take 7 (drop 1 h)) magic ≡ true = ap (λ (l : List ℕ). bytes_eq l magic) (sym magic_same) ∙ inner.0 in
    let h_says : from_le_bytes w64 (take 8 (drop 8 h)) ≡ g = ap (λ (l : List ℕ). from_le_bytes w64 l) (sym generation_same) ∙ stands.generation in
    record {
      front = h ++ f.front;
      gate = f.gate;
      rest = f.rest;
      split = sym whole ∙ ap (λ (l : List ℕ). h ++ l) f.split ∙ sym (append_assoc h f.front (f.gate ∷ f.rest));
      shut = f.shut;
      at = omega (arith, f.at, h_long, length-append h f.front);
      low = omega (arith, f.at);
      goes = λ b tail.
          let more = f.front ++ b ∷ tail in
          let step = f.goes (length (h ++ more)) (b ∷ tail) (omega (arith, length-append h more, length-append f.front (b ∷ tail))) (omega arith) in (
            step.0,
            omega (arith, step.1),
            ap image_of (append_assoc h f.front (b ∷ tail))
                ∙ head_step h more g h_long (omega (arith, length-append f.front (b ∷ tail))) h_first h_magic h_says
                ∙ ap (λ w. opened g w) step.2,
          );
    }

pub prepends-ends : (fs gs : List (List ℕ)) (q : ℕ) → prepends fs (ends gs q) ≡ ends (fs ++ gs) q
prepends-ends [] gs q = refl
prepends-ends (f ∷ fs) gs q = ap (λ w. behind f w) (prepends-ends fs gs q)

module _ (file : List ℕ) (g : ℕ) (fs : List (List ℕ)) (q : ℕ) (o : Opens file g fs q) where
  -- what stands behind a closed gate says nothing
  pub shut_behind : (b : ℕ) (tail : List ℕ) → b ≢ 1 → image_of (o.front ++ b ∷ tail) ≡ standing g fs q
  shut_behind b tail shut =
      let step = o.goes b tail in
      step.2 ∙ ap (λ w. opened g (prepends fs w)) (shut_step step.0 q b tail shut (omega (arith, step.1)))
      ∙ ap (λ w. opened g w) (prepends-ends fs [] q) ∙ ap (λ (l : List (List ℕ)). standing g l q) (append-nil fs)

  -- a whole frame behind an open gate, with a closed gate behind it
  pub adds : (frame : List ℕ) (gate : ℕ) (tail : List ℕ) → length frame < 2 ^ 32 → gate ≢ 1 → image_of (o.front ++ (1 ∷ (block_text frame ++ gate ∷ tail))) ≡ standing g (fs ++ frame ∷ []) (q + 5 + length frame)
  adds frame gate tail small shut =
      let n = length frame in
      let bytes = to_le_bytes w32 n in
      let more = gate ∷ tail in
      let step = o.goes 1 (block_text frame ++ more) in
      let says : stated (block_text frame) ≡ n = ap (λ (l : List ℕ). from_le_bytes w32 l) (take_at bytes frame 4 refl) ∙ from_le_bytes-to_le_bytes_4 n small in
      let long : length (block_text frame) ≡ 4 + n = length-append bytes frame in
      let body : drop 4 (block_text frame) ≡ frame = drop_at bytes frame 4 refl in
      step.2 ∙ go step.0 step.1 more long says body
    where
      go : (m : ℕ) → length (block_text frame ++ gate ∷ tail) + 1 ≤ m → (more : List ℕ) → length (block_text frame) ≡ 4 + length frame → stated (block_text frame) ≡ length frame → drop 4 (block_text frame) ≡ frame
          → opened g (prepends fs (walk m q (1 ∷ (block_text frame ++ gate ∷ tail)))) ≡ standing g (fs ++ frame ∷ []) (q + 5 + length frame)
      go zero le more long says body = absurd (omega arith)
      go (suc m) le more long says body =
          ap (λ w. opened g (prepends fs w)) (block_step (block_text frame) (gate ∷ tail) (length frame) m q long says (omega arith)
          ∙ ap (λ (l : List ℕ). behind l (walk m (q + 5 + length frame) (gate ∷ tail))) body
          ∙ ap (λ w. behind frame w) (shut_step m (q + 5 + length frame) gate tail shut (omega (arith, long, length-append (block_text frame) (gate ∷ tail)))))
          ∙ ap (λ w. opened g w) (prepends-ends fs (frame ∷ []) (q + 5 + length frame))
