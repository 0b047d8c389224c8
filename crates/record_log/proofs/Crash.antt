-- What a torn write leaves of a log.
use Rattle.std.proofs.Common.{◌≡◌, inl, inr, ℕ, ◌+◌, ◌^◌, ◌<◌, ◌≤◌, List, [], ◌∷◌, ◌++◌, length, take, drop, get_or, refl, sym, ◌∙◌, ap, subst, arith, append_assoc, length-append, take-append-drop}
use Rattle.std.proofs.lemmas.Bool.{cases_eq}
use Rattle.std.proofs.lemmas.List.{take_at, drop_at, drop_more}
use Rattle.fleet_ports.specs.Disks.{overlaid, Torn}
use Rattle.log_spec.specs.Image.{standing}
use Rattle.log_spec.specs.ImageOf.{image_of, block_text}
use Rattle.record_log.specs.Log.{IsOldOrNew}
use Rattle.log_spec.proofs.Opens.{Opens, opens, shut_behind, adds}

-- a byte behind a front is all that a write of one byte there tears
pub torn_gate : (front : List ℕ) (gate : ℕ) (rest : List ℕ) (q : ℕ) (c : List ℕ) → q ≡ length front → Torn q 1 (front ++ gate ∷ rest) c → (b : ℕ) × (c ≡ front ++ b ∷ rest)
torn_gate front gate rest q c at torn =
    let file = front ++ gate ∷ rest in
    let b = get_or c q 0 in
    let split : file ≡ (front ++ gate ∷ []) ++ rest = sym (append_assoc front (gate ∷ []) rest) in
    let before : take q c ≡ front = torn.before ∙ take_at front (gate ∷ rest) q (sym at) in
    let after : drop (q + 1) c ≡ rest = torn.after ∙ ap (λ (l : List ℕ). drop (q + 1) l) split ∙ drop_at (front ++ gate ∷ []) rest (q + 1) (omega (arith, length-append front (gate ∷ []))) in
    let long : q < length c = omega (arith, torn.no_shorter, length-append front (gate ∷ rest)) in
    (b, sym (take-append-drop q c) ∙ ap (λ (l : List ℕ). l ++ drop q c) before ∙ ap (λ (l : List ℕ). front ++ l) (drop_more c q 0 long ∙ ap (λ (l : List ℕ). b ∷ l) after))

pub written_gate : (front : List ℕ) (gate : ℕ) (rest : List ℕ) (q b : ℕ) → q ≡ length front → overlaid (front ++ gate ∷ rest) q (b ∷ []) ≡ front ++ b ∷ rest
written_gate front gate rest q b at =
    let split : front ++ gate ∷ rest ≡ (front ++ gate ∷ []) ++ rest = sym (append_assoc front (gate ∷ []) rest) in
    let after : drop (q + 1) (front ++ gate ∷ rest) ≡ rest = ap (λ (l : List ℕ). drop (q + 1) l) split ∙ drop_at (front ++ gate ∷ []) rest (q + 1) (omega (arith, length-append front (gate ∷ []))) in
    ap (λ (l : List ℕ). l ++ (b ∷ []) ++ drop (q + 1) (front ++ gate ∷ rest)) (take_at front (gate ∷ rest) q (sym at))
    ∙ ap (λ (l : List ℕ). front ++ (b ∷ []) ++ l) after
    ∙ append_assoc front (b ∷ []) rest

module _ (file : List ℕ) (g : ℕ) (fs : List (List ℕ)) (q : ℕ) (is : image_of file ≡ standing g fs q) where
  pub past_gate : q < length file
  past_gate = let o = opens file g fs q is in omega (arith, o.at, ap length o.split, length-append o.front (o.gate ∷ o.rest))

  pub head_low : 16 ≤ q
  head_low = (opens file g fs q is).low

  front_gate : (o : Opens file g fs q) → take (q + 1) file ≡ o.front ++ o.gate ∷ []
  front_gate o =
      ap (λ (l : List ℕ). take (q + 1) l) (o.split ∙ sym (append_assoc o.front (o.gate ∷ []) o.rest))
      ∙ take_at (o.front ++ o.gate ∷ []) o.rest (q + 1) (omega (arith, o.at, length-append o.front (o.gate ∷ [])))

  -- a write behind the gate
  pub torn_behind : (n : ℕ) (c : List ℕ) → Torn (q + 1) n file c → image_of c ≡ standing g fs q
  torn_behind n c torn =
      let o = opens file g fs q is in
      let back = drop (q + 1) c in
      let whole : c ≡ o.front ++ o.gate ∷ back =
      sym (take-append-drop (q + 1) c) ∙ ap (λ (l : List ℕ). l ++ back) (torn.before ∙ front_gate o) ∙ append_assoc o.front (o.gate ∷ []) back in
      ap image_of whole ∙ shut_behind file g fs q o o.gate back o.shut

  -- a frame that stands behind the closed gate
  module _ (frame : List ℕ) (small : length frame < 2 ^ 32) (s : List ℕ) (written : s ≡ overlaid file (q + 1) (block_text frame ++ 0 ∷ [])) where
    abbrev tail : List ℕ
    tail = drop (q + 1 + length (block_text frame ++ 0 ∷ [])) file

    abbrev body : List ℕ
    body = block_text frame ++ 0 ∷ tail

    staged : (o : Opens file g fs q) → s ≡ o.front ++ o.gate ∷ body
    staged o =
        written
        ∙ ap (λ (l : List ℕ). l ++ (block_text frame ++ 0 ∷ []) ++ tail) (front_gate o)
        ∙ append_assoc (o.front ++ o.gate ∷ []) (block_text frame ++ 0 ∷ []) tail
        ∙ append_assoc o.front (o.gate ∷ []) ((block_text frame ++ 0 ∷ []) ++ tail)
        ∙ ap (λ (l : List ℕ). o.front ++ o.gate ∷ l) (append_assoc (block_text frame) (0 ∷ []) tail)

    either : (o : Opens file g fs q) (b : ℕ) (c : List ℕ) → c ≡ o.front ++ b ∷ body → IsOldOrNew g fs q frame c
    either o b c whole = elim (cases_eq b 1) [
      | inl is_open ↦ inr (ap image_of whole ∙ ap (λ (n : ℕ). image_of (o.front ++ n ∷ body)) is_open ∙ adds file g fs q o frame 0 tail small (omega arith))
      | inr shut ↦ inl (ap image_of whole ∙ shut_behind file g fs q o b body shut)
    ]

    -- its gate is torn open, or not
    pub torn_open : (c : List ℕ) → Torn q 1 s c → IsOldOrNew g fs q frame c
    torn_open c torn =
        let o = opens file g fs q is in
        let b = torn_gate o.front o.gate body q c o.at (subst (λ f. Torn q 1 f c) (staged o) torn) in
        either o b.0 c b.1

    -- and torn again
    pub torn_again : (d c : List ℕ) → Torn q 1 s d → Torn q 1 d c → IsOldOrNew g fs q frame c
    torn_again d c first second =
        let o = opens file g fs q is in
        let a = torn_gate o.front o.gate body q d o.at (subst (λ f. Torn q 1 f d) (staged o) first) in
        let b = torn_gate o.front a.0 body q c o.at (subst (λ f. Torn q 1 f c) a.1 second) in
        either o b.0 c b.1

    pub written_open : image_of (overlaid s q (1 ∷ [])) ≡ standing g (fs ++ frame ∷ []) (q + 5 + length frame)
    written_open =
        let o = opens file g fs q is in
        ap (λ (l : List ℕ). image_of (overlaid l q (1 ∷ []))) (staged o)
        ∙ ap image_of (written_gate o.front o.gate body q 1 o.at)
        ∙ adds file g fs q o frame 0 tail small (omega arith)

    pub written_shut : (d : List ℕ) → Torn q 1 s d → image_of (overlaid d q (0 ∷ [])) ≡ standing g fs q
    written_shut d torn =
        let o = opens file g fs q is in
        let a = torn_gate o.front o.gate body q d o.at (subst (λ f. Torn q 1 f d) (staged o) torn) in
        ap (λ (l : List ℕ). image_of (overlaid l q (0 ∷ []))) a.1
        ∙ ap image_of (written_gate o.front a.0 body q 0 o.at)
        ∙ shut_behind file g fs q o 0 body (omega arith)

    pub staged_long : q < length s
    staged_long = let o = opens file g fs q is in omega (arith, o.at, ap length (staged o), length-append o.front (o.gate ∷ body))

pub torn_same : (at n : ℕ) (c : List ℕ) → Torn at n c c
torn_same at n c = record { before = refl; after = refl; no_shorter = omega arith; no_longer = omega arith }
