-- The law `mixes` of a disk: changing a byte of an image to the one that a read gives makes an image, as does any change past the
-- end of a read.
use Rattle.std.proofs.Common.{◌≡◌, ◌⊎◌, inl, inr, ⊎_elim, ℕ, zero, suc, ◌+◌, ◌-◌, ◌<◌, ◌≤◌, Bool, true, false, if◌then◌else◌, List, [], ◌∷◌, ◌++◌, length, take, drop, set, get_or, refl, sym, ◌∙◌, ap, subst, arith, length-append, length-drop}
use Rattle.std.proofs.lemmas.List.{length-set, length-take-le, length-take, take-set-le, drop-set-lt, drop-set-add, set-get_or, get_or-take, get_or_append_left, get_or-append_right, get_or-drop, append_assoc}
use Rattle.fleet_ports.specs.Disks.{overlaid, Torn, Cut}
use Rattle.port_memory.specs.declared.step.Step.{Step}
use Rattle.port_memory.specs.declared.step.Step.TheVariants.{Wrote, Opened, Shortened, Synced}
use Rattle.port_memory.specs.History.{next_seen, seen_after, Takes, Images}

-- v is the byte that a read gives there, or the index is past the end of a read
abbrev MayHold : List ℕ → ℕ → ℕ → Type 0
MayHold seen i v = i < length seen → v ≡ get_or seen i 0

take_set : (n : ℕ) (l : List ℕ) (i v : ℕ) → i < n → take n (set l i v) ≡ set (take n l) i v
take_set zero l i v lt = absurd (omega arith)
take_set (suc n) [] i v lt = refl
take_set (suc n) (x ∷ l) zero v lt = refl
take_set (suc n) (x ∷ l) (suc i) v lt = ap (λ (m : List ℕ). x ∷ m) (take_set n l i v (omega arith))

drop_set : (n : ℕ) (l : List ℕ) (i v : ℕ) → n ≤ i → drop n (set l i v) ≡ set (drop n l) (i - n) v
drop_set n l i v le =
    let same : i ≡ n + (i - n) = omega arith in
    ap (λ (k : ℕ). drop n (set l k v)) same ∙ drop-set-add n l (i - n) v

in_range : (at n : ℕ) (d c : List ℕ) (i v : ℕ) → at ≤ i → i < at + n → Torn at n d c → Torn at n d (set c i v)
in_range at n d c i v low high torn = record {
  before = take-set-le at c i v low ∙ torn.before;
  after = drop-set-lt (at + n) c i v high ∙ torn.after;
  no_shorter = omega (arith, torn.no_shorter, length-set c i v);
  no_longer = omega (arith, torn.no_longer, length-set c i v);
}

below_range : (at n : ℕ) (d c : List ℕ) (i v : ℕ) → i < at → Torn at n d c → Torn at n (set d i v) (set c i v)
below_range at n d c i v low torn = record {
  before = take_set at c i v low ∙ ap (λ (l : List ℕ). set l i v) torn.before ∙ sym (take_set at d i v low);
  after = drop-set-lt (at + n) c i v (omega arith) ∙ torn.after ∙ sym (drop-set-lt (at + n) d i v (omega arith));
  no_shorter = omega (arith, torn.no_shorter, length-set c i v, length-set d i v);
  no_longer = omega (arith, torn.no_longer, length-set c i v, length-set d i v);
}

above_range : (at n : ℕ) (d c : List ℕ) (i v : ℕ) → at + n ≤ i → Torn at n d c → Torn at n (set d i v) (set c i v)
above_range at n d c i v high torn = record {
  before = take-set-le at c i v (omega arith) ∙ torn.before ∙ sym (take-set-le at d i v (omega arith));
  after = drop_set (at + n) c i v high ∙ ap (λ (l : List ℕ). set l (i - (at + n)) v) torn.after ∙ sym (drop_set (at + n) d i v high);
  no_shorter = omega (arith, torn.no_shorter, length-set c i v, length-set d i v);
  no_longer = omega (arith, torn.no_longer, length-set c i v, length-set d i v);
}

-- outside its range a write changes nothing that a read gives
overlaid_below : (s : List ℕ) (at : ℕ) (bytes : List ℕ) (i v : ℕ) → i < at → MayHold (overlaid s at bytes) i v → MayHold s i v
overlaid_below s at bytes i v low holds inside =
    let long : i < length (take at s) = omega (arith, length-take at s) in
    holds (omega (arith, long, length-append (take at s ++ bytes) (drop (at + length bytes) s), length-append (take at s) bytes))
    ∙ ap (λ (l : List ℕ). get_or l i 0) (append_assoc (take at s) bytes (drop (at + length bytes) s))
    ∙ get_or_append_left (take at s) (bytes ++ drop (at + length bytes) s) 0 i long
    ∙ get_or-take at s i 0 low

overlaid_above : (s : List ℕ) (at : ℕ) (bytes : List ℕ) (i v : ℕ) → at + length bytes ≤ i → MayHold (overlaid s at bytes) i v → MayHold s i v
overlaid_above s at bytes i v high holds inside =
    let front = take at s ++ bytes in
    let back = drop (at + length bytes) s in
    let long : length front ≡ at + length bytes = omega (arith, length-append (take at s) bytes, length-take-le at s (omega arith)) in
    let place : at + length bytes + (i - (at + length bytes)) ≡ i = omega arith in
    holds (omega (arith, long, length-append front back, length-drop (at + length bytes) s))
    ∙ get_or-append_right front back (at + length bytes) i 0 long high
    ∙ get_or-drop (at + length bytes) s (i - (at + length bytes)) 0
    ∙ ap (λ (k : ℕ). get_or s k 0) place

split : (m n : ℕ) → (m < n) ⊎ (n ≤ m)
split m n = grind arith

cut_below : (n : ℕ) (d c : List ℕ) (i v : ℕ) → i < n → Cut n d c → Cut n (set d i v) (set c i v)
cut_below n d c i v low cut = record {
  front = take_set n c i v low ∙ ap (λ (l : List ℕ). set l i v) cut.front ∙ sym (take_set n d i v low);
  no_shorter = omega (arith, cut.no_shorter, length-set c i v, length-set d i v);
  no_longer = omega (arith, cut.no_longer, length-set c i v, length-set d i v);
}

cut_past : (n : ℕ) (d c : List ℕ) (i v : ℕ) → n ≤ i → Cut n d c → Cut n d (set c i v)
cut_past n d c i v past cut = record {
  front = take-set-le n c i v past ∙ cut.front;
  no_shorter = omega (arith, cut.no_shorter, length-set c i v);
  no_longer = omega (arith, cut.no_longer, length-set c i v);
}

set_same : (l s : List ℕ) (i v : ℕ) → l ≡ s → i < length l → MayHold s i v → set l i v ≡ s
set_same l s i v is lt holds =
    ap (λ (m : List ℕ). set m i v) is ∙ ap (λ (n : ℕ). set s i n) (holds (omega (arith, lt, ap length is))) ∙ set-get_or s i 0

wrote_below : (done : Bool) (s : List ℕ) (at : ℕ) (bytes : List ℕ) (i v : ℕ) → i < at → MayHold (if done then overlaid s at bytes else s) i v → MayHold s i v
wrote_below true s at bytes i v low holds = overlaid_below s at bytes i v low holds
wrote_below false s at bytes i v low holds = holds

wrote_above : (done : Bool) (s : List ℕ) (at : ℕ) (bytes : List ℕ) (i v : ℕ) → at + length bytes ≤ i → MayHold (if done then overlaid s at bytes else s) i v → MayHold s i v
wrote_above true s at bytes i v high holds = overlaid_above s at bytes i v high holds
wrote_above false s at bytes i v high holds = holds

cut_holds : (done : Bool) (s : List ℕ) (n i v : ℕ) → i < n → MayHold (if done then take n s else s) i v → MayHold s i v
cut_holds true s n i v low holds = λ inside. holds (omega (arith, length-take n s)) ∙ get_or-take n s i 0 low
cut_holds false s n i v low holds = holds

-- within its range a write may leave any bytes; elsewhere it leaves those of an earlier image
range_mix : (at n : ℕ) (seen : List ℕ) (old : List ℕ → Type 0) (c : List ℕ) (i v : ℕ)
    → ((d : List ℕ) → old d → i < length d → MayHold seen i v → old (set d i v))
    → (left : (d : List ℕ) × old d × Torn at n d c) → i < length c → ((i < at) ⊎ (at + n ≤ i) → MayHold seen i v)
    → (d : List ℕ) × old d × Torn at n d (set c i v)
range_mix at n seen old c i v mix left lt holds = elim (split i at) [
  | inl low ↦
      let inside : i < length left.0 = omega (arith, low, lt, ap length left.2.before, length-take at c, length-take at left.0) in
      (set left.0 i v, mix left.0 left.1 inside (holds (inl low)), below_range at n left.0 c i v low left.2)
  | inr past ↦ elim (split i (at + n)) [
    | inl high ↦ (left.0, left.1, in_range at n left.0 c i v past high left.2)
    | inr above ↦
        let inside : i < length left.0 = omega (arith, above, lt, ap length left.2.after, length-drop (at + n) c, length-drop (at + n) left.0) in
        (set left.0 i v, mix left.0 left.1 inside (holds (inr above)), above_range at n left.0 c i v above left.2)
  ]
]

step_mix : (step : Step) (seen : List ℕ) (old : List ℕ → Type 0) (c : List ℕ) (i v : ℕ)
    → ((d : List ℕ) → old d → i < length d → MayHold seen i v → old (set d i v))
    → (left : (d : List ℕ) × old d × Takes step seen d c) → i < length c → MayHold (next_seen step seen) i v
    → (d : List ℕ) × old d × Takes step seen d (set c i v)
step_mix (Wrote at bytes done) seen old c i v mix left lt holds =
    range_mix at (length bytes) seen old c i v mix left lt
    (λ out. ⊎_elim (λ low. wrote_below done seen at bytes i v low holds) (λ high. wrote_above done seen at bytes i v high holds) out)
step_mix (Opened at n) seen old c i v mix left lt holds = range_mix at n seen old c i v mix left lt (λ out. holds)
step_mix (Shortened n done) seen old c i v mix left lt holds = elim (split i n) [
  | inl low ↦
      let inside : i < length left.0 = omega (arith, lt, left.2.no_longer) in
      (set left.0 i v, mix left.0 left.1 inside (cut_holds done seen n i v low holds), cut_below n left.0 c i v low left.2)
  | inr past ↦ (left.0, left.1, cut_past n left.0 c i v past left.2)
]
step_mix Synced seen old c i v mix left lt holds = (left.0, left.1, set_same c seen i v left.2 lt holds)

mixed : (start : List ℕ) (steps : List Step) (c : List ℕ) (i v : ℕ) → Images start steps c → i < length c → MayHold (seen_after start steps) i v → Images start steps (set c i v)
mixed start [] c i v is lt holds = set_same c start i v is lt holds
mixed start (step ∷ earlier) c i v (inl now) lt holds = inl (set_same c (seen_after start (step ∷ earlier)) i v now lt holds)
mixed start (step ∷ earlier) c i v (inr left) lt holds =
    inr (step_mix step (seen_after start earlier) (Images start earlier) c i v (λ d was inside same. mixed start earlier d i v was inside same) left lt holds)

pub images_mix : (start : List ℕ) (steps : List Step) (bytes c : List ℕ) (i v : ℕ) → bytes ≡ seen_after start steps → Images start steps c → i < length c → (i < length bytes → v ≡ get_or bytes i 0) → Images start steps (set c i v)
images_mix start steps bytes c i v is left lt holds = mixed start steps c i v left lt (subst (λ (s : List ℕ). MayHold s i v) is holds)
