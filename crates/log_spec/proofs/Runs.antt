-- Frames that stand one behind the other are told by the bytes, and so is where they stop.
use Rattle.std.proofs.Common.{◌≡◌, ◌⊎◌, inl, inr, ℕ, zero, suc, ◌+◌, ◌-◌, ◌<◌, ◌≤◌, List, [], ◌∷◌, length, take, drop, get_or, refl, sym, ◌∙◌, ap, subst, arith, length-drop}
use Rattle.std.proofs.lemmas.Bool.{cases_eq}
use Rattle.std.proofs.lemmas.List.{drop_all, length-take-le, length-take, take-take, drop-take, get_or-take}
use Rattle.std.specs.Int.{w32, from_le_bytes}
use Rattle.log_spec.specs.Image.{length_at, FrameAt, FramesTo, IsShutAt, IsBrokenAt}
use Rattle.log_spec.specs.ImageOf.{Found, ends, breaks, behind, walk, found}
use Rattle.log_spec.proofs.Found.{found_shut, found_cut, found_whole}

pub split : (m n : ℕ) → (m < n) ⊎ (n ≤ m)
split m n = grind arith

-- what the function finds from a place on
abbrev pub IsFound : List ℕ → ℕ → Found → Type 0
IsFound file p (ends frames gate) = FramesTo file p frames gate × IsShutAt file gate
IsFound file p (breaks at) = (frames : List (List ℕ)) × FramesTo file p frames at × IsBrokenAt file at

behind_found : (file : List ℕ) (p : ℕ) (frame : List ℕ) (w : Found) → FrameAt file p frame → IsFound file (p + 5 + length frame) w → IsFound file p (behind frame w)
behind_found file p frame (ends frames gate) here is = ((here, is.0), is.1)
behind_found file p frame (breaks at) here is = (frame ∷ is.0, (here, is.1), is.2)

ended : (file : List ℕ) (p : ℕ) → length file ≤ p → found p (drop p file) ≡ breaks p
unfolding walk
ended file p past = ap (λ (l : List ℕ). found p l) (drop_all p file past)

-- a whole frame, and what is found behind it
one_more : (file : List ℕ) (p : ℕ) → p < length file → get_or file p 0 ≡ 1 → p + 5 + length_at file p < length file
    → IsFound file (p + 5 + length_at file p) (found (p + 5 + length_at file p) (drop (p + 5 + length_at file p) file)) → IsFound file p (found p (drop p file))
one_more file p inside is_open whole next =
    let n = length_at file p in
    let frame = take n (drop (p + 5) file) in
    let size : length frame ≡ n = length-take-le n (drop (p + 5) file) (omega (arith, whole, length-drop (p + 5) file)) in
    let here : FrameAt file p frame = record {
      gate = is_open;
      size = size;
      body = ap (λ (k : ℕ). take k (drop (p + 5) file)) size;
      inside = omega (arith, whole, size);
    } in
    let step : found p (drop p file) ≡ behind frame (found (p + 5 + n) (drop (p + 5 + n) file)) =
    found_whole file p inside n frame is_open refl (omega (arith, whole, length-drop (p + 1) file)) refl in
    let next_is = subst (λ (k : ℕ). IsFound file (p + 5 + k) (found (p + 5 + n) (drop (p + 5 + n) file))) (sym size) next in
    subst (λ (w : Found). IsFound file p w) (sym step) (behind_found file p frame (found (p + 5 + n) (drop (p + 5 + n) file)) here next_is)

pub is_found : (most : ℕ) (file : List ℕ) (p : ℕ) → length file ≤ p + most → IsFound file p (found p (drop p file))
is_found zero file p le = subst (λ (w : Found). IsFound file p w) (sym (ended file p (omega (arith, le)))) ([], refl, inl (omega (arith, le)))
is_found (suc most) file p le = elim (split p (length file)) [
  | inr past ↦ subst (λ (w : Found). IsFound file p w) (sym (ended file p past)) ([], refl, inl past)
  | inl inside ↦ elim (cases_eq (get_or file p 0) 1) [
    | inr shut ↦ subst (λ (w : Found). IsFound file p w) (sym (found_shut file p inside shut)) (refl, (inside, shut))
    | inl is_open ↦ elim (split (p + 5 + length_at file p) (length file)) [
      | inr short ↦ subst (λ (w : Found). IsFound file p w) (sym (found_cut file p inside is_open (omega (arith, short, inside, length-drop (p + 1) file)))) ([], refl, inr (is_open, short))
      | inl whole ↦ one_more file p inside is_open whole (is_found most file (p + 5 + length_at file p) (omega (arith, le)))
    ]
  ]
]

frame_unique : (file : List ℕ) (p : ℕ) (f g : List ℕ) → FrameAt file p f → FrameAt file p g → f ≡ g
frame_unique file p f g a b = sym a.body ∙ ap (λ (k : ℕ). take k (drop (p + 5) file)) (a.size ∙ sym b.size) ∙ b.body

-- no frame stands at this place
abbrev pub Stops : List ℕ → ℕ → Type 0
Stops file q = (frame : List ℕ) → FrameAt file q frame → ⊥

pub shut_stops : (file : List ℕ) (q : ℕ) → IsShutAt file q → Stops file q
shut_stops file q shut frame here = shut.1 here.gate

pub broken_stops : (file : List ℕ) (q : ℕ) → IsBrokenAt file q → Stops file q
broken_stops file q (inl past) frame here = absurd (omega (arith, past, here.inside))
broken_stops file q (inr cut) frame here = absurd (omega (arith, cut.1, here.inside, here.size))

pub run_unique : (file : List ℕ) (p : ℕ) (fs gs : List (List ℕ)) (q r : ℕ) → FramesTo file p fs q → FramesTo file p gs r → Stops file q → Stops file r → (fs ≡ gs) × (q ≡ r)
run_unique file p [] [] q r a b at_q at_r = (refl, sym a ∙ b)
run_unique file p [] (g ∷ gs) q r a b at_q at_r = absurd (at_q g (subst (λ (k : ℕ). FrameAt file k g) a b.0))
run_unique file p (f ∷ fs) [] q r a b at_q at_r = absurd (at_r f (subst (λ (k : ℕ). FrameAt file k f) b a.0))
run_unique file p (f ∷ fs) (g ∷ gs) q r a b at_q at_r =
    let same = frame_unique file p f g a.0 b.0 in
    let other = subst (λ (h : List ℕ). FramesTo file (p + 5 + length h) gs r) (sym same) b.1 in
    let rest = run_unique file (p + 5 + length f) fs gs q r a.1 other at_q at_r in
    (λ i. same i ∷ rest.0 i, rest.1)

pub run_rises : (file : List ℕ) (p : ℕ) (fs : List (List ℕ)) (q : ℕ) → FramesTo file p fs q → p ≤ q
run_rises file p [] q run = omega (arith, run)
run_rises file p (f ∷ fs) q run = omega (arith, run_rises file (p + 5 + length f) fs q run.1)

-- a piece within the first m bytes
pub take_within : (l : List ℕ) (m k n : ℕ) → k + n ≤ m → take n (drop k l) ≡ take n (drop k (take m l))
take_within l m k n le =
    let parts : m ≡ k + (m - k) = omega (arith, le) in
    sym (take-take n (m - k) (drop k l) (omega (arith, le)))
    ∙ ap (λ (r : List ℕ). take n r) (sym (drop-take k (m - k) l))
    ∙ ap (λ (j : ℕ). take n (drop k (take j l))) (sym parts)

-- a file that agrees with another up to and with place q has the same frames up to there
pub run_kept : (file other : List ℕ) (p : ℕ) (fs : List (List ℕ)) (q : ℕ) → take (q + 1) other ≡ take (q + 1) file → q < length file → FramesTo file p fs q → FramesTo other p fs q
run_kept file other p [] q same inside run = run
run_kept file other p (f ∷ fs) q same inside run =
    let here = run.0 in
    let below = run_rises file (p + 5 + length f) fs q run.1 in
    let long : q < length other = omega (arith, inside, ap length same, length-take (q + 1) other, length-take (q + 1) file) in
    let agrees : (k n : ℕ) → k + n ≤ q + 1 → take n (drop k other) ≡ take n (drop k file) = λ k n le.
    take_within other (q + 1) k n le ∙ ap (λ (l : List ℕ). take n (drop k l)) same ∙ sym (take_within file (q + 1) k n le) in (
      record {
        gate = sym (get_or-take (q + 1) other p 0 (omega (arith, below))) ∙ ap (λ (l : List ℕ). get_or l p 0) same ∙ get_or-take (q + 1) file p 0 (omega (arith, below)) ∙ here.gate;
        size = here.size ∙ ap (λ (l : List ℕ). from_le_bytes w32 l) (sym (agrees (p + 1) 4 (omega (arith, below))));
        body = agrees (p + 5) (length f) (omega (arith, below)) ∙ here.body;
        inside = omega (arith, below, long);
      },
      run_kept file other (p + 5 + length f) fs q same inside run.1,
    )

pub shut_kept : (file other : List ℕ) (q : ℕ) → take (q + 1) other ≡ take (q + 1) file → IsShutAt file q → IsShutAt other q
shut_kept file other q same shut = (
  omega (arith, shut.0, ap length same, length-take (q + 1) other, length-take (q + 1) file),
  λ is. shut.1 (sym (get_or-take (q + 1) file q 0 (omega arith)) ∙ ap (λ (l : List ℕ). get_or l q 0) (sym same) ∙ get_or-take (q + 1) other q 0 (omega arith) ∙ is),
)
