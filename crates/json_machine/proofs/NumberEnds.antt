-- Where the verdict on a number ends, its bytes are a number.
use Rattle.std.proofs.Common.{◌≡◌, ◌∙◌, ℕ, ◌+◌, List, [], ◌∷◌, ◌++◌, refl, sym, Bool, true, false, Option, Some, None, append_assoc}
use Rattle.std.proofs.lemmas.List.{append-nil}
use Rattle.json_machine.specs.Machine.{NumberState, number_step, may_end, number_ends, number_stuck, number_stop, number_next, number_verdict}
use Rattle.json_machine.proofs.NumberSound.{NumberRest, number-sound, number-ended}

-- the spelling f is s and what is left of the number behind the state
abbrev pub Ends : NumberState → List ℕ → List ℕ → Type 0
Ends t s f = (ds : List ℕ) × NumberRest t ds × (f ≡ s ++ ds)

same_spelling : (f g : List ℕ) (k l : ℕ) (xs ys : List ℕ) → number_ends f k xs ≡ number_ends g l ys → g ≡ f
same_spelling f g k l xs ys h = cc

stuck_ends : {P : Type 0} (at k : ℕ) (f rest : List ℕ) → number_stuck at ≡ number_ends f k rest → P
stuck_ends at k f rest h = absurd (never h)
  where
    never : number_stuck at ≡ number_ends f k rest → ⊥
    never h = cc

stop_ends : (t : NumberState) (may : Bool) (s f : List ℕ) (at k : ℕ) (bs rest : List ℕ) → may_end t ≡ may → number_stop may s at bs ≡ number_ends f k rest → Ends t s f
stop_ends t true s f at k bs rest e h = ([], number-ended t e, same_spelling s f at k bs rest h ∙ sym (append-nil s))
stop_ends t false s f at k bs rest e h = stuck_ends at k f rest h

step_ends : (t : NumberState) (o : Option NumberState) (s f : List ℕ) (b at k : ℕ) (bs rest : List ℕ) → number_step t b ≡ o → number_next o (number_stop (may_end t) s at (b ∷ bs)) (λ t. number_verdict t (s ++ b ∷ []) (at + 1) bs) ≡ number_ends f k rest → ((u : NumberState) → number_verdict u (s ++ b ∷ []) (at + 1) bs ≡ number_ends f k rest → Ends u (s ++ b ∷ []) f) → Ends t s f
step_ends t None s f b at k bs rest e h next = stop_ends t (may_end t) s f at k (b ∷ bs) rest refl h
step_ends t (Some u) s f b at k bs rest e h next =
    let y = next u h in
    (b ∷ y.0, number-sound t u b y.0 e y.1, y.2 ∙ append_assoc s (b ∷ []) y.0)

pub number_verdict-ends : (bs : List ℕ) (at : ℕ) (t : NumberState) (s f : List ℕ) (k : ℕ) (rest : List ℕ) → number_verdict t s at bs ≡ number_ends f k rest → Ends t s f
number_verdict-ends [] at t s f k rest h = stop_ends t (may_end t) s f at k [] rest refl h
number_verdict-ends (b ∷ bs) at t s f k rest h = step_ends t (number_step t b) s f b at k bs rest refl h (λ u. number_verdict-ends bs (at + 1) u (s ++ b ∷ []) f k rest)
