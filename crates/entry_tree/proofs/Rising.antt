-- Lists that rise.
use Rattle.std.proofs.Common.{◌≡◌, ◌∙◌, ℕ, suc, zero, ◌<◌, ◌≤◌, ◌+◌, List, [], ◌∷◌, ◌++◌, length, append_assoc, length-append, arith, refl, sym, ap, subst}
use Rattle.std.specs.List.{AllByRecursion}
use Rattle.entry_tree.specs.declared.waiting.Waiting.{Waiting}
use Rattle.entry_tree.specs.Waits.{Rises}

abbrev pub Below : ℕ → List Waiting → Type 0
Below n = AllByRecursion (λ (v : Waiting). v.entry.receipt < n)

abbrev pub Above : ℕ → List Waiting → Type 0
Above n = AllByRecursion (λ (v : Waiting). n < v.entry.receipt)

pub all_left : (P : Waiting → Type 0) (ls rs : List Waiting) → AllByRecursion P (ls ++ rs) → AllByRecursion P ls
all_left P [] rs h = tt
all_left P (w ∷ ls) rs h = (h.0, all_left P ls rs h.1)

pub all_right : (P : Waiting → Type 0) (ls rs : List Waiting) → AllByRecursion P (ls ++ rs) → AllByRecursion P rs
all_right P [] rs h = h
all_right P (w ∷ ls) rs h = all_right P ls rs h.1

pub all_both : (P : Waiting → Type 0) (ls rs : List Waiting) → AllByRecursion P ls → AllByRecursion P rs → AllByRecursion P (ls ++ rs)
all_both P [] rs h k = k
all_both P (w ∷ ls) rs h k = (h.0, all_both P ls rs h.1 k)

pub rises_left : (ls rs : List Waiting) → Rises (ls ++ rs) → Rises ls
rises_left [] rs h = tt
rises_left (w ∷ ls) rs h = (all_left (λ v. w.entry.receipt < v.entry.receipt) ls rs h.0, rises_left ls rs h.1)

pub rises_right : (ls rs : List Waiting) → Rises (ls ++ rs) → Rises rs
rises_right [] rs h = h
rises_right (w ∷ ls) rs h = rises_right ls rs h.1

pub left_below : (ls : List Waiting) (x : Waiting) (rs : List Waiting) → Rises (ls ++ x ∷ rs) → Below x.entry.receipt ls
left_below [] x rs h = tt
left_below (w ∷ ls) x rs h = ((all_right (λ v. w.entry.receipt < v.entry.receipt) ls (x ∷ rs) h.0).0, left_below ls x rs h.1)

pub above_more : (m n : ℕ) (ws : List Waiting) → m < n → Above n ws → Above m ws
above_more m n [] l h = tt
above_more m n (w ∷ ws) l h = (omega (arith, l, h.0), above_more m n ws l h.1)

pub below_more : (m n : ℕ) (ws : List Waiting) → m < n → Below m ws → Below n ws
below_more m n [] l h = tt
below_more m n (w ∷ ws) l h = (omega (arith, l, h.0), below_more m n ws l h.1)

pub rises_more : (ws : List Waiting) (x : Waiting) → Rises ws → Below x.entry.receipt ws → Rises (ws ++ x ∷ [])
rises_more [] x h l = (tt, tt)
rises_more (w ∷ ws) x h l = (all_both (λ v. w.entry.receipt < v.entry.receipt) ws (x ∷ []) h.0 (l.0, tt), rises_more ws x h.1 l.1)

-- ---- two lists that are put together

pub rest_rises : (low high ls : List Waiting) (x : Waiting) (rs rest upper : List Waiting) → low ≡ ls ++ x ∷ rs → rest ≡ rs → upper ≡ high → Rises (low ++ high) → Rises (rest ++ upper)
rest_rises low high ls x rs rest upper e f g h =
    let whole : Rises (ls ++ (x ∷ rs ++ high)) = subst Rises (ap (λ vs. vs ++ high) e ∙ append_assoc ls (x ∷ rs) high) h in
    subst Rises (sym (λ i. f i ++ g i)) (rises_right ls (x ∷ rs ++ high) whole).1

pub front_rises : (low high ls : List Waiting) (x : Waiting) (rs lower front : List Waiting) → high ≡ ls ++ x ∷ rs → lower ≡ low → front ≡ ls → Rises (low ++ high) → Rises (lower ++ front)
front_rises low high ls x rs lower front e f g h =
    let whole : Rises ((low ++ ls) ++ x ∷ rs) = subst Rises (ap (λ vs. low ++ vs) e ∙ sym (append_assoc low ls (x ∷ rs))) h in
    subst Rises (sym (λ i. f i ++ g i)) (rises_left (low ++ ls) (x ∷ rs) whole)
