-- What an edit does where an entry stands in the middle.
use Rattle.std.proofs.Common.{◌≡◌, ◌∙◌, ℕ, suc, zero, ◌<◌, ◌≤◌, ◌+◌, ◌==◌, List, [], ◌∷◌, ◌++◌, length, append_assoc, length-append, arith, refl, sym, ap, subst, Bool, true, false, if◌then◌else◌, Option, Some, None, IfSome}
use Rattle.std.specs.List.{AllByRecursion}
use Rattle.entry_tree.specs.declared.waiting.Change.{Change}
use Rattle.entry_tree.specs.declared.waiting.Change.TheVariants.{Claimed, Failed, Candidate}
use Rattle.entry_tree.specs.declared.waiting.Waiting.{Waiting}
use Rattle.entry_tree.specs.declared.tree.Fork.{Fork}
use Rattle.entry_tree.specs.Tree.{of_fork, IsFork}
use Rattle.entry_tree.specs.Waits.{Rises, found, edited, changed_by}
use Rattle.entry_tree.proofs.Rising.{Below, Above, left_below, rises_right, above_more, below_more}
use Rattle.core_machine.specs.fleet_rows.Limits.{most_pending}

-- ---- others stay

above_stay : (r : ℕ) (f : Waiting → List Waiting) (ws : List Waiting) → Above r ws → edited r f ws ≡ ws
above_stay r f [] h = refl
above_stay r f (w ∷ ws) h = let other : (r == w.entry.receipt) ≡ false = (let less = h.0 in grind arith) in rw other (ap (λ vs. w ∷ vs) (above_stay r f ws h.1))

below_stay : (r : ℕ) (f : Waiting → List Waiting) (ws : List Waiting) → Below r ws → edited r f ws ≡ ws
below_stay r f [] h = refl
below_stay r f (w ∷ ws) h = let other : (r == w.entry.receipt) ≡ false = (let less = h.0 in grind arith) in rw other (ap (λ vs. w ∷ vs) (below_stay r f ws h.1))

none_above : (r : ℕ) (ws : List Waiting) → Above r ws → found r ws ≡ None
none_above r [] h = refl
none_above r (w ∷ ws) h = let other : (r == w.entry.receipt) ≡ false = (let less = h.0 in grind arith) in rw other (none_above r ws h.1)

past_below : (r : ℕ) (ls rs : List Waiting) → Below r ls → found r (ls ++ rs) ≡ found r rs
past_below r [] rs h = refl
past_below r (w ∷ ls) rs h = let other : (r == w.entry.receipt) ≡ false = (let less = h.0 in grind arith) in rw other (past_below r ls rs h.1)

edited_both : (r : ℕ) (f : Waiting → List Waiting) (ls rs : List Waiting) → edited r f (ls ++ rs) ≡ edited r f ls ++ edited r f rs
edited_both r f [] rs = refl
edited_both r f (w ∷ ls) rs =
    let own : List Waiting = if r == w.entry.receipt then f w else w ∷ [] in
    ap (λ vs. own ++ vs) (edited_both r f ls rs) ∙ sym (append_assoc own (edited r f ls) (edited r f rs))

-- ---- where the middle is above, below, or the one

edited_left : (r : ℕ) (f : Waiting → List Waiting) (ls : List Waiting) (x : Waiting) (rs : List Waiting) → r < x.entry.receipt → Rises (ls ++ x ∷ rs) → edited r f (ls ++ x ∷ rs) ≡ edited r f ls ++ x ∷ rs
edited_left r f ls x rs l h =
    edited_both r f ls (x ∷ rs) ∙ ap (λ vs. edited r f ls ++ vs) (above_stay r f (x ∷ rs) (l, above_more r x.entry.receipt rs l (rises_right ls (x ∷ rs) h).0))

edited_right : (r : ℕ) (f : Waiting → List Waiting) (ls : List Waiting) (x : Waiting) (rs : List Waiting) → x.entry.receipt < r → Rises (ls ++ x ∷ rs) → edited r f (ls ++ x ∷ rs) ≡ ls ++ x ∷ edited r f rs
edited_right r f ls x rs l h =
    let other : (r == x.entry.receipt) ≡ false = grind arith in
    edited_both r f ls (x ∷ rs) ∙ ap (λ vs. vs ++ edited r f (x ∷ rs)) (below_stay r f ls (below_more x.entry.receipt r ls l (left_below ls x rs h))) ∙ ap (λ vs. ls ++ vs) (rw other refl)

edited_here : (r : ℕ) (f : Waiting → List Waiting) (ls : List Waiting) (x : Waiting) (rs : List Waiting) → r ≡ x.entry.receipt → Rises (ls ++ x ∷ rs) → edited r f (ls ++ x ∷ rs) ≡ ls ++ (f x ++ rs)
edited_here r f ls x rs e h =
    let own : (r == x.entry.receipt) ≡ true = grind arith in
    edited_both r f ls (x ∷ rs)
    ∙ ap (λ vs. vs ++ edited r f (x ∷ rs)) (below_stay r f ls (subst (λ n. Below n ls) (sym e) (left_below ls x rs h)))
    ∙ ap (λ vs. ls ++ vs) (rw own (ap (λ vs. f x ++ vs) (above_stay r f rs (subst (λ n. Above n rs) (sym e) (rises_right ls (x ∷ rs) h).0))))

found_left_step : (r : ℕ) (ls : List Waiting) (x : Waiting) (rs : List Waiting) → r < x.entry.receipt → Above x.entry.receipt rs → found r (ls ++ x ∷ rs) ≡ found r ls
found_left_step r [] x rs l h = none_above r (x ∷ rs) (l, above_more r x.entry.receipt rs l h)
found_left_step r (w ∷ ls) x rs l h = ap (λ (o : Option Waiting). if r == w.entry.receipt then Some w else o) (found_left_step r ls x rs l h)

-- ---- as the code answers, of a list with x in the middle

pub get_left : (r : ℕ) (ws ls : List Waiting) (x : Waiting) (rs : List Waiting) (o : Option Waiting) → ws ≡ ls ++ x ∷ rs → Rises (ls ++ x ∷ rs) → r < x.entry.receipt → o ≡ found r ls → o ≡ found r ws
get_left r ws ls x rs o e h l f = f ∙ sym (found_left_step r ls x rs l (rises_right ls (x ∷ rs) h).0) ∙ ap (found r) (sym e)

pub get_right : (r : ℕ) (ws ls : List Waiting) (x : Waiting) (rs : List Waiting) (o : Option Waiting) → ws ≡ ls ++ x ∷ rs → Rises (ls ++ x ∷ rs) → x.entry.receipt < r → o ≡ found r rs → o ≡ found r ws
get_right r ws ls x rs o e h l f =
    let other : (r == x.entry.receipt) ≡ false = grind arith in
    let past : found r (x ∷ rs) ≡ found r rs = rw other refl in
    f ∙ sym past ∙ sym (past_below r ls (x ∷ rs) (below_more x.entry.receipt r ls l (left_below ls x rs h))) ∙ ap (found r) (sym e)

pub get_here : (r : ℕ) (ws ls : List Waiting) (x : Waiting) (rs : List Waiting) → ws ≡ ls ++ x ∷ rs → Rises (ls ++ x ∷ rs) → r ≡ x.entry.receipt → Some x ≡ found r ws
get_here r ws ls x rs e h same =
    let own : (r == x.entry.receipt) ≡ true = grind arith in
    let there : found r (x ∷ rs) ≡ Some x = rw own refl in
    sym there ∙ sym (past_below r ls (x ∷ rs) (subst (λ n. Below n ls) (sym same) (left_below ls x rs h))) ∙ ap (found r) (sym e)

-- ---- receipts still rise, and there are no more of them

-- no more than one comes in its place, of the same receipt
abbrev pub KeepsReceipts : (Waiting → List Waiting) → Type 0
KeepsReceipts f = (w : Waiting) → (length (f w) ≤ 1) × AllByRecursion (λ (v : Waiting). v.entry.receipt ≡ w.entry.receipt) (f w)

pub changes_keep : (c : Change) → KeepsReceipts (λ w. changed_by c w ∷ [])
changes_keep (Claimed b) w = (omega arith, (refl, tt))
changes_keep Failed w = (omega arith, (refl, tt))
changes_keep (Candidate b) w = (omega arith, (refl, tt))

pub removal_keeps : KeepsReceipts (λ w. [])
removal_keeps w = (omega arith, tt)

above_own : (n m : ℕ) (vs ws : List Waiting) → n < m → AllByRecursion (λ (v : Waiting). v.entry.receipt ≡ m) vs → Above n ws → Above n (vs ++ ws)
above_own n m [] ws l h k = k
above_own n m (v ∷ vs) ws l h k = (omega (arith, l, h.0), above_own n m vs ws l h.1 k)

above_step : (n : ℕ) (b : Bool) (f : Waiting → List Waiting) (w : Waiting) (ws : List Waiting) → KeepsReceipts f → n < w.entry.receipt → Above n ws → Above n ((if b then f w else w ∷ []) ++ ws)
above_step n true f w ws k l h = above_own n w.entry.receipt (f w) ws l (k w).1 h
above_step n false f w ws k l h = (l, h)

above_edited : (n r : ℕ) (f : Waiting → List Waiting) (ws : List Waiting) → KeepsReceipts f → Above n ws → Above n (edited r f ws)
above_edited n r f [] k h = tt
above_edited n r f (w ∷ ws) k h = above_step n (r == w.entry.receipt) f w (edited r f ws) k h.0 (above_edited n r f ws k h.1)

rises_own : (m : ℕ) (vs ws : List Waiting) → length vs ≤ 1 → AllByRecursion (λ (v : Waiting). v.entry.receipt ≡ m) vs → Above m ws → Rises ws → Rises (vs ++ ws)
rises_own m [] ws l h k u = u
rises_own m (v ∷ []) ws l h k u = (subst (λ n. Above n ws) (sym h.0) k, u)
rises_own m (v ∷ x ∷ vs) ws l h k u = absurd (omega (arith, l))

rises_step : (b : Bool) (f : Waiting → List Waiting) (w : Waiting) (ws : List Waiting) → KeepsReceipts f → Above w.entry.receipt ws → Rises ws → Rises ((if b then f w else w ∷ []) ++ ws)
rises_step true f w ws k h u = rises_own w.entry.receipt (f w) ws (k w).0 (k w).1 h u
rises_step false f w ws k h u = (h, u)

rises_edited : (r : ℕ) (f : Waiting → List Waiting) (ws : List Waiting) → KeepsReceipts f → Rises ws → Rises (edited r f ws)
rises_edited r f [] k h = tt
rises_edited r f (w ∷ ws) k h = rises_step (r == w.entry.receipt) f w (edited r f ws) k (above_edited w.entry.receipt r f ws k h.0) (rises_edited r f ws k h.1)

few_step : (b : Bool) (f : Waiting → List Waiting) (w : Waiting) (ws : List Waiting) (n : ℕ) → KeepsReceipts f → length ws ≤ n → length ((if b then f w else w ∷ []) ++ ws) ≤ suc n
few_step true f w ws n k h = let own = (k w).0 in let both = length-append (f w) ws in omega (arith, own, both, h)
few_step false f w ws n k h = omega (arith, h)

few_edited : (r : ℕ) (f : Waiting → List Waiting) (ws : List Waiting) → KeepsReceipts f → length (edited r f ws) ≤ length ws
few_edited r f [] k = omega arith
few_edited r f (w ∷ ws) k = few_step (r == w.entry.receipt) f w (edited r f ws) (length ws) k (few_edited r f ws k)

-- ---- as a fork is closed: what it holds is what the edit left

pub record Leaves (r : ℕ) (f : Waiting → List Waiting) (ws new : List Waiting) : Type 0 where
  pub is : new ≡ edited r f ws
  pub rises : Rises new
  pub few : length new ≤ most_pending

leaves : (r : ℕ) (f : Waiting → List Waiting) (ws new : List Waiting) → KeepsReceipts f → Rises ws → length ws ≤ most_pending → new ≡ edited r f ws → Leaves r f ws new
leaves r f ws new k h l e = record {
  is = e;
  rises = subst Rises (sym e) (rises_edited r f ws k h);
  few = let m = few_edited r f ws k in let same : length new ≡ length (edited r f ws) = ap length e in omega (arith, l, m, same);
}

leaves_of : (r : ℕ) (f : Waiting → List Waiting) (ws : List Waiting) (fork : Fork) (new : List Waiting) → KeepsReceipts f → ws ≡ of_fork fork → IsFork fork → new ≡ edited r f (of_fork fork) → Leaves r f ws new
leaves_of r f ws fork new k e h n =
    leaves r f ws new k (subst Rises (sym e) h.rises) (subst (λ vs. length vs ≤ most_pending) (sym e) h.few) (n ∙ ap (edited r f) (sym e))

pub left_leaves : (r : ℕ) (f : Waiting → List Waiting) (ws : List Waiting) (fork : Fork) (old : List Waiting) (y : Waiting) (us new : List Waiting) → KeepsReceipts f → ws ≡ of_fork fork → IsFork fork
    → r < fork.waiting.entry.receipt → old ≡ fork.left → y ≡ fork.waiting → us ≡ fork.right → new ≡ edited r f old → Leaves r f ws (new ++ y ∷ us)
left_leaves r f ws fork old y us new k e h l o p q n =
    let there : new ++ y ∷ us ≡ edited r f fork.left ++ fork.waiting ∷ fork.right = (λ i. (n ∙ ap (edited r f) o) i ++ p i ∷ q i) in
    leaves_of r f ws fork (new ++ y ∷ us) k e h (there ∙ sym (edited_left r f fork.left fork.waiting fork.right l h.rises))

pub right_leaves : (r : ℕ) (f : Waiting → List Waiting) (ws : List Waiting) (fork : Fork) (old : List Waiting) (y : Waiting) (us new : List Waiting) → KeepsReceipts f → ws ≡ of_fork fork → IsFork fork
    → fork.waiting.entry.receipt < r → old ≡ fork.right → y ≡ fork.waiting → us ≡ fork.left → new ≡ edited r f old → Leaves r f ws (us ++ y ∷ new)
right_leaves r f ws fork old y us new k e h l o p q n =
    let there : us ++ y ∷ new ≡ fork.left ++ fork.waiting ∷ edited r f fork.right = (λ i. q i ++ p i ∷ (n ∙ ap (edited r f) o) i) in
    leaves_of r f ws fork (us ++ y ∷ new) k e h (there ∙ sym (edited_right r f fork.left fork.waiting fork.right l h.rises))

pub middle_leaves : (r : ℕ) (f : Waiting → List Waiting) (ws : List Waiting) (fork : Fork) (new : List Waiting) → KeepsReceipts f → ws ≡ of_fork fork → IsFork fork
    → r ≡ fork.waiting.entry.receipt → new ≡ fork.left ++ (f fork.waiting ++ fork.right) → Leaves r f ws new
middle_leaves r f ws fork new k e h same n = leaves_of r f ws fork new k e h (n ∙ sym (edited_here r f fork.left fork.waiting fork.right same h.rises))

-- ---- what may be done with the one that is found may be done where it is

pub may_left : (r : ℕ) (P : Waiting → Type 0) (ws : List Waiting) (fork : Fork) (old : List Waiting) → ws ≡ of_fork fork → IsFork fork → r < fork.waiting.entry.receipt → old ≡ fork.left → IfSome (found r ws) P → IfSome (found r old) P
may_left r P ws fork old e h l o m = subst (λ (q : Option Waiting). IfSome q P) (sym (get_left r ws fork.left fork.waiting fork.right (found r old) e h.rises l (ap (found r) o))) m

pub may_right : (r : ℕ) (P : Waiting → Type 0) (ws : List Waiting) (fork : Fork) (old : List Waiting) → ws ≡ of_fork fork → IsFork fork → fork.waiting.entry.receipt < r → old ≡ fork.right → IfSome (found r ws) P → IfSome (found r old) P
may_right r P ws fork old e h l o m = subst (λ (q : Option Waiting). IfSome q P) (sym (get_right r ws fork.left fork.waiting fork.right (found r old) e h.rises l (ap (found r) o))) m

pub may_here : (r : ℕ) (P : Waiting → Type 0) (ws : List Waiting) (fork : Fork) → ws ≡ of_fork fork → IsFork fork → r ≡ fork.waiting.entry.receipt → IfSome (found r ws) P → P fork.waiting
may_here r P ws fork e h same m = subst (λ (q : Option Waiting). IfSome q P) (sym (get_here r ws fork.left fork.waiting fork.right e h.rises same)) m
