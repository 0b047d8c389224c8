-- How many candidates there are, and which is the first.
use Rattle.std.proofs.Common.{◌≡◌, ◌∙◌, ℕ, suc, zero, ◌<◌, ◌≤◌, ◌+◌, List, [], ◌∷◌, ◌++◌, length, ◌-◌, ◌^◌, min, arith, refl, sym, ap, Bool, true, false, if◌then◌else◌, Option, Some, None}
use Rattle.entry_tree.specs.declared.waiting.Waiting.{Waiting}
use Rattle.entry_tree.specs.declared.tree.Sums.{Sums}
use Rattle.entry_tree.specs.Tree.{sums_of}
use Rattle.entry_tree.specs.Waits.{candidate_number, unclaimed_number, bytes_in, first_marked}
use Rattle.core_machine.specs.fleet_rows.Limits.{most_pending}

most_step : (b : Bool) (n m : ℕ) → n ≤ m → (if b then 1 else 0) + n ≤ suc m
most_step true n m h = omega (arith, h)
most_step false n m h = omega (arith, h)

pub candidates_most : (ws : List Waiting) → candidate_number ws ≤ length ws
candidates_most [] = omega arith
candidates_most (w ∷ ws) = most_step w.candidate (candidate_number ws) (length ws) (candidates_most ws)

pub number_both : (ls : List Waiting) (x : Waiting) (rs : List Waiting) → candidate_number (ls ++ x ∷ rs) ≡ candidate_number ls + (if x.candidate then 1 else 0) + candidate_number rs
number_both [] x rs = omega arith
number_both (w ∷ ls) x rs = let h = number_both ls x rs in omega (arith, h)

pub length_both : (ls : List Waiting) (x : Waiting) (rs : List Waiting) → length (ls ++ x ∷ rs) ≡ length ls + 1 + length rs
length_both [] x rs = omega arith
length_both (w ∷ ls) x rs = let h = length_both ls x rs in omega (arith, h)

unclaimed_step : (b : Bool) (n m : ℕ) → n ≤ m → (if b then 0 else 1) + n ≤ suc m
unclaimed_step true n m h = omega (arith, h)
unclaimed_step false n m h = omega (arith, h)

pub unclaimed_most : (ws : List Waiting) → unclaimed_number ws ≤ length ws
unclaimed_most [] = omega arith
unclaimed_most (w ∷ ws) = unclaimed_step w.entry.claimed (unclaimed_number ws) (length ws) (unclaimed_most ws)

unclaimed_both : (ls : List Waiting) (x : Waiting) (rs : List Waiting) → unclaimed_number (ls ++ x ∷ rs) ≡ unclaimed_number ls + (if x.entry.claimed then 0 else 1) + unclaimed_number rs
unclaimed_both [] x rs = omega arith
unclaimed_both (w ∷ ls) x rs = let h = unclaimed_both ls x rs in omega (arith, h)

bytes_both : (ls : List Waiting) (x : Waiting) (rs : List Waiting) → bytes_in (ls ++ x ∷ rs) ≡ bytes_in ls + length x.entry.command.payload + bytes_in rs
bytes_both [] x rs = omega arith
bytes_both (w ∷ ls) x rs = let h = bytes_both ls x rs in omega (arith, h)

saturated : (m a b c : ℕ) → min (min (min a m + b) m + min c m) m ≡ min (a + b + c) m
saturated m a b c = grind arith

-- the sums of two sides and one between them are those of all
pub sums_both : (s : Sums) (ls : List Waiting) (x : Waiting) (rs : List Waiting) (d q z : ℕ)
    → s.count ≡ length ls + 1 + length rs
    → s.candidates ≡ candidate_number ls + d + candidate_number rs → d ≡ (if x.candidate then 1 else 0)
    → s.queued ≡ unclaimed_number ls + q + unclaimed_number rs → q ≡ (if x.entry.claimed then 0 else 1)
    → s.size ≡ min (min (min (bytes_in ls) (2 ^ 64 - 1) + z) (2 ^ 64 - 1) + min (bytes_in rs) (2 ^ 64 - 1)) (2 ^ 64 - 1) → z ≡ length x.entry.command.payload
    → s ≡ sums_of (ls ++ x ∷ rs)
sums_both s ls x rs d q z e f f' g g' h h' =
    let count : s.count ≡ length (ls ++ x ∷ rs) = e ∙ sym (length_both ls x rs) in
    let candidates : s.candidates ≡ candidate_number (ls ++ x ∷ rs) = f ∙ ap (λ m. candidate_number ls + m + candidate_number rs) f' ∙ sym (number_both ls x rs) in
    let queued : s.queued ≡ unclaimed_number (ls ++ x ∷ rs) = g ∙ ap (λ m. unclaimed_number ls + m + unclaimed_number rs) g' ∙ sym (unclaimed_both ls x rs) in
    let size : s.size ≡ min (bytes_in (ls ++ x ∷ rs)) (2 ^ 64 - 1) =
    h ∙ ap (λ m. min (min (min (bytes_in ls) (2 ^ 64 - 1) + m) (2 ^ 64 - 1) + min (bytes_in rs) (2 ^ 64 - 1)) (2 ^ 64 - 1)) h'
    ∙ saturated (2 ^ 64 - 1) (bytes_in ls) (length x.entry.command.payload) (bytes_in rs) ∙ ap (λ m. min m (2 ^ 64 - 1)) (sym (bytes_both ls x rs)) in
    λ i. record { count = count i; candidates = candidates i; queued = queued i; size = size i }

pub few_of : (s : Sums) (ws : List Waiting) → s ≡ sums_of ws → length ws ≤ most_pending → (s.count ≤ most_pending) × (s.candidates ≤ s.count) × (s.queued ≤ s.count)
few_of s ws e l =
    let count : s.count ≡ length ws = ap (λ (x : Sums). x.count) e in
    let candidates : s.candidates ≡ candidate_number ws = ap (λ (x : Sums). x.candidates) e in
    let queued : s.queued ≡ unclaimed_number ws = ap (λ (x : Sums). x.queued) e in
    let c = candidates_most ws in
    let q = unclaimed_most ws in
    (omega (arith, count, l), omega (arith, count, candidates, c), omega (arith, count, queued, q))

pub first_none : (ws : List Waiting) → candidate_number ws ≡ 0 → first_marked ws ≡ None
first_none [] e = refl
first_none (w ∷ ws) e = first_none_step w.candidate w.entry.receipt ws e (first_none ws)
  where
    first_none_step : (b : Bool) (r : ℕ) (ws : List Waiting) → (if b then 1 else 0) + candidate_number ws ≡ 0 → (candidate_number ws ≡ 0 → first_marked ws ≡ None) → (if b then Some r else first_marked ws) ≡ None
    first_none_step true r ws e next = absurd (omega (arith, e))
    first_none_step false r ws e next = next (omega (arith, e))

first_past : (ls rs : List Waiting) → candidate_number ls ≡ 0 → first_marked (ls ++ rs) ≡ first_marked rs
first_past [] rs e = refl
first_past (w ∷ ls) rs e = first_past_step w.candidate w.entry.receipt ls rs e (first_past ls rs)
  where
    first_past_step : (b : Bool) (r : ℕ) (ls rs : List Waiting) → (if b then 1 else 0) + candidate_number ls ≡ 0 → (candidate_number ls ≡ 0 → first_marked (ls ++ rs) ≡ first_marked rs) → (if b then Some r else first_marked (ls ++ rs)) ≡ first_marked rs
    first_past_step true r ls rs e next = absurd (omega (arith, e))
    first_past_step false r ls rs e next = next (omega (arith, e))

first_among : (ls rs : List Waiting) → 0 < candidate_number ls → first_marked (ls ++ rs) ≡ first_marked ls
first_among [] rs l = absurd (omega (arith, l))
first_among (w ∷ ls) rs l = first_among_step w.candidate w.entry.receipt ls rs l (first_among ls rs)
  where
    first_among_step : (b : Bool) (r : ℕ) (ls rs : List Waiting) → 0 < (if b then 1 else 0) + candidate_number ls → (0 < candidate_number ls → first_marked (ls ++ rs) ≡ first_marked ls) → (if b then Some r else first_marked (ls ++ rs)) ≡ (if b then Some r else first_marked ls)
    first_among_step true r ls rs l next = refl
    first_among_step false r ls rs l next = next (omega (arith, l))

-- ---- as the code answers, of a list with x in the middle

pub first_on_the_left : (ws ls : List Waiting) (x : Waiting) (rs : List Waiting) (o : Option ℕ) → ws ≡ ls ++ x ∷ rs → 0 < candidate_number ls → o ≡ first_marked ls → o ≡ first_marked ws
first_on_the_left ws ls x rs o e l f = f ∙ sym (first_among ls (x ∷ rs) l) ∙ ap first_marked (sym e)

pub first_in_the_middle : (ws ls : List Waiting) (x : Waiting) (rs : List Waiting) → ws ≡ ls ++ x ∷ rs → candidate_number ls ≡ 0 → x.candidate ≡ true → Some x.entry.receipt ≡ first_marked ws
first_in_the_middle ws ls x rs e z t = sym (ap first_marked e ∙ first_past ls (x ∷ rs) z ∙ rw t refl)

pub first_on_the_right : (ws ls : List Waiting) (x : Waiting) (rs : List Waiting) (o : Option ℕ) → ws ≡ ls ++ x ∷ rs → candidate_number ls ≡ 0 → x.candidate ≡ false → o ≡ first_marked rs → o ≡ first_marked ws
first_on_the_right ws ls x rs o e z t f = f ∙ sym (ap first_marked e ∙ first_past ls (x ∷ rs) z ∙ rw t refl)
