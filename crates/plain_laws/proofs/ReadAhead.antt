-- A buffer of what was read ahead: the part of a list that is filled, and what calls leave of it.
use Rattle.std.proofs.Common.{◌≡◌, ◌∙◌, ℕ, ◌+◌, ◌≤◌, List, ◌++◌, length, take, drop, arith, sym, ap, subst, Option, Some, None, append_assoc, length-append}
use Rattle.std.specs.Prelude.{slice_range}
use Rattle.std.proofs.Math.Seq.{take-append-add}
use Rattle.std.proofs.lemmas.List.{take-take, take_all, take-append-le, length-take-le, drop-drop}
use Rattle.std.proofs.lemmas.Slice.{between_is, between_from_start}
use Rattle.std.specs.Io.KnownBytes.{Keeps, Consumes, prepend_known}
use Rattle.std.proofs.KnownBytes.{Consumes-trans}

pub take_past : {A : Type 0} (p q : List A) (m n : ℕ) → m ≡ length p + n → take m (p ++ q) ≡ p ++ take n q
take_past p q m n h = ap (λ k. take k (p ++ q)) h ∙ take-append-add p q n

-- ---- parts of the buffer

-- what a write from e on leaves
abbrev pub written : {A : Type 0} → ℕ → ℕ → List A → List A → List A → List A → List A
written len e r into post v = take len ((take e r ++ (into ++ post)) ++ drop (length (take e r ++ (into ++ post))) v)

take-written : {A : Type 0} (len e n : ℕ) (r into post v : List A) → e ≤ length r → n ≤ length into → e + n ≤ len → take (e + n) (written len e r into post v) ≡ take e r ++ take n into
take-written len e n r into post v h k l =
    let ws = take e r ++ (into ++ post) in
    let front : length (take e r) ≡ e = length-take-le e r h in
    let long : e + n ≤ length ws = omega (arith, front, length-append (take e r) (into ++ post), length-append into post) in
    take-take (e + n) len (ws ++ drop (length ws) v) l
    ∙ take-append-le (e + n) ws (drop (length ws) v) long
    ∙ take_past (take e r) (into ++ post) (e + n) n (omega (arith, front))
    ∙ ap (λ xs. take e r ++ xs) (take-append-le n into post k)

front-written : {A : Type 0} (len e : ℕ) (r into post v : List A) → e ≤ length r → e ≤ len → take e (written len e r into post v) ≡ take e r
front-written len e r into post v h l =
    let ws = take e r ++ (into ++ post) in
    let front : length (take e r) ≡ e = length-take-le e r h in
    let long : e ≤ length ws = omega (arith, front, length-append (take e r) (into ++ post)) in
    take-take e len (ws ++ drop (length ws) v) l
    ∙ take-append-le e ws (drop (length ws) v) long
    ∙ take-append-le e (take e r) (into ++ post) (omega (arith, front))
    ∙ take-take e e r (omega arith)

from_front : {A : Type 0} (xs : List A) (s e : ℕ) → s ≡ 0 → slice_range xs s e ≡ take e xs
from_front xs s e h = ap (λ k. slice_range xs k e) h ∙ between_from_start xs e

same_front : {A : Type 0} (xs ys : List A) (s e : ℕ) → take e xs ≡ take e ys → slice_range xs s e ≡ slice_range ys s e
same_front xs ys s e h = between_is xs s e ∙ ap (drop s) h ∙ sym (between_is ys s e)

-- a buffer that is made longer
pub longer : {A : Type 0} (xs ys : List A) (s e n : ℕ) → e ≤ length xs → length xs ≤ n → slice_range (take n xs ++ ys) s e ≡ slice_range xs s e
longer xs ys s e n h k =
    same_front (take n xs ++ ys) xs s e (ap (λ zs. take e (zs ++ ys)) (take_all n xs k) ∙ take-append-le e xs ys h)

-- its first elements are let go
pub advanced : {A : Type 0} (xs : List A) (s e n : ℕ) → slice_range xs (s + n) e ≡ drop n (slice_range xs s e)
advanced xs s e n =
    between_is xs (s + n) e ∙ sym (drop-drop n s (take e xs)) ∙ ap (drop n) (sym (between_is xs s e))

-- ---- reads

grown : (old fresh new : List ℕ) (a b : Option (List ℕ)) → new ≡ old ++ fresh → Consumes a b fresh → Keeps (prepend_known old a) (prepend_known new b)
grown old fresh new None b e h = tt
grown old fresh new (Some x) None e h = h
grown old fresh new (Some x) (Some y) e h = ap (λ xs. xs ++ y) e ∙ append_assoc old fresh y ∙ ap (λ xs. old ++ xs) (sym h)

stayed : (old new : List ℕ) (a b : Option (List ℕ)) → new ≡ old → Keeps a b → Keeps (prepend_known old a) (prepend_known new b)
stayed old new None b e h = tt
stayed old new (Some x) None e h = h
stayed old new (Some x) (Some y) e h = λ i. e i ++ h i

-- what a read behind what is buffered from the front on leaves buffered
pub more_range : {A : Type 0} (items r into post v old : List A) (len s e n : ℕ) → s ≡ 0 → r ≡ items → slice_range items s e ≡ old → e ≤ length r → n ≤ length into → e + n ≤ len → slice_range (written len e r into post v) s (e + n) ≡ old ++ take n into
more_range items r into post v old len s e n zero_start same is_old h k l =
    let front : take e r ≡ old = ap (take e) same ∙ sym (from_front items s e zero_start) ∙ is_old in
    from_front (written len e r into post v) s (e + n) zero_start ∙ take-written len e n r into post v h k l ∙ ap (λ xs. xs ++ take n into) front

pub read_more : (items r into post v old : List ℕ) (len s e n : ℕ) (a b : Option (List ℕ)) → s ≡ 0 → r ≡ items → slice_range items s e ≡ old → e ≤ length r → n ≤ length into → e + n ≤ len → Consumes a b (take n into) → Keeps (prepend_known old a) (prepend_known (slice_range (written len e r into post v) s (e + n)) b)
read_more items r into post v old len s e n a b zero_start same is_old h k l consumed =
    grown old (take n into) (slice_range (written len e r into post v) s (e + n)) a b (more_range items r into post v old len s e n zero_start same is_old h k l) consumed

pub same_range : {A : Type 0} (items r into post v old : List A) (len s e : ℕ) → s ≡ 0 → r ≡ items → slice_range items s e ≡ old → e ≤ length r → e ≤ len → slice_range (written len e r into post v) s e ≡ old
same_range items r into post v old len s e zero_start same is_old h l =
    from_front (written len e r into post v) s e zero_start ∙ front-written len e r into post v h l ∙ ap (take e) same ∙ sym (from_front items s e zero_start) ∙ is_old

pub read_none : (items r into post v old : List ℕ) (len s e : ℕ) (a b : Option (List ℕ)) → s ≡ 0 → r ≡ items → slice_range items s e ≡ old → e ≤ length r → e ≤ len → Keeps a b → Keeps (prepend_known old a) (prepend_known (slice_range (written len e r into post v) s e) b)
read_none items r into post v old len s e a b zero_start same is_old h l kept =
    stayed old (slice_range (written len e r into post v) s e) a b (same_range items r into post v old len s e zero_start same is_old h l) kept

-- a part of what is taken, which fills up
pub filled_more : (items r into post v : List ℕ) (len f n : ℕ) (a b c : Option (List ℕ)) → r ≡ items → f ≤ length r → n ≤ length into → f + n ≤ len → Consumes a b (take f items) → Consumes b c (take n into) → Consumes a c (take (f + n) (written len f r into post v))
filled_more items r into post v len f n a b c same h k l first second =
    subst (Consumes a c) (sym (take-written len f n r into post v h k l ∙ ap (λ xs. take f xs ++ take n into) same)) (Consumes-trans a b c (take f items) (take n into) first second)
