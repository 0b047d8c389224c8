-- Fronts of the text that is made, and what of it went out.
use Rattle.std.proofs.Common.{◌≡◌, ◌∙◌, ℕ, zero, suc, ◌+◌, ◌-◌, ◌<◌, ◌≤◌, List, [], ◌++◌, length, take, refl, sym, ap, subst, arith, append_assoc, append-nil, add-one, add-zero, add-suc, add-sub_of_le, length-append, Option, Some, None}
use Rattle.std.proofs.Math.Seq.{take-append-add}
use Rattle.std.proofs.lemmas.List.{take-append-le}
use Rattle.std.proofs.KnownBytes.{Appends-trans}
use Rattle.std.specs.Io.KnownBytes.{Appends, Keeps}
use Rattle.made_spec.specs.Made.{next_number, number, item_text, made_text}

-- ---- one item more

pub number_more : (seed i : ℕ) → number seed (i + 1) ≡ next_number (number seed i)
number_more seed i = rw add-one refl

pub made_more : (seed i : ℕ) → made_text seed (i + 1) ≡ made_text seed i ++ item_text i (next_number (number seed i))
unfolding made_text
made_more seed i = rw add-one refl

-- the text of n items is a front of that of n + k
goes_on : (seed n k : ℕ) → (rest : List ℕ) × (made_text seed (n + k) ≡ made_text seed n ++ rest)
unfolding made_text
goes_on seed n zero = ([], ap (made_text seed) (add-zero n) ∙ sym (append-nil (made_text seed n)))
goes_on seed n (suc k) =
    let before = goes_on seed n k in
    let item = item_text (n + k) (number seed (suc (n + k))) in
    (before.0 ++ item, ap (made_text seed) (add-suc n k) ∙ ap (λ (t : List ℕ). t ++ item) before.1 ∙ append_assoc (made_text seed n) before.0 item)

pub front_of : (seed n m : ℕ) → n ≤ m → (rest : List ℕ) × (made_text seed m ≡ made_text seed n ++ rest)
front_of seed n m h =
    let more = goes_on seed n (m - n) in
    (more.0, ap (made_text seed) (sym (add-sub_of_le h)) ∙ more.1)

-- ---- what went out

-- a part that went out whole, and less than all of the next one
pub less_of_all : (a b c : Option (List ℕ)) (out due rest whole : List ℕ) (taken : ℕ) → whole ≡ (out ++ due) ++ rest → Appends a b out → taken < length due → Appends b c (take taken due)
    → (n : ℕ) × (n < length whole) × Appends a c (take n whole)
less_of_all a b c out due rest whole taken is h less k =
    let parts : whole ≡ out ++ (due ++ rest) = is ∙ append_assoc out due rest in
    let size : length whole ≡ length out + (length due + length rest) = ap length parts ∙ length-append out (due ++ rest) ∙ ap (λ (n : ℕ). length out + n) (length-append due rest) in
    let front : out ++ take taken due ≡ take (length out + taken) whole =
    ap (λ (t : List ℕ). out ++ t) (sym (take-append-le taken due rest (omega (arith, less)))) ∙ sym (take-append-add out (due ++ rest) taken) ∙ ap (take (length out + taken)) (sym parts) in
    (length out + taken, omega (arith, less, size), subst (Appends a c) front (Appends-trans a b c out (take taken due) h k))

-- a part that went out whole, and nothing more
pub only_this : (a b : Option (List ℕ)) (out rest whole : List ℕ) → whole ≡ out ++ rest → Appends a b out → (n : ℕ) × (n ≤ length whole) × Appends a b (take n whole)
only_this a b out rest whole is h =
    let size : length whole ≡ length out + length rest = ap length is ∙ length-append out rest in
    let front : out ≡ take (length out) whole =
    sym (append-nil out) ∙ sym (take-append-add out rest 0) ∙ ap (λ (n : ℕ). take n (out ++ rest)) (add-zero (length out)) ∙ ap (take (length out)) (sym is) in
    (length out, omega (arith, size), subst (Appends a b) front h)

-- ---- over the items

pub appends_kept : (a b c : Option (List ℕ)) (bs : List ℕ) → Appends a b bs → Keeps b c → Appends a c bs
appends_kept None b c bs p q = tt
appends_kept (Some x) None c bs p q = absurd p
appends_kept (Some x) (Some y) None bs p q = absurd q
appends_kept (Some x) (Some y) (Some z) bs p q = q ∙ p

pub made_none : (seed : ℕ) → made_text seed 0 ≡ []
unfolding made_text
made_none seed = refl

-- behind what went out and the text that is left stands the next item
pub due_is : (seed i x next : ℕ) (went left : List ℕ) → x ≡ number seed i → next ≡ next_number x → went ++ left ≡ made_text seed i
    → went ++ (left ++ item_text i next) ≡ made_text seed (i + 1)
due_is seed i x next went left p q is =
    sym (append_assoc went left (item_text i next)) ∙ ap (λ (t : List ℕ). t ++ item_text i next) is
    ∙ ap (λ (n : ℕ). made_text seed i ++ item_text i n) (q ∙ ap next_number p) ∙ sym (made_more seed i)

-- and behind the items so far the other ones
pub whole_is : (seed n m : ℕ) (due : List ℕ) → n ≤ m → due ≡ made_text seed n → (rest : List ℕ) × (made_text seed m ≡ due ++ rest)
whole_is seed n m due h is =
    let front = front_of seed n m h in
    (front.0, front.1 ∙ ap (λ (t : List ℕ). t ++ front.0) (sym is))
