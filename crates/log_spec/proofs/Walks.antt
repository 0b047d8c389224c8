-- A file's frames are told by its bytes up to the closed gate.
use Rattle.std.proofs.Common.{◌≡◌, ◌≢◌, inl, inr, ℕ, zero, suc, ◌+◌, ◌<◌, ◌≤◌, Bool, true, false, if◌then◌else◌, ◌==◌, nat_lt, List, [], ◌∷◌, ◌++◌, length, take, drop, refl, sym, ◌∙◌, ap, subst, arith, append_assoc, length-append, take-append-drop, length-drop}
use Rattle.std.proofs.lemmas.Bool.{cases_eq}
use Rattle.std.proofs.lemmas.Bool.Decides.{nat_tests}
use Rattle.std.proofs.lemmas.List.{take_at, drop_at, drop-take, take-append-le, drop-append-le, length-take-le}
use Rattle.plain_laws.proofs.Booleans.{if_true}
use Rattle.log_spec.specs.ImageOf.{Found, ends, breaks, behind, stated, walk}

abbrev pub prepends : List (List ℕ) → Found → Found
prepends [] w = w
prepends (f ∷ fs) w = behind f (prepends fs w)

pub true_if : {A : Type 0} (b : Bool) (x y z : A) → (if b then x else y) ≡ z → (y ≢ z) → (b ≡ true) × (x ≡ z)
true_if true x y z is not = (refl, is)
true_if false x y z is not = absurd (not is)

stated_append : (xs ys : List ℕ) → 4 ≤ length xs → stated (xs ++ ys) ≡ stated xs
stated_append xs ys le = let same = take-append-le 4 xs ys le in rw same refl

pub nat_lt-true : (m n : ℕ) → m < n → nat_lt m n ≡ true
nat_lt-true m n lt = grind (arith, nat_tests)

pub true-nat_lt : (m n : ℕ) → nat_lt m n ≡ true → m < n
true-nat_lt m n is = grind (arith, nat_tests)

pub true-eq : (m n : ℕ) → (m == n) ≡ true → m ≡ n
true-eq m n is = grind (arith, nat_tests)

pub eq-true : (m n : ℕ) → m ≡ n → (m == n) ≡ true
eq-true m n is = grind (arith, nat_tests)

-- a whole frame stands behind an open gate
pub block_step : (block more : List ℕ) (n most p : ℕ) → length block ≡ 4 + n → stated block ≡ n → 1 ≤ length more → walk (suc most) p (1 ∷ block ++ more) ≡ behind (drop 4 block) (walk most (p + 5 + n) more)
unfolding walk
block_step block more n most p long says some =
    let bm = block ++ more in
    let n_is : stated bm ≡ n = stated_append block more (omega arith) ∙ says in
    let fits : nat_lt (4 + n) (length bm) ≡ true = nat_lt-true (4 + n) (length bm) (omega (arith, length-append block more)) in
    let body : take n (drop 4 bm) ≡ drop 4 block = ap (λ (l : List ℕ). take n l) (drop-append-le 4 block more (omega arith)) ∙ take_at (drop 4 block) more n (omega (arith, length-drop 4 block)) in
    let rest : drop (4 + n) bm ≡ more = drop_at block more (4 + n) long in
    let shape = λ (s : ℕ). if nat_lt (4 + s) (length bm) then behind (take s (drop 4 bm)) (walk most (p + 5 + s) (drop (4 + s) bm)) else breaks p in
    ap shape n_is ∙ if_true (nat_lt (4 + n) (length bm)) (behind (take n (drop 4 bm)) (walk most (p + 5 + n) (drop (4 + n) bm))) (breaks p) fits
    ∙ ap (λ (l : List ℕ). behind l (walk most (p + 5 + n) (drop (4 + n) bm))) body
    ∙ ap (λ (l : List ℕ). behind (drop 4 block) (walk most (p + 5 + n) l)) rest

pub shut_step : (most p gate : ℕ) (rest : List ℕ) → gate ≢ 1 → 1 ≤ most → walk most p (gate ∷ rest) ≡ ends [] p
unfolding walk
shut_step zero p gate rest shut le = absurd (omega arith)
shut_step (suc most) p gate rest shut le = grind (arith, nat_tests)

-- The bytes up to the closed gate, whatever stands behind it.
pub record Front (p : ℕ) (r : List ℕ) (fs : List (List ℕ)) (q : ℕ) : Type 0 where
  pub front : List ℕ
  pub gate : ℕ
  pub rest : List ℕ
  pub split : r ≡ front ++ gate ∷ rest
  pub shut : gate ≢ 1
  pub at : q ≡ p + length front
  pub goes : (most : ℕ) (tail : List ℕ) → length front + length tail ≤ most → 1 ≤ length tail → (m : ℕ) × (length tail ≤ m) × (walk most p (front ++ tail) ≡ prepends fs (walk m q tail))

record Behind (f : List ℕ) (w : Found) (fs : List (List ℕ)) (q : ℕ) : Type 0 where
  pub others : List (List ℕ)
  pub found : w ≡ ends others q
  pub frames : fs ≡ f ∷ others

behind_is : (f : List ℕ) (w : Found) (fs : List (List ℕ)) (q : ℕ) → behind f w ≡ ends fs q → Behind f w fs q
behind_is f (ends others at) fs q is = record { others = others; found = cc; frames = cc }
behind_is f (breaks at) fs q is = cc

ends_is : (fs gs : List (List ℕ)) (p q : ℕ) → ends fs p ≡ ends gs q → (fs ≡ gs) × (p ≡ q)
ends_is fs gs p q is = (cc, cc)

add_frame : (p n q : ℕ) (block rest : List ℕ) (fs : List (List ℕ)) → length block ≡ 4 + n → stated block ≡ n → Front (p + 5 + n) rest fs q → Front p (1 ∷ block ++ rest) (drop 4 block ∷ fs) q
add_frame p n q block rest fs long says more = record {
  front = 1 ∷ block ++ more.front;
  gate = more.gate;
  rest = more.rest;
  split = (λ i. 1 ∷ block ++ more.split i) ∙ ap (λ (l : List ℕ). 1 ∷ l) (sym (append_assoc block more.front (more.gate ∷ more.rest)));
  shut = more.shut;
  at = omega (arith, more.at, length-append block more.front);
  goes = goes;
}
  where
    goes : (most : ℕ) (tail : List ℕ) → length (1 ∷ block ++ more.front) + length tail ≤ most → 1 ≤ length tail → (m : ℕ) × (length tail ≤ m) × (walk most p ((1 ∷ block ++ more.front) ++ tail) ≡ prepends (drop 4 block ∷ fs) (walk m q tail))
    goes zero tail le some = absurd (omega arith)
    goes (suc most) tail le some =
        let next = more.goes most tail (omega (arith, length-append block more.front)) some in (
          next.0,
          next.1,
          ap (λ (l : List ℕ). walk (suc most) p (1 ∷ l)) (append_assoc block more.front tail)
              ∙ block_step block (more.front ++ tail) n most p long says (omega (arith, length-append more.front tail))
              ∙ ap (λ w. behind (drop 4 block) w) next.2,
        )

pub front_of : (most p : ℕ) (r : List ℕ) (fs : List (List ℕ)) (q : ℕ) → walk most p r ≡ ends fs q → Front p r fs q
unfolding walk
front_of most p [] fs q is = cc
front_of zero p (g ∷ rest) fs q is = cc
front_of (suc most) p (g ∷ rest) fs q is = elim (cases_eq g 1) [
  | inl is_open ↦ opened_at is_open (λ at gs found. front_of most at (drop (4 + stated rest) rest) gs q found)
  | inr shut ↦ closed_at shut
]
  where
    closed_at : g ≢ 1 → Front p (g ∷ rest) fs q
    closed_at shut =
        let none : ends [] p ≡ ends fs q = sym (shut_step (suc most) p g rest shut (omega arith)) ∙ is in
        let parts = ends_is [] fs p q none in
        subst (λ l. Front p (g ∷ rest) l q) parts.0 record {
          front = [];
          gate = g;
          rest = rest;
          split = refl;
          shut = shut;
          at = omega (arith, parts.1);
          goes = λ most tail le some. (most, omega arith, ap (λ n. walk most n tail) parts.1);
        }

    opened_at : g ≡ 1 → ((at : ℕ) (gs : List (List ℕ)) → walk most at (drop (4 + stated rest) rest) ≡ ends gs q → Front at (drop (4 + stated rest) rest) gs q) → Front p (g ∷ rest) fs q
    opened_at is_open again =
        let n = stated rest in
        let f = take n (drop 4 rest) in
        let more = drop (4 + n) rest in
        let after = behind f (walk most (p + 5 + n) more) in
        let tested : (if nat_lt (4 + n) (length rest) then after else breaks p) ≡ ends fs q = sym (if_true (g == 1) _ (ends [] p) (eq-true g 1 is_open)) ∙ is in
        let whole = true_if (nat_lt (4 + n) (length rest)) after (breaks p) (ends fs q) tested (λ e. cc) in
        let fits : 4 + n < length rest = true-nat_lt (4 + n) (length rest) whole.0 in
        let parts = behind_is f (walk most (p + 5 + n) more) fs q whole.1 in
        let block = take (4 + n) rest in
        let long : length block ≡ 4 + n = length-take-le (4 + n) rest (omega arith) in
        let joined : block ++ more ≡ rest = take-append-drop (4 + n) rest in
        let says : stated block ≡ n = sym (stated_append block more (omega arith)) ∙ ap (λ (l : List ℕ). stated l) joined in
        let body : drop 4 block ≡ f = drop-take 4 n rest in
        let inner = add_frame p n q block more parts.others long says (again (p + 5 + n) parts.others parts.found) in
        let whole_file : 1 ∷ block ++ more ≡ g ∷ rest = λ i. sym is_open i ∷ joined i in
        let frames : drop 4 block ∷ parts.others ≡ fs = ap (λ (l : List ℕ). l ∷ parts.others) body ∙ sym parts.frames in
        subst (λ l. Front p l fs q) whole_file (subst (λ gs. Front p (1 ∷ block ++ more) gs q) frames inner)
