-- Where a receipt stands among the discarded commands.
use Rattle.std.proofs.Common.{◌≡◌, ◌∙◌, ℕ, suc, zero, ◌<◌, ◌≤◌, ◌-◌, ◌==◌, List, [], ◌∷◌, ◌++◌, length, get_or, take, drop, arith, refl, sym, ap, subst, Bool, true, false, if◌then◌else◌, Some, None, nat_lt, ◌≢◌}
use Rattle.std.specs.List.{AllByRecursion}
use Rattle.core_spec.specs.declared.dead.Dead.{Dead}
use Rattle.core_spec.specs.Discards.{put_dead}
use Rattle.retry_discard.specs.Kept.{dead_at, AreInOrder, place_behind, IsFirstFrom}

-- ---- one that is above stands behind the place, and one that isn't before it

pub behind : (r : ℕ) (ds : List Dead) (i : ℕ) (d : Dead) → i < length ds → r < (get_or ds i d).receipt → place_behind r ds ≤ i
behind r [] i d l h = absurd (omega (arith, l))
behind r (e ∷ ds) zero d l h = let above : nat_lt r e.receipt ≡ true = grind arith in rw above (omega arith)
behind r (e ∷ ds) (suc i) d l h = behind_step r ds i (nat_lt r e.receipt) (behind r ds i d (omega (arith, l)) h)
  where
    behind_step : (r : ℕ) (ds : List Dead) (i : ℕ) (b : Bool) → place_behind r ds ≤ i → (if b then 0 else suc (place_behind r ds)) ≤ suc i
    behind_step r ds i true h = omega arith
    behind_step r ds i false h = omega (arith, h)

within_step : (r : ℕ) (ds : List Dead) (b : Bool) → place_behind r ds ≤ length ds → (if b then 0 else suc (place_behind r ds)) ≤ suc (length ds)
within_step r ds true h = omega arith
within_step r ds false h = omega (arith, h)

pub place_within : (r : ℕ) (ds : List Dead) → place_behind r ds ≤ length ds
place_within r [] = omega arith
place_within r (d ∷ ds) = within_step r ds (nat_lt r d.receipt) (place_within r ds)

-- what holds of each holds of the one at a place
at_place : (n : ℕ) (ds : List Dead) (i : ℕ) (d : Dead) → AllByRecursion (λ (x : Dead). n ≤ x.receipt) ds → i < length ds → n ≤ (get_or ds i d).receipt
at_place n [] i d h l = absurd (omega (arith, l))
at_place n (e ∷ ds) zero d h l = h.0
at_place n (e ∷ ds) (suc i) d h l = at_place n ds i d h.1 (omega (arith, l))

front_step : (r : ℕ) (ds : List Dead) (i : ℕ) (n : ℕ) (b : Bool) → nat_lt r n ≡ b → n ≤ r → i < place_behind r ds → suc i < (if b then 0 else suc (place_behind r ds))
front_step r ds i n true e l h = absurd (let above : r < n = grind arith in omega (arith, above, l))
front_step r ds i n false e l h = omega (arith, h)

head_step : (r : ℕ) (ds : List Dead) (n : ℕ) (b : Bool) → nat_lt r n ≡ b → n ≤ r → 0 < (if b then 0 else suc (place_behind r ds))
head_step r ds n true e l = absurd (let above : r < n = grind arith in omega (arith, above, l))
head_step r ds n false e l = omega arith

pub in_front : (r : ℕ) (ds : List Dead) (i : ℕ) (d : Dead) → AreInOrder ds → i < length ds → (get_or ds i d).receipt ≤ r → i < place_behind r ds
in_front r [] i d o l h = absurd (omega (arith, l))
in_front r (e ∷ ds) zero d o l h = head_step r ds e.receipt (nat_lt r e.receipt) refl h
in_front r (e ∷ ds) (suc i) d o l h =
    let below = at_place e.receipt ds i d o.0 (omega (arith, l)) in
    front_step r ds i e.receipt (nat_lt r e.receipt) refl (omega (arith, below, h)) (in_front r ds i d o.1 (omega (arith, l)) h)

-- ---- what is put there

put_step : (x d : Dead) (ds : List Dead) (b : Bool) → take (place_behind x.receipt ds) ds ++ x ∷ drop (place_behind x.receipt ds) ds ≡ put_dead x ds
    → take (if b then 0 else suc (place_behind x.receipt ds)) (d ∷ ds) ++ x ∷ drop (if b then 0 else suc (place_behind x.receipt ds)) (d ∷ ds) ≡ (if b then x ∷ d ∷ ds else d ∷ put_dead x ds)
put_step x d ds true h = refl
put_step x d ds false h = ap (λ es. d ∷ es) h

inserted : (x : Dead) (ds : List Dead) → take (place_behind x.receipt ds) ds ++ x ∷ drop (place_behind x.receipt ds) ds ≡ put_dead x ds
inserted x [] = refl
inserted x (d ∷ ds) = put_step x d ds (nat_lt x.receipt d.receipt) (inserted x ds)

pub put_at : (x : Dead) (ds new : List Dead) (at : ℕ) (b : Bool) → at ≡ place_behind x.receipt ds → b ≡ true → new ≡ (if b then take at ds ++ x ∷ drop at ds else ds) → new ≡ put_dead x ds
put_at x ds new at true e t h = h ∙ (λ i. take (e i) ds ++ x ∷ drop (e i) ds) ∙ inserted x ds
put_at x ds new at false e t h = absurd (cc)

-- ---- the order stays

abbrev AllFrom : ℕ → List Dead → Type 0
AllFrom n = AllByRecursion (λ (x : Dead). n ≤ x.receipt)

all_from_step : (n : ℕ) (x d : Dead) (ds put : List Dead) (b : Bool) → n ≤ x.receipt → n ≤ d.receipt → AllFrom n ds → AllFrom n put → AllFrom n (if b then x ∷ d ∷ ds else d ∷ put)
all_from_step n x d ds put true k l h g = (k, (l, h))
all_from_step n x d ds put false k l h g = (l, g)

all_from : (n : ℕ) (x : Dead) (ds : List Dead) → n ≤ x.receipt → AllFrom n ds → AllFrom n (put_dead x ds)
all_from n x [] k h = (k, tt)
all_from n x (d ∷ ds) k h = all_from_step n x d ds (put_dead x ds) (nat_lt x.receipt d.receipt) k h.0 h.1 (all_from n x ds k h.1)

lowered : (m n : ℕ) (ds : List Dead) → m ≤ n → AllFrom n ds → AllFrom m ds
lowered m n [] l h = tt
lowered m n (d ∷ ds) l h = (omega (arith, l, h.0), lowered m n ds l h.1)

order_step : (x d : Dead) (ds : List Dead) (b : Bool) → nat_lt x.receipt d.receipt ≡ b → AllFrom d.receipt ds → AreInOrder ds → AreInOrder (put_dead x ds) → AreInOrder (if b then x ∷ d ∷ ds else d ∷ put_dead x ds)
order_step x d ds true e h o g = let below : x.receipt ≤ d.receipt = grind arith in ((below, lowered x.receipt d.receipt ds below h), (h, o))
order_step x d ds false e h o g = let above : d.receipt ≤ x.receipt = grind arith in (all_from d.receipt x ds above h, g)

put_order : (x : Dead) (ds : List Dead) → AreInOrder ds → AreInOrder (put_dead x ds)
put_order x [] o = (tt, tt)
put_order x (d ∷ ds) o = order_step x d ds (nat_lt x.receipt d.receipt) refl o.0 o.1 (put_order x ds o.1)

pub put_in_order : (x : Dead) (ds new : List Dead) → new ≡ put_dead x ds → AreInOrder ds → AreInOrder new
put_in_order x ds new e o = subst AreInOrder (sym e) (put_order x ds o)

-- ---- what is found there

none_from : (r n : ℕ) (ds : List Dead) → r < n → AllFrom n ds → dead_at r ds ≡ None
none_from r n [] l h = refl
none_from r n (d ∷ ds) l h = let other : (r == d.receipt) ≡ false = (let less : r < d.receipt = omega (arith, l, h.0) in grind arith) in rw other (none_from r n ds l h.1)

first_step : (r : ℕ) (d : Dead) (ds : List Dead) (b : Bool) → nat_lt r d.receipt ≡ b → IsFirstFrom (suc r) ds (place_behind r ds) → IsFirstFrom (suc r) (d ∷ ds) (if b then 0 else suc (place_behind r ds))
first_step r d ds true e h = let above : r < d.receipt = grind arith in omega (arith, above)
first_step r d ds false e h = let below : d.receipt ≤ r = grind arith in (omega (arith, below), h)

behind_is_first : (r : ℕ) (ds : List Dead) → IsFirstFrom (suc r) ds (place_behind r ds)
behind_is_first r [] = refl
behind_is_first r (d ∷ ds) = first_step r d ds (nat_lt r d.receipt) refl (behind_is_first r ds)

pub first_from_zero : (ds : List Dead) → IsFirstFrom 0 ds 0
first_from_zero [] = refl
first_from_zero (d ∷ ds) = omega arith

pub first_behind : (r at : ℕ) (ds : List Dead) → 1 ≤ r → at ≡ place_behind (r - 1) ds → IsFirstFrom r ds at
first_behind zero at ds l e = absurd (omega (arith, l))
first_behind (suc r) at ds l e = let same : suc r - 1 ≡ r = omega arith in subst (IsFirstFrom (suc r) ds) (sym (e ∙ (λ i. place_behind (same i) ds))) (behind_is_first r ds)

-- it is found there
found_there : (r at : ℕ) (ds : List Dead) (d : Dead) → IsFirstFrom r ds at → at < length ds → (get_or ds at d).receipt ≡ r → dead_at r ds ≡ Some (get_or ds at d)
found_there r at [] d f l e = absurd (omega (arith, l))
found_there r zero (x ∷ ds) d f l e = let own : (r == x.receipt) ≡ true = grind arith in rw own refl
found_there r (suc at) (x ∷ ds) d f l e = let other : (r == x.receipt) ≡ false = (let less = f.0 in grind arith) in rw other (found_there r at ds d f.1 (omega (arith, l)) e)

-- or nowhere
found_nowhere : (r at : ℕ) (ds : List Dead) (d : Dead) → AreInOrder ds → IsFirstFrom r ds at → at < length ds → (get_or ds at d).receipt ≢ r → dead_at r ds ≡ None
found_nowhere r at [] d o f l n = refl
found_nowhere r zero (x ∷ ds) d o f l n =
    let above : r < x.receipt = grind (arith, n, f) in
    let other : (r == x.receipt) ≡ false = grind arith in rw other (none_from r x.receipt ds above o.0)
found_nowhere r (suc at) (x ∷ ds) d o f l n = let other : (r == x.receipt) ≡ false = (let less = f.0 in grind arith) in rw other (found_nowhere r at ds d o.1 f.1 (omega (arith, l)) n)

pub none_at_end : (r at : ℕ) (ds : List Dead) → IsFirstFrom r ds at → length ds ≤ at → dead_at r ds ≡ None
none_at_end r at [] f l = refl
none_at_end r zero (x ∷ ds) f l = absurd (omega (arith, l))
none_at_end r (suc at) (x ∷ ds) f l = let other : (r == x.receipt) ≡ false = (let less = f.0 in grind arith) in rw other (none_at_end r at ds f.1 (omega (arith, l)))

-- ---- as the code answers, with the one at the place

pub found_as : (r at : ℕ) (ds : List Dead) (x : Dead) → IsFirstFrom r ds at → at < length ds → x ≡ get_or ds at x → x.receipt ≡ r → Some x ≡ dead_at r ds
found_as r at ds x f l g e = ap Some g ∙ sym (found_there r at ds x f l (ap (λ (d : Dead). d.receipt) (sym g) ∙ e))

pub not_found_as : (r at : ℕ) (ds : List Dead) (x : Dead) → AreInOrder ds → IsFirstFrom r ds at → at < length ds → x ≡ get_or ds at x → x.receipt ≢ r → None ≡ dead_at r ds
not_found_as r at ds x o f l g n = sym (found_nowhere r at ds x o f l (λ e. n (ap (λ (d : Dead). d.receipt) g ∙ e)))
