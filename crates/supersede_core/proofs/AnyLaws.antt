-- Whether one of the entries passes a test, and how many of a group are claimed, as one entry is changed, taken out or added.
use Rattle.std.proofs.Common.{◌≡◌, ◌∙◌, ℕ, ◌<◌, ◌+◌, ◌==◌, List, [], ◌∷◌, ◌++◌, arith, refl, sym, ap, Bool, true, false, ◌||◌, if◌then◌else◌, Some}
use Rattle.std.specs.List.{AllByRecursion, list_any, flat_map}
use Rattle.std.proofs.lemmas.List.Folds.{list_any-append}
use Rattle.entry_tree.proofs.of_plain_laws.Booleans.{eq_is}
use Rattle.entry_tree.proofs.of_plain_laws.Options.{none_some, some_is}
use Rattle.entry_tree.specs.core_spec.declared.entry.Entry.{Entry}
use Rattle.entry_tree.specs.core_machine.Steps.{at_receipt}
use Rattle.supersede_core.specs.Waiting.{Rises, entry_of}
use Rattle.supersede_core.specs.Index.{own_claim, claimed_number}
use Rattle.supersede_core.proofs.KeptFacts.{above}

abbrev pub left : ℕ → List Entry → List Entry
left r es = flat_map (at_receipt r (λ e. [])) es

abbrev pub changed : ℕ → (Entry → Entry) → List Entry → List Entry
changed r f es = flat_map (at_receipt r (λ e. f e ∷ [])) es

-- ---- a test

or_swap : (a b c : Bool) → (a || (b || c)) ≡ (b || (a || c))
or_swap true true c = refl
or_swap true false c = refl
or_swap false b c = refl

pub or_none : (b : Bool) → (b || false) ≡ b
or_none true = refl
or_none false = refl

pub any_more : (p : Entry → Bool) (es : List Entry) (x : Entry) → list_any p (es ++ x ∷ []) ≡ (list_any p es || p x)
any_more p es x = list_any-append p es (x ∷ []) ∙ ap (λ b. list_any p es || b) (or_none (p x))

split_step : (p : Entry → Bool) (r : ℕ) (f : Entry → List Entry) (e x : Entry) (es : List Entry) (b : Bool) → (r == e.receipt) ≡ b → AllByRecursion (λ (g : Entry). e.receipt < g.receipt) es
    → (if b then Some e else entry_of r es) ≡ Some x
    → (entry_of r es ≡ Some x → list_any p (flat_map (at_receipt r f) es) ≡ (list_any p (f x) || list_any p (left r es)))
    → list_any p ((if b then f e else e ∷ []) ++ flat_map (at_receipt r f) es) ≡ (list_any p (f x) || list_any p ((if b then [] else e ∷ []) ++ left r es))
split_step p r f e x es true g h o next =
    let own : e ≡ x = some_is e x o in
    let receipt : r ≡ e.receipt = eq_is r e.receipt g in
    ap (λ gs. list_any p (f e ++ gs)) (above r e.receipt f es receipt h)
    ∙ list_any-append p (f e) es
    ∙ (λ i. list_any p (f (own i)) || list_any p (sym (above r e.receipt (λ e. []) es receipt h) i))
split_step p r f e x es false g h o next = ap (λ b. p e || b) (next o) ∙ or_swap (p e) (list_any p (f x)) (list_any p (left r es))

-- what comes in the place of the one, and all others
any_split : (p : Entry → Bool) (r : ℕ) (f : Entry → List Entry) (es : List Entry) (x : Entry) → Rises es → entry_of r es ≡ Some x
    → list_any p (flat_map (at_receipt r f) es) ≡ (list_any p (f x) || list_any p (left r es))
any_split p r f [] x h o = none_some x o
any_split p r f (e ∷ es) x h o = split_step p r f e x es (r == e.receipt) refl h.0 o (any_split p r f es x h.1)

stays_step : (r : ℕ) (e : Entry) (es : List Entry) (b : Bool) → flat_map (at_receipt r (λ e. e ∷ [])) es ≡ es → (if b then e ∷ [] else e ∷ []) ++ flat_map (at_receipt r (λ e. e ∷ [])) es ≡ e ∷ es
stays_step r e es true h = ap (λ gs. e ∷ gs) h
stays_step r e es false h = ap (λ gs. e ∷ gs) h

stays : (r : ℕ) (es : List Entry) → flat_map (at_receipt r (λ e. e ∷ [])) es ≡ es
stays r [] = refl
stays r (e ∷ es) = stays_step r e es (r == e.receipt) (stays r es)

pub any_own : (p : Entry → Bool) (r : ℕ) (es : List Entry) (x : Entry) → Rises es → entry_of r es ≡ Some x → list_any p es ≡ (p x || list_any p (left r es))
any_own p r es x h o = ap (list_any p) (sym (stays r es)) ∙ any_split p r (λ e. e ∷ []) es x h o ∙ ap (λ b. b || list_any p (left r es)) (or_none (p x))

pub any_changed : (p : Entry → Bool) (r : ℕ) (f : Entry → Entry) (es : List Entry) (x : Entry) → Rises es → entry_of r es ≡ Some x → list_any p (changed r f es) ≡ (p (f x) || list_any p (left r es))
any_changed p r f es x h o = any_split p r (λ e. f e ∷ []) es x h o ∙ ap (λ b. b || list_any p (left r es)) (or_none (p (f x)))

-- ---- how many are claimed

pub claims_more : (text : List ℕ) (es : List Entry) (x : Entry) → claimed_number text (es ++ x ∷ []) ≡ own_claim text x + claimed_number text es
claims_more text [] x = refl
claims_more text (e ∷ es) x = let h = claims_more text es x in omega (arith, h)

claims_both : (text : List ℕ) (xs ys : List Entry) → claimed_number text (xs ++ ys) ≡ claimed_number text xs + claimed_number text ys
claims_both text [] ys = omega arith
claims_both text (x ∷ xs) ys = let h = claims_both text xs ys in omega (arith, h)

sum_swap : (a b c n : ℕ) → n ≡ b + c → a + n ≡ b + (a + c)
sum_swap a b c n h = omega (arith, h)

claims_step : (text : List ℕ) (r : ℕ) (f : Entry → List Entry) (e x : Entry) (es : List Entry) (b : Bool) → (r == e.receipt) ≡ b → AllByRecursion (λ (g : Entry). e.receipt < g.receipt) es
    → (if b then Some e else entry_of r es) ≡ Some x
    → (entry_of r es ≡ Some x → claimed_number text (flat_map (at_receipt r f) es) ≡ claimed_number text (f x) + claimed_number text (left r es))
    → claimed_number text ((if b then f e else e ∷ []) ++ flat_map (at_receipt r f) es) ≡ claimed_number text (f x) + claimed_number text ((if b then [] else e ∷ []) ++ left r es)
claims_step text r f e x es true g h o next =
    let own : e ≡ x = some_is e x o in
    let receipt : r ≡ e.receipt = eq_is r e.receipt g in
    ap (λ gs. claimed_number text (f e ++ gs)) (above r e.receipt f es receipt h)
    ∙ claims_both text (f e) es
    ∙ (λ i. claimed_number text (f (own i)) + claimed_number text (sym (above r e.receipt (λ e. []) es receipt h) i))
claims_step text r f e x es false g h o next = sum_swap (own_claim text e) (claimed_number text (f x)) (claimed_number text (left r es)) (claimed_number text (flat_map (at_receipt r f) es)) (next o)

claims_split : (text : List ℕ) (r : ℕ) (f : Entry → List Entry) (es : List Entry) (x : Entry) → Rises es → entry_of r es ≡ Some x
    → claimed_number text (flat_map (at_receipt r f) es) ≡ claimed_number text (f x) + claimed_number text (left r es)
claims_split text r f [] x h o = none_some x o
claims_split text r f (e ∷ es) x h o = claims_step text r f e x es (r == e.receipt) refl h.0 o (claims_split text r f es x h.1)

plus_none : (a n : ℕ) → a + 0 + n ≡ a + n
plus_none a n = omega arith

pub claims_own : (text : List ℕ) (r : ℕ) (es : List Entry) (x : Entry) → Rises es → entry_of r es ≡ Some x → claimed_number text es ≡ own_claim text x + claimed_number text (left r es)
claims_own text r es x h o = ap (claimed_number text) (sym (stays r es)) ∙ claims_split text r (λ e. e ∷ []) es x h o ∙ plus_none (own_claim text x) (claimed_number text (left r es))

pub claims_changed : (text : List ℕ) (r : ℕ) (f : Entry → Entry) (es : List Entry) (x : Entry) → Rises es → entry_of r es ≡ Some x → claimed_number text (changed r f es) ≡ own_claim text (f x) + claimed_number text (left r es)
claims_changed text r f es x h o = claims_split text r (λ e. f e ∷ []) es x h o ∙ plus_none (own_claim text (f x)) (claimed_number text (left r es))
