-- What the entry of a receipt tells.
use Rattle.std.proofs.Common.{◌≡◌, ◌∙◌, ℕ, ◌<◌, ◌==◌, List, [], ◌∷◌, arith, refl, sym, ap, subst, Bool, true, false, not, ◌&&◌, ◌||◌, if◌then◌else◌, Option, Some, None, is_some, IfSome, MatchOption}
use Rattle.std.specs.Borrow.{Bor}
use Rattle.std.specs.Option.{option_map}
use Rattle.std.specs.List.{AllByRecursion, list_any}
use Rattle.entry_tree.specs.core_spec.declared.entry.Entry.{Entry}
use Rattle.entry_tree.specs.core_machine.Claims.{is_claimed, attempts_of}
use Rattle.entry_tree.specs.core_spec.Pending.{NoneIsWornOut}
use Rattle.supersede_core.specs.Waiting.{Rises, entry_of, stands, is_queued}

-- whether an entry of the receipt passes a test
abbrev pub passes : (Entry → Bool) → ℕ → List Entry → Bool
passes p r es = list_any (λ (e : Entry). r == e.receipt && p e) es

abbrev pub passes_there : (Entry → Bool) → Option Entry → Bool
passes_there p None = false
passes_there p (Some e) = p e

-- above the receipt no entry is of it
none_above : (p : Entry → Bool) (r n : ℕ) (es : List Entry) → r ≡ n → AllByRecursion (λ (e : Entry). n < e.receipt) es → passes p r es ≡ false
none_above p r n [] e h = refl
none_above p r n (f ∷ es) e h = let other : (r == f.receipt) ≡ false = (let less : r < f.receipt = omega (arith, h.0, e) in grind arith) in rw other (none_above p r n es e h.1)

or_none : (x y : Bool) → y ≡ false → (x || y) ≡ x
or_none true y h = refl
or_none false y h = h

passes_step : (p : Entry → Bool) (r : ℕ) (e : Entry) (es : List Entry) (b : Bool) → (r == e.receipt) ≡ b → AllByRecursion (λ (f : Entry). e.receipt < f.receipt) es
    → passes p r es ≡ passes_there p (entry_of r es) → ((b && p e) || passes p r es) ≡ passes_there p (if b then Some e else entry_of r es)
passes_step p r e es true g h next = or_none (p e) (passes p r es) (none_above p r e.receipt es (grind arith) h)
passes_step p r e es false g h next = next

pub tells : (p : Entry → Bool) (r : ℕ) (es : List Entry) → Rises es → passes p r es ≡ passes_there p (entry_of r es)
tells p r [] h = refl
tells p r (e ∷ es) h = passes_step p r e es (r == e.receipt) refl h.0 (tells p r es h.1)

stands_step : (r : ℕ) (e : Entry) (es : List Entry) (b : Bool) → stands r es ≡ is_some (entry_of r es) → (b || stands r es) ≡ is_some (if b then Some e else entry_of r es)
stands_step r e es true next = refl
stands_step r e es false next = next

pub stands_there : (r : ℕ) (es : List Entry) → stands r es ≡ is_some (entry_of r es)
stands_there r [] = refl
stands_there r (e ∷ es) = stands_step r e es (r == e.receipt) (stands_there r es)

tries_step : (r : ℕ) (e : Entry) (es : List Entry) (b : Bool) → IfSome (entry_of r es) (λ x. attempts_of r es ≡ x.attempts) → IfSome (if b then Some e else entry_of r es) (λ x. (if b then e.attempts else attempts_of r es) ≡ x.attempts)
tries_step r e es true next = refl
tries_step r e es false next = next

pub tries_there : (r : ℕ) (es : List Entry) → IfSome (entry_of r es) (λ x. attempts_of r es ≡ x.attempts)
tries_there r [] = tt
tries_there r (e ∷ es) = tries_step r e es (r == e.receipt) (tries_there r es)

few_step : (r : ℕ) (e : Entry) (es : List Entry) (b : Bool) → e.attempts < 16 → IfSome (entry_of r es) (λ x. x.attempts < 16) → IfSome (if b then Some e else entry_of r es) (λ x. x.attempts < 16)
few_step r e es true h next = h
few_step r e es false h next = next

few_there : (r : ℕ) (es : List Entry) → NoneIsWornOut es → IfSome (entry_of r es) (λ x. x.attempts < 16)
few_there r [] h = tt
few_there r (e ∷ es) h = few_step r e es (r == e.receipt) h.0 (few_there r es h.1)

-- ---- as the code answers: a reference to the entry

abbrev Answers : Option (Bor Entry) → ℕ → List Entry → Type 0
Answers result r es = option_map (λ (e : Bor Entry). e.now) result ≡ entry_of r es

cases_of : (p : Entry → Bool) (x : Bool) (o : Option (Bor Entry)) → x ≡ passes_there p (option_map (λ e. e.now) o) → MatchOption o (x ≡ false) (λ e. x ≡ p e.now)
cases_of p x None h = h
cases_of p x (Some e) h = h

tells_of : (p : Entry → Bool) (result : Option (Bor Entry)) (r : ℕ) (es : List Entry) → Answers result r es → Rises es → MatchOption result (passes p r es ≡ false) (λ e. passes p r es ≡ p e.now)
tells_of p result r es a h = cases_of p (passes p r es) result (tells p r es h ∙ ap (passes_there p) (sym a))

pub queued_of : (result : Option (Bor Entry)) (r : ℕ) (es : List Entry) → Answers result r es → Rises es → MatchOption result (is_queued r es ≡ false) (λ e. is_queued r es ≡ not e.now.claimed)
queued_of = tells_of (λ e. not e.claimed)

pub claimed_of : (result : Option (Bor Entry)) (r : ℕ) (es : List Entry) → Answers result r es → Rises es → MatchOption result (is_claimed r es ≡ false) (λ e. is_claimed r es ≡ e.now.claimed)
claimed_of = tells_of (λ e. e.claimed)

is_some_of : (o : Option (Bor Entry)) → is_some (option_map (λ e. e.now) o) ≡ is_some o
is_some_of None = refl
is_some_of (Some e) = refl

pub stands_of : (result : Option (Bor Entry)) (r : ℕ) (es : List Entry) → Answers result r es → stands r es ≡ is_some result
stands_of result r es a = stands_there r es ∙ ap is_some (sym a) ∙ is_some_of result

some_of : (P : Entry → Type 0) (o : Option (Bor Entry)) → IfSome (option_map (λ e. e.now) o) P → IfSome o (λ e. P e.now)
some_of P None h = tt
some_of P (Some e) h = h

pub tries_of : (result : Option (Bor Entry)) (r : ℕ) (es : List Entry) → Answers result r es → IfSome result (λ e. attempts_of r es ≡ e.now.attempts)
tries_of result r es a = some_of (λ e. attempts_of r es ≡ e.attempts) result (subst (λ o. IfSome o (λ e. attempts_of r es ≡ e.attempts)) (sym a) (tries_there r es))

pub few_of : (result : Option (Bor Entry)) (r : ℕ) (es : List Entry) → Answers result r es → NoneIsWornOut es → IfSome result (λ e. e.now.attempts < 16)
few_of result r es a h = some_of (λ e. e.attempts < 16) result (subst (λ o. IfSome o (λ e. e.attempts < 16)) (sym a) (few_there r es h))
