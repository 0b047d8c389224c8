-- The first candidate is queued, and is the entry of its receipt.
use Rattle.std.proofs.Common.{◌≡◌, ◌∙◌, ℕ, ◌<◌, ◌==◌, List, [], ◌∷◌, arith, refl, sym, ap, subst, Bool, true, false, not, ◌&&◌, ◌||◌, if◌then◌else◌, Option, Some, None, IfSome}
use Rattle.std.specs.List.{AllByRecursion}
use Rattle.std.specs.Option.{option_map, option_and_then}
use Rattle.entry_tree.specs.core_spec.declared.entry.Entry.{Entry}
use Rattle.entry_tree.specs.core_machine.Claims.{is_held, is_candidate, first_candidate}
use Rattle.supersede_core.specs.Waiting.{Rises, entry_of, is_queued}

-- what holds of each of the rest holds of the candidate
among_step : (P : Entry → Type 0) (b : Bool) (e : Entry) (o : Option Entry) → P e → IfSome o P → IfSome (if b then Some e else o) P
among_step P true e o h next = h
among_step P false e o h next = next

among : (P : Entry → Type 0) (all es : List Entry) → AllByRecursion P es → IfSome (first_candidate all es) P
among P all [] h = tt
among P all (e ∷ es) h = among_step P (is_candidate all e) e (first_candidate all es) h.0 (among P all es h.1)

-- ---- it is queued

abbrev IsQueuedIn : List Entry → Option Entry → Type 0
IsQueuedIn es o = IfSome o (λ e. is_queued e.receipt es ≡ true)

self_is : (n : ℕ) → (n == n) ≡ true
self_is n = grind arith

here : (b c x : Bool) → b ≡ true → (not c) ≡ true → ((b && not c) || x) ≡ true
here b c x e f = rw (e, f) refl

later : (b c x : Bool) → x ≡ true → ((b && c) || x) ≡ true
later true true x h = refl
later true false x h = h
later false c x h = h

not_claimed : (c h : Bool) → (not c && not h) ≡ true → (not c) ≡ true
not_claimed true h e = e
not_claimed false h e = refl

carried : (e : Entry) (es : List Entry) (o : Option Entry) → IsQueuedIn es o → IsQueuedIn (e ∷ es) o
carried e es None h = tt
carried e es (Some x) h = later (x.receipt == e.receipt) (not e.claimed) (is_queued x.receipt es) h

queued_step : (all : List Entry) (e : Entry) (es : List Entry) (b : Bool) → is_candidate all e ≡ b → IsQueuedIn es (first_candidate all es) → IsQueuedIn (e ∷ es) (if b then Some e else first_candidate all es)
queued_step all e es true h next = here (e.receipt == e.receipt) e.claimed (is_queued e.receipt es) (self_is e.receipt) (not_claimed e.claimed (is_held e.group e.receipt all) h)
queued_step all e es false h next = carried e es (first_candidate all es) next

first_is_queued : (all es : List Entry) → IsQueuedIn es (first_candidate all es)
first_is_queued all [] = tt
first_is_queued all (e ∷ es) = queued_step all e es (is_candidate all e) refl (first_is_queued all es)

-- ---- it is the entry of its receipt

abbrev IsEntryIn : List Entry → Option Entry → Type 0
IsEntryIn es o = IfSome o (λ e. entry_of e.receipt es ≡ Some e)

passed : (e : Entry) (es : List Entry) (o : Option Entry) → IfSome o (λ x. e.receipt < x.receipt) → IsEntryIn es o → IsEntryIn (e ∷ es) o
passed e es None l h = tt
passed e es (Some x) l h = let other : (x.receipt == e.receipt) ≡ false = grind arith in rw other h

entry_step : (all : List Entry) (e : Entry) (es : List Entry) (b : Bool) → AllByRecursion (λ (x : Entry). e.receipt < x.receipt) es → IsEntryIn es (first_candidate all es) → IsEntryIn (e ∷ es) (if b then Some e else first_candidate all es)
entry_step all e es true l next = rw (self_is e.receipt) refl
entry_step all e es false l next = passed e es (first_candidate all es) (among (λ x. e.receipt < x.receipt) all es l) next

candidate_is_entry : (all es : List Entry) → Rises es → IsEntryIn es (first_candidate all es)
candidate_is_entry all [] h = tt
candidate_is_entry all (e ∷ es) h = entry_step all e es (is_candidate all e) h.0 (candidate_is_entry all es h.1)

-- ---- by its receipt

entry_by_step : (es : List Entry) (p : Option Entry) → IsEntryIn es p → option_and_then (λ r. entry_of r es) (option_map (λ (e : Entry). e.receipt) p) ≡ p
entry_by_step es None h = refl
entry_by_step es (Some x) h = h

pub entry_by : (es : List Entry) (o : Option ℕ) → Rises es → o ≡ option_map (λ (e : Entry). e.receipt) (first_candidate es es) → option_and_then (λ r. entry_of r es) o ≡ first_candidate es es
entry_by es o h e = ap (option_and_then (λ r. entry_of r es)) e ∙ entry_by_step es (first_candidate es es) (candidate_is_entry es es h)

queued_by_step : (es : List Entry) (p : Option Entry) → IsQueuedIn es p → IfSome (option_map (λ (e : Entry). e.receipt) p) (λ r. is_queued r es ≡ true)
queued_by_step es None h = tt
queued_by_step es (Some x) h = h

pub queued_by : (es : List Entry) (o : Option ℕ) → o ≡ option_map (λ (e : Entry). e.receipt) (first_candidate es es) → IfSome o (λ r. is_queued r es ≡ true)
queued_by es o e = subst (λ p. IfSome p (λ r. is_queued r es ≡ true)) (sym e) (queued_by_step es (first_candidate es es) (first_is_queued es es))
