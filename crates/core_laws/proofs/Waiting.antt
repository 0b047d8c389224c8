-- A command that is queued or claimed stands once in the list of pending commands.
use Rattle.std.proofs.Common.{◌≡◌, ◌⊎◌, inl, inr, ℕ, ◌<◌, ◌==◌, List, [], ◌∷◌, ◌++◌, arith, refl, Bool, true, false, if◌then◌else◌, Option, Some}
use Rattle.std.specs.List.{AllByRecursion, flat_map}
use Rattle.core_machine.proofs.of_plain_laws.Options.{none_some}
use Rattle.core_machine.specs.fleet_rows.declared.command.Command.{Command}
use Rattle.core_machine.specs.fleet_rows.declared.settings.Ttls.{Ttls}
use Rattle.core_machine.specs.core_spec.declared.event.Event.TheVariants.{Submit, Claim, Release, Apply, Supersede, Fail, Discard, Sweep, Restart}
use Rattle.core_machine.specs.core_spec.declared.entry.Entry.{Entry}
use Rattle.core_machine.specs.core_spec.History.{History, last_receipt, command, Standing, unknown, queued, claimed, applied, superseded, discarded, standing, fails}
use Rattle.core_machine.specs.core_spec.Legal.{IsLegal}
use Rattle.core_machine.specs.core_spec.Pending.{submitted, waiting, entry_in, pending_of}
use Rattle.core_machine.proofs.Receipts.{AreGiven, submitted_are_given}

-- ---- what was submitted

abbrev pub LacksSubmit : ℕ → List (ℕ × Command) → Type 0
LacksSubmit r = AllByRecursion (λ (s : ℕ × Command). (r == s.0) ≡ false)

-- under r stands c, and nothing else
abbrev pub OneSubmit : ℕ → Command → List (ℕ × Command) → Type 0
OneSubmit r c [] = ⊥
OneSubmit r c (s ∷ rest) = ((s.0 ≡ r) × (s.1 ≡ c) × LacksSubmit r rest) ⊎ (((r == s.0) ≡ false) × OneSubmit r c rest)

given_lacks : (r n : ℕ) (xs : List (ℕ × Command)) → n < r → AreGiven n xs → LacksSubmit r xs
given_lacks r n [] l g = tt
given_lacks r n (x ∷ xs) l g = (let above : x.0 < r = omega (arith, l, g.0) in grind arith, given_lacks r n xs l g.1)

last_is_one : (r : ℕ) (c : Command) (xs : List (ℕ × Command)) → LacksSubmit r xs → OneSubmit r c (xs ++ (r, c) ∷ [])
last_is_one r c [] l = inl (refl, refl, tt)
last_is_one r c (x ∷ xs) l = inr (l.0, last_is_one r c xs l.1)

lacks_more : (r : ℕ) (xs : List (ℕ × Command)) (s : ℕ × Command) → LacksSubmit r xs → (r == s.0) ≡ false → LacksSubmit r (xs ++ s ∷ [])
lacks_more r [] s l e = (e, tt)
lacks_more r (x ∷ xs) s l e = (l.0, lacks_more r xs s l.1 e)

one_more : (r : ℕ) (c : Command) (xs : List (ℕ × Command)) (s : ℕ × Command) → OneSubmit r c xs → (r == s.0) ≡ false → OneSubmit r c (xs ++ s ∷ [])
one_more r c [] s o e = absurd o
one_more r c (x ∷ xs) s (inl h) e = inl (h.0, h.1, lacks_more r xs s h.2 e)
one_more r c (x ∷ xs) s (inr h) e = inr (h.0, one_more r c xs s h.1 e)

some_is : (a b : Command) → ◌≡◌ {A = Option Command} (Some a) (Some b) → a ≡ b
some_is a b h = cc

turned : (q r : ℕ) → (q == r) ≡ false → (r == q) ≡ false
turned q r e = grind arith

submit_step : (b : Bool) (q r last : ℕ) (c d : Command) (found : Option Command) (xs : List (ℕ × Command)) → (q == r) ≡ b → last < q → AreGiven last xs
    → (if b then Some d else found) ≡ Some c → (found ≡ Some c → OneSubmit r c xs) → OneSubmit r c (xs ++ (q, d) ∷ [])
submit_step true q r last c d found xs e l g h next =
    let same : q ≡ r = grind arith in
    let is : d ≡ c = some_is d c h in
    rw (same, is) (last_is_one r c xs (given_lacks r last xs (omega (arith, l, same)) g))
submit_step false q r last c d found xs e l g h next = one_more r c xs (q, d) (next h) (turned q r e)

pub one_submit : (ttls : Ttls) (r : ℕ) (c : Command) (history : History) → IsLegal ttls history → command r history ≡ Some c → OneSubmit r c (submitted history)
one_submit ttls r c [] l h = none_some c h
one_submit ttls r c (Submit q d ∷ earlier) l h =
    submit_step (q == r) q r (last_receipt earlier) c d (command r earlier) (submitted earlier) refl (omega (arith, l.0.receipt)) (submitted_are_given ttls earlier l.1) h (one_submit ttls r c earlier l.1)
one_submit ttls r c (Claim q ∷ earlier) l h = one_submit ttls r c earlier l.1 h
one_submit ttls r c (Release q ∷ earlier) l h = one_submit ttls r c earlier l.1 h
one_submit ttls r c (Apply q t ∷ earlier) l h = one_submit ttls r c earlier l.1 h
one_submit ttls r c (Supersede q p ∷ earlier) l h = one_submit ttls r c earlier l.1 h
one_submit ttls r c (Fail q before after ∷ earlier) l h = one_submit ttls r c earlier l.1 h
one_submit ttls r c (Discard q cause ∷ earlier) l h = one_submit ttls r c earlier l.1 h
one_submit ttls r c (Sweep kinds m ∷ earlier) l h = one_submit ttls r c earlier l.1 h
one_submit ttls r c (Restart ∷ earlier) l h = one_submit ttls r c earlier l.1 h

-- ---- what is pending

abbrev pub Lacks : ℕ → List Entry → Type 0
Lacks r = AllByRecursion (λ (e : Entry). (r == e.receipt) ≡ false)

abbrev pub HasOne : ℕ → Command → List Entry → Type 0
HasOne r c [] = ⊥
HasOne r c (e ∷ es) = ((e.receipt ≡ r) × (e.command ≡ c) × Lacks r es) ⊎ (((r == e.receipt) ≡ false) × HasOne r c es)

abbrev pub IsWaiting : Standing → Type 0
IsWaiting queued = Unit {0}
IsWaiting claimed = Unit {0}
IsWaiting _ = ⊥

lacks_append : (r : ℕ) (es fs : List Entry) → Lacks r es → Lacks r fs → Lacks r (es ++ fs)
lacks_append r [] fs h k = k
lacks_append r (e ∷ es) fs h k = (h.0, lacks_append r es fs h.1 k)

one_append : (r : ℕ) (c : Command) (es fs : List Entry) → Lacks r es → HasOne r c fs → HasOne r c (es ++ fs)
one_append r c [] fs h k = k
one_append r c (e ∷ es) fs h k = inr (h.0, one_append r c es fs h.1 k)

waiting_lacks : (r q : ℕ) (c : Command) (n : ℕ) (s : Standing) → (r == q) ≡ false → Lacks r (waiting q c n s)
waiting_lacks r q c n unknown e = tt
waiting_lacks r q c n queued e = (e, tt)
waiting_lacks r q c n claimed e = (e, tt)
waiting_lacks r q c n applied e = tt
waiting_lacks r q c n (superseded p) e = tt
waiting_lacks r q c n (discarded cause) e = tt

waiting_one : (r : ℕ) (c : Command) (n : ℕ) (s : Standing) (fs : List Entry) → IsWaiting s → Lacks r fs → HasOne r c (waiting r c n s ++ fs)
waiting_one r c n unknown fs w l = absurd w
waiting_one r c n queued fs w l = inl (refl, refl, l)
waiting_one r c n claimed fs w l = inl (refl, refl, l)
waiting_one r c n applied fs w l = absurd w
waiting_one r c n (superseded p) fs w l = absurd w
waiting_one r c n (discarded cause) fs w l = absurd w

module _ (history : History) where
  pending_lacks : (r : ℕ) (xs : List (ℕ × Command)) → LacksSubmit r xs → Lacks r (flat_map (entry_in history) xs)
  pending_lacks r [] l = tt
  pending_lacks r (x ∷ xs) l = lacks_append r (entry_in history x) (flat_map (entry_in history) xs) (waiting_lacks r x.0 x.1 (fails x.0 history) (standing x.0 history) l.0) (pending_lacks r xs l.1)

  pending_one : (r : ℕ) (c : Command) (xs : List (ℕ × Command)) → IsWaiting (standing r history) → OneSubmit r c xs → HasOne r c (flat_map (entry_in history) xs)
  pending_one r c [] w o = absurd o
  pending_one r c (x ∷ xs) w (inl h) =
      let rest = pending_lacks r xs h.2 in
      rw (h.0, h.1) (waiting_one r c (fails r history) (standing r history) (flat_map (entry_in history) xs) w rest)
  pending_one r c (x ∷ xs) w (inr h) =
      one_append r c (entry_in history x) (flat_map (entry_in history) xs) (waiting_lacks r x.0 x.1 (fails x.0 history) (standing x.0 history) h.0) (pending_one r c xs w h.1)

-- a command that waits stands once among the pending
pub has_one : (ttls : Ttls) (r : ℕ) (c : Command) (history : History) → IsLegal ttls history → command r history ≡ Some c → IsWaiting (standing r history) → HasOne r c (pending_of history)
has_one ttls r c history l h w = pending_one history r c (submitted history) w (one_submit ttls r c history l h)
