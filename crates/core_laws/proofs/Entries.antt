-- The entries that wait are those of the history.
use Rattle.std.proofs.Common.{◌≡◌, ◌∙◌, inl, inr, ℕ, ◌<◌, ◌≤◌, ◌==◌, List, [], ◌∷◌, ◌++◌, length, arith, refl, sym, ap, subst, Bool, true, false, if◌then◌else◌, Option, Some, None}
use Rattle.std.specs.List.{AllByRecursion, flat_map}
use Rattle.std.specs.Option.{option_and_then}
use Rattle.core_machine.proofs.of_plain_laws.Options.{none_some, some_same}
use Rattle.core_machine.specs.fleet_rows.declared.command.Command.{Command}
use Rattle.core_machine.specs.fleet_rows.declared.refusal.Cause.TheVariants.{Refused, Failures}
use Rattle.core_machine.specs.fleet_rows.declared.settings.Ttls.{Ttls}
use Rattle.core_machine.specs.history_spec.Lawful.{HasStamp}
use Rattle.checkpoint_spec.proofs.of_history_laws.Members.{Among, Among-append_cases, Among-from_flat_map, All-Among}
use Rattle.core_machine.specs.core_spec.declared.event.Event.TheVariants.{Submit, Claim, Release, Apply, Supersede, Fail, Discard, Sweep, Restart}
use Rattle.core_machine.specs.core_spec.declared.entry.Entry.{Entry}
use Rattle.core_machine.specs.core_spec.Commands.{key_of}
use Rattle.core_machine.specs.core_spec.History.{History, last_receipt, command, key, Standing, unknown, queued, claimed, applied, superseded, discarded, requeued, standing, fails}
use Rattle.core_machine.specs.core_spec.Legal.{IsLegal}
use Rattle.core_machine.specs.core_spec.Pending.{submitted, waiting, entry_in, pending_of}
use Rattle.core_machine.proofs.Receipts.{AreGiven, submitted_are_given}
use Rattle.core_laws.proofs.Waiting.{HasOne, IsWaiting, has_one}
use Rattle.checkpoint_spec.specs.fleet_rows.json_tree.Limits.{most_payload}

-- ---- a command of which something is known was submitted

abbrev pub IsKnown : Standing → Type 0
IsKnown unknown = ⊥
IsKnown _ = Unit {0}

abbrev pub HasCommand : Option Command → Type 0
HasCommand None = ⊥
HasCommand (Some c) = Unit {0}

still_known : (s : Standing) → IsKnown (requeued s) → IsKnown s
still_known unknown h = h
still_known queued h = tt
still_known claimed h = tt
still_known applied h = tt
still_known (superseded p) h = tt
still_known (discarded cause) h = tt

submit_known : (b : Bool) (c : Command) (s : Standing) (o : Option Command) → IsKnown (if b then queued else s) → (IsKnown s → HasCommand o) → HasCommand (if b then Some c else o)
submit_known true c s o h next = tt
submit_known false c s o h next = next h

-- an event names a command of which something was known
named_known : (b : Bool) (q r : ℕ) (s after : Standing) (earlier : History) → (q == r) ≡ b → standing q earlier ≡ s → IsKnown s → IsKnown (if b then after else standing r earlier) → IsKnown (standing r earlier)
named_known true q r s after earlier e h known k =
    let same : q ≡ r = grind arith in
    subst IsKnown (sym h ∙ ap (λ n. standing n earlier) same) known
named_known false q r s after earlier e h known k = k

pub known_is_submitted : (ttls : Ttls) (r : ℕ) (history : History) → IsLegal ttls history → IsKnown (standing r history) → HasCommand (command r history)
known_is_submitted ttls r [] l k = absurd k
known_is_submitted ttls r (Submit q c ∷ earlier) l k = submit_known (q == r) c (standing r earlier) (command r earlier) k (known_is_submitted ttls r earlier l.1)
known_is_submitted ttls r (Claim q ∷ earlier) l k = known_is_submitted ttls r earlier l.1 (named_known (q == r) q r queued claimed earlier refl l.0.queued tt k)
known_is_submitted ttls r (Release q ∷ earlier) l k = known_is_submitted ttls r earlier l.1 (named_known (q == r) q r claimed queued earlier refl l.0 tt k)
known_is_submitted ttls r (Apply q t ∷ earlier) l k = known_is_submitted ttls r earlier l.1 (named_known (q == r) q r claimed applied earlier refl l.0.claimed tt k)
known_is_submitted ttls r (Supersede q p ∷ earlier) l k = known_is_submitted ttls r earlier l.1 (named_known (q == r) q r queued (superseded p) earlier refl l.0.queued tt k)
known_is_submitted ttls r (Fail q before after ∷ earlier) l k = known_is_submitted ttls r earlier l.1 (named_known (q == r) q r claimed queued earlier refl l.0.0 tt k)
known_is_submitted ttls r (Discard q (Refused f) ∷ earlier) l k = known_is_submitted ttls r earlier l.1 (named_known (q == r) q r claimed (discarded (Refused f)) earlier refl l.0.0 tt k)
known_is_submitted ttls r (Discard q Failures ∷ earlier) l k = known_is_submitted ttls r earlier l.1 (named_known (q == r) q r queued (discarded Failures) earlier refl l.0.0 tt k)
known_is_submitted ttls r (Sweep kinds m ∷ earlier) l k = known_is_submitted ttls r earlier l.1 k
known_is_submitted ttls r (Restart ∷ earlier) l k = known_is_submitted ttls r earlier l.1 (still_known (standing r earlier) k)

-- ---- what was submitted stands under its receipt

below : (last q : ℕ) (s : ℕ × Command) → last < q → s.0 ≤ last → (q == s.0) ≡ false
below last q s l g = let less : s.0 < q = omega (arith, l, g) in grind arith

itself : (r : ℕ) → (r == r) ≡ true
itself r = grind arith

pub submitted_stand : (ttls : Ttls) (history : History) (s : ℕ × Command) → IsLegal ttls history → Among s (submitted history) → command s.0 history ≡ Some s.1
submitted_stand ttls [] s l a = absurd a
submitted_stand ttls (Submit q c ∷ earlier) s l a = elim (Among-append_cases (submitted earlier) ((q, c) ∷ []) s a) [
  | inl b ↦ let other = below (last_receipt earlier) q s (omega (arith, l.0.receipt)) (All-Among (λ (s : ℕ × Command). s.0 ≤ last_receipt earlier) (submitted earlier) s (submitted_are_given ttls earlier l.1) b) in rw other (submitted_stand ttls earlier s l.1 b)
  | inr b ↦ last_stands q c s earlier b
]
  where
    last_stands : (q : ℕ) (c : Command) (s : ℕ × Command) (earlier : History) → Among s ((q, c) ∷ []) → command s.0 (Submit q c ∷ earlier) ≡ Some s.1
    last_stands q c s earlier (inl e) = rw (e, itself q) refl
    last_stands q c s earlier (inr b) = absurd b
submitted_stand ttls (Claim q ∷ earlier) s l a = submitted_stand ttls earlier s l.1 a
submitted_stand ttls (Release q ∷ earlier) s l a = submitted_stand ttls earlier s l.1 a
submitted_stand ttls (Apply q t ∷ earlier) s l a = submitted_stand ttls earlier s l.1 a
submitted_stand ttls (Supersede q p ∷ earlier) s l a = submitted_stand ttls earlier s l.1 a
submitted_stand ttls (Fail q before after ∷ earlier) s l a = submitted_stand ttls earlier s l.1 a
submitted_stand ttls (Discard q cause ∷ earlier) s l a = submitted_stand ttls earlier s l.1 a
submitted_stand ttls (Sweep kinds m ∷ earlier) s l a = submitted_stand ttls earlier s l.1 a
submitted_stand ttls (Restart ∷ earlier) s l a = submitted_stand ttls earlier s l.1 a

-- ---- what was submitted keeps the rules of a submit

pub record IsBounded (c : Command) : Type 0 where
  pub payload : length c.payload ≤ most_payload
  pub received : HasStamp c.received

bounded_step : (b : Bool) (c d : Command) (found : Option Command) → IsBounded d → (if b then Some d else found) ≡ Some c → (found ≡ Some c → IsBounded c) → IsBounded c
bounded_step true c d found h e next = subst IsBounded (sym (some_same d c e)) h
bounded_step false c d found h e next = next e

pub submitted_are_bounded : (ttls : Ttls) (r : ℕ) (c : Command) (history : History) → IsLegal ttls history → command r history ≡ Some c → IsBounded c
submitted_are_bounded ttls r c [] l h = none_some c h
submitted_are_bounded ttls r c (Submit q d ∷ earlier) l h =
    bounded_step (q == r) c d (command r earlier) (record { payload = l.0.payload; received = l.0.received }) h (submitted_are_bounded ttls r c earlier l.1)
submitted_are_bounded ttls r c (Claim q ∷ earlier) l h = submitted_are_bounded ttls r c earlier l.1 h
submitted_are_bounded ttls r c (Release q ∷ earlier) l h = submitted_are_bounded ttls r c earlier l.1 h
submitted_are_bounded ttls r c (Apply q t ∷ earlier) l h = submitted_are_bounded ttls r c earlier l.1 h
submitted_are_bounded ttls r c (Supersede q p ∷ earlier) l h = submitted_are_bounded ttls r c earlier l.1 h
submitted_are_bounded ttls r c (Fail q before after ∷ earlier) l h = submitted_are_bounded ttls r c earlier l.1 h
submitted_are_bounded ttls r c (Discard q cause ∷ earlier) l h = submitted_are_bounded ttls r c earlier l.1 h
submitted_are_bounded ttls r c (Sweep kinds m ∷ earlier) l h = submitted_are_bounded ttls r c earlier l.1 h
submitted_are_bounded ttls r c (Restart ∷ earlier) l h = submitted_are_bounded ttls r c earlier l.1 h

-- ---- what an entry says

abbrev pub standing_if : Bool → Standing
standing_if true = claimed
standing_if false = queued

pub record IsEntryOf (history : History) (e : Entry) : Type 0 where
  pub command_is : command e.receipt history ≡ Some e.command
  pub key_is : key e.receipt history ≡ e.group
  pub stands : standing e.receipt history ≡ standing_if e.claimed
  pub attempts : e.attempts ≡ fails e.receipt history

of_waiting : (history : History) (r : ℕ) (c : Command) (s : Standing) (e : Entry) → command r history ≡ Some c → standing r history ≡ s → Among e (waiting r c (fails r history) s) → IsEntryOf history e
of_waiting history r c unknown e h k a = absurd a
of_waiting history r c queued e h k (inl same) = rw same (record { command_is = h; key_is = ap (option_and_then key_of) h; stands = k; attempts = refl })
of_waiting history r c queued e h k (inr a) = absurd a
of_waiting history r c claimed e h k (inl same) = rw same (record { command_is = h; key_is = ap (option_and_then key_of) h; stands = k; attempts = refl })
of_waiting history r c claimed e h k (inr a) = absurd a
of_waiting history r c applied e h k a = absurd a
of_waiting history r c (superseded p) e h k a = absurd a
of_waiting history r c (discarded cause) e h k a = absurd a

pub entry_is_of : (ttls : Ttls) (history : History) (e : Entry) → IsLegal ttls history → Among e (pending_of history) → IsEntryOf history e
entry_is_of ttls history e l a =
    let from = Among-from_flat_map (entry_in history) (submitted history) e a in
    of_waiting history from.0.0 from.0.1 (standing from.0.0 history) e (submitted_stand ttls history from.0 l from.1) refl from.2

-- ---- and a command that waits has an entry

pub record HasEntry (r : ℕ) (es : List Entry) : Type 0 where
  pub entry : Entry
  pub among : Among entry es
  pub receipt : entry.receipt ≡ r

entry_in_one : (r : ℕ) (c : Command) (es : List Entry) → HasOne r c es → HasEntry r es
entry_in_one r c [] h = absurd h
entry_in_one r c (e ∷ es) (inl h) = record { entry = e; among = inl refl; receipt = h.0 }
entry_in_one r c (e ∷ es) (inr h) = let rest = entry_in_one r c es h.1 in record { entry = rest.entry; among = inr rest.among; receipt = rest.receipt }

waits_is_known : (s : Standing) → IsWaiting s → IsKnown s
waits_is_known unknown w = w
waits_is_known queued w = tt
waits_is_known claimed w = tt
waits_is_known applied w = tt
waits_is_known (superseded p) w = tt
waits_is_known (discarded cause) w = tt

pub has_entry : (ttls : Ttls) (r : ℕ) (history : History) → IsLegal ttls history → IsWaiting (standing r history) → HasEntry r (pending_of history)
has_entry ttls r history l w = of (command r history) refl (known_is_submitted ttls r history l (waits_is_known (standing r history) w))
  where
    of : (o : Option Command) → command r history ≡ o → HasCommand o → HasEntry r (pending_of history)
    of None e h = absurd h
    of (Some c) e h = entry_in_one r c (pending_of history) (has_one ttls r c history l e w)

-- ---- receipts rise

abbrev pub Rises : List Entry → Type 0
Rises [] = Unit {0}
Rises (e ∷ es) = AllByRecursion (λ (f : Entry). e.receipt < f.receipt) es × Rises es

abbrev pub SubmitsRise : List (ℕ × Command) → Type 0
SubmitsRise [] = Unit {0}
SubmitsRise (s ∷ ss) = AllByRecursion (λ (t : ℕ × Command). s.0 < t.0) ss × SubmitsRise ss

rise_more : (xs : List (ℕ × Command)) (n q : ℕ) (c : Command) → AreGiven n xs → n < q → SubmitsRise xs → SubmitsRise (xs ++ (q, c) ∷ [])
rise_more [] n q c g l r = (tt, tt)
rise_more (x ∷ xs) n q c g l r = (all_more xs r.0, rise_more xs n q c g.1 l r.1)
  where
    all_more : (ys : List (ℕ × Command)) → AllByRecursion (λ (t : ℕ × Command). x.0 < t.0) ys → AllByRecursion (λ (t : ℕ × Command). x.0 < t.0) (ys ++ (q, c) ∷ [])
    all_more [] h = (omega (arith, g.0, l), tt)
    all_more (y ∷ ys) h = (h.0, all_more ys h.1)

pub submitted_rise : (ttls : Ttls) (history : History) → IsLegal ttls history → SubmitsRise (submitted history)
submitted_rise ttls [] l = tt
submitted_rise ttls (Submit q c ∷ earlier) l = rise_more (submitted earlier) (last_receipt earlier) q c (submitted_are_given ttls earlier l.1) (omega (arith, l.0.receipt)) (submitted_rise ttls earlier l.1)
submitted_rise ttls (Claim q ∷ earlier) l = submitted_rise ttls earlier l.1
submitted_rise ttls (Release q ∷ earlier) l = submitted_rise ttls earlier l.1
submitted_rise ttls (Apply q t ∷ earlier) l = submitted_rise ttls earlier l.1
submitted_rise ttls (Supersede q p ∷ earlier) l = submitted_rise ttls earlier l.1
submitted_rise ttls (Fail q before after ∷ earlier) l = submitted_rise ttls earlier l.1
submitted_rise ttls (Discard q cause ∷ earlier) l = submitted_rise ttls earlier l.1
submitted_rise ttls (Sweep kinds m ∷ earlier) l = submitted_rise ttls earlier l.1
submitted_rise ttls (Restart ∷ earlier) l = submitted_rise ttls earlier l.1

module _ (history : History) where
  above_more : (n r : ℕ) (c : Command) (k : ℕ) (s : Standing) (es : List Entry) → n < r → AllByRecursion (λ (f : Entry). n < f.receipt) es → AllByRecursion (λ (f : Entry). n < f.receipt) (waiting r c k s ++ es)
  above_more n r c k unknown es l h = h
  above_more n r c k queued es l h = (l, h)
  above_more n r c k claimed es l h = (l, h)
  above_more n r c k applied es l h = h
  above_more n r c k (superseded p) es l h = h
  above_more n r c k (discarded cause) es l h = h

  above : (n : ℕ) (xs : List (ℕ × Command)) → AllByRecursion (λ (t : ℕ × Command). n < t.0) xs → AllByRecursion (λ (f : Entry). n < f.receipt) (flat_map (entry_in history) xs)
  above n [] h = tt
  above n (x ∷ xs) h = above_more n x.0 x.1 (fails x.0 history) (standing x.0 history) (flat_map (entry_in history) xs) h.0 (above n xs h.1)

  rises_more : (r : ℕ) (c : Command) (k : ℕ) (s : Standing) (es : List Entry) → AllByRecursion (λ (f : Entry). r < f.receipt) es → Rises es → Rises (waiting r c k s ++ es)
  rises_more r c k unknown es h g = g
  rises_more r c k queued es h g = (h, g)
  rises_more r c k claimed es h g = (h, g)
  rises_more r c k applied es h g = g
  rises_more r c k (superseded p) es h g = g
  rises_more r c k (discarded cause) es h g = g

  rises : (xs : List (ℕ × Command)) → SubmitsRise xs → Rises (flat_map (entry_in history) xs)
  rises [] h = tt
  rises (x ∷ xs) h = rises_more x.0 x.1 (fails x.0 history) (standing x.0 history) (flat_map (entry_in history) xs) (above x.0 xs h.0) (rises xs h.1)

pub pending_rises : (ttls : Ttls) (history : History) → IsLegal ttls history → Rises (pending_of history)
pending_rises ttls history l = rises history (submitted history) (submitted_rise ttls history l)
