-- Each event makes of the pending commands what the definitions say.
use Rattle.std.proofs.Common.{◌≡◌, ◌∙◌, ℕ, suc, ◌==◌, List, [], ◌∷◌, ◌++◌, arith, refl, sym, ap, Bool, true, false, if◌then◌else◌}
use Rattle.std.specs.List.{AllByRecursion, flat_map}
use Rattle.std.proofs.lemmas.Grind.{flat_map-append}
use Rattle.std.proofs.lemmas.List.{append-nil}
use Rattle.core_spec.specs.fleet_rows.declared.command.Command.{Command}
use Rattle.core_spec.specs.fleet_rows.declared.refusal.Cause.TheVariants.{Refused, Failures}
use Rattle.core_spec.specs.fleet_rows.declared.settings.Ttls.{Ttls}
use Rattle.core_spec.specs.declared.event.Event.{Event}
use Rattle.core_spec.specs.declared.event.Event.TheVariants.{Submit, Claim, Release, Apply, Supersede, Fail, Discard, Sweep, Restart}
use Rattle.core_spec.specs.declared.entry.Entry.{Entry}
use Rattle.core_spec.specs.History.{History, last_receipt, Standing, unknown, queued, claimed, applied, superseded, discarded, requeued, standing, fails}
use Rattle.core_spec.specs.Legal.{IsLegal, May}
use Rattle.core_spec.specs.Pending.{submitted, waiting, entry_in, pending_of}
use Rattle.core_machine.specs.Laws.{PendingIsFollowed, StepsMakeThePending}
use Rattle.core_machine.specs.Steps.{marked, failed, at_receipt, left_by, new_entry, pending_step}
use Rattle.core_machine.proofs.Receipts.{receipts_are_new, AreGiven, submitted_are_given}

-- ---- lists

module _ {X Y Z : Type 0} where
  pub flat_map-flat_map : (g : Y → List Z) (f : X → List Y) (xs : List X) → flat_map g (flat_map f xs) ≡ flat_map (λ x. flat_map g (f x)) xs
  flat_map-flat_map g f [] = refl
  flat_map-flat_map g f (x ∷ xs) = flat_map-append g (f x) (flat_map f xs) ∙ ap (λ ys. flat_map g (f x) ++ ys) (flat_map-flat_map g f xs)

module _ {X Y : Type 0} where
  pub flat_map-same : (f g : X → List Y) (xs : List X) → AllByRecursion (λ x. f x ≡ g x) xs → flat_map f xs ≡ flat_map g xs
  flat_map-same f g [] h = refl
  flat_map-same f g (x ∷ xs) h = λ i. h.0 i ++ flat_map-same f g xs h.1 i

module _ {X : Type 0} where
  pub every : (P : X → Type 0) (xs : List X) → ((x : X) → P x) → AllByRecursion P xs
  every P [] h = tt
  every P (x ∷ xs) h = (h x, every P xs h)

-- ---- one entry

-- where the receipt is another, the entry stays
stays : (r q : ℕ) (change : Entry → List Entry) (c : Command) (n : ℕ) (s : Standing) → (r == q) ≡ false → flat_map (at_receipt r change) (waiting q c n s) ≡ waiting q c n s
stays r q change c n unknown e = refl
stays r q change c n queued e = rw e refl
stays r q change c n claimed e = rw e refl
stays r q change c n applied e = refl
stays r q change c n (superseded p) e = refl
stays r q change c n (discarded cause) e = refl

same_entry : (c : Command) (q : ℕ) (n : ℕ) (s : Standing) → flat_map (λ e. e ∷ []) (waiting q c n s) ≡ waiting q c n s
same_entry c q n unknown = refl
same_entry c q n queued = refl
same_entry c q n claimed = refl
same_entry c q n applied = refl
same_entry c q n (superseded p) = refl
same_entry c q n (discarded cause) = refl

unmarked : (c : Command) (q : ℕ) (n : ℕ) (s : Standing) → flat_map (λ e. marked false e ∷ []) (waiting q c n s) ≡ waiting q c n (requeued s)
unmarked c q n unknown = refl
unmarked c q n queued = refl
unmarked c q n claimed = refl
unmarked c q n applied = refl
unmarked c q n (superseded p) = refl
unmarked c q n (discarded cause) = refl

-- the entry of the receipt is changed as its standing is
changed : (r q : ℕ) (b : Bool) (change : Entry → List Entry) (c : Command) (n : ℕ) (s t : Standing) (earlier : History)
    → (r == q) ≡ b → standing r earlier ≡ s → flat_map (at_receipt q change) (waiting q c n s) ≡ waiting q c n t
    → flat_map (at_receipt r change) (waiting q c n (standing q earlier)) ≡ waiting q c n (if b then t else standing q earlier)
changed r q true change c n s t earlier e h step =
    let same : r ≡ q = grind arith in
    rw (sym (ap (λ m. standing m earlier) same) ∙ h) (rw same step)
changed r q false change c n s t earlier e h step = stays r q change c n (standing q earlier) e

itself : (q : ℕ) → (q == q) ≡ true
itself q = grind arith

-- ---- one event

abbrev Follows : Event → History → ℕ × Command → Type 0
Follows e earlier s = flat_map (left_by e) (entry_in earlier s) ≡ entry_in (e ∷ earlier) s

failed_at : (r q : ℕ) (b : Bool) (c : Command) (before after : ℕ) (earlier : History) → (r == q) ≡ b → standing r earlier ≡ claimed
    → flat_map (left_by (Fail r before after)) (waiting q c (fails q earlier) (standing q earlier)) ≡ waiting q c (if b then suc (fails q earlier) else fails q earlier) (if b then queued else standing q earlier)
failed_at r q true c before after earlier e h =
    let same : r ≡ q = grind arith in
    rw (sym (ap (λ m. standing m earlier) same) ∙ h, e) refl
failed_at r q false c before after earlier e h = stays r q (λ e. failed e ∷ []) c (fails q earlier) (standing q earlier) e

follows : (ttls : Ttls) (e : Event) (earlier : History) → May ttls e earlier → AreGiven (last_receipt earlier) (submitted earlier) → AllByRecursion (Follows e earlier) (submitted earlier)
follows ttls (Submit r c) earlier h given = older (submitted earlier) given
  where
    older : (xs : List (ℕ × Command)) → AreGiven (last_receipt earlier) xs → AllByRecursion (Follows (Submit r c) earlier) xs
    older [] g = tt
    older (x ∷ xs) g =
        let differ : (r == x.0) ≡ false = grind (arith, g.0, h.receipt) in
        (rw differ (same_entry x.1 x.0 (fails x.0 earlier) (standing x.0 earlier)), older xs g.1)
follows ttls (Claim r) earlier h given =
    every (Follows (Claim r) earlier) (submitted earlier) (λ s. changed r s.0 (r == s.0) (λ e. marked true e ∷ []) s.1 (fails s.0 earlier) queued claimed earlier refl h.queued (rw (itself s.0) refl))
follows ttls (Release r) earlier h given =
    every (Follows (Release r) earlier) (submitted earlier) (λ s. changed r s.0 (r == s.0) (λ e. marked false e ∷ []) s.1 (fails s.0 earlier) claimed queued earlier refl h (rw (itself s.0) refl))
follows ttls (Apply r t) earlier h given =
    every (Follows (Apply r t) earlier) (submitted earlier) (λ s. changed r s.0 (r == s.0) (λ e. []) s.1 (fails s.0 earlier) claimed applied earlier refl h.claimed (rw (itself s.0) refl))
follows ttls (Supersede r p) earlier h given =
    every (Follows (Supersede r p) earlier) (submitted earlier) (λ s. changed r s.0 (r == s.0) (λ e. []) s.1 (fails s.0 earlier) queued (superseded p) earlier refl h.queued (rw (itself s.0) refl))
follows ttls (Fail r before after) earlier h given =
    every (Follows (Fail r before after) earlier) (submitted earlier) (λ s. failed_at r s.0 (r == s.0) s.1 before after earlier refl h.0)
follows ttls (Discard r (Refused refusal)) earlier h given =
    every (Follows (Discard r (Refused refusal)) earlier) (submitted earlier) (λ s. changed r s.0 (r == s.0) (λ e. []) s.1 (fails s.0 earlier) claimed (discarded (Refused refusal)) earlier refl h.0 (rw (itself s.0) refl))
follows ttls (Discard r Failures) earlier h given =
    every (Follows (Discard r Failures) earlier) (submitted earlier) (λ s. changed r s.0 (r == s.0) (λ e. []) s.1 (fails s.0 earlier) queued (discarded Failures) earlier refl h.0 (rw (itself s.0) refl))
follows ttls (Sweep kinds m) earlier h given =
    every (Follows (Sweep kinds m) earlier) (submitted earlier) (λ s. same_entry s.1 s.0 (fails s.0 earlier) (standing s.0 earlier))
follows ttls Restart earlier h given =
    every (Follows Restart earlier) (submitted earlier) (λ s. unmarked s.1 s.0 (fails s.0 earlier) (standing s.0 earlier))

-- the entries of what was submitted before
left : (ttls : Ttls) (e : Event) (earlier : History) → IsLegal ttls (e ∷ earlier) → flat_map (left_by e) (pending_of earlier) ≡ flat_map (entry_in (e ∷ earlier)) (submitted earlier)
left ttls e earlier h =
    flat_map-flat_map (left_by e) (entry_in earlier) (submitted earlier)
    ∙ flat_map-same (λ s. flat_map (left_by e) (entry_in earlier s)) (entry_in (e ∷ earlier)) (submitted earlier) (follows ttls e earlier h.0 (submitted_are_given ttls earlier h.1))

entry_of_new : (ttls : Ttls) (r : ℕ) (c : Command) (earlier : History) → IsLegal ttls (Submit r c ∷ earlier) → entry_in (Submit r c ∷ earlier) (r, c) ≡ new_entry r c ∷ []
entry_of_new ttls r c earlier h =
    rw (itself r, (receipts_are_new ttls earlier r h.1 (λ p. omega (arith, h.0.receipt))).unfailed) refl

nothing_added : (xs : List Entry) → xs ++ [] ≡ xs
nothing_added xs = append-nil xs

pub pending_is_followed : PendingIsFollowed
pending_is_followed ttls (Submit r c) earlier h =
    ap (λ es. es ++ new_entry r c ∷ []) (left ttls (Submit r c) earlier h)
    ∙ ap (λ es. flat_map (entry_in (Submit r c ∷ earlier)) (submitted earlier) ++ es) (sym (append-nil (entry_in (Submit r c ∷ earlier) (r, c)) ∙ entry_of_new ttls r c earlier h))
    ∙ sym (flat_map-append (entry_in (Submit r c ∷ earlier)) (submitted earlier) ((r, c) ∷ []))
pending_is_followed ttls (Claim r) earlier h = nothing_added _ ∙ left ttls (Claim r) earlier h
pending_is_followed ttls (Release r) earlier h = nothing_added _ ∙ left ttls (Release r) earlier h
pending_is_followed ttls (Apply r t) earlier h = nothing_added _ ∙ left ttls (Apply r t) earlier h
pending_is_followed ttls (Supersede q p) earlier h = nothing_added _ ∙ left ttls (Supersede q p) earlier h
pending_is_followed ttls (Fail r before after) earlier h = nothing_added _ ∙ left ttls (Fail r before after) earlier h
pending_is_followed ttls (Discard r cause) earlier h = nothing_added _ ∙ left ttls (Discard r cause) earlier h
pending_is_followed ttls (Sweep kinds m) earlier h = nothing_added _ ∙ left ttls (Sweep kinds m) earlier h
pending_is_followed ttls Restart earlier h = nothing_added _ ∙ left ttls Restart earlier h

pub steps_make_the_pending : StepsMakeThePending
steps_make_the_pending ttls [] h = refl
steps_make_the_pending ttls (e ∷ earlier) h = ap (pending_step e) (steps_make_the_pending ttls earlier h.1) ∙ pending_is_followed ttls e earlier h
