-- What has ended stays so.
use Rattle.std.proofs.Common.{◌≡◌, ◌∙◌, ℕ, suc, ◌==◌, List, [], ◌∷◌, ◌++◌, arith, refl, sym, ap, subst, Bool, true, false, ◌||◌, if◌then◌else◌}
use Rattle.std.specs.List.{list_any}
use Rattle.core_machine.proofs.of_plain_laws.Booleans.{no_truth}
use Rattle.core_machine.specs.fleet_rows.declared.refusal.Cause.{Cause}
use Rattle.core_machine.specs.fleet_rows.declared.refusal.Cause.TheVariants.{Refused, Failures}
use Rattle.core_machine.specs.fleet_rows.declared.settings.Ttls.{Ttls}
use Rattle.core_machine.specs.core_spec.declared.event.Event.{Event}
use Rattle.core_machine.specs.core_spec.declared.event.Event.TheVariants.{Submit, Claim, Release, Apply, Supersede, Fail, Discard, Sweep, Restart}
use Rattle.core_machine.specs.core_spec.History.{History, last_receipt, Standing, unknown, queued, claimed, applied, superseded, discarded, requeued, standing}
use Rattle.core_machine.specs.core_spec.Legal.{IsLegal}
use Rattle.core_machine.proofs.Receipts.{receipts_are_new}
use Rattle.core_laws.specs.Threads.{dropped}

abbrev pub IsEnded : Standing → Type 0
IsEnded unknown = ⊥
IsEnded queued = ⊥
IsEnded claimed = ⊥
IsEnded applied = Unit {0}
IsEnded (superseded p) = Unit {0}
IsEnded (discarded cause) = Unit {0}

ended_stays_queued : (s : Standing) → IsEnded s → requeued s ≡ s
ended_stays_queued unknown h = absurd h
ended_stays_queued queued h = absurd h
ended_stays_queued claimed h = absurd h
ended_stays_queued applied h = refl
ended_stays_queued (superseded p) h = refl
ended_stays_queued (discarded cause) h = refl

-- an event that names a command which hasn't ended names another
names_other : (b : Bool) (q r : ℕ) (s after : Standing) (earlier : History) → (q == r) ≡ b → standing q earlier ≡ s → (IsEnded s → ⊥) → IsEnded (standing r earlier) → (if b then after else standing r earlier) ≡ standing r earlier
names_other true q r s after earlier e h going ended =
    let same : q ≡ r = grind arith in
    absurd (going (subst IsEnded (sym (ap (λ n. standing n earlier) same) ∙ h) ended))
names_other false q r s after earlier e h going ended = refl

submits_other : (b : Bool) (q r : ℕ) (ttls : Ttls) (earlier : History) → (q == r) ≡ b → q ≡ suc (last_receipt earlier) → IsLegal ttls earlier → IsEnded (standing r earlier) → (if b then queued else standing r earlier) ≡ standing r earlier
submits_other true q r ttls earlier e h l ended =
    let same : q ≡ r = grind arith in
    absurd (subst IsEnded (receipts_are_new ttls earlier r l (λ p. omega (arith, h, same))).unknown ended)
submits_other false q r ttls earlier e h l ended = refl

pub ended_stays : (ttls : Ttls) (e : Event) (earlier : History) (r : ℕ) → IsLegal ttls (e ∷ earlier) → IsEnded (standing r earlier) → standing r (e ∷ earlier) ≡ standing r earlier
ended_stays ttls (Submit q c) earlier r l h = submits_other (q == r) q r ttls earlier refl l.0.receipt l.1 h
ended_stays ttls (Claim q) earlier r l h = names_other (q == r) q r queued claimed earlier refl l.0.queued (λ x. x) h
ended_stays ttls (Release q) earlier r l h = names_other (q == r) q r claimed queued earlier refl l.0 (λ x. x) h
ended_stays ttls (Apply q t) earlier r l h = names_other (q == r) q r claimed applied earlier refl l.0.claimed (λ x. x) h
ended_stays ttls (Supersede q p) earlier r l h = names_other (q == r) q r queued (superseded p) earlier refl l.0.queued (λ x. x) h
ended_stays ttls (Fail q before after) earlier r l h = names_other (q == r) q r claimed queued earlier refl l.0.0 (λ x. x) h
ended_stays ttls (Discard q (Refused refusal)) earlier r l h = names_other (q == r) q r claimed (discarded (Refused refusal)) earlier refl l.0.0 (λ x. x) h
ended_stays ttls (Discard q Failures) earlier r l h = names_other (q == r) q r queued (discarded Failures) earlier refl l.0.0 (λ x. x) h
ended_stays ttls (Sweep kinds m) earlier r l h = refl
ended_stays ttls Restart earlier r l h = ended_stays_queued (standing r earlier) h

-- ---- what was discarded

abbrev pub drops : List ℕ → ℕ → Bool
drops ds r = list_any (λ q. q == r) ds

abbrev pub IsDiscarded : Standing → Type 0
IsDiscarded (discarded cause) = Unit {0}
IsDiscarded _ = ⊥

discarded_is_ended : (s : Standing) → IsDiscarded s → IsEnded s
discarded_is_ended unknown h = h
discarded_is_ended queued h = h
discarded_is_ended claimed h = h
discarded_is_ended applied h = tt
discarded_is_ended (superseded p) h = tt
discarded_is_ended (discarded cause) h = tt

module _ (ttls : Ttls) (start : History) where
  still : (e : Event) (run : History) (r : ℕ) → IsLegal ttls (e ∷ (run ++ start)) → IsDiscarded (standing r (run ++ start)) → IsDiscarded (standing r (e ∷ (run ++ start)))
  still e run r l h = subst IsDiscarded (sym (ended_stays ttls e (run ++ start) r l (discarded_is_ended (standing r (run ++ start)) h))) h

  named : (b : Bool) (q r : ℕ) (cause : Cause) (run : History) → (q == r) ≡ b → IsLegal ttls (Discard q cause ∷ (run ++ start)) → (b || drops (dropped run) r) ≡ true → (drops (dropped run) r ≡ true → IsDiscarded (standing r (run ++ start))) → IsDiscarded (standing r (Discard q cause ∷ (run ++ start)))
  named true q r cause run e l h next = rw e tt
  named false q r cause run e l h next = still (Discard q cause) run r l (next h)

  pub dropped_is_discarded : (run : History) (r : ℕ) → IsLegal ttls (run ++ start) → drops (dropped run) r ≡ true → IsDiscarded (standing r (run ++ start))
  dropped_is_discarded [] r l h = no_truth h
  dropped_is_discarded (Submit q c ∷ run) r l h = still (Submit q c) run r l (dropped_is_discarded run r l.1 h)
  dropped_is_discarded (Claim q ∷ run) r l h = still (Claim q) run r l (dropped_is_discarded run r l.1 h)
  dropped_is_discarded (Release q ∷ run) r l h = still (Release q) run r l (dropped_is_discarded run r l.1 h)
  dropped_is_discarded (Apply q t ∷ run) r l h = still (Apply q t) run r l (dropped_is_discarded run r l.1 h)
  dropped_is_discarded (Supersede q p ∷ run) r l h = still (Supersede q p) run r l (dropped_is_discarded run r l.1 h)
  dropped_is_discarded (Fail q before after ∷ run) r l h = still (Fail q before after) run r l (dropped_is_discarded run r l.1 h)
  dropped_is_discarded (Discard q cause ∷ run) r l h = named (q == r) q r cause run refl l h (dropped_is_discarded run r l.1)
  dropped_is_discarded (Sweep kinds m ∷ run) r l h = still (Sweep kinds m) run r l (dropped_is_discarded run r l.1 h)
  dropped_is_discarded (Restart ∷ run) r l h = still Restart run r l (dropped_is_discarded run r l.1 h)

-- ---- a set of receipts that has exactly those of a run that are discarded in the end

abbrev pub Agrees : List ℕ → History → Type 0
Agrees ds [] = Unit {0}
Agrees ds (Apply r t ∷ run) = (drops ds r ≡ false) × Agrees ds run
Agrees ds (Supersede r p ∷ run) = (drops ds r ≡ false) × Agrees ds run
Agrees ds (Discard r cause ∷ run) = (drops ds r ≡ true) × Agrees ds run
Agrees ds (_ ∷ run) = Agrees ds run

module _ (ttls : Ttls) (start : History) (ds : List ℕ) (final : ℕ → Standing) (dropped_in_the_end : (r : ℕ) → drops ds r ≡ true → IsDiscarded (final r)) where
  -- of a part of the run
  record Leads (run : History) : Type 0 where
    stay : (r : ℕ) → IsEnded (standing r (run ++ start)) → final r ≡ standing r (run ++ start)
    drop : (r : ℕ) → drops (dropped run) r ≡ true → drops ds r ≡ true

  earlier : (e : Event) (run : History) → IsLegal ttls (e ∷ (run ++ start)) → ((r : ℕ) → drops (dropped run) r ≡ true → drops (dropped (e ∷ run)) r ≡ true) → Leads (e ∷ run) → Leads run
  earlier e run l more h = record {
    stay = λ r ended. let step = ended_stays ttls e (run ++ start) r l ended in h.stay r (subst IsEnded (sym step) ended) ∙ step;
    drop = λ r d. h.drop r (more r d);
  }

  not_dropped : (b : Bool) (r : ℕ) → drops ds r ≡ b → (s : Standing) → final r ≡ s → (IsDiscarded s → ⊥) → b ≡ false
  not_dropped false r e s f no_discard = refl
  not_dropped true r e s f no_discard = absurd (no_discard (subst IsDiscarded f (dropped_in_the_end r e)))

  itself : (r : ℕ) → (r == r) ≡ true
  itself r = grind arith

  one_of_more : (q r : ℕ) (b : Bool) → b ≡ true → ((q == r) || b) ≡ true
  one_of_more q r b e = rw e (always (q == r))
    where
      always : (c : Bool) → (c || true) ≡ true
      always true = refl
      always false = refl

  agrees : (run : History) → IsLegal ttls (run ++ start) → Leads run → Agrees ds run
  agrees [] l h = tt
  agrees (Submit q c ∷ run) l h = agrees run l.1 (earlier (Submit q c) run l (λ r d. d) h)
  agrees (Claim q ∷ run) l h = agrees run l.1 (earlier (Claim q) run l (λ r d. d) h)
  agrees (Release q ∷ run) l h = agrees run l.1 (earlier (Release q) run l (λ r d. d) h)
  agrees (Apply q t ∷ run) l h =
      let now : standing q (Apply q t ∷ (run ++ start)) ≡ applied = rw (itself q) refl in
      (not_dropped (drops ds q) q refl applied (h.stay q (subst IsEnded (sym now) tt) ∙ now) (λ x. x), agrees run l.1 (earlier (Apply q t) run l (λ r d. d) h))
  agrees (Supersede q p ∷ run) l h =
      let now : standing q (Supersede q p ∷ (run ++ start)) ≡ superseded p = rw (itself q) refl in
      (not_dropped (drops ds q) q refl (superseded p) (h.stay q (subst IsEnded (sym now) tt) ∙ now) (λ x. x), agrees run l.1 (earlier (Supersede q p) run l (λ r d. d) h))
  agrees (Fail q before after ∷ run) l h = agrees run l.1 (earlier (Fail q before after) run l (λ r d. d) h)
  agrees (Discard q cause ∷ run) l h =
      (h.drop q (rw (itself q) refl), agrees run l.1 (earlier (Discard q cause) run l (λ r d. one_of_more q r (drops (dropped run) r) d) h))
  agrees (Sweep kinds m ∷ run) l h = agrees run l.1 (earlier (Sweep kinds m) run l (λ r d. d) h)
  agrees (Restart ∷ run) l h = agrees run l.1 (earlier Restart run l (λ r d. d) h)

pub the_dropped_agree : (ttls : Ttls) (start run : History) → IsLegal ttls (run ++ start) → Agrees (dropped run) run
the_dropped_agree ttls start run l =
    agrees ttls start (dropped run) (λ r. standing r (run ++ start)) (λ r d. dropped_is_discarded ttls start run r l d) run l
    (record { stay = λ r e. refl; drop = λ r d. d })
