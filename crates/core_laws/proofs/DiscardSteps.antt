-- A discard comes to its place, and no other event changes the discarded commands.
use Rattle.std.proofs.Common.{◌≡◌, ◌∙◌, ℕ, ◌<◌, ◌==◌, List, [], ◌∷◌, ◌++◌, arith, refl, sym, ap, Bool, true, false, if◌then◌else◌}
use Rattle.std.specs.List.{AllByRecursion, flat_map}
use Rattle.std.proofs.lemmas.Grind.{flat_map-append}
use Rattle.std.proofs.lemmas.List.{append-nil}
use Rattle.core_machine.specs.fleet_rows.declared.command.Command.{Command}
use Rattle.core_machine.specs.fleet_rows.declared.refusal.Cause.{Cause}
use Rattle.core_machine.specs.fleet_rows.declared.refusal.Cause.TheVariants.{Refused, Failures}
use Rattle.core_machine.specs.fleet_rows.declared.settings.Ttls.{Ttls}
use Rattle.core_machine.specs.core_spec.declared.event.Event.{Event}
use Rattle.core_machine.specs.core_spec.declared.event.Event.TheVariants.{Submit, Claim, Release, Apply, Supersede, Fail, Discard, Sweep, Restart}
use Rattle.core_machine.specs.core_spec.Discards.{dead_if, dead_in, dead_of}
use Rattle.core_machine.specs.core_spec.History.{History, last_receipt, Standing, unknown, queued, claimed, applied, superseded, discarded, requeued, standing}
use Rattle.core_machine.specs.core_spec.Legal.{IsLegal}
use Rattle.core_machine.specs.core_spec.Pending.{submitted}
use Rattle.core_machine.proofs.PendingSteps.{flat_map-same, every}
use Rattle.core_machine.proofs.Receipts.{AreGiven, submitted_are_given}
use Rattle.core_laws.proofs.DeadPuts.{dead_own, one_is_put}
use Rattle.core_laws.proofs.Entries.{submitted_rise}
use Rattle.core_laws.proofs.Waiting.{one_submit}
use Rattle.core_laws.specs.Discards.{DiscardsArePut, OthersDiscardNothing}

-- ---- others

of_named : (b : Bool) (q : ℕ) (c : Command) (r : ℕ) (s after : Standing) (earlier : History) → (r == q) ≡ b → standing r earlier ≡ s → dead_if q c s ≡ [] → dead_if q c after ≡ [] → dead_if q c (if b then after else standing q earlier) ≡ dead_if q c (standing q earlier)
of_named true q c r s after earlier e h none now =
    let same : r ≡ q = grind arith in
    now ∙ sym (ap (dead_if q c) (sym (ap (λ n. standing n earlier) same) ∙ h) ∙ none)
of_named false q c r s after earlier e h none now = refl

requeued_dead : (q : ℕ) (c : Command) (s : Standing) → dead_if q c (requeued s) ≡ dead_if q c s
requeued_dead q c unknown = refl
requeued_dead q c queued = refl
requeued_dead q c claimed = refl
requeued_dead q c applied = refl
requeued_dead q c (superseded p) = refl
requeued_dead q c (discarded cause) = refl

module _ (e : Event) (earlier : History) where
  abbrev Keeps : ℕ × Command → Type 0
  Keeps s = dead_in (e ∷ earlier) s ≡ dead_in earlier s

  all_kept : submitted (e ∷ earlier) ≡ submitted earlier → AllByRecursion Keeps (submitted earlier) → dead_of (e ∷ earlier) ≡ dead_of earlier
  all_kept same h = ap (flat_map (dead_in (e ∷ earlier))) same ∙ flat_map-same (dead_in (e ∷ earlier)) (dead_in earlier) (submitted earlier) h

older : (r : ℕ) (c : Command) (earlier : History) (n : ℕ) (xs : List (ℕ × Command)) → n < r → AreGiven n xs → AllByRecursion (Keeps (Submit r c) earlier) xs
older r c earlier n [] l g = tt
older r c earlier n (x ∷ xs) l g = (let differ : (r == x.0) ≡ false = (let less : x.0 < r = omega (arith, l, g.0) in grind arith) in rw differ refl, older r c earlier n xs l g.1)

itself : (r : ℕ) → (r == r) ≡ true
itself r = grind arith

pub others_discard_nothing : OthersDiscardNothing
others_discard_nothing ttls (Submit r c) earlier l n =
    flat_map-append (dead_in (Submit r c ∷ earlier)) (submitted earlier) ((r, c) ∷ [])
    ∙ (λ i. flat_map-same (dead_in (Submit r c ∷ earlier)) (dead_in earlier) (submitted earlier) (older r c earlier (last_receipt earlier) (submitted earlier) (omega (arith, l.0.receipt)) (submitted_are_given ttls earlier l.1)) i ++ none i)
    ∙ append-nil (dead_of earlier)
  where
    none : flat_map (dead_in (Submit r c ∷ earlier)) ((r, c) ∷ []) ≡ []
    none = rw (itself r) refl
others_discard_nothing ttls (Claim r) earlier l n = all_kept (Claim r) earlier refl (every (Keeps (Claim r) earlier) (submitted earlier) (λ s. of_named (r == s.0) s.0 s.1 r queued claimed earlier refl l.0.queued refl refl))
others_discard_nothing ttls (Release r) earlier l n = all_kept (Release r) earlier refl (every (Keeps (Release r) earlier) (submitted earlier) (λ s. of_named (r == s.0) s.0 s.1 r claimed queued earlier refl l.0 refl refl))
others_discard_nothing ttls (Apply r t) earlier l n = all_kept (Apply r t) earlier refl (every (Keeps (Apply r t) earlier) (submitted earlier) (λ s. of_named (r == s.0) s.0 s.1 r claimed applied earlier refl l.0.claimed refl refl))
others_discard_nothing ttls (Supersede r p) earlier l n = all_kept (Supersede r p) earlier refl (every (Keeps (Supersede r p) earlier) (submitted earlier) (λ s. of_named (r == s.0) s.0 s.1 r queued (superseded p) earlier refl l.0.queued refl refl))
others_discard_nothing ttls (Fail r b a) earlier l n = all_kept (Fail r b a) earlier refl (every (Keeps (Fail r b a) earlier) (submitted earlier) (λ s. of_named (r == s.0) s.0 s.1 r claimed queued earlier refl l.0.0 refl refl))
others_discard_nothing ttls (Discard r cause) earlier l n = absurd n
others_discard_nothing ttls (Sweep kinds m) earlier l n = all_kept (Sweep kinds m) earlier refl (every (Keeps (Sweep kinds m) earlier) (submitted earlier) (λ s. refl))
others_discard_nothing ttls Restart earlier l n = all_kept Restart earlier refl (every (Keeps Restart earlier) (submitted earlier) (λ s. requeued_dead s.0 s.1 (standing s.0 earlier)))

-- ---- a discard

waits : (r : ℕ) (c : Command) (cause : Cause) (ttls : Ttls) (earlier : History) → IsLegal ttls (Discard r cause ∷ earlier) → dead_if r c (standing r earlier) ≡ []
waits r c (Refused refusal) ttls earlier l = ap (dead_if r c) l.0.0
waits r c Failures ttls earlier l = ap (dead_if r c) l.0.0

pub discards_are_put : DiscardsArePut
discards_are_put ttls r c cause earlier l h =
    one_is_put (dead_in earlier) (λ s. dead_own s.0 s.1 (standing s.0 earlier)) (dead_in (Discard r cause ∷ earlier)) r c (record { receipt = r; command = c; cause = cause }) refl
    (waits r c cause ttls earlier l) (rw (itself r) refl) (λ s e. rw e refl) (submitted earlier) (submitted_rise ttls earlier l.1) (one_submit ttls r c earlier l.1 h)
