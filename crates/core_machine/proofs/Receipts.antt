-- Receipts count up, and nothing is known of one that wasn't given.
use Rattle.std.proofs.Common.{◌≡◌, ◌≢◌, ◌∙◌, ℕ, suc, ◌<◌, ◌≤◌, ◌==◌, List, [], ◌∷◌, ◌++◌, arith, refl, sym, ap, Bool, true, false, if◌then◌else◌}
use Rattle.std.specs.List.{AllByRecursion}
use Rattle.core_spec.specs.fleet_rows.declared.command.Command.{Command}
use Rattle.core_spec.specs.fleet_rows.declared.refusal.Cause.TheVariants.{Refused, Failures}
use Rattle.core_spec.specs.fleet_rows.declared.settings.Ttls.{Ttls}
use Rattle.core_spec.specs.declared.event.Event.TheVariants.{Submit, Claim, Release, Apply, Supersede, Fail, Discard, Sweep, Restart}
use Rattle.core_spec.specs.History.{History, last_receipt, Standing, unknown, queued, claimed, applied, superseded, discarded, requeued, standing}
use Rattle.core_spec.specs.Legal.{IsLegal}
use Rattle.core_spec.specs.Pending.{submitted}
use Rattle.core_machine.specs.Laws.{IsNew, ReceiptsAreNew}

queued_is_known : queued ≢ unknown
queued_is_known e = cc

claimed_is_known : claimed ≢ unknown
claimed_is_known e = cc

-- a receipt of which something is known isn't one of which nothing is
apart : (q r : ℕ) (s : Standing) (earlier : History) → standing q earlier ≡ s → s ≢ unknown → standing r earlier ≡ unknown → (q == r) ≡ false
apart q r s earlier h known new = other (q == r) refl
  where
    other : (b : Bool) → (q == r) ≡ b → b ≡ false
    other true e = let same : q ≡ r = grind arith in absurd (known (sym h ∙ ap (λ n. standing n earlier) same ∙ new))
    other false e = refl

keeps_unknown : (q r : ℕ) (s : Standing) (after : Standing) (earlier : History) → standing q earlier ≡ s → s ≢ unknown → IsNew r earlier → (if q == r then after else standing r earlier) ≡ unknown
keeps_unknown q r s after earlier h known new = rw (apart q r s earlier h known new.unknown) new.unknown

another : (b : Bool) (q r last : ℕ) → (q == r) ≡ b → q ≡ suc last → (1 ≤ r → q < r) → b ≡ false
another false q r last e g l = refl
another true q r last e g l = let same : q ≡ r = grind arith in absurd (let less : q < r = l (omega (arith, same, g)) in omega (arith, less, same))

pub receipts_are_new : ReceiptsAreNew
receipts_are_new ttls [] r h l = record { unknown = refl; unfailed = refl; none = refl }
receipts_are_new ttls (Submit q c ∷ earlier) r h l =
    let new = receipts_are_new ttls earlier r h.1 (λ p. omega (arith, h.0.receipt, l p)) in
    let differ : (q == r) ≡ false = another (q == r) q r (last_receipt earlier) refl h.0.receipt l in
    record { unknown = rw differ new.unknown; unfailed = new.unfailed; none = rw differ new.none }
receipts_are_new ttls (Claim q ∷ earlier) r h l =
    let new = receipts_are_new ttls earlier r h.1 l in
    record { unknown = keeps_unknown q r queued claimed earlier h.0.queued queued_is_known new; unfailed = new.unfailed; none = new.none }
receipts_are_new ttls (Release q ∷ earlier) r h l =
    let new = receipts_are_new ttls earlier r h.1 l in
    record { unknown = keeps_unknown q r claimed queued earlier h.0 claimed_is_known new; unfailed = new.unfailed; none = new.none }
receipts_are_new ttls (Apply q t ∷ earlier) r h l =
    let new = receipts_are_new ttls earlier r h.1 l in
    record { unknown = keeps_unknown q r claimed applied earlier h.0.claimed claimed_is_known new; unfailed = new.unfailed; none = new.none }
receipts_are_new ttls (Supersede q p ∷ earlier) r h l =
    let new = receipts_are_new ttls earlier r h.1 l in
    record { unknown = keeps_unknown q r queued (superseded p) earlier h.0.queued queued_is_known new; unfailed = new.unfailed; none = new.none }
receipts_are_new ttls (Fail q before after ∷ earlier) r h l =
    let new = receipts_are_new ttls earlier r h.1 l in
    record {
      unknown = keeps_unknown q r claimed queued earlier h.0.0 claimed_is_known new;
      unfailed = rw (apart q r claimed earlier h.0.0 claimed_is_known new.unknown) new.unfailed;
      none = new.none;
    }
receipts_are_new ttls (Discard q (Refused refusal) ∷ earlier) r h l =
    let new = receipts_are_new ttls earlier r h.1 l in
    record { unknown = keeps_unknown q r claimed (discarded (Refused refusal)) earlier h.0.0 claimed_is_known new; unfailed = new.unfailed; none = new.none }
receipts_are_new ttls (Discard q Failures ∷ earlier) r h l =
    let new = receipts_are_new ttls earlier r h.1 l in
    record { unknown = keeps_unknown q r queued (discarded Failures) earlier h.0.0 queued_is_known new; unfailed = new.unfailed; none = new.none }
receipts_are_new ttls (Sweep kinds m ∷ earlier) r h l =
    let new = receipts_are_new ttls earlier r h.1 l in
    record { unknown = new.unknown; unfailed = new.unfailed; none = new.none }
receipts_are_new ttls (Restart ∷ earlier) r h l =
    let new = receipts_are_new ttls earlier r h.1 l in
    record { unknown = ap requeued new.unknown; unfailed = new.unfailed; none = new.none }

-- ---- what was submitted has the receipts that were given

abbrev pub AreGiven : ℕ → List (ℕ × Command) → Type 0
AreGiven last = AllByRecursion (λ (s : ℕ × Command). s.0 ≤ last)

given_later : (n m : ℕ) (xs : List (ℕ × Command)) → n ≤ m → AreGiven n xs → AreGiven m xs
given_later n m [] l h = tt
given_later n m (x ∷ xs) l h = (omega (arith, l, h.0), given_later n m xs l h.1)

given_more : (n : ℕ) (xs : List (ℕ × Command)) (x : ℕ × Command) → AreGiven n xs → x.0 ≤ n → AreGiven n (xs ++ x ∷ [])
given_more n [] x h l = (l, tt)
given_more n (y ∷ ys) x h l = (h.0, given_more n ys x h.1 l)

pub submitted_are_given : (ttls : Ttls) (history : History) → IsLegal ttls history → AreGiven (last_receipt history) (submitted history)
submitted_are_given ttls [] h = tt
submitted_are_given ttls (Submit q c ∷ earlier) h =
    given_more q (submitted earlier) (q, c) (given_later (last_receipt earlier) q (submitted earlier) (omega (arith, h.0.receipt)) (submitted_are_given ttls earlier h.1)) (omega arith)
submitted_are_given ttls (Claim q ∷ earlier) h = submitted_are_given ttls earlier h.1
submitted_are_given ttls (Release q ∷ earlier) h = submitted_are_given ttls earlier h.1
submitted_are_given ttls (Apply q t ∷ earlier) h = submitted_are_given ttls earlier h.1
submitted_are_given ttls (Supersede q p ∷ earlier) h = submitted_are_given ttls earlier h.1
submitted_are_given ttls (Fail q before after ∷ earlier) h = submitted_are_given ttls earlier h.1
submitted_are_given ttls (Discard q cause ∷ earlier) h = submitted_are_given ttls earlier h.1
submitted_are_given ttls (Sweep kinds m ∷ earlier) h = submitted_are_given ttls earlier h.1
submitted_are_given ttls (Restart ∷ earlier) h = submitted_are_given ttls earlier h.1
