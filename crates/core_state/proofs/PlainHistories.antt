-- A plain history stays so with the next event, and with a sixteenth failure and its discard.
use Rattle.std.proofs.Common.{◌≡◌, ◌∙◌, inl, inr, ℕ, ◌<◌, ◌==◌, List, [], ◌∷◌, ◌++◌, arith, refl, sym, ap, subst, Bool, true, false, if◌then◌else◌}
use Rattle.std.specs.List.{AllByRecursion, flat_map}
use Rattle.std.proofs.lemmas.List.{append-nil}
use Rattle.supersede_core.specs.fleet_rows.declared.refusal.Cause.TheVariants.{Failures}
use Rattle.supersede_core.specs.fleet_rows.declared.settings.Ttls.{Ttls}
use Rattle.retry_discard.specs.core_spec.declared.entry.Entry.{Entry}
use Rattle.retry_discard.specs.core_spec.declared.event.Event.{Event}
use Rattle.retry_discard.specs.core_spec.declared.event.Event.TheVariants.{Submit, Claim, Release, Apply, Supersede, Fail, Discard, Sweep, Restart}
use Rattle.retry_discard.specs.core_spec.History.{History}
use Rattle.retry_discard.specs.core_spec.Legal.{IsLegal}
use Rattle.retry_discard.specs.core_spec.Pending.{pending_of, NoneIsWornOut}
use Rattle.compact_laws.specs.core_machine.Claims.{attempts_of}
use Rattle.compact_laws.specs.core_machine.Steps.{marked, failed, at_receipt, left_by, new_entry, pending_step}
use Rattle.compact_laws.proofs.of_core_machine.PendingSteps.{pending_is_followed}
use Rattle.compact_laws.specs.core_laws.StandingLaws.{IsPlain}
use Rattle.compact_laws.proofs.of_core_laws.Entries.{Rises as EntriesRise, pending_rises}
use Rattle.compact_laws.proofs.of_core_laws.StandingRecords.{few_left, few_restarted}
use Rattle.supersede_core.proofs.KeptFacts.{above}

-- ---- what each entry keeps

changed_step : (b : Bool) (x e : Entry) (es : List Entry) → x.attempts < 16 → e.attempts < 16 → NoneIsWornOut es → NoneIsWornOut ((if b then x ∷ [] else e ∷ []) ++ es)
changed_step true x e es g h k = (g, k)
changed_step false x e es g h k = (h, k)

few_marked : (r : ℕ) (m : Bool) (es : List Entry) → NoneIsWornOut es → NoneIsWornOut (flat_map (at_receipt r (λ e. marked m e ∷ [])) es)
few_marked r m [] h = tt
few_marked r m (e ∷ es) h = changed_step (r == e.receipt) (marked m e) e (flat_map (at_receipt r (λ e. marked m e ∷ [])) es) h.0 h.0 (few_marked r m es h.1)

few_same : (es : List Entry) → NoneIsWornOut es → NoneIsWornOut (flat_map (λ e. e ∷ []) es)
few_same [] h = tt
few_same (e ∷ es) h = (h.0, few_same es h.1)

few_both : (es fs : List Entry) → NoneIsWornOut es → NoneIsWornOut fs → NoneIsWornOut (es ++ fs)
few_both [] fs h g = g
few_both (e ∷ es) fs h g = (h.0, few_both es fs h.1 g)

-- ---- a failure

failed_step : (r : ℕ) (b : Bool) (e : Entry) (es : List Entry) → (r == e.receipt) ≡ b → (if b then e.attempts else attempts_of r es) < 15 → e.attempts < 16 → AllByRecursion (λ (g : Entry). e.receipt < g.receipt) es → NoneIsWornOut es
    → (attempts_of r es < 15 → NoneIsWornOut (flat_map (at_receipt r (λ e. failed e ∷ [])) es)) → NoneIsWornOut ((if b then failed e ∷ [] else e ∷ []) ++ flat_map (at_receipt r (λ e. failed e ∷ [])) es)
failed_step r true e es f g h up k next = (omega (arith, g), subst NoneIsWornOut (sym (above r e.receipt (λ e. failed e ∷ []) es (grind arith) up)) k)
failed_step r false e es f g h up k next = (h, next g)

few_failed : (r : ℕ) (es : List Entry) → attempts_of r es < 15 → EntriesRise es → NoneIsWornOut es → NoneIsWornOut (flat_map (at_receipt r (λ e. failed e ∷ [])) es)
few_failed r [] g u h = tt
few_failed r (e ∷ es) g u h = failed_step r (r == e.receipt) e es refl g h.0 u.0 h.1 (λ n. few_failed r es n u.1 h.1)

-- taking out what failed is taking it out
out_of_failed_step : (r : ℕ) (b : Bool) (e : Entry) (fs gs : List Entry) → (r == e.receipt) ≡ b → flat_map (at_receipt r (λ e. [])) fs ≡ gs → flat_map (at_receipt r (λ e. [])) ((if b then failed e ∷ [] else e ∷ []) ++ fs) ≡ (if b then [] else e ∷ []) ++ gs
out_of_failed_step r true e fs gs f h = rw f h
out_of_failed_step r false e fs gs f h = rw f (ap (λ xs. e ∷ xs) h)

pub out_of_failed : (r : ℕ) (es : List Entry) → flat_map (at_receipt r (λ e. [])) (flat_map (at_receipt r (λ e. failed e ∷ [])) es) ≡ flat_map (at_receipt r (λ e. [])) es
out_of_failed r [] = refl
out_of_failed r (e ∷ es) = out_of_failed_step r (r == e.receipt) e (flat_map (at_receipt r (λ e. failed e ∷ [])) es) (flat_map (at_receipt r (λ e. [])) es) refl (out_of_failed r es)

-- ---- one event more

-- a failure only where fewer than fifteen were counted
abbrev pub KeepsFew : Event → List Entry → Type 0
KeepsFew (Fail r before after) es = attempts_of r es < 15
KeepsFew _ es = Unit {0}

few_step : (e : Event) (es : List Entry) → EntriesRise es → KeepsFew e es → NoneIsWornOut es → NoneIsWornOut (pending_step e es)
few_step (Submit r c) es u k h = few_both (flat_map (λ e. e ∷ []) es) (new_entry r c ∷ []) (few_same es h) (omega arith, tt)
few_step (Claim r) es u k h = few_both (flat_map (left_by (Claim r)) es) [] (few_marked r true es h) tt
few_step (Release r) es u k h = few_both (flat_map (left_by (Release r)) es) [] (few_marked r false es h) tt
few_step (Apply r t) es u k h = few_both (flat_map (left_by (Apply r t)) es) [] (few_left r es h) tt
few_step (Supersede r p) es u k h = few_both (flat_map (left_by (Supersede r p)) es) [] (few_left r es h) tt
few_step (Fail r before after) es u k h = few_both (flat_map (left_by (Fail r before after)) es) [] (few_failed r es k u h) tt
few_step (Discard r why) es u k h = few_both (flat_map (left_by (Discard r why)) es) [] (few_left r es h) tt
few_step (Sweep kinds m) es u k h = few_both (flat_map (λ e. e ∷ []) es) [] (few_same es h) tt
few_step Restart es u k h = few_both (flat_map (left_by Restart) es) [] (few_restarted es h) tt

module _ (ttls : Ttls) (history : History) (plain : IsPlain ttls history) where
  pub plain_with : (e : Event) → IsLegal ttls (e ∷ history) → KeepsFew e (pending_of history) → IsPlain ttls (e ∷ history)
  plain_with e legal keeps = record {
    legal = legal;
    few = subst NoneIsWornOut (pending_is_followed ttls e history legal) (few_step e (pending_of history) (pending_rises ttls history plain.legal) keeps plain.few);
    at_once = (inl plain.few, plain.at_once);
  }

  -- a sixteenth failure and its discard
  pub given_up_pending : (r before after : ℕ) → IsLegal ttls (Discard r Failures ∷ Fail r before after ∷ history) → pending_of (Discard r Failures ∷ Fail r before after ∷ history) ≡ flat_map (at_receipt r (λ e. [])) (pending_of history)
  given_up_pending r before after legal =
      let fail = Fail r before after in
      let event = Discard r Failures in
      let middle : pending_of (fail ∷ history) ≡ flat_map (at_receipt r (λ e. failed e ∷ [])) (pending_of history) = sym (pending_is_followed ttls fail history legal.1) ∙ append-nil (flat_map (left_by fail) (pending_of history)) in
      sym (pending_is_followed ttls event (fail ∷ history) legal) ∙ append-nil (flat_map (left_by event) (pending_of (fail ∷ history)))
      ∙ ap (flat_map (at_receipt r (λ e. []))) middle ∙ out_of_failed r (pending_of history)

  pub plain_given_up : (r before after : ℕ) → IsLegal ttls (Discard r Failures ∷ Fail r before after ∷ history) → IsPlain ttls (Discard r Failures ∷ Fail r before after ∷ history)
  plain_given_up r before after legal = record {
    legal = legal;
    few = subst NoneIsWornOut (sym (given_up_pending r before after legal)) (few_left r (pending_of history) plain.few);
    at_once = (inr tt, (inl plain.few, plain.at_once));
  }
