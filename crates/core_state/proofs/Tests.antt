-- Tests of the commands that wait.
use Rattle.std.proofs.Common.{◌≡◌, ◌≢◌, ◌∙◌, inl, inr, ℕ, ◌==◌, List, [], ◌∷◌, arith, refl, sym, ap, subst, Bool, true, false, ◌&&◌, if◌then◌else◌}
use Rattle.supersede_core.proofs.of_plain_laws.Booleans.{both_true, no_truth}
use Rattle.supersede_core.specs.fleet_rows.declared.settings.Ttls.{Ttls}
use Rattle.fleet_tables.proofs.of_history_laws.Members.{Among}
use Rattle.fleet_tables.proofs.of_history_laws.SameMembers.{passes_from_any, any_from_passes}
use Rattle.retry_discard.specs.core_spec.declared.entry.Entry.{Entry}
use Rattle.retry_discard.specs.core_spec.History.{History, queued, claimed, standing, fails}
use Rattle.retry_discard.specs.core_spec.Legal.{IsLegal}
use Rattle.retry_discard.specs.core_spec.Pending.{pending_of}
use Rattle.compact_laws.specs.core_machine.Claims.{is_claimed, attempts_of}
use Rattle.compact_laws.proofs.of_core_laws.Entries.{standing_if, entry_is_of, HasEntry, has_entry}
use Rattle.compact_laws.proofs.of_core_laws.Waiting.{IsWaiting}

itself : (r : ℕ) → (r == r) ≡ true
itself r = grind arith

claimed_if : (b : Bool) → claimed ≡ standing_if b → b ≡ true
claimed_if true h = refl
claimed_if false h = absurd (let apart : claimed ≡ queued = h in cc)

-- the attempts of an entry of that receipt
record IsOneOf (r n : ℕ) (es : List Entry) : Type 0 where
  entry : Entry
  among : Among entry es
  receipt : entry.receipt ≡ r
  attempts : n ≡ entry.attempts

one_step : (r : ℕ) (b : Bool) (e : Entry) (es : List Entry) → (r == e.receipt) ≡ b → HasEntry r (e ∷ es) → (HasEntry r es → IsOneOf r (attempts_of r es) es) → IsOneOf r (if b then e.attempts else attempts_of r es) (e ∷ es)
one_step r true e es f h next = record { entry = e; among = inl refl; receipt = grind arith; attempts = refl }
one_step r false e es f h next = other h.among
  where
    other : Among h.entry (e ∷ es) → IsOneOf r (attempts_of r es) (e ∷ es)
    other (inl same) = let r_is : r ≡ e.receipt = sym h.receipt ∙ ap (λ (x : Entry). x.receipt) same in no_truth (sym f ∙ ap (λ n. n == e.receipt) r_is ∙ itself e.receipt)
    other (inr a) = let rest = next (record { entry = h.entry; among = a; receipt = h.receipt }) in record { entry = rest.entry; among = inr rest.among; receipt = rest.receipt; attempts = rest.attempts }

one_of : (r : ℕ) (es : List Entry) → HasEntry r es → IsOneOf r (attempts_of r es) es
one_of r [] h = absurd h.among
one_of r (e ∷ es) h = one_step r (r == e.receipt) e es refl h (one_of r es)

module _ (ttls : Ttls) (history : History) (legal : IsLegal ttls history) (es : List Entry) (pending : es ≡ pending_of history) where
  -- a claimed command stands so in the list, and no other does
  pub claimed_stands : (r : ℕ) → is_claimed r es ≡ true → standing r history ≡ claimed
  claimed_stands r h =
      let one = passes_from_any (λ (e : Entry). r == e.receipt && e.claimed) es h in
      let parts = both_true (r == one.0.receipt) one.0.claimed one.2 in
      let of = entry_is_of ttls history one.0 legal (subst (λ (fs : List Entry). Among one.0 fs) pending one.1) in
      let same : r ≡ one.0.receipt = grind (arith, parts.0) in
      ap (λ n. standing n history) same ∙ of.stands ∙ ap standing_if parts.1

  pub not_claimed_stands : (r : ℕ) → is_claimed r es ≡ false → standing r history ≢ claimed
  not_claimed_stands r h c =
      let has = has_entry ttls r history legal (subst IsWaiting (sym c) tt) in
      let of = entry_is_of ttls history has.entry legal has.among in
      let is_so : has.entry.claimed ≡ true = claimed_if has.entry.claimed (sym c ∙ ap (λ n. standing n history) (sym has.receipt) ∙ of.stands) in
      let passes : (r == has.entry.receipt && has.entry.claimed) ≡ true = rw (is_so, has.receipt, itself r) refl in
      let any = any_from_passes (λ (e : Entry). r == e.receipt && e.claimed) es has.entry (subst (λ (fs : List Entry). Among has.entry fs) (sym pending) has.among) passes in
      no_truth (sym h ∙ any)

  -- how often a claimed one failed
  pub attempts_are : (r : ℕ) → standing r history ≡ claimed → attempts_of r es ≡ fails r history
  attempts_are r c =
      let has = has_entry ttls r history legal (subst IsWaiting (sym c) tt) in
      let one = one_of r (pending_of history) has in
      let of = entry_is_of ttls history one.entry legal one.among in
      ap (attempts_of r) pending ∙ one.attempts ∙ of.attempts ∙ ap (λ n. fails n history) one.receipt
