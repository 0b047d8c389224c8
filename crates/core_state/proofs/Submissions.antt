-- What was submitted by a core's own data was submitted in the history.
use Rattle.std.proofs.Common.{◌≡◌, ◌∙◌, ◌⊎◌, inl, inr, ℕ, suc, ◌==◌, List, [], ◌∷◌, ◌++◌, map, arith, refl, sym, ap, subst, Bool, true, false, if◌then◌else◌, Option, Some}
use Rattle.std.specs.List.{flat_map}
use Rattle.supersede_core.proofs.of_plain_laws.Options.{none_some}
use Rattle.supersede_core.specs.fleet_rows.declared.command.Command.{Command}
use Rattle.supersede_core.specs.fleet_rows.declared.refusal.Cause.TheVariants.{Refused, Failures}
use Rattle.supersede_core.specs.fleet_rows.declared.settings.Ttls.{Ttls}
use Rattle.supersede_core.specs.record_spec.declared.queue.QueueRecord.{QueueRecord}
use Rattle.supersede_core.specs.record_spec.declared.queue.QueueRecord.TheVariants as queue
use Rattle.supersede_core.specs.record_spec.declared.store.StoreRecord.{StoreRecord}
use Rattle.retry_discard.specs.core_spec.declared.event.Event.{Event}
use Rattle.retry_discard.specs.core_spec.declared.event.Event.TheVariants.{Submit, Claim, Release, Apply, Supersede, Fail, Discard, Sweep, Restart}
use Rattle.retry_discard.specs.core_spec.Checkpoints.{held, dead, queue_checkpoint}
use Rattle.retry_discard.specs.core_spec.Discards.{dead_if, dead_in, dead_of}
use Rattle.retry_discard.specs.core_spec.History.{History, last_receipt, command, Standing, unknown, queued, claimed, applied, superseded, discarded, standing, fails}
use Rattle.retry_discard.specs.core_spec.Legal.{IsLegal}
use Rattle.retry_discard.specs.core_spec.Pending.{submitted, waiting, entry_in, pending_of}
use Rattle.retry_discard.specs.core_spec.Stands.{queue_part, queue_trace, QueueTells, Stands}
use Rattle.compact_laws.proofs.of_core_machine.Receipts.{receipts_are_new}
use Rattle.core_state.specs.Seen.{HasRecord, HasSubmit, IsSubmittedIn}

module _ (r : ℕ) (c : Command) where
  -- ---- in a history

  pub submit_stays : (e : Event) (history : History) → HasSubmit r c history → HasSubmit r c (e ∷ history)
  submit_stays (Submit q d) history h = inr h
  submit_stays (Claim q) history h = h
  submit_stays (Release q) history h = h
  submit_stays (Apply q t) history h = h
  submit_stays (Supersede q p) history h = h
  submit_stays (Fail q b a) history h = h
  submit_stays (Discard q why) history h = h
  submit_stays (Sweep kinds m) history h = h
  submit_stays Restart history h = h

  submit_before : (later upto : History) → HasSubmit r c upto → HasSubmit r c (later ++ upto)
  submit_before [] upto h = h
  submit_before (e ∷ later) upto h = submit_stays e (later ++ upto) (submit_before later upto h)

  submit_later : (later upto : History) → HasSubmit r c later → HasSubmit r c (later ++ upto)
  submit_later [] upto h = absurd h
  submit_later (Submit q d ∷ later) upto (inl here) = inl here
  submit_later (Submit q d ∷ later) upto (inr there) = inr (submit_later later upto there)
  submit_later (Claim q ∷ later) upto h = submit_later later upto h
  submit_later (Release q ∷ later) upto h = submit_later later upto h
  submit_later (Apply q t ∷ later) upto h = submit_later later upto h
  submit_later (Supersede q p ∷ later) upto h = submit_later later upto h
  submit_later (Fail q b a ∷ later) upto h = submit_later later upto h
  submit_later (Discard q why ∷ later) upto h = submit_later later upto h
  submit_later (Sweep kinds m ∷ later) upto h = submit_later later upto h
  submit_later (Restart ∷ later) upto h = submit_later later upto h

  here_stands : (b : Bool) (q : ℕ) (d : Command) (o : Option Command) → (q == r) ≡ b → q ≡ r → d ≡ c → (if b then Some d else o) ≡ Some c
  here_stands true q d o e same is = ap (λ (x : Command). Some x) is
  here_stands false q d o e same is = absurd (let own : (q == r) ≡ true = grind (arith, same) in let apart : true ≡ false = sym own ∙ e in cc)

  -- no receipt is given twice
  there_stands : (b : Bool) (q : ℕ) (d : Command) (earlier : History) (ttls : Ttls) → (q == r) ≡ b → IsLegal ttls earlier → q ≡ suc (last_receipt earlier) → command r earlier ≡ Some c → (if b then Some d else command r earlier) ≡ Some c
  there_stands true q d earlier ttls e legal next h =
      let same : q ≡ r = grind (arith, e) in
      let new = receipts_are_new ttls earlier q legal (λ one. omega (arith, next)) in
      none_some c (sym new.none ∙ ap (λ n. command n earlier) same ∙ h)
  there_stands false q d earlier ttls e legal next h = h

  submit_is_command : (ttls : Ttls) (history : History) → IsLegal ttls history → HasSubmit r c history → command r history ≡ Some c
  submit_is_command ttls [] l h = absurd h
  submit_is_command ttls (Submit q d ∷ earlier) l (inl here) = here_stands (q == r) q d (command r earlier) refl here.0 here.1
  submit_is_command ttls (Submit q d ∷ earlier) l (inr there) = there_stands (q == r) q d earlier ttls refl l.1 l.0.receipt (submit_is_command ttls earlier l.1 there)
  submit_is_command ttls (Claim q ∷ earlier) l h = submit_is_command ttls earlier l.1 h
  submit_is_command ttls (Release q ∷ earlier) l h = submit_is_command ttls earlier l.1 h
  submit_is_command ttls (Apply q t ∷ earlier) l h = submit_is_command ttls earlier l.1 h
  submit_is_command ttls (Supersede q p ∷ earlier) l h = submit_is_command ttls earlier l.1 h
  submit_is_command ttls (Fail q b a ∷ earlier) l h = submit_is_command ttls earlier l.1 h
  submit_is_command ttls (Discard q why ∷ earlier) l h = submit_is_command ttls earlier l.1 h
  submit_is_command ttls (Sweep kinds m ∷ earlier) l h = submit_is_command ttls earlier l.1 h
  submit_is_command ttls (Restart ∷ earlier) l h = submit_is_command ttls earlier l.1 h

  -- ---- what was submitted, in the order of receipts

  abbrev HasPair : List (ℕ × Command) → Type 0
  HasPair [] = ⊥
  HasPair (s ∷ ss) = ((s.0 ≡ r) × (s.1 ≡ c)) ⊎ HasPair ss

  pair_cases : (xs ys : List (ℕ × Command)) → HasPair (xs ++ ys) → HasPair xs ⊎ HasPair ys
  pair_cases [] ys h = inr h
  pair_cases (x ∷ xs) ys (inl here) = inl (inl here)
  pair_cases (x ∷ xs) ys (inr there) = elim (pair_cases xs ys there) [ inl a ↦ inl (inr a) | inr b ↦ inr b ]

  last_pair : (q : ℕ) (d : Command) (earlier : History) → HasPair ((q, d) ∷ []) → HasSubmit r c (Submit q d ∷ earlier)
  last_pair q d earlier (inl here) = inl here
  last_pair q d earlier (inr none) = absurd none

  pair_is_submit : (history : History) → HasPair (submitted history) → HasSubmit r c history
  pair_is_submit [] h = absurd h
  pair_is_submit (Submit q d ∷ earlier) h = elim (pair_cases (submitted earlier) ((q, d) ∷ []) h) [ inl a ↦ inr (pair_is_submit earlier a) | inr b ↦ last_pair q d earlier b ]
  pair_is_submit (Claim q ∷ earlier) h = pair_is_submit earlier h
  pair_is_submit (Release q ∷ earlier) h = pair_is_submit earlier h
  pair_is_submit (Apply q t ∷ earlier) h = pair_is_submit earlier h
  pair_is_submit (Supersede q p ∷ earlier) h = pair_is_submit earlier h
  pair_is_submit (Fail q b a ∷ earlier) h = pair_is_submit earlier h
  pair_is_submit (Discard q why ∷ earlier) h = pair_is_submit earlier h
  pair_is_submit (Sweep kinds m ∷ earlier) h = pair_is_submit earlier h
  pair_is_submit (Restart ∷ earlier) h = pair_is_submit earlier h

  -- ---- in records

  record_cases : (xs ys : List QueueRecord) → HasRecord r c (xs ++ ys) → HasRecord r c xs ⊎ HasRecord r c ys
  record_cases [] ys h = inr h
  record_cases (x ∷ xs) ys (inl here) = inl (inl here)
  record_cases (x ∷ xs) ys (inr there) = elim (record_cases xs ys there) [ inl a ↦ inl (inr a) | inr b ↦ inr b ]

  record_before : (xs ys : List QueueRecord) → HasRecord r c xs → HasRecord r c (xs ++ ys)
  record_before [] ys h = absurd h
  record_before (x ∷ xs) ys (inl here) = inl here
  record_before (x ∷ xs) ys (inr there) = inr (record_before xs ys there)

  module _ (history : History) where
    held_is_pair : (xs : List (ℕ × Command)) → HasRecord r c (map held (flat_map (entry_in history) xs)) → HasPair xs
    held_is_pair [] h = absurd h
    held_is_pair (x ∷ xs) h = by (standing x.0 history) h (held_is_pair xs)
      where
        by : (s : Standing) → HasRecord r c (map held (waiting x.0 x.1 (fails x.0 history) s ++ flat_map (entry_in history) xs)) → (HasRecord r c (map held (flat_map (entry_in history) xs)) → HasPair xs) → HasPair (x ∷ xs)
        by unknown h next = inr (next h)
        by queued (inl here) next = inl here
        by queued (inr there) next = inr (next there)
        by claimed (inl here) next = inl here
        by claimed (inr there) next = inr (next there)
        by applied h next = inr (next h)
        by (superseded p) h next = inr (next h)
        by (discarded cause) h next = inr (next h)

    dead_is_pair : (xs : List (ℕ × Command)) → HasRecord r c (map dead (flat_map (dead_in history) xs)) → HasPair xs
    dead_is_pair [] h = absurd h
    dead_is_pair (x ∷ xs) h = by (standing x.0 history) h (dead_is_pair xs)
      where
        by : (s : Standing) → HasRecord r c (map dead (dead_if x.0 x.1 s ++ flat_map (dead_in history) xs)) → (HasRecord r c (map dead (flat_map (dead_in history) xs)) → HasPair xs) → HasPair (x ∷ xs)
        by unknown h next = inr (next h)
        by queued h next = inr (next h)
        by claimed h next = inr (next h)
        by applied h next = inr (next h)
        by (superseded p) h next = inr (next h)
        by (discarded cause) (inl here) next = inl here
        by (discarded cause) (inr there) next = inr (next there)

  alone : {P : Type 0} → P ⊎ ⊥ → P
  alone (inl here) = here
  alone (inr none) = absurd none

  part_is_submit : (e : Event) (later : History) → HasRecord r c (queue_part e) → HasSubmit r c (e ∷ later)
  part_is_submit (Submit q d) later h = inl (alone h)
  part_is_submit (Claim q) later h = absurd h
  part_is_submit (Release q) later h = absurd h
  part_is_submit (Apply q t) later h = absurd (alone h)
  part_is_submit (Supersede q p) later h = absurd (alone h)
  part_is_submit (Fail q b a) later h = absurd (alone h)
  part_is_submit (Discard q (Refused refusal)) later h = absurd (alone h)
  part_is_submit (Discard q Failures) later h = absurd h
  part_is_submit (Sweep kinds m) later h = absurd h
  part_is_submit Restart later h = absurd h

  trace_is_submit : (later : History) → HasRecord r c (queue_trace later) → HasSubmit r c later
  trace_is_submit [] h = absurd h
  trace_is_submit (e ∷ later) h = elim (record_cases (queue_trace later) (queue_part e) h) [ inl a ↦ submit_stays e later (trace_is_submit later a) | inr b ↦ part_is_submit e later b ]

  checkpoint_is_submit : (upto : History) → HasRecord r c (queue_checkpoint upto) → HasSubmit r c upto
  checkpoint_is_submit upto (inl base) = absurd base
  checkpoint_is_submit upto (inr rest) = elim (record_cases (map held (pending_of upto)) (map dead (dead_of upto)) rest) [
    | inl a ↦ pair_is_submit upto (held_is_pair upto (submitted upto) a)
    | inr b ↦ pair_is_submit upto (dead_is_pair upto (submitted upto) b)
  ]

  told_submit : (records : List QueueRecord) (history : History) → QueueTells records history → HasRecord r c records → HasSubmit r c history
  told_submit records history t h =
      subst (HasSubmit r c) (sym t.whole)
      (elim (record_cases (queue_checkpoint t.upto) (queue_trace t.later) (subst (HasRecord r c) t.says h)) [
        | inl a ↦ submit_before t.later t.upto (checkpoint_is_submit t.upto a)
        | inr b ↦ submit_later t.later t.upto (trace_is_submit t.later b)
      ])

  found_submit : (ttls : Ttls) (queue_records : List QueueRecord) (store_records : List StoreRecord) (history : History) → Stands ttls queue_records store_records history → HasRecord r c queue_records → HasSubmit r c history
  found_submit ttls queue_records store_records history s h = elim s.queue [
    | inl whole ↦ told_submit queue_records history whole h
    | inr missing ↦ told_submit (queue_records ++ queue.Done missing.receipt ∷ []) history missing.tells (record_before queue_records (queue.Done missing.receipt ∷ []) h)
  ]

  -- the command of a receipt that was submitted by the core's own data
  pub submitted_command : (ttls : Ttls) (queue_records : List QueueRecord) (store_records : List StoreRecord) (events start : History) → Stands ttls queue_records store_records start → IsLegal ttls (events ++ start)
      → IsSubmittedIn r c queue_records events → command r (events ++ start) ≡ Some c
  submitted_command ttls queue_records store_records events start s legal (inl found) =
      submit_is_command ttls (events ++ start) legal (submit_before events start (found_submit ttls queue_records store_records start s found))
  submitted_command ttls queue_records store_records events start s legal (inr since) =
      submit_is_command ttls (events ++ start) legal (submit_later events start since)

  -- it stays so as events come
  pub submitted_stays : (e : Event) (found : List QueueRecord) (events : History) → IsSubmittedIn r c found events → IsSubmittedIn r c found (e ∷ events)
  submitted_stays e found events (inl there) = inl there
  submitted_stays e found events (inr since) = inr (submit_stays e events since)
