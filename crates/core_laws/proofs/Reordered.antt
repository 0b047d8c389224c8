-- The events of a run, its superseded and pending commands with them, are those of one thread in another order.
use Rattle.std.proofs.Common.{◌≡◌, ◌∙◌, inl, inr, ℕ, ◌==◌, ℤ, List, [], ◌∷◌, ◌++◌, arith, refl, sym, ap, subst, Bool, true, false, if◌then◌else◌, Option, Some, None, Result, Ok, Err}
use Rattle.std.specs.Option.{option_and_then}
use Rattle.std.specs.List.{flat_map}
use Rattle.std.proofs.lemmas.List.{append-nil}
use Rattle.core_machine.proofs.of_plain_laws.Booleans.{no_truth}
use Rattle.core_machine.proofs.of_plain_laws.Options.{none_some}
use Rattle.core_machine.specs.fleet_rows.declared.change.Change.{Change}
use Rattle.core_machine.specs.fleet_rows.declared.command.Command.{Command}
use Rattle.core_machine.specs.fleet_rows.declared.refusal.Refusal.{Refusal}
use Rattle.core_machine.specs.fleet_rows.declared.settings.Ttls.{Ttls}
use Rattle.core_machine.specs.history_spec.Thread.{with_answer}
use Rattle.core_machine.specs.fleet_rows.declared.settings.Kinds.{Kinds}
use Rattle.core_machine.specs.history_spec.Trace.{applied_as, applied, swept, Trace}
use Rattle.checkpoint_spec.specs.history_laws.OrderLaws.{Reordered, unchanged, swapped, behind, stepwise}
use Rattle.core_machine.specs.core_spec.declared.event.Event.{Event}
use Rattle.core_machine.specs.core_spec.declared.event.Event.TheVariants.{Submit, Claim, Release, Apply, Supersede, Fail, Discard, Sweep, Restart}
use Rattle.core_machine.specs.core_spec.declared.entry.Entry.{Entry}
use Rattle.core_machine.specs.core_spec.Commands.{answer_of, Key, key_of}
use Rattle.core_machine.specs.core_spec.History.{History, command, Standing, queued, claimed, standing, trace_of}
use Rattle.core_machine.specs.core_spec.Legal.{IsLegal}
use Rattle.core_machine.specs.core_spec.Pending.{pending_of}
use Rattle.core_machine.specs.core_spec.Thread.{with_command, with_entries}
use Rattle.core_machine.specs.Steps.{marked, failed, at_receipt, left_by, new_entry, added_by}
use Rattle.core_machine.proofs.PendingSteps.{pending_is_followed}
use Rattle.core_laws.specs.Threads.{PurgesAreDrained}
use Rattle.core_laws.proofs.Endings.{drops, Agrees}
use Rattle.core_laws.proofs.Waiting.{Lacks, HasOne, IsWaiting, has_one}

abbrev pub IsThere : Option Command → Type 0
IsThere None = ⊥
IsThere (Some c) = Unit {0}

-- ---- two ways to see a run

-- what one thread makes, event by event
abbrev pub thread_of : List ℕ → History → History → Trace
thread_of ds start [] = with_entries ds (pending_of start) (trace_of start)
thread_of ds start (Submit r c ∷ run) = with_command ds r c (thread_of ds start run)
thread_of ds start (Sweep kinds m ∷ run) = swept kinds m ∷ thread_of ds start run
thread_of ds start (_ ∷ run) = thread_of ds start run

-- a command as it was received, where it is there and isn't refused
abbrev pub as_received : ℕ → Option Command → Trace → Trace
as_received r None trace = trace
as_received r (Some c) trace = with_answer r c.received (answer_of c) trace

-- the trace with each superseded command applied where it was superseded
abbrev pub all_of : History → History → Trace
all_of start [] = trace_of start
all_of start (Apply r t ∷ run) = as_received r (command r (run ++ start)) (all_of start run)
all_of start (Supersede q p ∷ run) = as_received q (command q (run ++ start)) (all_of start run)
all_of start (Sweep kinds m ∷ run) = swept kinds m ∷ all_of start run
all_of start (_ ∷ run) = all_of start run

-- ---- the same in front

answer_in_front : (r : ℕ) (m : ℤ) (a : Result Change Refusal) (history other : Trace) → Reordered history other → Reordered (with_answer r m a history) (with_answer r m a other)
answer_in_front r m (Ok change) history other h = behind (applied (applied_as r (Some m) change)) h
answer_in_front r m (Err refusal) history other h = h

swap_answers : (r q : ℕ) (m n : ℤ) (a b : Result Change Refusal) (history : Trace) → Reordered (with_answer r m a (with_answer q n b history)) (with_answer q n b (with_answer r m a history))
swap_answers r q m n (Ok c) (Ok d) history = swapped (applied (applied_as r (Some m) c)) (applied (applied_as q (Some n) d)) tt tt
swap_answers r q m n (Ok c) (Err e) history = unchanged
swap_answers r q m n (Err e) (Ok c) history = unchanged
swap_answers r q m n (Err e) (Err f) history = unchanged

swap_sweep : (r : ℕ) (m : ℤ) (a : Result Change Refusal) (kinds : Kinds) (at : ℤ) (history : Trace) → kinds.purge ≡ false
    → Reordered (with_answer r m a (swept kinds at ∷ history)) (swept kinds at ∷ with_answer r m a history)
swap_sweep r m (Ok c) kinds at history keeps = swapped (applied (applied_as r (Some m) c)) (swept kinds at) tt keeps
swap_sweep r m (Err e) kinds at history keeps = unchanged

module _ (ds : List ℕ) where
  unless_dropped : (b : Bool) (r : ℕ) (m : ℤ) (a : Result Change Refusal) (history other : Trace) → Reordered history other → Reordered (if b then history else with_answer r m a history) (if b then other else with_answer r m a other)
  unless_dropped true r m a history other h = h
  unless_dropped false r m a history other h = answer_in_front r m a history other h

  command_in_front : (r : ℕ) (c : Command) (history other : Trace) → Reordered history other → Reordered (with_command ds r c history) (with_command ds r c other)
  command_in_front r c history other h = unless_dropped (drops ds r) r c.received (answer_of c) history other h

  entries_in_front : (es : List Entry) (history other : Trace) → Reordered history other → Reordered (with_entries ds es history) (with_entries ds es other)
  entries_in_front [] history other h = h
  entries_in_front (e ∷ es) history other h =
      entries_in_front es (with_command ds e.receipt e.command history) (with_command ds e.receipt e.command other) (command_in_front e.receipt e.command history other h)

  swap_unless : (p s : Bool) (r q : ℕ) (m n : ℤ) (a b : Result Change Refusal) (history : Trace)
      → Reordered (if p then (if s then history else with_answer q n b history) else with_answer r m a (if s then history else with_answer q n b history))
      (if s then (if p then history else with_answer r m a history) else with_answer q n b (if p then history else with_answer r m a history))
  swap_unless true true r q m n a b history = unchanged
  swap_unless true false r q m n a b history = unchanged
  swap_unless false true r q m n a b history = unchanged
  swap_unless false false r q m n a b history = swap_answers r q m n a b history

  swap_commands : (r q : ℕ) (c d : Command) (history : Trace) → Reordered (with_command ds r c (with_command ds q d history)) (with_command ds q d (with_command ds r c history))
  swap_commands r q c d history = swap_unless (drops ds r) (drops ds q) r q c.received d.received (answer_of c) (answer_of d) history

  sweep_unless : (b : Bool) (r : ℕ) (m : ℤ) (a : Result Change Refusal) (kinds : Kinds) (at : ℤ) (history : Trace) → kinds.purge ≡ false
      → Reordered (if b then swept kinds at ∷ history else with_answer r m a (swept kinds at ∷ history)) (swept kinds at ∷ (if b then history else with_answer r m a history))
  sweep_unless true r m a kinds at history keeps = unchanged
  sweep_unless false r m a kinds at history keeps = swap_sweep r m a kinds at history keeps

  -- a sweep that purges nothing may as well come before commands or behind them
  sweep_past : (es : List Entry) (kinds : Kinds) (at : ℤ) (history : Trace) → kinds.purge ≡ false → Reordered (with_entries ds es (swept kinds at ∷ history)) (swept kinds at ∷ with_entries ds es history)
  sweep_past [] kinds at history keeps = unchanged
  sweep_past (e ∷ es) kinds at history keeps =
      stepwise
      (entries_in_front es _ _ (sweep_unless (drops ds e.receipt) e.receipt e.command.received (answer_of e.command) kinds at history keeps))
      (sweep_past es kinds at (with_command ds e.receipt e.command history) keeps)

  -- ---- entries

  entries_last : (es : List Entry) (e : Entry) (history : Trace) → with_entries ds (es ++ e ∷ []) history ≡ with_command ds e.receipt e.command (with_entries ds es history)
  entries_last [] e history = refl
  entries_last (f ∷ es) e history = entries_last es e (with_command ds f.receipt f.command history)

  itself : (r : ℕ) → (r == r) ≡ true
  itself r = grind arith

  lacking : (r : ℕ) (es : List Entry) → Lacks r es → flat_map (at_receipt r (λ e. [])) es ≡ es
  lacking r [] l = refl
  lacking r (e ∷ es) l = rw l.0 (ap (λ fs. e ∷ fs) (lacking r es l.1))

  -- an entry that is taken out may as well come first
  taken : (r : ℕ) (c : Command) (es : List Entry) (history : Trace) → HasOne r c es
      → Reordered (with_entries ds (flat_map (at_receipt r (λ e. [])) es) (with_command ds r c history)) (with_entries ds es history)
  taken r c [] history h = absurd h
  taken r c (e ∷ es) history (inl h) =
      let rest : flat_map (at_receipt r (λ e. [])) (e ∷ es) ≡ es = rw (h.0, itself r) (lacking r es h.2) in
      subst (λ (fs : List Entry). Reordered (with_entries ds fs (with_command ds r c history)) (with_entries ds (e ∷ es) history)) (sym rest)
      (subst (λ n. Reordered (with_entries ds es (with_command ds r c history)) (with_entries ds es (with_command ds n e.command history))) (sym h.0)
      (subst (λ d. Reordered (with_entries ds es (with_command ds r c history)) (with_entries ds es (with_command ds r d history))) (sym h.1) unchanged))
  taken r c (e ∷ es) history (inr h) =
      rw h.0 (stepwise
      (entries_in_front (flat_map (at_receipt r (λ e. [])) es) _ _ (swap_commands e.receipt r e.command c history))
      (taken r c es (with_command ds e.receipt e.command history) h.1))

  left_out : (b : Bool) (r : ℕ) (e : Entry) (es : List Entry) (history : Trace) → (r == e.receipt) ≡ b → drops ds r ≡ true
      → ((other : Trace) → with_entries ds (flat_map (at_receipt r (λ e. [])) es) other ≡ with_entries ds es other)
      → with_entries ds ((if b then [] else e ∷ []) ++ flat_map (at_receipt r (λ e. [])) es) history ≡ with_entries ds (e ∷ es) history
  left_out true r e es history f d next =
      let same : r ≡ e.receipt = grind arith in
      next history ∙ ap (with_entries ds es) (sym (rw (sym (ap (drops ds) same) ∙ d) refl))
  left_out false r e es history f d next = next (with_command ds e.receipt e.command history)

  -- an entry that is dropped leaves nothing
  without : (r : ℕ) (es : List Entry) (history : Trace) → drops ds r ≡ true → with_entries ds (flat_map (at_receipt r (λ e. [])) es) history ≡ with_entries ds es history
  without r [] history d = refl
  without r (e ∷ es) history d = left_out (r == e.receipt) r e es history refl d (λ other. without r es other d)

  -- an entry that stays leaves what it left
  abbrev Stays : (Entry → List Entry) → Type 0
  Stays f = (e : Entry) (fs : List Entry) (history : Trace) → with_entries ds (f e ++ fs) history ≡ with_entries ds fs (with_command ds e.receipt e.command history)

  all_stay : (f : Entry → List Entry) → Stays f → (es : List Entry) (history : Trace) → with_entries ds (flat_map f es) history ≡ with_entries ds es history
  all_stay f s [] history = refl
  all_stay f s (e ∷ es) history = s e (flat_map f es) history ∙ all_stay f s es (with_command ds e.receipt e.command history)

  one_stays : (b : Bool) (g : Entry → Entry) → ((e : Entry) → (g e).receipt ≡ e.receipt) → ((e : Entry) → (g e).command ≡ e.command) → (e : Entry) (fs : List Entry) (history : Trace)
      → with_entries ds ((if b then g e ∷ [] else e ∷ []) ++ fs) history ≡ with_entries ds fs (with_command ds e.receipt e.command history)
  one_stays true g h k e fs history = λ i. with_entries ds fs (with_command ds (h e i) (k e i) history)
  one_stays false g h k e fs history = refl

  -- ---- a run

  module _ (ttls : Ttls) (start : History) where
    -- what an event other than a submit leaves
    left : (e : Event) (earlier : History) → IsLegal ttls (e ∷ earlier) → added_by e ≡ [] → flat_map (left_by e) (pending_of earlier) ≡ pending_of (e ∷ earlier)
    left e earlier l none = sym (append-nil (flat_map (left_by e) (pending_of earlier))) ∙ ap (λ fs. flat_map (left_by e) (pending_of earlier) ++ fs) (sym none) ∙ pending_is_followed ttls e earlier l

    undone : (es : List Entry) → flat_map (λ e. e ∷ []) es ≡ es
    undone [] = refl
    undone (e ∷ es) = ap (λ fs. e ∷ fs) (undone es)

    abbrev Follows : History → Type 0
    Follows run = Reordered (with_entries ds (pending_of (run ++ start)) (all_of start run)) (thread_of ds start run)

    stays_so : (e : Event) (run : History) → IsLegal ttls (e ∷ (run ++ start)) → added_by e ≡ [] → Stays (left_by e) → Follows run
        → Reordered (with_entries ds (pending_of (e ∷ (run ++ start))) (all_of start run)) (thread_of ds start run)
    stays_so e run l none s h =
        subst (λ (es : List Entry). Reordered (with_entries ds es (all_of start run)) (thread_of ds start run)) (left e (run ++ start) l none)
        (subst (λ (t : Trace). Reordered t (thread_of ds start run)) (sym (all_stay (left_by e) s (pending_of (run ++ start)) (all_of start run))) h)

    unless : (b : Bool) (r : ℕ) (m : ℤ) (a : Result Change Refusal) (history : Trace) → b ≡ false → (if b then history else with_answer r m a history) ≡ with_answer r m a history
    unless false r m a history e = refl
    unless true r m a history e = no_truth (sym e)

    -- a command that is taken out is applied
    taken_out : (e : Event) (r : ℕ) (run : History) (found : Option Command) → command r (run ++ start) ≡ found → IsThere found → IsLegal ttls (e ∷ (run ++ start)) → added_by e ≡ []
        → ((f : Entry) → left_by e f ≡ at_receipt r (λ f. []) f) → IsWaiting (standing r (run ++ start)) → drops ds r ≡ false → Follows run
        → Reordered (with_entries ds (pending_of (e ∷ (run ++ start))) (as_received r found (all_of start run))) (thread_of ds start run)
    taken_out e r run None c some l none as_taken w d h = absurd some
    taken_out e r run (Some c) f some l none as_taken w d h =
        let es = pending_of (run ++ start) in
        let now : flat_map (at_receipt r (λ f. [])) es ≡ pending_of (e ∷ (run ++ start)) = (λ i. flat_map (λ f. sym (as_taken f) i) es) ∙ left e (run ++ start) l none in
        subst (λ (fs : List Entry). Reordered (with_entries ds fs (with_answer r c.received (answer_of c) (all_of start run))) (thread_of ds start run)) now
        (subst (λ (t : Trace). Reordered (with_entries ds (flat_map (at_receipt r (λ f. [])) es) t) (thread_of ds start run)) (unless (drops ds r) r c.received (answer_of c) (all_of start run) d)
        (stepwise (taken r c es (all_of start run) (has_one ttls r c (run ++ start) l.1 f w)) h))

    -- behind a purge nothing is pending
    swept_over : (b : Bool) (kinds : Kinds) (m : ℤ) (run : History) → kinds.purge ≡ b → (kinds.purge ≡ true → pending_of (run ++ start) ≡ []) → Follows run
        → Reordered (with_entries ds (pending_of (run ++ start)) (swept kinds m ∷ all_of start run)) (swept kinds m ∷ thread_of ds start run)
    swept_over true kinds m run e none h =
        subst (λ (fs : List Entry). Reordered (with_entries ds fs (swept kinds m ∷ all_of start run)) (swept kinds m ∷ thread_of ds start run)) (sym (none e))
        (behind (swept kinds m) (subst (λ (fs : List Entry). Reordered (with_entries ds fs (all_of start run)) (thread_of ds start run)) (none e) h))
    swept_over false kinds m run e none h = stepwise (sweep_past (pending_of (run ++ start)) kinds m (all_of start run) e) (behind (swept kinds m) h)

    claimed_waits : (s : Standing) → s ≡ claimed → IsWaiting s
    claimed_waits s e = subst IsWaiting (sym e) tt

    queued_waits : (s : Standing) → s ≡ queued → IsWaiting s
    queued_waits s e = subst IsWaiting (sym e) tt

    keyed_is_some : (o : Option Command) (k : Key) → option_and_then key_of o ≡ Some k → IsThere o
    keyed_is_some None k e = none_some k e
    keyed_is_some (Some c) k e = tt

    some_is_some : (o : Option Command) (c : Command) → o ≡ Some c → IsThere o
    some_is_some None c e = none_some c e
    some_is_some (Some d) c e = tt

    pub reordered : (run : History) → IsLegal ttls (run ++ start) → PurgesAreDrained start run → Agrees ds run → Follows run
    reordered [] l s a = unchanged
    reordered (Submit r c ∷ run) l s a =
        let es = pending_of (run ++ start) in
        subst (λ (fs : List Entry). Reordered (with_entries ds fs (all_of start run)) (with_command ds r c (thread_of ds start run))) (pending_is_followed ttls (Submit r c) (run ++ start) l)
        (subst (λ (t : Trace). Reordered t (with_command ds r c (thread_of ds start run))) (sym (entries_last (flat_map (left_by (Submit r c)) es) (new_entry r c) (all_of start run)))
        (subst (λ (fs : List Entry). Reordered (with_command ds r c (with_entries ds fs (all_of start run))) (with_command ds r c (thread_of ds start run))) (sym (undone es))
        (command_in_front r c _ _ (reordered run l.1 s a))))
    reordered (Claim r ∷ run) l s a = stays_so (Claim r) run l refl (λ e. one_stays (r == e.receipt) (marked true) (λ e. refl) (λ e. refl) e) (reordered run l.1 s a)
    reordered (Release r ∷ run) l s a = stays_so (Release r) run l refl (λ e. one_stays (r == e.receipt) (marked false) (λ e. refl) (λ e. refl) e) (reordered run l.1 s a)
    reordered (Apply r t ∷ run) l s a =
        taken_out (Apply r t) r run (command r (run ++ start)) refl (some_is_some _ l.0.command_is l.0.submitted) l refl (λ f. refl) (claimed_waits _ l.0.claimed) a.0 (reordered run l.1 s a.1)
    reordered (Supersede r p ∷ run) l s a =
        taken_out (Supersede r p) r run (command r (run ++ start)) refl (keyed_is_some _ (l.0.group, l.0.stamp) l.0.key_is) l refl (λ f. refl) (queued_waits _ l.0.queued) a.0 (reordered run l.1 s a.1)
    reordered (Fail r before after ∷ run) l s a = stays_so (Fail r before after) run l refl (λ e. one_stays (r == e.receipt) failed (λ e. refl) (λ e. refl) e) (reordered run l.1 s a)
    reordered (Discard r cause ∷ run) l s a =
        let es = pending_of (run ++ start) in
        subst (λ (fs : List Entry). Reordered (with_entries ds fs (all_of start run)) (thread_of ds start run)) (left (Discard r cause) (run ++ start) l refl)
        (subst (λ (t : Trace). Reordered t (thread_of ds start run)) (sym (without r es (all_of start run) a.0)) (reordered run l.1 s a.1))
    reordered (Sweep kinds m ∷ run) l s a =
        let rest = reordered run l.1 s.1 a in
        subst (λ (fs : List Entry). Reordered (with_entries ds fs (swept kinds m ∷ all_of start run)) (swept kinds m ∷ thread_of ds start run))
        (sym (undone (pending_of (run ++ start))) ∙ left (Sweep kinds m) (run ++ start) l refl)
        (swept_over kinds.purge kinds m run refl s.0 rest)
    reordered (Restart ∷ run) l s a = stays_so Restart run l refl (λ e fs history. refl) (reordered run l.1 s a)
