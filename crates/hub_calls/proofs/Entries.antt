-- The list of a core under the lock.
use Rattle.std.proofs.Common.{◌≡◌, ◌∙◌, ◌⊎◌, inl, inr, ℕ, ◌+◌, List, [], ◌∷◌, ◌++◌, length, reverse, map, arith, sym, ap, subst}
use Rattle.std.proofs.lemmas.List.{length-map, length-reverse, map-append, reverse-append}
use mathlib.Core.List.{IsPrefix}
use Rattle.core_ends.specs.fleet_rows.declared.command.Command.{Command}
use Rattle.core_ends.specs.record_spec.declared.queue.QueueRecord.{QueueRecord}
use Rattle.core_ends.specs.core_spec.declared.event.Event.{Event}
use Rattle.core_ends.specs.core_spec.declared.event.Event.TheVariants.{Submit, Claim, Release, Apply, Supersede, Fail, Discard, Sweep, Restart}
use Rattle.core_ends.specs.core_spec.History.{History}
use Rattle.core_ends.specs.core_state.declared.state.CoreState.{CoreState}
use Rattle.core_ends.specs.core_state.Seen.{HasRecord, HasSubmit, IsSubmittedIn}
use Rattle.hub_calls.specs.declared.entry.Entry.{Entry}
use Rattle.hub_calls.specs.declared.entry.Entry.TheVariants.{Opened, Happened}
use Rattle.hub_calls.specs.Entries.{entries, HasSubmitEntry, WasSubmitted}

module _ {D K : Type 0} where
  -- further events stand behind those that there were
  pub entries_grow : (start : CoreState D K) (more old new : History) → new ≡ more ++ old → IsPrefix (entries start old) (entries start new)
  entries_grow start more old new is =
      let put : Event → Entry D K = λ e. Happened e in
      let turned : reverse new ≡ reverse old ++ reverse more = ap (λ (es : History). reverse es) is ∙ reverse-append more old in
      let behind : map put (reverse old) ++ map put (reverse more) ≡ map put (reverse new) =
      sym (map-append put (reverse old) (reverse more)) ∙ ap (λ (es : History). map put es) (sym turned) in
      (map put (reverse more), ap (λ (es : List (Entry D K)). Opened start ∷ es) behind)

  pub entries_length : (start : CoreState D K) (events : History) → length (entries start events) ≡ 1 + length events
  entries_length start events =
      let put : Event → Entry D K = λ e. Happened e in
      let same : length (map put (reverse events)) ≡ length events = length-map (reverse events) put ∙ length-reverse events in
      omega (arith, same)

  -- ---- what was submitted

  pub submit_longer : (r : ℕ) (c : Command) (xs ys : List (Entry D K)) → HasSubmitEntry r c xs → HasSubmitEntry r c (xs ++ ys)
  submit_longer r c [] ys h = absurd h
  submit_longer r c (Opened s ∷ xs) ys h = submit_longer r c xs ys h
  submit_longer r c (Happened (Submit q d) ∷ xs) ys (inl is) = inl is
  submit_longer r c (Happened (Submit q d) ∷ xs) ys (inr h) = inr (submit_longer r c xs ys h)
  submit_longer r c (Happened (Claim q) ∷ xs) ys h = submit_longer r c xs ys h
  submit_longer r c (Happened (Release q) ∷ xs) ys h = submit_longer r c xs ys h
  submit_longer r c (Happened (Apply q t) ∷ xs) ys h = submit_longer r c xs ys h
  submit_longer r c (Happened (Supersede q p) ∷ xs) ys h = submit_longer r c xs ys h
  submit_longer r c (Happened (Fail q before after) ∷ xs) ys h = submit_longer r c xs ys h
  submit_longer r c (Happened (Discard q why) ∷ xs) ys h = submit_longer r c xs ys h
  submit_longer r c (Happened (Sweep kinds m) ∷ xs) ys h = submit_longer r c xs ys h
  submit_longer r c (Happened Restart ∷ xs) ys h = submit_longer r c xs ys h

  pub submit_behind : (r : ℕ) (c : Command) (xs ys : List (Entry D K)) → HasSubmitEntry r c ys → HasSubmitEntry r c (xs ++ ys)
  submit_behind r c [] ys h = h
  submit_behind r c (Opened s ∷ xs) ys h = submit_behind r c xs ys h
  submit_behind r c (Happened (Submit q d) ∷ xs) ys h = inr (submit_behind r c xs ys h)
  submit_behind r c (Happened (Claim q) ∷ xs) ys h = submit_behind r c xs ys h
  submit_behind r c (Happened (Release q) ∷ xs) ys h = submit_behind r c xs ys h
  submit_behind r c (Happened (Apply q t) ∷ xs) ys h = submit_behind r c xs ys h
  submit_behind r c (Happened (Supersede q p) ∷ xs) ys h = submit_behind r c xs ys h
  submit_behind r c (Happened (Fail q before after) ∷ xs) ys h = submit_behind r c xs ys h
  submit_behind r c (Happened (Discard q why) ∷ xs) ys h = submit_behind r c xs ys h
  submit_behind r c (Happened (Sweep kinds m) ∷ xs) ys h = submit_behind r c xs ys h
  submit_behind r c (Happened Restart ∷ xs) ys h = submit_behind r c xs ys h

  -- in one of the two parts
  pub submit_in : (r : ℕ) (c : Command) (xs ys : List (Entry D K)) → HasSubmitEntry r c (xs ++ ys) → HasSubmitEntry r c xs ⊎ HasSubmitEntry r c ys
  submit_in r c [] ys h = inr h
  submit_in r c (Opened s ∷ xs) ys h = submit_in r c xs ys h
  submit_in r c (Happened (Submit q d) ∷ xs) ys (inl is) = inl (inl is)
  submit_in r c (Happened (Submit q d) ∷ xs) ys (inr h) = elim (submit_in r c xs ys h) [ inl a ↦ inl (inr a) | inr b ↦ inr b ]
  submit_in r c (Happened (Claim q) ∷ xs) ys h = submit_in r c xs ys h
  submit_in r c (Happened (Release q) ∷ xs) ys h = submit_in r c xs ys h
  submit_in r c (Happened (Apply q t) ∷ xs) ys h = submit_in r c xs ys h
  submit_in r c (Happened (Supersede q p) ∷ xs) ys h = submit_in r c xs ys h
  submit_in r c (Happened (Fail q before after) ∷ xs) ys h = submit_in r c xs ys h
  submit_in r c (Happened (Discard q why) ∷ xs) ys h = submit_in r c xs ys h
  submit_in r c (Happened (Sweep kinds m) ∷ xs) ys h = submit_in r c xs ys h
  submit_in r c (Happened Restart ∷ xs) ys h = submit_in r c xs ys h

  -- of a list that goes on
  pub was_submitted_longer : (r : ℕ) (c : Command) (xs ys : List (Entry D K)) → IsPrefix xs ys → WasSubmitted r c xs → WasSubmitted r c ys
  was_submitted_longer r c xs ys pre h = subst (WasSubmitted r c) pre.1 (longer xs pre.0 h)
    where
      longer : (xs rest : List (Entry D K)) → WasSubmitted r c xs → WasSubmitted r c (xs ++ rest)
      longer [] rest h = absurd h
      longer (Opened s ∷ xs) rest (inl found) = inl found
      longer (Opened s ∷ xs) rest (inr h) = inr (submit_longer r c xs rest h)
      longer (Happened e ∷ xs) rest h = absurd h

-- ---- the events of a core

module _ (D K : Type 0) where
  abbrev put : Event → Entry D K
  put e = Happened e

  abbrev last_of : Event → List (Entry D K)
  last_of e = put e ∷ []

  abbrev listed : History → List (Entry D K)
  listed events = map put (reverse events)

  listed_with : (e : Event) (events : History) → listed (e ∷ events) ≡ listed events ++ last_of e
  listed_with e events = ap (λ (es : History). map put es) (reverse-append (e ∷ []) events) ∙ map-append put (reverse events) (e ∷ [])

  -- one event more
  module _ (r : ℕ) (c : Command) where
    one_more : (e : Event) (events : History) → HasSubmitEntry r c (listed events) → HasSubmitEntry r c (listed (e ∷ events))
    one_more e events h = subst (HasSubmitEntry r c) (sym (listed_with e events)) (submit_longer r c (listed events) (last_of e) h)

    pub listed_submit : (events : History) → HasSubmit r c events → HasSubmitEntry r c (listed events)
    listed_submit [] h = absurd h
    listed_submit (Submit q d ∷ es) (inl is) = subst (HasSubmitEntry r c) (sym (listed_with (Submit q d) es)) (submit_behind r c (listed es) (last_of (Submit q d)) (inl is))
    listed_submit (Submit q d ∷ es) (inr h) = one_more (Submit q d) es (listed_submit es h)
    listed_submit (Claim q ∷ es) h = one_more (Claim q) es (listed_submit es h)
    listed_submit (Release q ∷ es) h = one_more (Release q) es (listed_submit es h)
    listed_submit (Apply q t ∷ es) h = one_more (Apply q t) es (listed_submit es h)
    listed_submit (Supersede q p ∷ es) h = one_more (Supersede q p) es (listed_submit es h)
    listed_submit (Fail q before after ∷ es) h = one_more (Fail q before after) es (listed_submit es h)
    listed_submit (Discard q why ∷ es) h = one_more (Discard q why) es (listed_submit es h)
    listed_submit (Sweep kinds m ∷ es) h = one_more (Sweep kinds m) es (listed_submit es h)
    listed_submit (Restart ∷ es) h = one_more Restart es (listed_submit es h)

    -- and back
    one_less : (e : Event) (es : History) → HasSubmitEntry r c (listed (e ∷ es)) → HasSubmitEntry r c (listed es) ⊎ HasSubmitEntry r c (last_of e)
    one_less e es h = submit_in r c (listed es) (last_of e) (subst (HasSubmitEntry r c) (listed_with e es) h)

    quiet_less : (e : Event) (es : History) → (HasSubmitEntry r c (last_of e) → ⊥) → HasSubmitEntry r c (listed (e ∷ es)) → HasSubmitEntry r c (listed es)
    quiet_less e es none h = elim (one_less e es h) [ inl a ↦ a | inr b ↦ absurd (none b) ]

    pub submit_listed : (events : History) → HasSubmitEntry r c (listed events) → HasSubmit r c events
    submit_listed [] h = absurd h
    submit_listed (Submit q d ∷ es) h = elim (one_less (Submit q d) es h) [ inl a ↦ inr (submit_listed es a) | inr (inl is) ↦ inl is | inr (inr none) ↦ absurd none ]
    submit_listed (Claim q ∷ es) h = submit_listed es (quiet_less (Claim q) es (λ n. n) h)
    submit_listed (Release q ∷ es) h = submit_listed es (quiet_less (Release q) es (λ n. n) h)
    submit_listed (Apply q t ∷ es) h = submit_listed es (quiet_less (Apply q t) es (λ n. n) h)
    submit_listed (Supersede q p ∷ es) h = submit_listed es (quiet_less (Supersede q p) es (λ n. n) h)
    submit_listed (Fail q before after ∷ es) h = submit_listed es (quiet_less (Fail q before after) es (λ n. n) h)
    submit_listed (Discard q why ∷ es) h = submit_listed es (quiet_less (Discard q why) es (λ n. n) h)
    submit_listed (Sweep kinds m ∷ es) h = submit_listed es (quiet_less (Sweep kinds m) es (λ n. n) h)
    submit_listed (Restart ∷ es) h = submit_listed es (quiet_less Restart es (λ n. n) h)

module _ {D K : Type 0} where
  -- what the core says of a submit is what its list says
  pub seen_submitted : (r : ℕ) (c : Command) (start : CoreState D K) (found : List QueueRecord) (events : History) → found ≡ start.found.queue.value
      → IsSubmittedIn r c found events → WasSubmitted r c (entries start events)
  seen_submitted r c start found events is (inl h) = inl (subst (HasRecord r c) is h)
  seen_submitted r c start found events is (inr h) = inr (listed_submit D K r c events h)

  pub submitted_seen : (r : ℕ) (c : Command) (start : CoreState D K) (found : List QueueRecord) (events : History) → found ≡ start.found.queue.value
      → WasSubmitted r c (entries start events) → IsSubmittedIn r c found events
  submitted_seen r c start found events is (inl h) = inl (subst (HasRecord r c) (sym is) h)
  submitted_seen r c start found events is (inr h) = inr (submit_listed D K r c events h)

  abbrev first_of : CoreState D K → List (Entry D K) → CoreState D K
  first_of start (Opened first ∷ es) = first
  first_of start _ = start

  -- the first entry stays
  pub same_start : (opening : List (Entry D K)) (start first : CoreState D K) (events later : History) → IsPrefix opening (entries first later) → opening ≡ entries start events → start ≡ first
  same_start opening start first events later pre is = ap (first_of start) (sym (ap (λ (es : List (Entry D K)). es ++ pre.0) is) ∙ pre.1)
