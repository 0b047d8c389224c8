-- The commands that wait stay sound, and the room for their releases suffices.
use Rattle.std.proofs.Common.{◌≡◌, inl, inr, ℕ, suc, ◌+◌, ◌<◌, ◌≤◌, ◌==◌, List, [], ◌∷◌, ◌++◌, length, arith, refl, sym, ap, subst, Bool, true, false, ◌&&◌, ◌||◌, if◌then◌else◌}
use Rattle.std.specs.List.{AllByRecursion, flat_map}
use Rattle.supersede_core.specs.fleet_rows.declared.command.Command.{Command}
use Rattle.supersede_core.specs.record_spec.declared.queue.QueueRecord.{QueueRecord}
use Rattle.retry_discard.specs.core_spec.declared.entry.Entry.{Entry}
use Rattle.retry_discard.specs.core_spec.declared.event.Event.{Event}
use Rattle.retry_discard.specs.core_spec.declared.event.Event.TheVariants.{Submit}
use Rattle.retry_discard.specs.core_spec.History.{History}
use Rattle.retry_discard.specs.core_spec.Pending.{NoneIsWornOut}
use Rattle.compact_laws.specs.core_machine.Claims.{is_claimed}
use Rattle.compact_laws.specs.core_machine.Steps.{marked, failed, at_receipt, new_entry}
use Rattle.core_state.specs.Seen.{IsFit, IsSubmittedIn, claimed_number, AreSound}
use Rattle.core_state.proofs.Submissions.{submitted_stays}

-- ---- each was submitted

abbrev pub AreSubmitted : List QueueRecord → History → List Entry → Type 0
AreSubmitted found events = AllByRecursion (λ (e : Entry). IsSubmittedIn e.receipt e.command found events)

pub all_submitted : (e : Event) (found : List QueueRecord) (events : History) (es : List Entry) → AreSubmitted found events es → AreSubmitted found (e ∷ events) es
all_submitted e found events [] h = tt
all_submitted e found events (x ∷ es) h = (submitted_stays x.receipt x.command e found events h.0, all_submitted e found events es h.1)

module _ (P : Entry → Type 0) where
  left_step : (b : Bool) (e : Entry) (es : List Entry) → P e → AllByRecursion P es → AllByRecursion P ((if b then [] else e ∷ []) ++ es)
  left_step true e es h k = k
  left_step false e es h k = (h, k)

  pub all_left : (r : ℕ) (es : List Entry) → AllByRecursion P es → AllByRecursion P (flat_map (at_receipt r (λ e. [])) es)
  all_left r [] h = tt
  all_left r (e ∷ es) h = left_step (r == e.receipt) e (flat_map (at_receipt r (λ e. [])) es) h.0 (all_left r es h.1)

  changed_step : (b : Bool) (x e : Entry) (es : List Entry) → P x → P e → AllByRecursion P es → AllByRecursion P ((if b then x ∷ [] else e ∷ []) ++ es)
  changed_step true x e es g h k = (g, k)
  changed_step false x e es g h k = (h, k)

  pub all_changed : (r : ℕ) (f : Entry → Entry) (es : List Entry) → ((e : Entry) → P e → P (f e)) → AllByRecursion P es → AllByRecursion P (flat_map (at_receipt r (λ e. f e ∷ [])) es)
  all_changed r f [] g h = tt
  all_changed r f (e ∷ es) g h = changed_step (r == e.receipt) (f e) e (flat_map (at_receipt r (λ e. f e ∷ [])) es) (g e h.0) h.0 (all_changed r f es g h.1)

  pub all_more : (es : List Entry) (x : Entry) → AllByRecursion P es → P x → AllByRecursion P (es ++ x ∷ [])
  all_more [] x h l = (l, tt)
  all_more (e ∷ es) x h l = (h.0, all_more es x h.1 l)

-- ---- sound lists

-- of these parts, where they are those
pub sound_as : (last last_now : ℕ) (found found_now : List QueueRecord) (events now : History) (es left : List Entry) → last_now ≡ last → found_now ≡ found → now ≡ events → left ≡ es → AreSound last found events es → AreSound last_now found_now now left
sound_as last last_now found found_now events now es left l f h p sound =
    subst (λ n. AreSound n found_now now left) (sym l)
    (subst (λ (xs : List QueueRecord). AreSound last xs now left) (sym f) (subst (λ (g : History). AreSound last found g left) (sym h) (subst (AreSound last found events) (sym p) sound)))

module _ (last : ℕ) (found : List QueueRecord) (events : History) (es : List Entry) (sound : AreSound last found events es) where
  abbrev IsKnown : History → Entry → Type 0
  IsKnown now e = IsSubmittedIn e.receipt e.command found now

  pub sound_taken : (e : Event) (r : ℕ) → AreSound last found (e ∷ events) (flat_map (at_receipt r (λ e. [])) es)
  sound_taken e r = record {
    below = all_left (λ x. x.receipt < last + 1) r es sound.below;
    few = all_left (λ x. x.attempts < 16) r es sound.few;
    submitted = all_left (IsKnown (e ∷ events)) r es (all_submitted e found events es sound.submitted);
    fit = all_left (λ x. IsFit x.command) r es sound.fit;
  }

  pub sound_marked : (e : Event) (r : ℕ) (b : Bool) → AreSound last found (e ∷ events) (flat_map (at_receipt r (λ e. marked b e ∷ [])) es)
  sound_marked e r b = record {
    below = all_changed (λ x. x.receipt < last + 1) r (marked b) es (λ x h. h) sound.below;
    few = all_changed (λ x. x.attempts < 16) r (marked b) es (λ x h. h) sound.few;
    submitted = all_changed (IsKnown (e ∷ events)) r (marked b) es (λ x h. h) (all_submitted e found events es sound.submitted);
    fit = all_changed (λ x. IsFit x.command) r (marked b) es (λ x h. h) sound.fit;
  }

  pub sound_failed : (e : Event) (r : ℕ) → NoneIsWornOut (flat_map (at_receipt r (λ e. failed e ∷ [])) es) → AreSound last found (e ∷ events) (flat_map (at_receipt r (λ e. failed e ∷ [])) es)
  sound_failed e r few = record {
    below = all_changed (λ x. x.receipt < last + 1) r failed es (λ x h. h) sound.below;
    few = few;
    submitted = all_changed (IsKnown (e ∷ events)) r failed es (λ x h. h) (all_submitted e found events es sound.submitted);
    fit = all_changed (λ x. IsFit x.command) r failed es (λ x h. h) sound.fit;
  }

  below_more : (fs : List Entry) → AllByRecursion (λ (x : Entry). x.receipt < last + 1) fs → AllByRecursion (λ (x : Entry). x.receipt < last + 1 + 1) fs
  below_more [] h = tt
  below_more (x ∷ fs) h = (omega (arith, h.0), below_more fs h.1)

  pub sound_more : (c : Command) → IsFit c → AreSound (last + 1) found (Submit (last + 1) c ∷ events) (es ++ new_entry (last + 1) c ∷ [])
  sound_more c fit = record {
    below = all_more (λ x. x.receipt < last + 1 + 1) es (new_entry (last + 1) c) (below_more es sound.below) (omega arith);
    few = all_more (λ x. x.attempts < 16) es (new_entry (last + 1) c) sound.few (omega arith);
    submitted = all_more (IsKnown (Submit (last + 1) c ∷ events)) es (new_entry (last + 1) c) (all_submitted (Submit (last + 1) c) found events es sound.submitted) (inr (inl (refl, refl)));
    fit = all_more (λ x. IsFit x.command) es (new_entry (last + 1) c) sound.fit fit;
  }

-- ---- how many are claimed

abbrev one_if : Bool → ℕ
one_if b = if b then 1 else 0

claimed_joined : (xs ys : List Entry) → claimed_number (xs ++ ys) ≡ claimed_number xs + claimed_number ys
claimed_joined [] ys = omega arith
claimed_joined (x ∷ xs) ys = let rest = claimed_joined xs ys in omega (arith, rest)

no_more_step : (b : Bool) (e : Entry) (part es fs : List Entry) → claimed_number part ≤ one_if e.claimed → claimed_number fs ≤ claimed_number es → claimed_number ((if b then part else e ∷ []) ++ fs) ≤ one_if e.claimed + claimed_number es
no_more_step true e part es fs h k = let both = claimed_joined part fs in omega (arith, both, h, k)
no_more_step false e part es fs h k = omega (arith, k)

-- no more than before, where the entry of the receipt becomes claimed only if it was
no_more : (r : ℕ) (f : Entry → List Entry) (es : List Entry) → ((e : Entry) → claimed_number (f e) ≤ one_if e.claimed) → claimed_number (flat_map (at_receipt r f) es) ≤ claimed_number es
no_more r f [] h = omega arith
no_more r f (e ∷ es) h = no_more_step (r == e.receipt) e (f e) es (flat_map (at_receipt r f) es) (h e) (no_more r f es h)

pub claimed_taken : (r : ℕ) (es : List Entry) → claimed_number (flat_map (at_receipt r (λ e. [])) es) ≤ claimed_number es
claimed_taken r es = no_more r (λ e. []) es (λ e. omega arith)

pub claimed_freed : (r : ℕ) (es : List Entry) → claimed_number (flat_map (at_receipt r (λ e. marked false e ∷ [])) es) ≤ claimed_number es
claimed_freed r es = no_more r (λ e. marked false e ∷ []) es (λ e. omega arith)

pub claimed_failed : (r : ℕ) (es : List Entry) → claimed_number (flat_map (at_receipt r (λ e. failed e ∷ [])) es) ≤ claimed_number es
claimed_failed r es = no_more r (λ e. failed e ∷ []) es (λ e. omega arith)

fewer_step : (r : ℕ) (b d : Bool) (e : Entry) (es fs : List Entry) → (r == e.receipt) ≡ b → e.claimed ≡ d → ((b && d) || is_claimed r es) ≡ true → claimed_number fs ≤ claimed_number es → (is_claimed r es ≡ true → claimed_number fs + 1 ≤ claimed_number es)
    → claimed_number ((if b then marked false e ∷ [] else e ∷ []) ++ fs) + 1 ≤ one_if d + claimed_number es
fewer_step r true true e es fs f g h most next = omega (arith, most)
fewer_step r true false e es fs f g h most next = omega (arith, next h)
fewer_step r false d e es fs f g h most next = let same : one_if e.claimed ≡ one_if d = ap one_if g in omega (arith, next h, same)

-- one fewer, where the receipt is claimed
pub claimed_released : (r : ℕ) (es : List Entry) → is_claimed r es ≡ true → claimed_number (flat_map (at_receipt r (λ e. marked false e ∷ [])) es) + 1 ≤ claimed_number es
claimed_released r [] h = absurd (let apart : false ≡ true = h in cc)
claimed_released r (e ∷ es) h =
    fewer_step r (r == e.receipt) e.claimed e es (flat_map (at_receipt r (λ e. marked false e ∷ [])) es) refl refl h (claimed_freed r es) (claimed_released r es)

claimed_one : (b : Bool) → one_if b ≤ 1
claimed_one true = omega arith
claimed_one false = omega arith

pub claimed_most : (es : List Entry) → claimed_number es ≤ length es
claimed_most [] = omega arith
claimed_most (e ∷ es) = let one = claimed_one e.claimed in let rest = claimed_most es in omega (arith, one, rest)

marked_length_step : (b m : Bool) (e : Entry) (es fs : List Entry) → length fs ≡ length es → length ((if b then marked m e ∷ [] else e ∷ []) ++ fs) ≡ suc (length es)
marked_length_step true m e es fs h = omega (arith, h)
marked_length_step false m e es fs h = omega (arith, h)

pub marked_length : (r : ℕ) (m : Bool) (es : List Entry) → length (flat_map (at_receipt r (λ e. marked m e ∷ [])) es) ≡ length es
marked_length r m [] = refl
marked_length r m (e ∷ es) = marked_length_step (r == e.receipt) m e es (flat_map (at_receipt r (λ e. marked m e ∷ [])) es) (marked_length r m es)

pub claimed_more : (es : List Entry) (r : ℕ) (c : Command) → claimed_number (es ++ new_entry r c ∷ []) ≡ claimed_number es
claimed_more es r c = let both = claimed_joined es (new_entry r c ∷ []) in omega (arith, both)
