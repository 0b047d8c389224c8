-- One hold of a stage is one call, and a worker's calls follow one another.
use Rattle.std.proofs.Common.{◌≡◌, ◌≢◌, ◌∙◌, ℕ, false, List, [], ◌∷◌, ◌++◌, length, Option, Some, None, IfSome, refl, sym, ap, subst, append_assoc, append-nil}
use mathlib.Core.List.{IsPrefix}
use Rattle.turn_lock.specs.Holds.{hold}
use Rattle.turn_lock.specs.Seen.{PassView}
use Rattle.lock_calls.proofs.Calls.{call_is_known}
use Rattle.core_ends.specs.core_claims.declared.answers.Claimed.{Claimed}
use Rattle.core_ends.specs.core_claims.declared.answers.Claimed.TheVariants as claimed
use Rattle.core_ends.specs.core_claims.declared.job.Job.{Job}
use Rattle.core_ends.specs.core_settles.declared.answers.Settled.{Settled}
use Rattle.core_ends.specs.core_settles.declared.answers.Settled.TheVariants as settled
use Rattle.core_ends.specs.core_settles.declared.answers.Verdict.{Verdict}
use Rattle.core_ends.specs.core_course.Sight.{Sight}
use Rattle.hub_work.specs.Ends.{claimed_job, returned_job}
use Rattle.hub_work.proofs.Ends.{no_job}
use Rattle.hub_calls.specs.Follows.{Follows}
use Rattle.live_stage.specs.declared.note.Staged.{Staged}
use Rattle.live_stage.specs.declared.worker.Next.{Next}
use Rattle.live_stage.specs.declared.worker.Next.TheVariants.{Pause}
use Rattle.live_stage.specs.declared.worker.WorkStop.{WorkStop}
use Rattle.live_stage.specs.Notes.{StageView, list_of}
use Rattle.live_stage.specs.Causes.{AreNoted}
use Rattle.live_stage.specs.StageCalls.{StageCall, was_claimed, was_settled, was_released, added, IsTurn, AreTurns, DoesAtCore, StageDoes, OneStageCall, KnowsStageCalls, OneClaim, OneSettle, OneRelease, WorksOn}
use Rattle.live_stage.specs.WorkEnds.{next_of_claim, next_of_settle, next_of, next_at, TurnsTo, GoesOnOr}

-- what differs from each answer without memory hands no job back
no_memory : (came : Settled) → ((job : Job) (v : Verdict) → came ≢ settled.Memory job v) → returned_job came ≡ None
no_memory (settled.Memory job v) other = absurd (other job v refl)
no_memory settled.Applied other = refl
no_memory settled.Discarded other = refl
no_memory (settled.Failed attempts) other = refl
no_memory settled.StoreDown other = refl
no_memory settled.QueueFault other = refl
no_memory settled.NotClaimed other = refl
no_memory settled.Spent other = refl
no_memory settled.Down other = refl

module _ {D K : Type 0} (w : Sight D K) (generation : K → ℕ) where
  pub one_hold : (call : StageCall) (before after : PassView (Staged D K)) (n : ℕ) (x y shown left : StageView D K) → shown ≡ x → left ≡ y
      → list_of left ≡ list_of shown ++ added call → left.start ≡ shown.start → Follows w false shown.start shown.core → DoesAtCore w generation call shown.core left.core → AreNoted w left
      → IsPrefix before.seen (list_of x) → after.seen ≡ list_of y → after.holds ≡ before.holds ++ hold n (length (list_of x)) (length (list_of y)) ∷ [] → OneStageCall w generation call before after
  one_hold call before after n x y shown left shows leaves list start follows did causes begins seen holds = record {
    number = n;
    found = list_of x;
    begins = begins;
    does = record {
      before = shown;
      after = left;
      found_is = ap (λ (s : StageView D K). list_of s) (sym shows);
      left_is = ap (λ (s : StageView D K). list_of s ++ added call) (sym shows) ∙ sym list;
      start = start;
      follows = follows;
      did = did;
      causes = causes;
    };
    seen = seen ∙ (ap (λ (s : StageView D K). list_of s) (sym leaves) ∙ (list ∙ ap (λ (s : StageView D K). list_of s ++ added call) shows));
    holds = holds ∙ ap (λ (l : List (Staged D K)). before.holds ++ hold n (length (list_of x)) (length l) ∷ []) (sym seen);
  }

  -- ---- a worker

  turns_join : (held hand last : Option Job) (xs ys : List StageCall) → AreTurns held xs hand → AreTurns hand ys last → AreTurns held (xs ++ ys) last
  turns_join held hand last [] ys a b = subst (λ (o : Option Job). AreTurns o ys last) a b
  turns_join held hand last (x ∷ xs) ys a b = (a.0, a.1, turns_join a.0 hand last xs ys a.2 b)

  pub works_not : (held : Option Job) (pass : PassView (Staged D K)) → WorksOn w generation held pass held pass
  works_not held pass calls knows = ([], refl, subst (KnowsStageCalls w generation pass) (sym (append-nil calls)) knows)

  pub works_join : (held hand last : Option Job) (a b c : PassView (Staged D K)) → WorksOn w generation held a hand b → WorksOn w generation hand b last c → WorksOn w generation held a last c
  works_join held hand last a b c first second calls knows =
      let f = first calls knows in
      let s = second (calls ++ f.0) f.2 in
      (f.0 ++ s.0, turns_join held hand last f.0 s.0 f.1 s.1, subst (KnowsStageCalls w generation c) (append_assoc calls f.0 s.0) s.2)

  one_turn : (held hand : Option Job) (call : StageCall) (a b : PassView (Staged D K)) → IsTurn held call hand → OneStageCall w generation call a b → WorksOn w generation held a hand b
  one_turn held hand call a b is one calls knows = (call ∷ [], (hand, is, refl), call_is_known added (StageDoes w generation) call calls a b knows one)

  last_turn : (next : Next) (held : Option Job) (call : StageCall) (a b : PassView (Staged D K)) → IsTurn held call None → next_of call ≡ next → OneStageCall w generation call a b → TurnsTo w generation next held a b
  last_turn next held call a b is last one calls knows = ([], call, last, (None, is, refl), call_is_known added (StageDoes w generation) call calls a b knows one)

  -- the last turn of those that follow is the last of all
  pub turns_later : (next : Next) (held hand : Option Job) (a b c : PassView (Staged D K)) → WorksOn w generation held a hand b → TurnsTo w generation next hand b c → TurnsTo w generation next held a c
  turns_later next held hand a b c first second calls knows =
      let f = first calls knows in
      let s = second (calls ++ f.0) f.2 in
      let last = s.1 ∷ [] in (
        f.0 ++ s.0,
        s.1,
        s.2,
        subst (λ (l : List StageCall). AreTurns held l None) (sym (append_assoc f.0 s.0 last)) (turns_join held hand None f.0 (s.0 ++ last) f.1 s.3),
        subst (KnowsStageCalls w generation c) (append_assoc calls f.0 (s.0 ++ last) ∙ ap (λ (l : List StageCall). calls ++ l) (sym (append_assoc f.0 s.0 last))) s.4,
      )

  -- turns with a last one are turns
  pub turns_work : (next : Next) (held : Option Job) (a b : PassView (Staged D K)) → TurnsTo w generation next held a b → WorksOn w generation held a None b
  turns_work next held a b turns calls knows = let s = turns calls knows in (s.0 ++ s.1 ∷ [], s.3, s.4)

  pub goes_on_or : (next : Next) (stop : Option WorkStop) (a b : PassView (Staged D K)) → IfSome stop (λ s. next_at s ≡ next) → TurnsTo w generation next None a b → GoesOnOr w generation stop a b
  goes_on_or next None a b is turns = turns_work next None a b turns
  goes_on_or next (Some s) a b is turns = subst (λ (n : Next). TurnsTo w generation n None a b) (sym is) turns

  module _ (a b : PassView (Staged D K)) where
    -- a claim that hands a job out
    pub claims_job : (came : Claimed) (job : Job) → came ≡ claimed.Job job → OneClaim w generation came a b → WorksOn w generation None a (Some job) b
    claims_job came job is one = one_turn None (Some job) (was_claimed came one.0) a b (one.1, sym (ap claimed_job is)) one.2

    -- and one that hands none out
    pub claims_none : (came : Claimed) (next : Next) → ((job : Job) → came ≢ claimed.Job job) → next ≡ next_of_claim came → OneClaim w generation came a b → TurnsTo w generation next None a b
    claims_none came next other is one = last_turn next None (was_claimed came one.0) a b (one.1, sym (no_job came other)) (sym is) one.2

    -- a settle that hands the job back
    pub settle_returns : (came : Settled) (job given : Job) (v u : Verdict) → came ≡ settled.Memory given u → OneSettle w generation job v came a b → WorksOn w generation (Some job) a (Some given) b
    settle_returns came job given v u is one = one_turn (Some job) (Some given) (was_settled job v came one.0) a b (refl, one.1, sym (ap returned_job is)) one.2

    -- and one that ends it
    pub settle_ends : (came : Settled) (job : Job) (v : Verdict) (next : Next) → ((given : Job) (u : Verdict) → came ≢ settled.Memory given u) → next ≡ next_of_settle came
        → OneSettle w generation job v came a b → TurnsTo w generation next (Some job) a b
    settle_ends came job v next other is one = last_turn next (Some job) (was_settled job v came one.0) a b (refl, one.1, sym (no_memory came other)) (sym is) one.2

    pub releases : (job : Job) → OneRelease w generation job a b → TurnsTo w generation Pause (Some job) a b
    releases job one = last_turn Pause (Some job) (was_released job one.0) a b (refl, one.1, refl) refl one.2
