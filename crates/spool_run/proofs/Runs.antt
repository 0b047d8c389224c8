-- The rules of a run hold with one step more.
use Rattle.std.proofs.Common.{◌≡◌, ◌⊎◌, refl, sym, ap, subst, ℕ, ℤ, List, [], ◌∷◌, ◌++◌, None, Some, Bool, true, false}
use Rattle.fleet_hub.specs.fleet_rows.declared.command.Command.{Command}
use Rattle.fleet_hub.specs.fleet_rows.declared.settings.Kinds.{Kinds}
use Rattle.fleet_hub.specs.history_spec.Thread as thread
use Rattle.fleet_hub.specs.history_spec.Thread.{Item}
use Rattle.fleet_hub.specs.core_spec.declared.event.Event.TheVariants.{Submit, Claim, Release, Apply, Supersede, Fail, Discard, Sweep, Restart}
use Rattle.fleet_hub.specs.core_spec.History.{History}
use Rattle.fleet_hub.specs.core_spec.Pending.{pending_of}
use Rattle.fleet_hub.specs.core_laws.Threads.{items_of, MomentsAreKept}
use Rattle.fleet_hub.specs.core_course.Work.{IsWork}
use Rattle.fleet_hub.proofs.of_core_course.Traces.{moments_joined}
use Rattle.spool_run.specs.Rules.{IsBatch, HasNoRestart, SweepsAreDrained, SubmitsAreBatched, before_work, IsDue, WorkIsDue, KeepsRules}

-- ---- work brings nothing in

pub work_items : (work run : History) → IsWork work → items_of (work ++ run) ≡ items_of run
work_items [] run h = refl
work_items (Submit r c ∷ work) run h = absurd h
work_items (Sweep kinds m ∷ work) run h = absurd h
work_items (Restart ∷ work) run h = absurd h
work_items (Claim r ∷ work) run h = work_items work run h
work_items (Release r ∷ work) run h = work_items work run h
work_items (Apply r None ∷ work) run h = absurd h
work_items (Apply r (Some t) ∷ work) run h = work_items work run h
work_items (Supersede q p ∷ work) run h = work_items work run h
work_items (Fail r before after ∷ work) run h = work_items work run h
work_items (Discard r cause ∷ work) run h = work_items work run h

pub work_restarts : (work run : History) → IsWork work → HasNoRestart run → HasNoRestart (work ++ run)
work_restarts [] run h k = k
work_restarts (Submit r c ∷ work) run h k = absurd h
work_restarts (Sweep kinds m ∷ work) run h k = absurd h
work_restarts (Restart ∷ work) run h k = absurd h
work_restarts (Claim r ∷ work) run h k = work_restarts work run h k
work_restarts (Release r ∷ work) run h k = work_restarts work run h k
work_restarts (Apply r None ∷ work) run h k = absurd h
work_restarts (Apply r (Some t) ∷ work) run h k = work_restarts work run h k
work_restarts (Supersede q p ∷ work) run h k = work_restarts work run h k
work_restarts (Fail r before after ∷ work) run h k = work_restarts work run h k
work_restarts (Discard r cause ∷ work) run h k = work_restarts work run h k

module _ (start run : History) where
  work_sweeps : (work : History) → IsWork work → SweepsAreDrained start run → SweepsAreDrained start (work ++ run)
  work_sweeps [] h k = k
  work_sweeps (Submit r c ∷ work) h k = absurd h
  work_sweeps (Sweep kinds m ∷ work) h k = absurd h
  work_sweeps (Restart ∷ work) h k = absurd h
  work_sweeps (Claim r ∷ work) h k = work_sweeps work h k
  work_sweeps (Release r ∷ work) h k = work_sweeps work h k
  work_sweeps (Apply r None ∷ work) h k = absurd h
  work_sweeps (Apply r (Some t) ∷ work) h k = work_sweeps work h k
  work_sweeps (Supersede q p ∷ work) h k = work_sweeps work h k
  work_sweeps (Fail r before after ∷ work) h k = work_sweeps work h k
  work_sweeps (Discard r cause ∷ work) h k = work_sweeps work h k

  work_submits : (work : History) → IsWork work → SubmitsAreBatched start run → SubmitsAreBatched start (work ++ run)
  work_submits [] h k = k
  work_submits (Submit r c ∷ work) h k = absurd h
  work_submits (Sweep kinds m ∷ work) h k = absurd h
  work_submits (Restart ∷ work) h k = absurd h
  work_submits (Claim r ∷ work) h k = work_submits work h k
  work_submits (Release r ∷ work) h k = work_submits work h k
  work_submits (Apply r None ∷ work) h k = absurd h
  work_submits (Apply r (Some t) ∷ work) h k = work_submits work h k
  work_submits (Supersede q p ∷ work) h k = work_submits work h k
  work_submits (Fail r before after ∷ work) h k = work_submits work h k
  work_submits (Discard r cause ∷ work) h k = work_submits work h k

-- ---- work is due

before_more : (work run : History) → IsWork work → before_work (work ++ run) ≡ before_work run
before_more [] run h = refl
before_more (Submit r c ∷ work) run h = absurd h
before_more (Sweep kinds m ∷ work) run h = absurd h
before_more (Restart ∷ work) run h = absurd h
before_more (Claim r ∷ work) run h = before_more work run h
before_more (Release r ∷ work) run h = before_more work run h
before_more (Apply r None ∷ work) run h = absurd h
before_more (Apply r (Some t) ∷ work) run h = before_more work run h
before_more (Supersede q p ∷ work) run h = before_more work run h
before_more (Fail r before after ∷ work) run h = before_more work run h
before_more (Discard r cause ∷ work) run h = before_more work run h

module _ (due : Bool) (start run : History) (here : IsDue due (pending_of (before_work run ++ start))) where
  due_here : (work : History) → IsWork work → IsDue due (pending_of (before_work (work ++ run) ++ start))
  due_here work h = subst (λ l. IsDue due (pending_of (l ++ start))) (sym (before_more work run h)) here

  due_more : (work : History) → IsWork work → WorkIsDue due start run → WorkIsDue due start (work ++ run)
  due_more [] h k = k
  due_more (Submit r c ∷ work) h k = absurd h
  due_more (Sweep kinds m ∷ work) h k = absurd h
  due_more (Restart ∷ work) h k = absurd h
  due_more (Claim r ∷ work) h k = (due_here work h, due_more work h k)
  due_more (Release r ∷ work) h k = (due_here work h, due_more work h k)
  due_more (Apply r None ∷ work) h k = absurd h
  due_more (Apply r (Some t) ∷ work) h k = (due_here work h, due_more work h k)
  due_more (Supersede q p ∷ work) h k = (due_here work h, due_more work h k)
  due_more (Fail r before after ∷ work) h k = (due_here work h, due_more work h k)
  due_more (Discard r cause ∷ work) h k = (due_here work h, due_more work h k)

-- what was due without the end is so with it
due_last : (start run : History) → WorkIsDue false start run → WorkIsDue true start run
due_last start [] h = tt
due_last start (Submit r c ∷ run) h = h
due_last start (Sweep kinds m ∷ run) h = h
due_last start (Restart ∷ run) h = (tt, due_last start run h.1)
due_last start (Claim r ∷ run) h = (tt, due_last start run h.1)
due_last start (Release r ∷ run) h = (tt, due_last start run h.1)
due_last start (Apply r t ∷ run) h = (tt, due_last start run h.1)
due_last start (Supersede q p ∷ run) h = (tt, due_last start run h.1)
due_last start (Fail r before after ∷ run) h = (tt, due_last start run h.1)
due_last start (Discard r cause ∷ run) h = (tt, due_last start run h.1)

-- ---- the rules, step by step

pub no_run : (due : Bool) (start : History) → KeepsRules due start []
no_run due start = record { moments = tt; drained = tt; batched = tt; work = tt }

module _ (start run : History) where
  pub at_last : KeepsRules false start run → KeepsRules true start run
  at_last h = record { moments = h.moments; drained = h.drained; batched = h.batched; work = due_last start run h.work }

  pub one_submit : (r : ℕ) (c : Command) → KeepsRules false start run → (IsBatch (pending_of (run ++ start)) → ⊥) → (before_work run ≡ run) ⊎ (pending_of (run ++ start) ≡ [])
      → KeepsRules false start (Submit r c ∷ run)
  one_submit r c h few whole = record { moments = h.moments; drained = h.drained; batched = (few, whole, h.batched); work = h.work }

  pub one_sweep : (kinds : Kinds) (m : ℤ) → KeepsRules true start run → pending_of (run ++ start) ≡ [] → KeepsRules false start (Sweep kinds m ∷ run)
  one_sweep kinds m h none = record { moments = h.moments; drained = (none, h.drained); batched = h.batched; work = h.work }

  pub some_work : (due : Bool) (work : History) → KeepsRules due start run → IsDue due (pending_of (before_work run ++ start)) → IsWork work → MomentsAreKept (run ++ start) work → KeepsRules due start (work ++ run)
  some_work due work h here is moments = record {
    moments = moments_joined start work run h.moments moments;
    drained = work_sweeps start run work is h.drained;
    batched = work_submits start run work is h.batched;
    work = due_more due start run here work is h.work;
  }

-- ---- its items

pub submit_items : (r : ℕ) (c : Command) (run : History) (items : List Item) → items_of run ≡ items → items_of (Submit r c ∷ run) ≡ items ++ thread.command c ∷ []
submit_items r c run items h = ap (λ xs. xs ++ thread.command c ∷ []) h

pub sweep_items : (kinds : Kinds) (m : ℤ) (run : History) (items : List Item) → items_of run ≡ items → items_of (Sweep kinds m ∷ run) ≡ items ++ thread.sweep kinds m ∷ []
sweep_items kinds m run items h = ap (λ xs. xs ++ thread.sweep kinds m ∷ []) h
