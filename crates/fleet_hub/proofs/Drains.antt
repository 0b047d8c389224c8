-- Workers, and then the caller.
use Rattle.std.proofs.Common.{◌≡◌, ◌∙◌, ◌↔◌, Bool, true, false, ◌||◌, if◌then◌else◌, Some, refl, sym, ap, subst}
use Rattle.core_drain.specs.queue_log.Queued.{queue_down}
use Rattle.core_drain.specs.core_spec.History.{History}
use Rattle.core_drain.specs.core_state.declared.state.CoreState.{CoreState}
use Rattle.core_drain.specs.core_state.declared.state.DownBy.{DownBy}
use Rattle.core_drain.specs.core_state.declared.state.DownBy.TheVariants.{No, Queue, Store}
use Rattle.core_drain.specs.core_state.Seen.{down_by_of}
use Rattle.core_drain.specs.fleet_ports.declared.disk.Disk as disk
use Rattle.core_drain.specs.fleet_keeper.declared.keeper.Keeper as keeper
use Rattle.core_drain.specs.core_course.Sight.{Sight, is_down, sight_of}
use Rattle.core_drain.specs.core_course.Work.{IsWork, Worked}
use Rattle.core_drain.proofs.of_core_course.Stretches.{worked_on, course_also}
use Rattle.core_drain.specs.core_ends.declared.ends.WorkEnd.{WorkEnd}
use Rattle.core_drain.specs.core_ends.declared.ends.WorkEnd.TheVariants.{Done, QueueFault, StoreDown, Spent, Down, Memory}
use Rattle.core_drain.specs.Ends.{EndsSo, EndsHere, NothingClaimed}
use Rattle.core_drain.specs.LastCall.{EndsByCall}
use Rattle.core_drain.proofs.LastCall.{by_call_later}
use Rattle.core_drain.proofs.Links.{core_up}
use Rattle.core_drain.proofs.Releases.{FreeSays, free_claims_works, free_claims_down, nothing_works}
use Rattle.core_drain.proofs.Later.{here_later, ends_so, not_down}
use Rattle.core_drain.proofs.Unclaimed.{down_claims_none}
use Rattle.hub_work.specs.hub_calls.Follows.{MayWrite, is_work, is_submit, is_sweep, WentDown, by_store, by_queue, Follows}
use Rattle.fleet_hub.specs.Finish.{Finished}

-- ---- which log a core is down by

abbrev named : Bool → Bool → Bool → DownBy
named undone queue store = if store then Store else (if undone || queue then Queue else No)

store_named : (undone queue store : Bool) → named undone queue store ≡ Store → store ≡ true
store_named undone queue true is = refl
store_named true queue false is = absurd cc
store_named false true false is = absurd cc
store_named false false false is = absurd cc

queue_named : (undone queue store : Bool) → named undone queue store ≡ Queue → (store ≡ false) × (undone || (queue || store) ≡ true)
queue_named undone queue true is = absurd cc
queue_named true queue false is = (refl, refl)
queue_named false true false is = (refl, refl)
queue_named false false false is = absurd cc

none_named : (undone queue store : Bool) → named undone queue store ≡ No → undone || (queue || store) ≡ false
none_named undone queue true is = absurd cc
none_named true queue false is = absurd cc
none_named false true false is = absurd cc
none_named false false false is = refl

module _ {D K : Type 0} (w : Sight D K) where
  -- ---- what the caller makes of it

  store_finish : (core : CoreState D K) → w.store_down core.store ≡ true → Finished w StoreDown core core
  store_finish core store = record {
    worked = nothing_works w core core refl;
    up = λ up. let apart : true ≡ false = sym store ∙ (core_up w core up).store in cc;
    down = λ down. refl;
    by_store = λ is. refl;
    by_queue = λ down is. let apart : true ≡ false = sym store ∙ is in cc;
    unclaimed = λ up. absurd (let apart : true ≡ false = sym store ∙ (core_up w core up).store in cc);
  }

  pub finished_store : (core : CoreState D K) → down_by_of w.store_down core ≡ Store → Finished w StoreDown core core
  finished_store core is = store_finish core (store_named core.undone (queue_down core.queue) (w.store_down core.store) is)

  pub by_store_down : (core : CoreState D K) → down_by_of w.store_down core ≡ Store → is_down w core ≡ false → ⊥
  by_store_down core is up = let apart : true ≡ false = sym (store_named core.undone (queue_down core.queue) (w.store_down core.store) is) ∙ (core_up w core up).store in cc

  pub by_queue_down : (core : CoreState D K) → down_by_of w.store_down core ≡ Queue → is_down w core ≡ false → ⊥
  by_queue_down core is up = let apart : true ≡ false = sym (queue_named core.undone (queue_down core.queue) (w.store_down core.store) is).1 ∙ up in cc

  queue_finish : (core : CoreState D K) → (w.store_down core.store ≡ false) × (is_down w core ≡ true) → Finished w QueueFault core core
  queue_finish core is = record {
    worked = nothing_works w core core refl;
    up = λ up. let apart : true ≡ false = sym is.1 ∙ up in cc;
    down = λ down. refl;
    by_store = λ store. let apart : true ≡ false = sym store ∙ is.0 in cc;
    by_queue = λ down store. refl;
    unclaimed = down_claims_none w core core is.1;
  }

  pub finished_queue : (core : CoreState D K) → down_by_of w.store_down core ≡ Queue → Finished w QueueFault core core
  finished_queue core is = queue_finish core (queue_named core.undone (queue_down core.queue) (w.store_down core.store) is)

  up_named : (core : CoreState D K) → down_by_of w.store_down core ≡ No → is_down w core ≡ false
  up_named core is = none_named core.undone (queue_down core.queue) (w.store_down core.store) is

  -- an end that isn't Down is one of a turn
  here_of : (end : WorkEnd) (old new : CoreState D K) → (end ≡ Down → ⊥) → EndsSo w end old new → EndsHere w (Some end) old new
  here_of Done old new other h = h
  here_of QueueFault old new other h = h
  here_of StoreDown old new other h = h
  here_of Spent old new other h = h
  here_of Down old new other h = absurd (other refl)
  here_of Memory old new other h = h

  alone_finish : (end : WorkEnd) (old new : CoreState D K) → is_down w old ≡ false → Worked w old new → EndsSo w end old new → NothingClaimed w old new → (end ≡ Down) ↔ (is_down w old ≡ true)
      → Finished w end old new
  alone_finish end old new up worked ends unclaimed by = record {
    worked = worked;
    up = λ is. here_of end old new (λ e. let apart : true ≡ false = sym (by.0 e) ∙ up in cc) ends;
    down = λ down. let apart : true ≡ false = sym down ∙ up in cc;
    by_store = λ store. let apart : true ≡ false = sym store ∙ (core_up w old up).store in cc;
    by_queue = λ down store. let apart : true ≡ false = sym down ∙ up in cc;
    unclaimed = unclaimed;
  }

  pub finished_alone : (end : WorkEnd) (old new : CoreState D K) → down_by_of w.store_down old ≡ No → Worked w old new → EndsSo w end old new → NothingClaimed w old new
      → (end ≡ Down) ↔ (is_down w old ≡ true) → Finished w end old new
  finished_alone end old new is = alone_finish end old new (up_named old is)

  -- ---- what the workers made of it

  only_work : (core : CoreState D K) (begun : History) → MayWrite true core begun → IsWork begun
  only_work core begun (is_work h) = h
  only_work core begun (is_submit other c is) = absurd cc
  only_work core begun (is_sweep other kinds m is) = absurd cc

  -- what a hub for work alone leads to is work
  pub work_of_hub : (a b : CoreState D K) → Follows w true a b → Worked w a b
  work_of_hub a b f = record { more = f.more; only = f.works refl; passed = f.passed; moments = f.moments; course = course_also w (λ core begun. MayWrite true core begun) (λ core begun. IsWork begun) only_work a b f.course }

  -- ---- all of it

  module _ (end : WorkEnd) (start freed closed final : CoreState D K) (says : FreeSays w start freed) (was_up : is_down w start ≡ false) (hub : Follows w true freed closed)
      (finish : Finished w end closed final) where
    free : Worked w start freed
    free = free_claims_works w start freed says

    up : is_down w freed ≡ false
    up = free_claims_down w start freed says ∙ was_up

    before : Worked w start closed
    before = worked_on w start freed closed free (work_of_hub freed closed hub)

    pub drain_works : Worked w start final
    drain_works = worked_on w start closed final before finish.worked

    fell : (down : is_down w closed ≡ true) → WentDown w true freed closed → EndsHere w (Some end) freed closed
    fell down (by_store store rose left) = subst (λ (e : WorkEnd). EndsHere w (Some e) freed closed) (sym (finish.by_store store)) (rose, store, left refl)
    fell down (by_queue store rose left) = subst (λ (e : WorkEnd). EndsHere w (Some e) freed closed) (sym (finish.by_queue down store)) (rose, store, left refl)

    ends_by : (was : Bool) → is_down w closed ≡ was → EndsHere w (Some end) start final
    ends_by false is = here_later w before.more start closed final before.passed is (Some end) (finish.up is)
    ends_by true is =
        subst (EndsHere w (Some end) start) (sym (finish.down is)) (here_later w free.more start freed closed free.passed up (Some end) (fell is (hub.goes_down up is)))

    drain_ends_here : EndsHere w (Some end) start final
    drain_ends_here = ends_by (is_down w closed) refl

    pub drain_ends : EndsSo w end start final
    drain_ends = ends_so w end start final drain_ends_here

    pub drain_unclaimed : NothingClaimed w start final
    drain_unclaimed is begun stood = finish.unclaimed is begun (before.passed.stands begun stood)

    pub drain_down : (end ≡ Down) ↔ (is_down w start ≡ true)
    drain_down = ((λ e. absurd (not_down w end start final drain_ends_here e)), (λ down. let apart : true ≡ false = sym down ∙ was_up in cc))

-- the last call of a core that is up at the end is the caller's
module _ {D K : Type 0} (d : disk.Ghosts D) (k : keeper.Ghosts K) where
  pub drain_last : (end : WorkEnd) (start freed closed final : CoreState D K) → FreeSays (sight_of d k) start freed → Follows (sight_of d k) true freed closed → Finished (sight_of d k) end closed final
      → (is_down (sight_of d k) closed ≡ false → EndsByCall d k end closed final) → is_down (sight_of d k) final ≡ false → EndsByCall d k end start final
  drain_last end start freed closed final says hub finish last up = by_state (is_down (sight_of d k) closed) refl
    where
      by_state : (was : Bool) → is_down (sight_of d k) closed ≡ was → EndsByCall d k end start final
      by_state false is =
          by_call_later d k start closed final
          (worked_on (sight_of d k) start freed closed (free_claims_works (sight_of d k) start freed says) (work_of_hub (sight_of d k) freed closed hub)) end (last is)
      by_state true is =
          let same : is_down (sight_of d k) final ≡ is_down (sight_of d k) closed = ap (is_down (sight_of d k)) (finish.down is) in
          let apart : true ≡ false = sym is ∙ (sym same ∙ up) in cc
