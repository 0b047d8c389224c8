-- What follows from a course of its last core and of its disks.
use Rattle.std.proofs.Common.{◌≡◌, ◌∙◌, ◌⊎◌, inl, inr, ⊎_elim, ℕ, zero, suc, ◌≤◌, Bool, true, false, List, [], ◌∷◌, ◌++◌, Option, arith, refl, sym, ap, subst, append_assoc}
use Rattle.core_state.specs.fleet_rows.declared.settings.Ttls.{Ttls}
use Rattle.core_state.specs.log_pair.Pair.{disk_a, disk_b}
use Rattle.core_state.specs.record_spec.declared.queue.QueueRecord.{QueueRecord}
use Rattle.core_state.specs.record_spec.declared.store.StoreRecord.{StoreRecord}
use Rattle.core_state.specs.core_spec.History.{History}
use Rattle.core_state.specs.queue_log.declared.queue.QueueLog.{QueueLog}
use Rattle.core_state.specs.queue_log.Queued.{queue_pair, queue_moment, QueueImages, QueueSince}
use Rattle.core_state.specs.declared.state.CoreState.{CoreState}
use Rattle.core_state.specs.Moments.{IsLater, GoesOn, StandsAmid}
use Rattle.core_state.proofs.Later.{same_later}
use Rattle.core_state.specs.StandsFor.{AreOfOneRecord, EachImage, history_of}
use Rattle.core_course.specs.Sight.{Sight, Stood, is_down}
use Rattle.core_course.specs.Courses.{DisksGo, silent, writes, Link, AreLinked, SomeMay, TimeGoesOn, IsWithinOne, NoMomentIsLeftOut}
use Rattle.core_course.proofs.Stretches.{history_joined, amid_also}

-- ---- histories that go on

goes_join : (a b c : History) → GoesOn a b → GoesOn b c → GoesOn a c
goes_join a b c g h = (h.0 ++ g.0, h.1 ∙ (ap (λ (x : History). h.0 ++ x) g.1 ∙ sym (append_assoc h.0 g.0 a)))

core_goes : {D K : Type 0} (a b : CoreState D K) (start : History) → GoesOn a.events.list b.events.list → GoesOn (history_of a start) (history_of b start)
core_goes a b start g = (g.0, history_joined g.0 a b start g.1)

module _ (ttls : Ttls) (Begins : History → History → Type 0) (old mid new : History) (q : Option (List QueueRecord)) (s : Option (List StoreRecord)) where
  -- a later history is one of an earlier start
  amid_from : GoesOn old mid → StandsAmid ttls Begins mid new q s → StandsAmid ttls Begins old new q s
  amid_from g h = record { upto = h.upto; from_old = goes_join old mid h.upto g h.from_old; to_new = h.to_new; begun = h.begun; begins = h.begins; stands = h.stands }

  -- and goes on
  amid_to : GoesOn mid new → StandsAmid ttls Begins old mid q s → StandsAmid ttls Begins old new q s
  amid_to g h = record { upto = h.upto; from_old = h.from_old; to_new = goes_join h.upto mid new h.to_new g; begun = h.begun; begins = h.begins; stands = h.stands }

-- ---- no moment is left out

either_side : (t u : ℕ) → (t ≤ u) ⊎ (u ≤ t)
either_side zero u = inl (omega arith)
either_side (suc t) zero = inr (omega arith)
either_side (suc t) (suc u) = elim (either_side t u) [ inl less ↦ inl (omega (arith, less)) | inr more ↦ inr (omega (arith, more)) ]

none_left_out : {D K : Type 0} (clock : CoreState D K → ℕ) (a b : CoreState D K) (stops : List (CoreState D K)) (t : ℕ) → clock a ≤ t → t ≤ clock b → IsWithinOne clock t a stops b
none_left_out clock a b [] t from to = (from, to)
none_left_out clock a b (mid ∷ stops) t from to =
    elim (either_side t (clock mid)) [ inl before ↦ inl (from, before) | inr behind ↦ inr (none_left_out clock mid b stops t behind to) ]

pub all_are_within : {D K : Type 0} (w : Sight D K) (a b : CoreState D K) (stops : List (CoreState D K)) → NoMomentIsLeftOut w a stops b
all_are_within w a b stops = record {
  queue_a = none_left_out (λ core. (queue_moment w.moment core.queue).0) a b stops;
  queue_b = none_left_out (λ core. (queue_moment w.moment core.queue).1) a b stops;
  store_a = none_left_out (λ core. (w.store_moment core.store).0) a b stops;
  store_b = none_left_out (λ core. (w.store_moment core.store).1) a b stops;
}

module _ {D K : Type 0} (w : Sight D K) (May : CoreState D K → History → Type 0) where
  -- ---- the last core

  pub links_stand : (a b : CoreState D K) (stops : List (CoreState D K)) → AreLinked w May a stops b → (start : History) → Stood w a start → Stood w b start
  links_stand a b [] l start stood = l.stands start stood
  links_stand a b (mid ∷ stops) l start stood = links_stand mid b stops l.1 start (l.0.stands start stood)

  links_go : (a b : CoreState D K) (stops : List (CoreState D K)) → AreLinked w May a stops b → GoesOn a.events.list b.events.list
  links_go a b [] l = l.goes
  links_go a b (mid ∷ stops) l = goes_join a.events.list mid.events.list b.events.list l.0.goes (links_go mid b stops l.1)

  -- ---- time

  disks_later : (a b : CoreState D K) → DisksGo w (May a) a b → (start : History) → Stood w a start → TimeGoesOn w a b
  disks_later a b (silent queue store) start stood = record {
    queue = same_later (queue_moment w.moment a.queue) (queue_moment w.moment b.queue) (ap (queue_moment w.moment) queue);
    store = same_later (w.store_moment a.store) (w.store_moment b.store) (ap w.store_moment store);
  }
  disks_later a b (writes up any) start stood = let within = any start stood in record { queue = within.later_queue; store = within.later_store }

  later_join : (t u v : ℕ × ℕ) → IsLater t u → IsLater u v → IsLater t v
  later_join t u v first second = (omega (arith, first.0, second.0), omega (arith, first.1, second.1))

  pub links_later : (a b : CoreState D K) (stops : List (CoreState D K)) → AreLinked w May a stops b → (start : History) → Stood w a start → TimeGoesOn w a b
  links_later a b [] l start stood = disks_later a b l.disks start stood
  links_later a b (mid ∷ stops) l start stood =
      let first = disks_later a mid l.0.disks start stood in
      let rest = links_later mid b stops l.1 start (l.0.stands start stood) in
      record {
        queue = later_join (queue_moment w.moment a.queue) (queue_moment w.moment mid.queue) (queue_moment w.moment b.queue) first.queue rest.queue;
        store = later_join (w.store_moment a.store) (w.store_moment mid.store) (w.store_moment b.store) first.store rest.store;
      }

  -- ---- behind a core that is down nothing is written

  abbrev Silent : CoreState D K → CoreState D K → Type 0
  Silent a b = (b.queue ≡ a.queue) × (b.store ≡ a.store)

  silent_now : (a b : CoreState D K) → DisksGo w (May a) a b → is_down w a ≡ true → Silent a b
  silent_now a b (silent queue store) down = (queue, store)
  silent_now a b (writes up any) down = absurd (let apart : true ≡ false = sym down ∙ up in cc)

  silent_on : (a b : CoreState D K) (stops : List (CoreState D K)) → AreLinked w May a stops b → is_down w a ≡ true → Silent a b
  silent_on a b [] l down = silent_now a b l.disks down
  silent_on a b (mid ∷ stops) l down =
      let first = silent_now a mid l.0.disks down in
      let rest = silent_on mid b stops l.1 (l.0.stays_down down) in
      (rest.0 ∙ first.0, rest.1 ∙ first.1)

  -- ---- images

  -- those of a core whose disks are an earlier one's
  queue_before : (a b : CoreState D K) → Silent a b → (q : Option (List QueueRecord)) → QueueImages w.may_leave b.queue q → QueueImages w.may_leave a.queue q
  queue_before a b same q i = subst (λ (l : QueueLog D). QueueImages w.may_leave l q) same.0 i

  store_before : (a b : CoreState D K) → Silent a b → (s : Option (List StoreRecord)) → w.images b.store s → w.images a.store s
  store_before a b same s j = subst (λ (k : K). w.images k s) same.1 j

  abbrev Amid : (History → Type 0) → CoreState D K → CoreState D K → History → Option (List QueueRecord) → Option (List StoreRecord) → Type 0
  Amid Begins a b start q s = StandsAmid a.tables.ttls (λ upto begun. AreOfOneRecord begun × Begins begun) (history_of a start) (history_of b start) q s

  module _ (counts_now : (d : D) (t : ℕ) (c : List ℕ) → t ≤ w.moment d → w.may_leave d c → w.left_since d t c) where
    since : (a b : CoreState D K) → IsLater (queue_moment w.moment a.queue) (queue_moment w.moment b.queue) → (q : Option (List QueueRecord)) → QueueImages w.may_leave b.queue q → QueueSince w.left_since b.queue (queue_moment w.moment a.queue) q
    since a b later q i = (
      i.0,
      i.1,
      counts_now (disk_a (queue_pair b.queue)) (w.moment (disk_a (queue_pair a.queue))) i.0 later.0 i.2,
      counts_now (disk_b (queue_pair b.queue)) (w.moment (disk_b (queue_pair a.queue))) i.1 later.1 i.3,
      i.4,
    )

    module _ (a b : CoreState D K) (link : Link w (May a) a b) (up : is_down w a ≡ false) (start : History) (stood : Stood w a start)
        (q : Option (List QueueRecord)) (s : Option (List StoreRecord)) (i : QueueImages w.may_leave b.queue q) (j : w.images b.store s) where
      link_amid : DisksGo w (May a) a b → Amid (May a) a b start q s
      link_amid (silent queue store) = record {
        upto = history_of a start;
        from_old = ([], refl);
        to_new = core_goes a b start link.goes;
        begun = [];
        begins = inl refl;
        stands = ⊎_elim (λ here. here) (λ amid. absurd (let apart : true ≡ false = sym amid.0 ∙ up in cc))
            (stood.disks.each q s (queue_before a b (queue, store) q i) (store_before a b (queue, store) s j));
      }
      link_amid (writes was_up any) = let within = any start stood in within.then_queue q s (since a b within.later_queue q i) j

      link_images : Amid (May a) a b start q s
      link_images = link_amid link.disks

    module _ (a mid b : CoreState D K) (stops : List (CoreState D K)) (first : Link w (May a) a mid) (rest : AreLinked w May mid stops b) (up : is_down w a ≡ false)
        (start : History) (stood : Stood w a start) (q : Option (List QueueRecord)) (s : Option (List StoreRecord)) (i : QueueImages w.may_leave b.queue q) (j : w.images b.store s) where
      abbrev Any : History → Type 0
      Any begun = SomeMay May a (mid ∷ stops) begun

      -- behind the first call, which left the core up
      further : Amid (SomeMay May mid stops) mid b start q s → Amid Any a b start q s
      further h =
          amid_from a.tables.ttls (λ upto begun. AreOfOneRecord begun × Any begun) (history_of a start) (history_of mid start) (history_of b start) q s (core_goes a mid start first.goes)
          (subst (λ (lives : Ttls). StandsAmid lives (λ upto begun. AreOfOneRecord begun × Any begun) (history_of mid start) (history_of b start) q s) first.lifetimes
          (amid_also w (λ begun. SomeMay May mid stops begun) Any (λ begun may. inr may) mid.tables.ttls (history_of mid start) (history_of b start) q s h))

      -- which took it down
      last : is_down w mid ≡ true → Amid Any a b start q s
      last down =
          let same = silent_on mid b stops rest down in
          amid_to a.tables.ttls (λ upto begun. AreOfOneRecord begun × Any begun) (history_of a start) (history_of mid start) (history_of b start) q s (core_goes mid b start (links_go mid b stops rest))
          (amid_also w (May a) Any (λ begun may. inl may) a.tables.ttls (history_of a start) (history_of mid start) q s
          (link_images a mid first up start stood q s (queue_before mid b same q i) (store_before mid b same s j)))

      either : (is_down w mid ≡ false → Amid (SomeMay May mid stops) mid b start q s) → (down : Bool) → is_down w mid ≡ down → Amid Any a b start q s
      either next true is = last is
      either next false is = further (next is)

    pub images_amid : (a b : CoreState D K) (stops : List (CoreState D K)) → AreLinked w May a stops b → is_down w a ≡ false → (start : History) → Stood w a start
        → EachImage w.may_leave w.images b (λ q s. Amid (λ begun. SomeMay May a stops begun) a b start q s)
    images_amid a b [] l up start stood q s i j = link_images a b l up start stood q s i j
    images_amid a b (mid ∷ stops) l up start stood q s i j =
        either a mid b stops l.0 l.1 up start stood q s i j
        (λ calm. images_amid mid b stops l.1 calm start (l.0.stands start stood) q s i j) (is_down w mid) refl
