-- How an intake goes on and how it ends, by what its steps come to.
use Rattle.std.proofs.Common.{◌≡◌, ◌⊎◌, inl, inr, ◌∙◌, sym, ap, subst, ℕ, ◌≤◌, ℤ, true, false, List, [], ◌∷◌, ◌++◌, length, arith, Option, Some, None, IfSome}
use Rattle.std.specs.Io.KnownBytes.{IsAtEnd}
use Rattle.fleet_hub.specs.fleet_rows.declared.command.Command.{Command}
use Rattle.fleet_hub.specs.fleet_rows.declared.settings.Kinds.{Kinds}
use Rattle.fleet_hub.specs.history_spec.Thread.{Item, command, sweep}
use Rattle.program_words.specs.spool_spec.Spool.{End, whole, bad_at, SpoolOf}
use Rattle.spool_text.specs.Next as next
use Rattle.program_words.proofs.of_plain_laws.Options.{some_is}
use Rattle.fleet_hub.specs.core_spec.History.{History}
use Rattle.fleet_hub.specs.core_state.declared.state.CoreState.{CoreState}
use Rattle.fleet_hub.specs.core_course.Sight.{Sight, is_down}
use Rattle.fleet_hub.specs.core_course.Courses.{Passed}
use Rattle.fleet_hub.specs.core_course.Work.{Worked}
use Rattle.fleet_hub.specs.core_drain.Ends.{SomethingWaits}
use Rattle.fleet_hub.proofs.of_core_drain.Later.{queue_rose_later, waits_later, open_later, room_later, behind_later, fault_later}
use Rattle.spool_run.specs.declared.ends.SpoolEnd.{SpoolEnd}
use Rattle.spool_run.specs.declared.ends.SpoolEnd.TheVariants as end
use Rattle.fleet_hub.specs.core_spec.declared.entry.Entry.{Entry}
use Rattle.spool_run.specs.Rules.{IsBatch, before_work, NothingIsDue}
use Rattle.spool_run.specs.Fronts.{AreInFront, ComesNext, IsReadTo}
use Rattle.spool_run.specs.Intake as intake
use Rattle.spool_run.specs.Intake.{TookIn, TookAll, EndsSo}
use Rattle.spool_run.specs.Steps.{DrainEnds, LastDrained, stopped, settled, BatchDrained, few, many, AddedNothing, CommandRefused, CommandTaken, OneTaken, refused, taken, SweepFailed, SweepTaken, SweptDrained, halted, drained, SoFar}
use Rattle.spool_run.proofs.Readings.{one_more, whole_spool, bad_spool, a_front, were_read, nothing_read}
use Rattle.spool_run.proofs.Took.{Fresh, took_nothing, took_last, took_end, took_batch, took_command, took_sweep, took_still}
use Rattle.program_words.specs.json_tree.Limits.{most_payload}
use Rattle.program_words.specs.spool_spec.Limits.{most_spool}

-- ---- the ends of steps

module _ {D K : Type 0} (w : Sight D K) (now : ℤ) (bytes rest : Option (List ℕ)) (items : List Item) (front : IfSome bytes (AreInFront now items)) (a b c : CoreState D K) (took : TookIn w now bytes true items a c)
    (past : History) (p : Passed w past a b) (up : is_down w b ≡ false) where
  waits : SomethingWaits w b c → SomethingWaits w a c
  waits h = waits_later w past a b c p h

  drain_ends : (end : SpoolEnd) → DrainEnds w (Some end) b c → EndsSo w now end bytes rest a c
  drain_ends end.Done d = absurd d
  drain_ends (end.Bad at) d = absurd d
  drain_ends end.ReadFault d = absurd d
  drain_ends end.QueueFault d = inr (record { items = items; spool = front; took = took; after = (queue_rose_later w past a b c p d.0, d.1, fault_later w past a b c p up d.2) })
  drain_ends end.StoreDown d = record { items = items; spool = front; took = took; after = (behind_later w past a b c p 2 d.0, d.1, intake.waits (open_later w past a b c p up d.2)) }
  drain_ends end.StoreFault d = absurd d
  drain_ends end.Spent d = inr (record { items = items; spool = front; took = took; after = (d.0, intake.to_settle (room_later w past a b c p d.1) (waits d.2)) })
  drain_ends end.Memory d = record { items = items; spool = front; took = took; after = d }

  command_ends : (still : TookIn w now bytes false items a c) → NothingIsDue still.more c.pending → (x : Command) → ComesNext now bytes items (command x) → x.received ≡ now → length x.payload ≤ most_payload
      → AddedNothing w (command x) b c → (end : SpoolEnd) → CommandRefused w end x b c → EndsSo w now end bytes rest a c
  command_ends still calm x comes received short added end.Done d = absurd d
  command_ends still calm x comes received short added (end.Bad at) d = absurd d
  command_ends still calm x comes received short added end.ReadFault d = absurd d
  command_ends still calm x comes received short added end.QueueFault d = inl (record { items = items; spool = front; took = still; after = (queue_rose_later w past a b c p d.0, d.1, d.2, calm, x, comes, d.3, record { earlier = past; mid = b; before = p; up = up; passed = added.passed; link = added.link; failed = d.0 }) })
  command_ends still calm x comes received short added end.StoreDown d = absurd d
  command_ends still calm x comes received short added end.StoreFault d = absurd d
  command_ends still calm x comes received short added end.Spent d =
      inl (record { items = items; spool = front; took = still; after = (d.0, calm, record { command_is = x; comes = comes; received = received; payload = short; spent = d.1 }) })
  command_ends still calm x comes received short added end.Memory d = record { items = items; spool = front; took = took; after = d }

  sweep_ends : (kinds : Kinds) (m : ℤ) → ComesNext now bytes items (sweep kinds m) → c.pending ≡ [] → AddedNothing w (sweep kinds m) b c → (end : SpoolEnd) → SweepFailed w end kinds m b c → EndsSo w now end bytes rest a c
  sweep_ends kinds m comes none added end.Done d = absurd d
  sweep_ends kinds m comes none added (end.Bad at) d = absurd d
  sweep_ends kinds m comes none added end.ReadFault d = absurd d
  sweep_ends kinds m comes none added end.QueueFault d = absurd d
  sweep_ends kinds m comes none added end.StoreDown d = record { items = items; spool = front; took = took; after = (behind_later w past a b c p 2 d.0, d.1, intake.comes (record { kinds = kinds; moment = m; comes = comes; nothing = none }) (λ start stood. d.2 start (p.stands start stood))) }
  sweep_ends kinds m comes none added end.StoreFault d =
      record { items = items; spool = front; took = took; after = (behind_later w past a b c p 1 d.0, d.1, (record { kinds = kinds; moment = m; comes = comes; nothing = none }, d.2, record { earlier = past; mid = b; before = p; up = up; passed = added.passed; link = added.link; failed = d.0 })) }
  sweep_ends kinds m comes none added end.Spent d = inr (record { items = items; spool = front; took = took; after = (d.0, intake.to_sweep kinds m comes none d.1) })
  sweep_ends kinds m comes none added end.Memory d = record { items = items; spool = front; took = took; after = d }

-- ---- no batch

-- nothing is due where no event came and what waits is the same
still_none : (run further : History) (es others : List Entry) → further ≡ run → others ≡ es → NothingIsDue run es → NothingIsDue further others
still_none run further es others same left h = subst (λ (t : History × List Entry). NothingIsDue t.0 t.1) (λ j. (sym same j, sym left j)) h

none_is_few : IsBatch [] → ⊥
none_is_few (inl h) = omega (arith, h)
none_is_few (inr h) = omega (arith, h)

module _ {D K : Type 0} (w : Sight D K) (now : ℤ) (bytes : Option (List ℕ)) where
  after_drain : (b c : CoreState D K) → DrainEnds w None b c → IsBatch c.pending → ⊥
  after_drain b c d h = none_is_few (subst IsBatch d.1 h)

  record Batched (items : List Item) (a c : CoreState D K) : Type 0 where
    pub took : TookIn w now bytes false items a c
    pub up : is_down w c ≡ false
    pub few : IsBatch c.pending → ⊥
    pub whole : (before_work took.more ≡ took.more) ⊎ (c.pending ≡ [])

  -- a drain of a batch, or none, and no batch waits
  batch_goes : (items : List Item) (a b c : CoreState D K) → Fresh w now bytes items a b → is_down w b ≡ false → BatchDrained w None b c → Batched items a c
  batch_goes items a b c f up (few e calm same) =
      let here : Fresh w now bytes items a c = subst (λ x. Fresh w now bytes items a x) (sym same) f in
      record {
        took = here.took;
        up = subst (λ x. is_down w x ≡ false) (sym same) up;
        few = subst (λ x. IsBatch x.pending → ⊥) (sym same) calm;
        whole = inl here.fresh;
      }
  batch_goes items a b c f up (many big h d) = record { took = took_batch w now bytes items a b c f big h; up = d.0; few = after_drain b c d; whole = inr d.1 }

  batch_stops : (rest : Option (List ℕ)) (items : List Item) (front : IfSome bytes (AreInFront now items)) (end : SpoolEnd) (a b c : CoreState D K) → Fresh w now bytes items a b → is_down w b ≡ false → BatchDrained w (Some end) b c
      → EndsSo w now end bytes rest a c
  batch_stops rest items front end a b c f up (few e calm same) = absurd (cc)
  batch_stops rest items front end a b c f up (many big h d) =
      drain_ends w now bytes rest items front a b c (took_end w now bytes items a b c f.took h) f.took.more f.took.passed up end d

  -- ---- the intake's steps

  pub starts : (p : ℕ) (rest : Option (List ℕ)) (a b : CoreState D K) → IsReadTo now bytes [] p rest → is_down w a ≡ false → BatchDrained w None a b → SoFar w now bytes rest p a b
  starts p rest a b read up d =
      let g = batch_goes [] a a b (took_nothing w now bytes a) up d in
      record { items = []; read = read; took = g.took; up = g.up; few = g.few; whole = g.whole }

  pub start_stops : (rest : Option (List ℕ)) (end : SpoolEnd) (a b : CoreState D K) → is_down w a ≡ false → BatchDrained w (Some end) a b → EndsSo w now end bytes rest a b
  start_stops rest end a b up d = batch_stops rest [] (a_front now [] bytes bytes 0 (nothing_read now bytes)) end a a b (took_nothing w now bytes a) up d

  module _ (old new left : Option (List ℕ)) (p q : ℕ) (a b c : CoreState D K) (h : SoFar w now bytes old p a b) where
    here : IfSome bytes (AreInFront now h.items)
    here = a_front now h.items bytes old p h.read

    further : (item : Item) → next.Gives now item p q old new → q ≤ most_spool → IsReadTo now bytes (h.items ++ item ∷ []) q new
    further item g within = one_more now item h.items bytes old new p q h.read g within

    comes : (item : Item) → next.Gives now item p q old new → q ≤ most_spool → ComesNext now bytes h.items item
    comes item g within = a_front now (h.items ++ item ∷ []) bytes new q (further item g within)

    pub command_goes : (x : Command) → next.Gives now (command x) p q old new → q ≤ most_spool → OneTaken w None x b c → SoFar w now bytes new q a c
    command_goes x g within (refused end e d) = absurd (cc)
    command_goes x g within (taken mid t d) =
        let f = took_command w now bytes h.items a b mid t.0 x (comes (command x) g within) h.took h.few h.whole t.1 in
        let o = batch_goes (h.items ++ command x ∷ []) a mid c f t.2 d in
        record { items = h.items ++ command x ∷ []; read = further (command x) g within; took = o.took; up = o.up; few = o.few; whole = o.whole }

    pub command_stops : (x : Command) → next.Gives now (command x) p q old new → q ≤ most_spool → (end : SpoolEnd) → OneTaken w (Some end) x b c → EndsSo w now end bytes left a c
    command_stops x g within end (refused other e d) =
        let same : CommandTaken w (Some end) x b c = subst (λ o. CommandTaken w o x b c) (sym e) d in
        let none : NothingIsDue h.took.more b.pending = record { few = h.few; whole = h.whole } in
        let still = took_still w now bytes false h.items a b h.took (command x) (comes (command x) g within) none c same.0 in
        command_ends w now bytes left h.items here a b c (took_last w now bytes h.items a c still.0) h.took.more h.took.passed h.up
        still.0 (still_none h.took.more still.0.more b.pending c.pending still.1 same.1 none) x (comes (command x) g within) g.is_item.received_is g.is_item.payload same.0 end same.2
    command_stops x g within end (taken mid t d) =
        batch_stops left (h.items ++ command x ∷ []) (comes (command x) g within) end a mid c
        (took_command w now bytes h.items a b mid t.0 x (comes (command x) g within) h.took h.few h.whole t.1) t.2 d

    pub sweep_goes : (kinds : Kinds) (m : ℤ) → next.Gives now (sweep kinds m) p q old new → q ≤ most_spool → SweptDrained w None kinds m b c → SoFar w now bytes new q a c
    sweep_goes kinds m g within (halted end e k d) = absurd (cc)
    sweep_goes kinds m g within (drained mid k d t) = record {
      items = h.items ++ sweep kinds m ∷ [];
      read = further (sweep kinds m) g within;
      took = took_sweep w now bytes h.items a mid c kinds m (comes (sweep kinds m) g within) (took_end w now bytes h.items a b mid h.took k) d.1 t.0;
      up = t.2;
      few = λ big. none_is_few (subst IsBatch (t.1 ∙ d.1) big);
      whole = inr (t.1 ∙ d.1);
    }

    pub sweep_stops : (kinds : Kinds) (m : ℤ) → next.Gives now (sweep kinds m) p q old new → q ≤ most_spool → (end : SpoolEnd) → SweptDrained w (Some end) kinds m b c → EndsSo w now end bytes left a c
    sweep_stops kinds m g within end (halted other e k d) =
        drain_ends w now bytes left h.items here a b c (took_end w now bytes h.items a b c h.took k) h.took.more h.took.passed h.up end (subst (λ o. DrainEnds w o b c) (sym e) d)
    sweep_stops kinds m g within end (drained mid k d t) =
        let before = took_end w now bytes h.items a b mid h.took k in
        sweep_ends w now bytes left h.items here a mid c (took_still w now bytes true h.items a mid before (sweep kinds m) (comes (sweep kinds m) g within) d.1 c t.0).0 before.more before.passed d.0
        kinds m (comes (sweep kinds m) g within) (t.1 ∙ d.1) t.0 end t.2

    -- the spool's end, whole or not
    took_all : (e : End) → IfSome bytes (λ b. SpoolOf now b h.items e) → Worked w b c → DrainEnds w None b c → TookAll w now bytes e a c
    took_all e spool k d = record { items = h.items; spool = spool; took = took_end w now bytes h.items a b c h.took k; up = d.0; nothing = d.1 }

    last_stops : (end : SpoolEnd) → Worked w b c → DrainEnds w (Some end) b c → EndsSo w now end bytes left a c
    last_stops end k d = drain_ends w now bytes left h.items here a b c (took_end w now bytes h.items a b c h.took k) h.took.more h.took.passed h.up end d

    pub at_end : (result : SpoolEnd) → IsAtEnd old → IsAtEnd left → LastDrained w result end.Done b c → EndsSo w now result bytes left a c
    at_end result e read (stopped fault same k d) = subst (λ r. EndsSo w now r bytes left a c) (sym same) (last_stops fault k d)
    at_end result e read (settled same k d) =
        subst (λ r. EndsSo w now r bytes left a c) (sym same) (took_all whole (whole_spool now h.items bytes old p h.read e) k d, read)

    pub at_fault : (result : SpoolEnd) (at : ℕ) → at ≡ p → IfSome old (next.IsBad now at) → LastDrained w result (end.Bad at) b c → EndsSo w now result bytes left a c
    at_fault result at e bad (stopped fault same k d) = subst (λ r. EndsSo w now r bytes left a c) (sym same) (last_stops fault k d)
    at_fault result at e bad (settled same k d) =
        subst (λ r. EndsSo w now r bytes left a c) (sym same) (took_all (bad_at at) (bad_spool now h.items bytes old p at h.read e bad) k d)

  module _ (old left : Option (List ℕ)) (p : ℕ) (a b : CoreState D K) (h : SoFar w now bytes old p a b) where
    pub not_read : next.StopsIn now p old left → EndsSo w now end.ReadFault bytes left a b
    not_read stops = record {
      items = h.items;
      spool = a_front now h.items bytes old p h.read;
      took = h.took;
      after = (h.up, record { few = h.few; whole = h.whole }, were_read now h.items bytes old left p h.read stops);
    }

    pub no_memory : EndsSo w now end.Memory bytes left a b
    no_memory = record { items = h.items; spool = a_front now h.items bytes old p h.read; took = took_last w now bytes h.items a b h.took; after = h.up }

-- ---- none of the steps answers that the spool can't be read

module _ {D K : Type 0} (w : Sight D K) where
  drain_reads : (b c : CoreState D K) (why : SpoolEnd) → DrainEnds w (Some why) b c → why ≡ end.ReadFault → ⊥
  drain_reads b c why d e = subst (λ x. DrainEnds w (Some x) b c) e d

  pub batch_reads : (b c : CoreState D K) (why : SpoolEnd) → BatchDrained w (Some why) b c → why ≡ end.ReadFault → ⊥
  batch_reads b c why (few n calm same) e = cc
  batch_reads b c why (many big h d) e = drain_reads b c why d e

  pub command_reads : (b c : CoreState D K) (x : Command) (why : SpoolEnd) → OneTaken w (Some why) x b c → why ≡ end.ReadFault → ⊥
  command_reads b c x why (refused other same d) e =
      let h : CommandTaken w (Some end.ReadFault) x b c = subst (λ o. CommandTaken w o x b c) (sym same ∙ ap (λ z. Some z) e) d in
      h.2
  command_reads b c x why (taken mid t d) e = batch_reads mid c why d e

  pub sweep_reads : (b c : CoreState D K) (kinds : Kinds) (m : ℤ) (why : SpoolEnd) → SweptDrained w (Some why) kinds m b c → why ≡ end.ReadFault → ⊥
  sweep_reads b c kinds m why (halted other same k d) e = drain_reads b c other d (some_is other why (sym same) ∙ e)
  sweep_reads b c kinds m why (drained mid k d t) e =
      let h : SweepTaken w (Some end.ReadFault) kinds m mid c = subst (λ z. SweepTaken w (Some z) kinds m mid c) e t in
      h.2

  pub last_reads : (b c : CoreState D K) (result why : SpoolEnd) → (why ≡ end.ReadFault → ⊥) → LastDrained w result why b c → result ≡ end.ReadFault → ⊥
  last_reads b c result why other (stopped fault same k d) e = drain_reads b c fault d (sym same ∙ e)
  last_reads b c result why other (settled same k d) e = other (sym same ∙ e)
