use Rattle.std.proofs.Common.{◌≡◌, ◌∙◌, ◌<◌, ◌%◌, ◌^◌, false, List, [], ◌++◌, length, sym, ap, subst, arith, rules}
use Rattle.core_ends.specs.core_state.declared.state.CoreState.{CoreState}
use Rattle.core_ends.specs.core_state.Seen.{events_of}
use Rattle.live_stage.specs.Notes.{NoteView, notes_of, IsWithin}
use Rattle.live_stage.specs.Trace.{applied_count, sweep_count}
use Rattle.core_ends.specs.core_spec.History.{trace_of}
use Rattle.live_stage.proofs.Shelving.{leads_none}
use Rattle.live_stage.proofs.Counts.{tallied}
use Rattle.live_stage.proofs.Caused.{none_noted}
use Rattle.hub_calls.specs.Follows.{Follows}
use Rattle.hub_calls.proofs.Steps.{nothing_follows}
use Rattle.core_ends.specs.core_course.Sight.{sight_of}
use Rattle.live_stage.proofs.stage.Stage.new.Goals as goal

pub invariant_of-result : goal.invariant_of-result
invariant_of-result g c =
    let fits : c.tally-applied.result.applied < 2 ^ 64 = search rules in
    let events = events_of c.args.core in
    let applied : c.tally-applied.result.applied ≡ applied_count events = ap (λ t. t.applied) c.tally-applied.ensures ∙ tallied events in
    let word : c.tally-applied.result.applied ≡ applied_count events % 2 ^ 64 = omega arith in
    let none : notes_of c.new-2.result.items ≡ [] = ap (λ l. notes_of l) c.new-2.ensures in (
      (
        ap (λ (l : List NoteView). length l % 2 ^ 64) (sym none),
        ap (λ n. n % 2 ^ 64) (sym (ap (λ (core : CoreState g.row.D.Denot g.row.K.Denot). sweep_count core.events.list) c.new.ensures.core ∙ c.requires.no_sweep)),
        word ∙ ap (λ (core : CoreState g.row.D.Denot g.row.K.Denot). applied_count core.events.list % 2 ^ 64) (sym c.new.ensures.core),
        subst (λ (l : List NoteView). IsWithin l (length c.new.result.core.events.list)) (sym none) tt,
        none_noted (sight_of g.D.Disk g.K.Keeper) c.new.result.start c.new.result.core (notes_of c.new-2.result.items) none,
      ),
      λ h stood. leads_none c.new-3.result (trace_of (c.new.result.core.events.list ++ h)) c.new-3.ensures,
      subst (λ (core : CoreState g.row.D.Denot g.row.K.Denot). Follows (sight_of g.D.Disk g.K.Keeper) false core c.new.result.core) (sym c.new.ensures.start)
          (subst (Follows (sight_of g.D.Disk g.K.Keeper) false c.args.core) (sym c.new.ensures.core) (nothing_follows (sight_of g.D.Disk g.K.Keeper) false c.args.core)),
    )
