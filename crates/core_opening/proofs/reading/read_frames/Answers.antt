use Rattle.std.proofs.Common.{◌≡◌, ◌+◌, ◌==◌, ℕ, List, [], ◌∷◌, ◌++◌, Bool, Err, Ok, ap, Some, subst, sym, ◌∙◌, length, arith, append_assoc, append-nil, length-append}
use Rattle.std.specs.Vec.Iter.{into_iter_items}
use Rattle.core_state.specs.record_spec.declared.queue.QueueRecord.{QueueRecord}
use Rattle.core_state.specs.core_spec.Damage.{IsQueueLog}
use Rattle.core_state.specs.fleet_keeper.Records.{read_all}
use Rattle.core_state.specs.queue_records.Reading.{queue_at}
use Rattle.core_state.proofs.of_fleet_keeper.Readings.{placed, none_left}
use Rattle.core_opening.specs.declared.reading.UnreadQueue.TheVariants as unread
use Rattle.core_opening.specs.Replayed.{TakesFrame, IsTaken, MatchReading}
use Rattle.core_opening.proofs.Frames.{HasRead, read_on, damaged_here, read_whole, nonempty}
use Rattle.core_opening.proofs.reading.read_frames.Goals as goal

pub reading-preserved : goal.reading-preserved
reading-preserved c =
    let at = c.reading in
    let all = into_iter_items c.into_iter-frame-iterator.result in
    let x = c.in-Some.frame in
    let rest = into_iter_items c.next.new.self in
    let steps : into_iter_items at.frame-iterator ≡ x ∷ rest = c.in-Some.ensures.steps.0 in
    let here = placed all at.yielded (into_iter_items at.frame-iterator) rest x at.invariant.0 steps in
    let old = at.so_far in
    let new = c.take_frame-taken.new.so_far in
    let text : c.as_slice-in-reading.result.now ≡ x = c.as_slice-in-reading.ensures in
    let size : c.as_slice.result.now ≡ x = c.as_slice.ensures in
    let took : IsTaken old x new = subst (λ (f : List ℕ). IsTaken old f new) text (subst (λ (b : Bool). TakesFrame b old c.as_slice-in-reading.result.now new) c.in-Ok-true.field-0-test c.in-Ok-true.ensures) in
    let one = read_on all (length at.yielded) old at.at at.invariant.1 x here.0 here.1 new c.saturating_add-at.result took (omega (arith, c.saturating_add-at.ensures, ap length size)) in
    let number : length (at.yielded ++ x ∷ []) ≡ length at.yielded + 1 = length-append at.yielded (x ∷ []) in (
      append_assoc at.yielded (x ∷ []) rest ∙ sym (ap (λ (r : List (List ℕ)). at.yielded ++ r) steps) ∙ at.invariant.0,
      subst (λ (n : ℕ). HasRead all n new c.saturating_add-at.result) (sym number) one,
      let was = at.invariant.2 in
          let gone = c.in-Some.ensures.steps.1 in
          let short = ap length steps in
          omega arith,
    )

pub returns-in-Ok-false : goal.returns-in-Ok-false
returns-in-Ok-false c =
    let at = c.reading in
    let all = into_iter_items c.into_iter-frame-iterator.result in
    let x = c.in-Some.frame in
    let here = placed all at.yielded (into_iter_items at.frame-iterator) (into_iter_items c.next.new.self) x at.invariant.0 c.in-Some.ensures.steps.0 in
    let old = at.so_far in
    let text : c.as_slice-in-reading.result.now ≡ x = c.as_slice-in-reading.ensures in
    let not = subst (λ (b : Bool). TakesFrame b old c.as_slice-in-reading.result.now c.take_frame-taken.new.so_far) c.in-Ok-false.field-0-test c.in-Ok-false.ensures in
    record {
      told = subst (λ (fs : List (List ℕ)). MatchReading (Err (unread.Damaged at.at)) fs) c.into_iter-frame-iterator.ensures.into_iter_gives.0
          (length at.yielded, damaged_here all (length at.yielded) old at.at at.invariant.1 x here.0 here.1 (λ r read may. not r (ap queue_at text ∙ read) may), at.invariant.1.place);
    }

pub returns-in-Ok : goal.returns-in-Ok
returns-in-Ok c =
    let at = c.reading in
    let frames = into_iter_items c.into_iter-frame-iterator.result in
    let given : frames ≡ c.args.frames.items = c.into_iter-frame-iterator.ensures.into_iter_gives.0 in
    let empty : into_iter_items at.frame-iterator ≡ [] = none_left (into_iter_items at.frame-iterator) (sym at.invariant.2 ∙ c.in-None.ensures.steps.0) in
    let done : at.yielded ≡ frames = sym (append-nil at.yielded) ∙ sym (ap (λ (r : List (List ℕ)). at.yielded ++ r) empty) ∙ at.invariant.0 in
    let some = nonempty (length frames) (ap (λ (fs : List (List ℕ)). length fs == 0) given ∙ sym c.are_none-none.ensures ∙ c.if-none.false) in
    let whole = read_whole frames (length at.yielded) at.so_far at.at at.invariant.1 (ap length done) some in
    let same = sym c.in-Ok.ensures.1 in
    record {
      told = subst (λ (fs : List (List ℕ)). MatchReading (Ok c.in-Ok.reading) fs) given (
        subst (λ (rs : List QueueRecord). read_all queue_at frames ≡ Some rs) same whole.0,
        subst IsQueueLog same whole.1,
        c.in-Ok.ensures.0,
      );
    }
