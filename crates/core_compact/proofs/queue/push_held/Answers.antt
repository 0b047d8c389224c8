use Rattle.std.proofs.Common.{◌≡◌, ◌∙◌, ◌++◌, [], ◌∷◌, ◌≤◌, ◌<◌, ◌+◌, List, ℕ, drop, length, map, append-nil, arith, sym, ap, subst}
use Rattle.std.proofs.lemmas.List.{drop_all}
use Rattle.supersede_core.proofs.of_plain_laws.Members.{all_at}
use Rattle.core_state.specs.core_spec.declared.entry.Entry.{Entry}
use Rattle.core_state.specs.core_spec.Checkpoints.{held}
use Rattle.core_state.specs.Seen.{IsFit}
use Rattle.core_compact.specs.Anew.{AreRead}
use Rattle.core_compact.proofs.Frames.{texts, next_frame, next_read}
use Rattle.core_compact.proofs.queue.push_held.Goals as goal

pub held_frame-requires-clause-few : goal.held_frame-requires-clause-few
held_frame-requires-clause-few c = all_at (λ (e : Entry). e.attempts < 16) c.args.pending.now c.writing.i c.at.result.now c.requires.few c.at.ensures

pub held_frame-requires-clause-fit : goal.held_frame-requires-clause-fit
held_frame-requires-clause-fit c = all_at (λ (e : Entry). IsFit e.command) c.args.pending.now c.writing.i c.at.result.now c.requires.fit c.at.ensures

pub writing-preserved : goal.writing-preserved
writing-preserved c =
    let es = c.args.pending.now in
    let whole = c.args.frames.now ++ texts held es in
    let grown = c.in_ok-push.ensures.ok in (
      subst (λ (fs : List (List ℕ)). fs ++ texts held (drop (c.writing.i + 1) es) ≡ whole) (sym grown)
          (next_frame held es c.writing.i c.at.result.now c.writing.frames whole c.in_ok-frame.frame c.at.ensures c.in_ok-frame.ensures.0 c.writing.invariant.0),
      next_read held es c.writing.i c.at.result.now c.at.ensures c.in_ok-frame.ensures.1 c.writing.invariant.1,
    )

pub returns-clause-frames : goal.returns-clause-frames
returns-clause-frames c =
    let es = c.args.pending.now in
    let past : length es ≤ c.writing.i = omega (arith, c.count-count.ensures.count, c.writing-test.false) in
    sym (append-nil c.writing.frames) ∙ ap (λ (xs : List Entry). c.writing.frames ++ texts held xs) (sym (drop_all c.writing.i es past)) ∙ c.writing.invariant.0

pub returns-clause-read : goal.returns-clause-read
returns-clause-read c =
    let es = c.args.pending.now in
    let past : length es ≤ c.writing.i = omega (arith, c.count-count.ensures.count, c.writing-test.false) in
    c.writing.invariant.1 (subst (λ (xs : List Entry). AreRead (map held xs)) (sym (drop_all c.writing.i es past)) tt)
