use Rattle.std.proofs.Common.{◌≡◌, ◌∙◌, ◌++◌, [], ◌∷◌, ◌≤◌, ◌<◌, ◌+◌, List, ℕ, drop, length, map, append-nil, arith, sym, ap, subst}
use Rattle.std.proofs.lemmas.List.{drop_all}
use Rattle.supersede_core.proofs.of_plain_laws.Members.{all_at}
use Rattle.core_state.specs.core_spec.declared.dead.Dead.{Dead}
use Rattle.core_state.specs.core_spec.Checkpoints.{dead}
use Rattle.core_state.specs.Seen.{IsFit}
use Rattle.core_compact.specs.Anew.{AreRead}
use Rattle.core_compact.proofs.Frames.{texts, next_frame, next_read}
use Rattle.core_compact.proofs.queue.push_dead.Goals as goal

pub dead_frame-requires : goal.dead_frame-requires
dead_frame-requires c = record { fit = all_at (λ (d : Dead). IsFit d.command) c.args.discards.now.list c.writing.i c.at.result.now c.requires.fit c.at.ensures }

pub writing-preserved : goal.writing-preserved
writing-preserved c =
    let es = c.args.discards.now.list in
    let whole = c.args.frames.now ++ texts dead es in
    let grown = c.in_ok-push.ensures.ok in (
      subst (λ (fs : List (List ℕ)). fs ++ texts dead (drop (c.writing.i + 1) es) ≡ whole) (sym grown)
          (next_frame dead es c.writing.i c.at.result.now c.writing.frames whole c.in_ok-frame.frame c.at.ensures c.in_ok-frame.ensures.0 c.writing.invariant.0),
      next_read dead es c.writing.i c.at.result.now c.at.ensures c.in_ok-frame.ensures.1 c.writing.invariant.1,
    )

pub returns-clause-frames : goal.returns-clause-frames
returns-clause-frames c =
    let es = c.args.discards.now.list in
    let past : length es ≤ c.writing.i = omega (arith, c.count-i-end.ensures, c.writing-test.false) in
    sym (append-nil c.writing.frames) ∙ ap (λ (xs : List Dead). c.writing.frames ++ texts dead xs) (sym (drop_all c.writing.i es past)) ∙ c.writing.invariant.0

pub returns-clause-read : goal.returns-clause-read
returns-clause-read c =
    let es = c.args.discards.now.list in
    let past : length es ≤ c.writing.i = omega (arith, c.count-i-end.ensures, c.writing-test.false) in
    c.writing.invariant.1 (subst (λ (xs : List Dead). AreRead (map dead xs)) (sym (drop_all c.writing.i es past)) tt)
