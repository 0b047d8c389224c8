use Rattle.std.proofs.Common.{◌≡◌, ◌∙◌, ◌++◌, ◌∷◌, [], List, ℕ, map, ap}
use Rattle.core_state.specs.record_spec.Queue.{queue_text}
use Rattle.core_state.specs.core_spec.Checkpoints.{held}
use Rattle.core_state.specs.core_spec.Checkpoints as core
use Rattle.core_compact.proofs.Frames.{all_frames}
use Rattle.core_compact.proofs.queue.queue_frames.Goals as goal

pub returns : goal.returns
returns c =
    let es = c.args.pending.now in
    let ds = c.args.discards.now.list in
    let base = c.in_ok-base.base in
    all_frames c.args.last es ds base _ c.in_ok-base.ensures.0 c.in_ok-base.ensures.1
    (c.in_ok-push_dead.ensures.frames ∙ ap (λ (fs : List (List ℕ)). fs ++ map queue_text (map core.dead ds)) (c.in_ok-push_held.ensures.frames ∙ ap (λ (fs : List (List ℕ)). fs ++ map queue_text (map held es)) (c.in_ok-push.ensures.ok ∙ ap (λ (fs : List (List ℕ)). fs ++ base ∷ []) c.new-frames.ensures.empty)))
    c.in_ok-push_held.ensures.read c.in_ok-push_dead.ensures.read
