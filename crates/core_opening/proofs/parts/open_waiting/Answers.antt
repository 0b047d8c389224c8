use Rattle.std.proofs.Common.{◌≡◌, List, ℕ, Err, ap, sym, subst, ◌∙◌}
use Rattle.core_state.specs.log_spec.ImageOf.{image_of}
use Rattle.core_state.specs.log_spec.PairImage.{counts, pair_image}
use Rattle.core_state.specs.record_log.Log.{gate_of}
use Rattle.core_state.specs.log_pair.Pair.{side_of, log_of, generation_of_pair}
use Rattle.core_state.specs.queue_log.Queued.{queue_pair}
use Rattle.core_opening.specs.declared.faults.FileName.{FileName}
use Rattle.core_opening.specs.declared.reading.UnreadQueue.{UnreadQueue}
use Rattle.core_opening.specs.declared.reading.UnreadQueue.TheVariants as unread
use Rattle.core_opening.specs.Opened.{IsQueueDamageAt, queue_name}
use Rattle.core_opening.specs.Replayed.{MatchReading}
use Rattle.core_opening.proofs.FilesTell.{queue_frame_damaged}
use Rattle.core_opening.proofs.parts.open_waiting.Goals as goal

pub returns-in-Err-Damaged-clause-told : goal.returns-in-Err-Damaged-clause-told
returns-in-Err-Damaged-clause-told g c told =
    let d = g.D.Disk in
    let pair = queue_pair c.in-Ok.opened.0 in
    let at = c.in-Err-Damaged.at in
    let a = d.seen c.args.a in
    let b = d.seen c.args.b in
    let frames = c.into_vec.result.items in
    let is : pair_image (image_of a) (image_of b) ≡ counts (side_of pair) (generation_of_pair pair) frames (gate_of (log_of pair)) =
    c.in-Ok.ensures.told told ∙ ap (λ (fs : List (List ℕ)). counts (side_of pair) (generation_of_pair pair) fs (gate_of (log_of pair))) (sym c.into_vec.ensures.value) in
    let damage : MatchReading (Err (unread.Damaged at)) frames = subst (λ (u : UnreadQueue). MatchReading (Err u) frames) c.in-Err-Damaged.field-0-is c.in-Err-Damaged.ensures.told in
    subst (λ (f : FileName). IsQueueDamageAt (pair_image (image_of a) (image_of b)) f at) (sym (c.queue_file-file-in-Err-Damaged.ensures.value ∙ ap queue_name c.side.ensures.value))
    (queue_frame_damaged a b (generation_of_pair pair) frames (gate_of (log_of pair)) (side_of pair) pair.log.gate.small is at damage.0 damage.1 damage.2)
