use Rattle.std.proofs.Common.{◌≡◌, reverse, sym, subst, ◌∙◌}
use Rattle.core_state.specs.record_spec.declared.queue.QueueRecord.{QueueRecord}
use Rattle.core_state.specs.core_spec.Damage.{MayQueue}
use Rattle.ttl_sweeps.proofs.of_plain_laws.Options.{some_is}
use Rattle.core_opening.proofs.Fronts.{never, wait_so}
use Rattle.core_opening.proofs.Replays.{told_frame, may_replay, read_so, read_free, one_taken}
use Rattle.core_opening.proofs.reading.take_frame.Goals as goal

pub returns-then-not-admits : goal.returns-then-not-admits
returns-then-not-admits c x read may =
    let rec = c.in-Some.rec in
    let so_far = c.args.so_far.now in
    let same : x ≡ rec = some_is x rec (sym read ∙ sym c.in_ok-rec.ensures.exact ∙ c.in-Some.is) in
    let so = wait_so (reverse so_far.records) so_far.pending (read_so so_far c.requires) in
    never (sym c.if-not-admits.true ∙ (c.admits.ensures (reverse so_far.records) c.requires.front so).1 (subst (λ (q : QueueRecord). MayQueue q (reverse so_far.records)) same may))

pub replay-requires : goal.replay-requires
replay-requires c =
    let rec = c.in-Some.rec in
    let so_far = c.args.so_far.now in
    let own = told_frame c.args.frame.now c.in_ok-rec.field-0 rec c.in-Some.is c.in_ok-rec.ensures.found in
    let replayed = read_so so_far c.requires in
    let so = wait_so (reverse so_far.records) so_far.pending replayed in
    let may = (c.admits.ensures (reverse so_far.records) c.requires.front so).0 c.if-not-admits.false in
    may_replay rec (reverse so_far.records) so_far.pending replayed (read_free so_far c.requires) own.0 may

pub returns : goal.returns
returns c =
    let rec = c.in-Some.rec in
    let so_far = c.args.so_far.now in
    let own = told_frame c.args.frame.now c.in_ok-rec.field-0 rec c.in-Some.is c.in_ok-rec.ensures.found in
    let replayed = read_so so_far c.requires in
    let so = wait_so (reverse so_far.records) so_far.pending replayed in
    let may = (c.admits.ensures (reverse so_far.records) c.requires.front so).0 c.if-not-admits.false in
    let replays = may_replay rec (reverse so_far.records) so_far.pending replayed (read_free so_far c.requires) own.0 may in
    one_taken so_far _ c.args.frame.now rec c.requires (sym c.in_ok-rec.ensures.exact ∙ c.in-Some.is) own.0 may replays c.in_ok-push.ensures.ok c.in_ok-replay.ensures.pending c.in_ok-replay.ensures.discards c.last_with-so_far.ensures
    (c.follow.ensures (reverse so_far.records) c.requires.front may)
