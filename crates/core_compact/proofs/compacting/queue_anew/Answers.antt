use Rattle.std.proofs.Common.{◌≡◌, ◌∙◌, inr, inl, ⊎_elim, ℕ, List, Some, sym, ap, subst}
use Rattle.core_state.specs.log_pair.Pair.{generation_of_pair}
use Rattle.core_state.specs.record_log.Lay.{laid_size}
use Rattle.core_state.specs.record_spec.declared.queue.QueueRecord.{QueueRecord}
use Rattle.core_state.specs.record_spec.Queue.{queue_text}
use Rattle.core_state.specs.queue_records.Reading.{queue_at}
use Rattle.core_state.specs.fleet_keeper.Limits.{ArePast}
use Rattle.core_state.specs.fleet_keeper.Records.{read_all}
use Rattle.core_state.specs.queue_log.Queued.{queue_pair}
use Rattle.core_state.proofs.of_fleet_keeper.Spellings.{read_spelt}
use Rattle.core_compact.proofs.compacting.queue_anew.Goals as goal

pub returns : goal.returns
returns g c =
    let e = c.checkpoint.ensures in
    record {
      anew = λ records are.
          let read : read_all queue_at c.args.frames.now ≡ Some records = ap (read_all queue_at) are.0 ∙ read_spelt queue_at queue_text (λ (r : QueueRecord). queue_at (queue_text r) ≡ Some r) (λ r is. is) records are.1 in
          let generation = generation_of_pair (queue_pair c.args.queue.now) in
          record {
            any_moment = λ o since. ⊎_elim (λ old. inl old) (λ is. inr (is ∙ read)) (e.any_moment o since);
            later = e.later;
            each = λ o image. ⊎_elim (λ old. inl old) (λ is. inr (is ∙ read)) (e.each o image);
            all_new = λ ok o image. e.ok ok o image ∙ read;
            queued_all = λ ok told. e.queued_all ok told ∙ read;
            queued_old = e.queued_old;
            untouched = e.untouched;
            down = e.down;
            again = e.again;
            side = e.side;
            same_side = e.same_side;
            size = λ ok. e.size ok ∙ ap laid_size are.0;
            same_size = e.same_size;
            generation = e.generation;
            same_generation = e.same_generation;
            memory = e.memory;
            spent = (λ is. subst (ArePast generation) are.0 (e.spent.0 is), λ past. e.spent.1 (subst (ArePast generation) (sym are.0) past));
            cause = e.cause;
            twice = e.twice;
          };
    }
