-- The queue's frames, read one after the other.
use Rattle.std.proofs.Common.{◌≡◌, ℕ, ◌+◌, ◌-◌, ◌^◌, ◌<◌, ◌≤◌, ◌==◌, false, min, List, [], ◌∷◌, ◌++◌, length, map, take, drop, get_or, reverse, Option, Some, sym, ap, subst, ◌∙◌, arith, length-append}
use Rattle.std.proofs.lemmas.List.{take-map, drop-map, map_more, drop_more, take_more}
use Rattle.std.proofs.Math.Seq.{take-length, drop-length}
use Rattle.core_state.specs.log_spec.ImageOf.{frame_texts}
use Rattle.core_state.specs.record_spec.declared.queue.QueueRecord.{QueueRecord}
use Rattle.core_state.specs.queue_records.Reading.{queue_at}
use Rattle.core_state.specs.core_spec.Damage.{MayQueue, AreQueued, IsQueueLog, EachIs, EndsThere}
use Rattle.core_state.specs.fleet_keeper.Opened.{IsRead, gate_at}
use Rattle.core_state.specs.fleet_keeper.Records.{read_all}
use Rattle.core_state.proofs.of_fleet_keeper.Readings.{all_read, each_more, texts_more}
use Rattle.core_opening.specs.declared.reading.SoFar.{SoFar}
use Rattle.core_opening.specs.Replayed.{IsSoFar, IsTaken, IsQueueDamaged}

pub nonempty : (n : ℕ) → (n == 0) ≡ false → 1 ≤ n
nonempty n h = grind (arith, h)

-- so many frames are the records so far, and the next gate is at this place
pub record HasRead (frames : List (List ℕ)) (i : ℕ) (so_far : SoFar) (at : ℕ) : Type 0 where
  pub reads : EachIs IsRead (map queue_at (take i frames)) so_far.records
  pub count : length so_far.records ≡ i
  pub place : at ≡ min (gate_at frames i) (2 ^ 64 - 1)
  pub whole : IsSoFar so_far

module _ (frames : List (List ℕ)) (i : ℕ) (so_far : SoFar) (at : ℕ) (has : HasRead frames i so_far at) where
  reads_map : EachIs IsRead (take i (map queue_at frames)) so_far.records
  reads_map = subst (λ (os : List (Option QueueRecord)). EachIs IsRead os so_far.records) (sym (take-map queue_at i frames)) has.reads

  module _ (frame : List ℕ) (lt : i < length frames) (is : frame ≡ get_or frames i frame) where
    taken : take (i + 1) frames ≡ take i frames ++ frame ∷ []
    taken = take_more frames i frame lt ∙ ap (λ (f : List ℕ). take i frames ++ f ∷ []) (sym is)

    next : drop i (map queue_at frames) ≡ queue_at frame ∷ map queue_at (drop (i + 1) frames)
    next = drop-map queue_at i frames ∙ ap (map queue_at) (drop_more frames i frame lt ∙ ap (λ (f : List ℕ). f ∷ drop (i + 1) frames) (sym is))

    -- a record more
    pub read_on : (new : SoFar) (later : ℕ) → IsTaken so_far frame new → later ≡ min (at + (5 + length frame)) (2 ^ 64 - 1) → HasRead frames (i + 1) new later
    read_on new later took place = record {
      reads = subst (λ (os : List (Option QueueRecord)). EachIs IsRead os new.records) (sym (map_more queue_at frames i frame lt ∙ ap (λ (f : List ℕ). map queue_at (take i frames) ++ queue_at f ∷ []) (sym is)))
          (subst (λ (rs : List QueueRecord). EachIs IsRead (map queue_at (take i frames) ++ queue_at frame ∷ []) rs) (sym took.more) (each_more IsRead (map queue_at (take i frames)) so_far.records (queue_at frame) took.rec has.reads took.is));
      count = omega (arith, has.count, ap length took.more, length-append so_far.records (took.rec ∷ []));
      place = omega (arith, place, has.place, ap (λ (fs : List (List ℕ)). length (frame_texts fs)) taken, texts_more (take i frames) frame);
      whole = took.so_far;
    }

    -- no record that may stand there
    pub damaged_here : ((x : QueueRecord) → queue_at frame ≡ Some x → MayQueue x (reverse so_far.records) → ⊥) → IsQueueDamaged frames i
    damaged_here not = record {
      before = so_far.records;
      place = sym has.count;
      reads = reads_map;
      stand = has.whole.stand;
      ends = subst (EndsThere IsRead AreQueued 1 so_far.records) (sym next) (λ x here stands. not x here stands.0);
    }

  module _ (all : i ≡ length frames) where
    pub read_whole : 1 ≤ length frames → (read_all queue_at frames ≡ Some so_far.records) × IsQueueLog so_far.records
    read_whole some = (
      all_read queue_at frames so_far.records (subst (λ (fs : List (List ℕ)). EachIs IsRead (map queue_at fs) so_far.records) (ap (λ (n : ℕ). take n frames) all ∙ take-length frames) has.reads),
      (omega (arith, some, all, has.count), has.whole.stand),
    )
