-- Frames one behind the other, and what is read off them.
use Rattle.std.proofs.Common.{◌≡◌, ◌∙◌, ℕ, ◌+◌, suc, List, [], ◌∷◌, ◌++◌, map, drop, slice_get, sym, ap, subst, append_assoc, arith, Some, Result, Ok, Err, IfOk}
use Rattle.supersede_core.proofs.of_plain_laws.Lists.{left_at, map_both}
use Rattle.core_state.specs.record_spec.declared.queue.QueueRecord.{QueueRecord}
use Rattle.core_state.specs.record_spec.declared.queue.QueueRecord.TheVariants as queue
use Rattle.core_state.specs.record_spec.Queue.{queue_text}
use Rattle.core_state.specs.core_spec.declared.dead.Dead.{Dead}
use Rattle.core_state.specs.core_spec.declared.entry.Entry.{Entry}
use Rattle.core_state.specs.core_spec.Checkpoints.{held, dead}
use Rattle.core_state.specs.queue_records.Reading.{queue_at}
use Rattle.core_compact.specs.Anew.{AreRead, AreFramesOf}
use Rattle.core_compact.specs.Compacts.{queue_records_of}

-- a frame with what is read off it
pub with_read : {X E : Type 0} (r : Result X E) (x : X) (P : Type 0) → IfOk r (λ y. y ≡ x) → P → IfOk r (λ y. (y ≡ x) × P)
with_read (Ok y) x P is read = (is, read)
with_read (Err e) x P is read = tt

-- ---- frames so far, and those of the rest

module _ {X : Type 0} (rec : X → QueueRecord) where
  abbrev pub texts : List X → List (List ℕ)
  texts xs = map queue_text (map rec xs)

  -- one more, at a place
  pub next_frame : (xs : List X) (i : ℕ) (x : X) (so_far whole : List (List ℕ)) (frame : List ℕ) → slice_get xs i ≡ Some x → frame ≡ queue_text (rec x) → so_far ++ texts (drop i xs) ≡ whole
      → (so_far ++ frame ∷ []) ++ texts (drop (i + 1) xs) ≡ whole
  next_frame xs i x so_far whole frame h is before =
      let next : i + 1 ≡ suc i = omega arith in
      let front : frame ∷ texts (drop (i + 1) xs) ≡ texts (drop i xs) = (λ j. is j ∷ texts (drop (next j) xs)) ∙ ap texts (sym (left_at xs i x h)) in
      append_assoc so_far (frame ∷ []) (texts (drop (i + 1) xs)) ∙ ap (λ (l : List (List ℕ)). so_far ++ l) front ∙ before

  pub next_read : (xs : List X) (i : ℕ) (x : X) → slice_get xs i ≡ Some x → queue_at (queue_text (rec x)) ≡ Some (rec x) → (AreRead (map rec (drop i xs)) → AreRead (map rec xs))
      → AreRead (map rec (drop (i + 1) xs)) → AreRead (map rec xs)
  next_read xs i x h read before rest =
      let next : i + 1 ≡ suc i = omega arith in
      let tail : AreRead (map rec (drop (suc i) xs)) = subst (λ (n : ℕ). AreRead (map rec (drop n xs))) next rest in
      before (subst (λ (l : List X). AreRead (map rec l)) (sym (left_at xs i x h)) (read, tail))

-- ---- all of them

both_read : (xs ys : List QueueRecord) → AreRead xs → AreRead ys → AreRead (xs ++ ys)
both_read [] ys h k = k
both_read (x ∷ xs) ys h k = (h.0, both_read xs ys h.1 k)

pub all_frames : (last : ℕ) (es : List Entry) (ds : List Dead) (base : List ℕ) (frames : List (List ℕ)) → base ≡ queue_text (queue.Base last) → queue_at (queue_text (queue.Base last)) ≡ Some (queue.Base last)
    → frames ≡ (([] ++ base ∷ []) ++ map queue_text (map held es)) ++ map queue_text (map dead ds) → AreRead (map held es) → AreRead (map dead ds) → AreFramesOf frames (queue_records_of last es ds)
all_frames last es ds base frames is read are held_read dead_read =
    let parts = sym (map_both queue_text (map held es) (map dead ds)) in
    (are ∙ (λ i. is i ∷ parts i), (read, both_read (map held es) (map dead ds) held_read dead_read))
