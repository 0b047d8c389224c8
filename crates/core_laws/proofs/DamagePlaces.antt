-- A log has no damage, and other frames have it at one place.
use Rattle.std.proofs.Common.{◌≡◌, ◌∙◌, ℕ, zero, suc, ◌+◌, ◌<◌, ◌≤◌, List, [], ◌∷◌, ◌++◌, length, take, drop, reverse, arith, refl, sym, ap, subst, append_assoc}
use Rattle.std.proofs.lemmas.List.{append-nil, reverse-append, length-reverse}
use Rattle.core_machine.specs.record_spec.declared.queue.QueueRecord.{QueueRecord}
use Rattle.core_machine.specs.record_spec.declared.store.StoreRecord.{StoreRecord}
use Rattle.core_machine.specs.core_spec.Damage.{AreQueued, AreKept, IsQueueFrame, IsStoreFrame, EachIs, EndsThere, IsDamagedFrame}
use Rattle.core_laws.specs.DamageLaws.{LogsAreUndamaged, DamageHasOnePlace}

module _ {F A : Type 0} (Is : F → A → Type 0) (Are : List A → Type 0) (least : ℕ) where
  -- the same, going over the frames: behind these records, the newest first
  abbrev Stops : List A → List F → ℕ → Type 0
  Stops earlier [] zero = length earlier < least
  Stops earlier [] (suc at) = ⊥
  Stops earlier (frame ∷ frames) zero = (x : A) → Is frame x → Are (x ∷ earlier) → ⊥
  Stops earlier (frame ∷ frames) (suc at) = (x : A) × Is frame x × Are (x ∷ earlier) × Stops (x ∷ earlier) frames at

  -- records before, and behind them one of the frames
  turned : (earlier before : List A) (x : A) → reverse (x ∷ before) ++ earlier ≡ reverse before ++ x ∷ earlier
  turned earlier before x = ap (λ xs. xs ++ earlier) (reverse-append (x ∷ []) before) ∙ append_assoc (reverse before) (x ∷ []) earlier

  -- what stands behind records may stand without the last of them
  module _ (shorter : (x : A) (xs : List A) → Are (x ∷ xs) → Are xs) where
    front_stands : (xs ys : List A) → Are (xs ++ ys) → Are ys
    front_stands [] ys h = h
    front_stands (x ∷ xs) ys h = front_stands xs ys (shorter x (xs ++ ys) h)

    -- behind these records, the newest first, no log goes on with the frames
    abbrev EndsAt : List A → List F → Type 0
    EndsAt earlier [] = length earlier < least
    EndsAt earlier (frame ∷ rest) = (x : A) → Is frame x → Are (x ∷ earlier) → ⊥

    stops_here : (earlier : List A) (frames : List F) → EndsAt earlier frames → Stops earlier frames 0
    stops_here earlier [] h = h
    stops_here earlier (frame ∷ frames) h = h

    stops_from : (earlier before : List A) (frames : List F) → EachIs Is (take (length before) frames) before → Are (reverse before ++ earlier) → EndsAt (reverse before ++ earlier) (drop (length before) frames)
        → Stops earlier frames (length before)
    stops_from earlier [] frames reads stand ends = stops_here earlier frames ends
    stops_from earlier (x ∷ before) [] reads stand ends = absurd reads
    stops_from earlier (x ∷ before) (frame ∷ frames) reads stand ends =
        let is = turned earlier before x in
        let further : Are (reverse before ++ x ∷ earlier) = subst Are is stand in (
          x,
          reads.0,
          front_stands (reverse before) (x ∷ earlier) further,
          stops_from (x ∷ earlier) before frames reads.1 further (subst (λ xs. EndsAt xs (drop (length before) frames)) is ends),
        )

    ends_at : (before : List A) (rest : List F) → EndsThere Is Are least before rest → EndsAt (reverse before ++ []) rest
    ends_at before [] h = let same = ap length (append-nil (reverse before)) in let turned_length = length-reverse before in omega (arith, h, same, turned_length)
    ends_at before (frame ∷ rest) h = λ x is are. h x is (subst (λ xs. Are (x ∷ xs)) (append-nil (reverse before)) are)

    stops : (frames : List F) (at : ℕ) → IsDamagedFrame Is Are least frames at → Stops [] frames at
    stops frames at d =
        subst (Stops [] frames) (sym d.place)
        (stops_from [] d.before frames (subst (λ n. EachIs Is (take n frames) d.before) d.place d.reads) (subst Are (sym (append-nil (reverse d.before))) d.stand)
        (subst (λ n. EndsAt (reverse d.before ++ []) (drop n frames)) d.place (ends_at d.before (drop at frames) d.ends)))

    module _ (one : (frame : F) (x y : A) → Is frame x → Is frame y → x ≡ y) where
      -- a log goes on to its end
      goes_on : (earlier : List A) (frames : List F) (records : List A) (at : ℕ) → EachIs Is frames records → Are (reverse records ++ earlier) → least ≤ length records + length earlier → Stops earlier frames at → ⊥
      goes_on earlier [] [] zero reads stand enough stop = omega (arith, enough, stop)
      goes_on earlier [] [] (suc at) reads stand enough stop = stop
      goes_on earlier [] (x ∷ records) at reads stand enough stop = reads
      goes_on earlier (frame ∷ frames) [] at reads stand enough stop = reads
      goes_on earlier (frame ∷ frames) (x ∷ records) zero reads stand enough stop =
          stop x reads.0 (front_stands (reverse records) (x ∷ earlier) (subst Are (turned earlier records x) stand))
      goes_on earlier (frame ∷ frames) (x ∷ records) (suc at) reads stand enough stop =
          let same : stop.0 ≡ x = one frame stop.0 x stop.1 reads.0 in
          goes_on (x ∷ earlier) frames records at reads.1 (subst Are (turned earlier records x) stand) (omega (arith, enough)) (subst (λ y. Stops (y ∷ earlier) frames at) same stop.3)

      pub undamaged : (frames : List F) (records : List A) (at : ℕ) → EachIs Is frames records → Are (reverse records) → least ≤ length records → IsDamagedFrame Is Are least frames at → ⊥
      undamaged frames records at reads stand enough d =
          goes_on [] frames records at reads (subst Are (sym (append-nil (reverse records))) stand) (omega (arith, enough)) (stops frames at d)

      one_stop : (earlier : List A) (frames : List F) (at other : ℕ) → Stops earlier frames at → Stops earlier frames other → at ≡ other
      one_stop earlier [] zero zero h g = refl
      one_stop earlier [] zero (suc other) h g = absurd g
      one_stop earlier [] (suc at) other h g = absurd h
      one_stop earlier (frame ∷ frames) zero zero h g = refl
      one_stop earlier (frame ∷ frames) zero (suc other) h g = absurd (h g.0 g.1 g.2)
      one_stop earlier (frame ∷ frames) (suc at) zero h g = absurd (g h.0 h.1 h.2)
      one_stop earlier (frame ∷ frames) (suc at) (suc other) h g =
          let same : g.0 ≡ h.0 = one frame g.0 h.0 g.1 h.1 in
          ap suc (one_stop (h.0 ∷ earlier) frames at other h.3 (subst (λ y. Stops (y ∷ earlier) frames other) same g.3))

      pub one_place : (frames : List F) (at other : ℕ) → IsDamagedFrame Is Are least frames at → IsDamagedFrame Is Are least frames other → at ≡ other
      one_place frames at other d e = one_stop [] frames at other (stops frames at d) (stops frames other e)

-- ---- the two logs

pub queued_shorter : (x : QueueRecord) (xs : List QueueRecord) → AreQueued (x ∷ xs) → AreQueued xs
queued_shorter x xs h = h.1

pub kept_shorter : (x : StoreRecord) (xs : List StoreRecord) → AreKept (x ∷ xs) → AreKept xs
kept_shorter x xs h = h.1

pub logs_are_undamaged : LogsAreUndamaged
logs_are_undamaged = record {
  queue = λ one frames records at reads log. undamaged IsQueueFrame AreQueued 1 queued_shorter one frames records at reads log.1 log.0;
  store = λ one frames records at reads log. undamaged IsStoreFrame AreKept 2 kept_shorter one frames records at reads log.1 log.0;
}

pub damage_has_one_place : DamageHasOnePlace
damage_has_one_place = record {
  queue = λ one frames at other. one_place IsQueueFrame AreQueued 1 queued_shorter one frames at other;
  store = λ one frames at other. one_place IsStoreFrame AreKept 2 kept_shorter one frames at other;
}
