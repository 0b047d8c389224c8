-- A permutation of events that are no purges goes by steps in which neighbours change places.
use Rattle.std.proofs.Common.{ℕ, zero, suc, ◌<◌, List, [], ◌∷◌, ◌++◌, length, get_or, set, arith}
use Rattle.std.specs.List.{AllByRecursion, swap}
use Rattle.std.proofs.lemmas.List.Sorted.{IsPermutation-keeps}
use Rattle.spool_spec.specs.history_spec.Trace.{TraceEvent, Trace}
use Rattle.history_laws.specs.OrderLaws.{IsNoPurge, Reordered, unchanged, swapped, behind, stepwise, PermutationsReorder}

abbrev NoPurge : List TraceEvent → Type 0
NoPurge = AllByRecursion IsNoPurge

no_purge-at : (es : List TraceEvent) (i : ℕ) (d : TraceEvent) → NoPurge es → i < length es → IsNoPurge (get_or es i d)
no_purge-at [] i d h l = absurd (omega (arith, l))
no_purge-at (e ∷ es) zero d h l = h.0
no_purge-at (e ∷ es) (suc i) d h l = no_purge-at es i d h.1 (omega (arith, l))

no_purge-set : (es : List TraceEvent) (i : ℕ) (e : TraceEvent) → NoPurge es → IsNoPurge e → NoPurge (set es i e)
no_purge-set [] i e h k = tt
no_purge-set (f ∷ es) zero e h k = (k, h.1)
no_purge-set (f ∷ es) (suc i) e h k = (h.0, no_purge-set es i e h.1 k)

module _ (earlier : Trace) where
  -- the first event and the one at a place behind it change places
  to_front : (e : TraceEvent) (es : List TraceEvent) (i : ℕ) (d : TraceEvent) → IsNoPurge e → NoPurge es → i < length es → Reordered (e ∷ (es ++ earlier)) (get_or es i d ∷ (set es i e ++ earlier))
  to_front e [] i d p h l = absurd (omega (arith, l))
  to_front e (f ∷ es) zero d p h l = swapped e f p h.0
  to_front e (f ∷ es) (suc i) d p h l =
      stepwise (swapped e f p h.0)
      (stepwise (behind f (to_front e es i d p h.1 (omega (arith, l)))) (swapped f (get_or es i d) h.0 (no_purge-at es i d h.1 (omega (arith, l)))))

  exchanged : (es : List TraceEvent) (i j : ℕ) (d : TraceEvent) → NoPurge es → i < length es → j < length es → Reordered (es ++ earlier) (set (set es i (get_or es j d)) j (get_or es i d) ++ earlier)
  exchanged [] i j d h l m = absurd (omega (arith, l))
  exchanged (e ∷ es) zero zero d h l m = unchanged
  exchanged (e ∷ es) zero (suc j) d h l m = to_front e es j d h.0 h.1 (omega (arith, m))
  exchanged (e ∷ es) (suc i) zero d h l m = to_front e es i d h.0 h.1 (omega (arith, l))
  exchanged (e ∷ es) (suc i) (suc j) d h l m = behind e (exchanged es i j d h.1 (omega (arith, l)) (omega (arith, m)))

  -- what is reached from these events by exchanges
  record Reached (between others : List TraceEvent) : Type 0 where
    no_purge : NoPurge others
    reordered : Reordered (between ++ earlier) (others ++ earlier)

  exchange : (between es : List TraceEvent) (i j : ℕ) → i < length es → j < length es → Reached between es → Reached between (swap es i j)
  exchange between [] i j l m r = r
  exchange between (d ∷ es) i j l m r =
      let no_purge : NoPurge (set (set (d ∷ es) i (get_or (d ∷ es) j d)) j (get_or (d ∷ es) i d)) = no_purge-set (set (d ∷ es) i (get_or (d ∷ es) j d)) j (get_or (d ∷ es) i d) (no_purge-set (d ∷ es) i (get_or (d ∷ es) j d) r.no_purge (no_purge-at (d ∷ es) j d r.no_purge m)) (no_purge-at (d ∷ es) i d r.no_purge l) in
      record { no_purge = no_purge; reordered = stepwise r.reordered (exchanged (d ∷ es) i j d r.no_purge l m) }

all_behind : (later history other : Trace) → Reordered history other → Reordered (later ++ history) (later ++ other)
all_behind [] history other r = r
all_behind (e ∷ later) history other r = behind e (all_behind later history other r)

pub permutations_reorder : PermutationsReorder
permutations_reorder later between others earlier h p =
    let reached = IsPermutation-keeps between (Reached earlier between) (record { no_purge = h; reordered = unchanged }) (exchange earlier between) others p in
    all_behind later (between ++ earlier) (others ++ earlier) reached.reordered
