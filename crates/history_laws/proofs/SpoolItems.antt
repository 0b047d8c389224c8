-- The items of a spool are such as may come.
use Rattle.std.proofs.Common.{ℕ, ◌+◌, ℤ, pos, List, [], ◌∷◌, length, sym, subst, arith}
use Rattle.std.specs.List.{AllByRecursion}
use Rattle.jiff_core.proofs.SignedLemmas.{signed_arith}
use Rattle.spool_spec.proofs.of_stamp_time.RangeLaws.{has_stamp}
use Rattle.spool_spec.specs.history_spec.Lawful.{HasStamp}
use Rattle.spool_spec.specs.history_spec.Thread.{Item, command, sweep, IsItem}
use Rattle.spool_spec.specs.Spool.{End, ItemsFrom}
use Rattle.history_laws.specs.SpoolLaws.{SpoolsHaveItems, TheFirstMomentHasAStamp}

are_items : (received : ℤ) (p : ℕ) (bytes : List ℕ) (items : List Item) (end : End) → ItemsFrom received p bytes items end → HasStamp received → AllByRecursion IsItem items
are_items received p bytes [] end h s = tt
are_items received p bytes (command c ∷ items) end h s =
    let is = h.2 in
    ((omega (arith, is.payload), subst HasStamp (sym is.received_is) s), are_items received (p + length h.0) h.1 items end h.5 s)
are_items received p bytes (sweep kinds m ∷ items) end h s =
    let is = h.2 in
    ((is.stamp, is.moment), are_items received (p + length h.0) h.1 items end h.5 s)

pub spools_have_items : SpoolsHaveItems
spools_have_items received bytes items end h s = are_items received 0 bytes items end h s

pub the_first_moment_has_a_stamp : TheFirstMomentHasAStamp
the_first_moment_has_a_stamp = has_stamp (pos 0) (omega (arith, signed_arith), omega (arith, signed_arith))
