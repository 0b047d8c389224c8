-- The marks of a checkpoint are those of the nodes, by certname.
use Rattle.std.proofs.Common.{◌≡◌, ℕ, List, [], ◌∷◌, map, refl, ap}
use Rattle.checkpoint_spec.specs.text_spec.Compact.{text_cmp}
use Rattle.checkpoint_spec.specs.fleet_rows.declared.settings.Ttls.{Ttls}
use Rattle.checkpoint_spec.specs.fleet_rows.declared.store.Mark.{Mark}
use Rattle.checkpoint_spec.specs.history_spec.Life.{nodes}
use Rattle.checkpoint_spec.specs.history_spec.Trace.{Trace}
use Rattle.checkpoint_spec.proofs.of_plain_laws.StrictlySorted.{sorted-map}
use Rattle.checkpoint_spec.proofs.of_history_laws.TraceLemmas.{nodes_are_strictly_sorted}
use Rattle.checkpoint_spec.specs.Histories.{mark_in}
use Rattle.checkpoint_laws.specs.Laws as laws
use Rattle.checkpoint_laws.specs.Order.{mark_cmp}

names : (ttls : Ttls) (history : Trace) (ns : List (List ℕ)) → map (λ (mark : Mark). mark.certname) (map (mark_in ttls history) ns) ≡ ns
names ttls history [] = refl
names ttls history (n ∷ ns) = ap (λ l. n ∷ l) (names ttls history ns)

pub marks_are_of_the_nodes : laws.MarksAreOfTheNodes
marks_are_of_the_nodes ttls history = names ttls history (nodes ttls history)

pub marks_rise : laws.MarksRise
marks_rise ttls history = sorted-map text_cmp mark_cmp (mark_in ttls history) (λ n m below. below) (nodes ttls history) (nodes_are_strictly_sorted ttls history)
