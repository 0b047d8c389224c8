-- Statements on the list in a history's checkpoint.
use Rattle.std.specs.Prelude.{◌≡◌, map}
use Rattle.std.specs.List.{AllByRecursion}
use Rattle.std.specs.List.Sorted.{IsStrictlySortedBy}
use Rattle.checkpoint_spec.specs.fleet_rows.declared.settings.Ttls.{Ttls}
use Rattle.checkpoint_spec.specs.fleet_rows.declared.store.Mark.{Mark}
use Rattle.checkpoint_spec.specs.history_spec.Life.{nodes}
use Rattle.checkpoint_spec.specs.history_spec.Node.{greatest_deactivation}
use Rattle.checkpoint_spec.specs.history_spec.Trace.{Trace, IsTrace}
use Rattle.checkpoint_spec.specs.Histories.{checkpoint}
use Rattle.checkpoint_laws.specs.Order.{command_cmp, mark_cmp, commands_with}

-- the checkpoint has one mark for each node of the history, in the order of the nodes
abbrev pub MarksAreOfTheNodes : Type 0
MarksAreOfTheNodes = (ttls : Ttls) (history : Trace) → map (λ (mark : Mark). mark.certname) (checkpoint ttls history).marks ≡ nodes ttls history

-- the marks are strictly sorted by certname, so no node has two
abbrev pub MarksRise : Type 0
MarksRise = (ttls : Ttls) (history : Trace) → IsStrictlySortedBy mark_cmp (checkpoint ttls history).marks

-- the commands are strictly sorted by certname, kind and rank. So none is listed twice, and each node has at most one command of
-- each kind except reports
abbrev pub CommandsRise : Type 0
CommandsRise = (ttls : Ttls) (history : Trace) → IsTrace history → IsStrictlySortedBy command_cmp (checkpoint ttls history).applied

-- a mark's deactivation is the greatest deactivation among the listed commands of its node
abbrev pub MarksTellDeactivations : Type 0
MarksTellDeactivations =
    (ttls : Ttls) (history : Trace)
    → AllByRecursion (λ mark. mark.deactivated ≡ greatest_deactivation (commands_with mark.certname (checkpoint ttls history).applied)) (checkpoint ttls history).marks
