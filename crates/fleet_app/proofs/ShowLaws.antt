-- What is printed of the tables is what is shown of the spool.
use Rattle.std.proofs.Common.{ap, ℕ, List, Option, Some, None, IfSome}
use Rattle.std.specs.Io.KnownBytes.{Appends, IsAtEnd}
use Rattle.busy_commands.specs.table_machine.Table.{Table}
use Rattle.fleet_app.specs.Reads.{IsSpool, IsOneThread}
use Rattle.busy_commands.specs.calm_commands.Told.{AppendsLess}
use Rattle.fleet_app.specs.Show.{shown_text, Shows, Prints, PrintsFront, MatchPrinted, MatchShown}
use Rattle.busy_commands.specs.calm_commands.declared.status.Status.{Status}
use Rattle.busy_commands.specs.calm_commands.declared.status.Status.TheVariants.{Done, WriteFault, Memory}

is_spool : (before : Option (List ℕ)) (table : Table) → IsOneThread before table → IfSome before IsSpool
is_spool None table h = tt
is_spool (Some bytes) table h = (h.items, h.spool)

shows : (bytes : List ℕ) (table : Table) (h : IsOneThread (Some bytes) table) → Shows bytes (shown_text table.ttls h.history)
shows bytes table h = record { items = h.items; history = h.history; spool = h.spool; thread = h.thread; text_is = ap (λ t. shown_text t h.history) h.ttls }

prints : (before : Option (List ℕ)) (table : Table) (old new : Option (List ℕ)) (h : IsOneThread before table) → Appends old new (shown_text table.ttls h.history) → IfSome before (Prints old new)
prints None table old new h a = tt
prints (Some bytes) table old new h a = (shown_text table.ttls h.history, shows bytes table h, a)

prints_front : (before : Option (List ℕ)) (table : Table) (old new : Option (List ℕ)) (h : IsOneThread before table) → AppendsLess (shown_text table.ttls h.history) old new → IfSome before (PrintsFront old new)
prints_front None table old new h a = tt
prints_front (Some bytes) table old new h a = (shown_text table.ttls h.history, shows bytes table h, a)

pub printed_shown : (s : Status) (before rest old new : Option (List ℕ)) (table : Table) (h : IsOneThread before table) → IsAtEnd rest → MatchPrinted s (shown_text table.ttls h.history) old new → MatchShown s before rest old new
printed_shown Done before rest old new table h e m = (is_spool before table h, e, prints before table old new h m)
printed_shown WriteFault before rest old new table h e m = (is_spool before table h, e, prints_front before table old new h m)
printed_shown Memory before rest old new table h e m = m
printed_shown _ before rest old new table h e m = absurd m
