-- What has been read of a spool, and what reading it answers.
use Rattle.std.specs.Prelude.{◌≡◌, ℕ, suc, ℤ, pos, List, [], ◌++◌, Option, Some, None, Result, Ok, Err, IfSome}
use Rattle.std.specs.List.{AllByRecursion}
use Rattle.std.specs.declared.alloc.AllocError.{AllocError}
use Rattle.std.specs.Io.KnownBytes.{IsAtEnd}
use Rattle.busy_commands.specs.fleet_rows.declared.change.Change.{Change}
use Rattle.busy_commands.specs.fleet_rows.declared.command.Command.{Command}
use Rattle.busy_commands.specs.fleet_rows.declared.refusal.Refusal.{Refusal}
use Rattle.busy_commands.specs.wire_spec.Decode.{DecodeOf}
use Rattle.busy_commands.specs.fleet_rows.Defaults.{default_ttls}
use Rattle.busy_commands.specs.history_spec.Trace.{Trace, applied_as}
use Rattle.busy_commands.specs.history_spec.Thread.{Item, IsItem, LeadsTo, OneThread}
use Rattle.busy_commands.specs.spool_spec.Spool.{End, whole, bad_at, ItemsFrom, SpoolOf}
use Rattle.busy_commands.specs.table_machine.Table.{Table}
use Rattle.busy_commands.specs.table_machine.Steps.{apply, run}
use Rattle.busy_commands.specs.fleet_tables.Stands.{Stands}
use Rattle.fleet_app.specs.declared.read.ReadSpool.{ReadSpool}
use Rattle.fleet_app.specs.declared.read.ReadSpool.TheVariants as spool

-- ---- one command

-- the table after the answer to a command that was received at that moment
abbrev pub table_with : ℕ → ℤ → Result Change Refusal → Table → Table
table_with receipt received (Ok change) table = apply (applied_as receipt (Some received) change) table
table_with receipt received (Err refusal) table = table

-- the command's answer was applied to the table
pub record TakesIn (c : Command) (receipt : ℕ) (old new : Table) : Type 0 where
  pub answer : Result Change Refusal
  pub decoded : DecodeOf c answer
  pub table : new ≡ table_with receipt c.received answer old

abbrev pub MatchTaken : Result (Unit {0}) AllocError → Command → ℕ → Table → Table → Type 0
MatchTaken (Ok taken) c receipt old new = TakesIn c receipt old new
MatchTaken (Err error) c receipt old new = Unit {0}

-- ---- the items so far

-- One thread over these items, with this number of commands, leads to a history and continues from there. The table is that of
-- the history.
pub record Follows (items : List Item) (receipt : ℕ) (table : Table) : Type 0 where
  pub are_items : AllByRecursion IsItem items
  pub history : Trace
  pub table_is : table ≡ run default_ttls history
  pub thread : (more : List Item) (after : Trace) → LeadsTo (suc receipt) more history after → LeadsTo 1 (items ++ more) [] after

-- if the source tells its bytes: parsing the rest from offset p on equals parsing the whole after these items
abbrev pub GoesOn : Option (List ℕ) → Option (List ℕ) → ℕ → List Item → Type 0
GoesOn None rest p items = Unit {0}
GoesOn (Some bytes) None p items = ⊥
GoesOn (Some bytes) (Some rest) p items =
    (more : List Item) (end : End) → ItemsFrom (pos 0) p rest more end → ItemsFrom (pos 0) 0 bytes (items ++ more) end

pub record SoFar (bytes rest : Option (List ℕ)) (p receipt : ℕ) (table : Table) : Type 0 where
  pub items : List Item
  pub follows : Follows items receipt table
  pub goes_on : GoesOn bytes rest p items

-- ---- the whole spool

-- the bytes are a spool without fault
abbrev pub IsSpool : List ℕ → Type 0
IsSpool bytes = (items : List Item) × SpoolOf (pos 0) bytes items whole

-- the first item that isn't whole starts at this offset
abbrev pub FaultsAt : ℕ → List ℕ → Type 0
FaultsAt at bytes = (items : List Item) × SpoolOf (pos 0) bytes items (bad_at at)

-- the table is that of one thread over the items, which are those of the bytes, if the source tells them
pub record IsOneThread (bytes : Option (List ℕ)) (table : Table) : Type 0 where
  pub items : List Item
  pub history : Trace
  pub spool : IfSome bytes (λ b. SpoolOf (pos 0) b items whole)
  pub thread : OneThread items history
  pub ttls : table.ttls ≡ default_ttls
  pub stands : Stands table history

abbrev pub MatchSpool : ReadSpool → Option (List ℕ) → Option (List ℕ) → Type 0
MatchSpool (spool.Tables tables) before after = IsOneThread before tables × IsAtEnd after
MatchSpool (spool.Bad at) before after = IfSome before (FaultsAt at)
MatchSpool spool.ReadFault before after = Unit {0}
MatchSpool spool.Memory before after = Unit {0}
