-- What `show` prints for a spool.
use Rattle.std.specs.Prelude.{◌≡◌, ℕ, ◌≤◌, ◌<◌, pos, List, [], ◌∷◌, ◌++◌, length, take, Option, Some, None, IfSome}
use Rattle.std.specs.Io.KnownBytes.{Appends, Keeps, IsAtEnd}
use Rattle.busy_commands.specs.fleet_rows.declared.row.Entity.TheVariants.{Facts}
use Rattle.busy_commands.specs.fleet_rows.declared.settings.Ttls.{Ttls}
use Rattle.busy_commands.specs.fleet_rows.Defaults.{default_ttls}
use Rattle.busy_commands.specs.history_spec.Trace.{Trace}
use Rattle.busy_commands.specs.history_spec.Thread.{Item, OneThread}
use Rattle.busy_commands.specs.spool_spec.Spool.{SpoolOf, whole}
use Rattle.busy_commands.specs.table_spec.Rows.{active_rows}
use Rattle.busy_commands.specs.table_spec.RowsText.{rows_text}
pub use Rattle.fleet_app.specs.Reads.{IsSpool, FaultsAt}
use Rattle.busy_commands.specs.calm_commands.Told.{AppendsLess}
use Rattle.busy_commands.specs.calm_commands.declared.status.Status.{Status}
use Rattle.busy_commands.specs.calm_commands.declared.status.Status.TheVariants.{Done, SpoolBad, ReadFault, WriteFault, Memory}

-- the rows of facts of nodes that are neither deactivated nor expired, and a line end
abbrev pub shown_text : Ttls → Trace → List ℕ
shown_text ttls history = rows_text Facts (active_rows Facts ttls history) ++ 10 ∷ []

-- the text for a spool: the rows that one thread over its items leads to
pub record Shows (bytes text : List ℕ) : Type 0 where
  pub items : List Item
  pub history : Trace
  pub spool : SpoolOf (pos 0) bytes items whole
  pub thread : OneThread items history
  pub text_is : text ≡ shown_text default_ttls history

-- the text for these bytes was written
abbrev pub Prints : Option (List ℕ) → Option (List ℕ) → List ℕ → Type 0
Prints before after bytes = (text : List ℕ) × Shows bytes text × Appends before after text

-- a prefix of the text for these bytes was written, and not all of it
abbrev pub PrintsFront : Option (List ℕ) → Option (List ℕ) → List ℕ → Type 0
PrintsFront before after bytes = (text : List ℕ) × Shows bytes text × AppendsLess text before after

-- the source tells its bytes, and the fact holds of them
abbrev pub Tells : Option (List ℕ) → (List ℕ → Type 0) → Type 0
Tells None P = ⊥
Tells (Some bytes) P = P bytes

-- the answer of printing the tables of a history
abbrev pub MatchPrinted : Status → List ℕ → Option (List ℕ) → Option (List ℕ) → Type 0
MatchPrinted Done text before after = Appends before after text
MatchPrinted WriteFault text before after = AppendsLess text before after
MatchPrinted Memory text before after = Keeps before after
MatchPrinted _ text before after = ⊥

-- the answer for a source that had these bytes left, and now has the rest
abbrev pub MatchShown : Status → Option (List ℕ) → Option (List ℕ) → Option (List ℕ) → Option (List ℕ) → Type 0
MatchShown Done bytes rest before after = IfSome bytes IsSpool × IsAtEnd rest × IfSome bytes (Prints before after)
MatchShown (SpoolBad at) bytes rest before after = IfSome bytes (FaultsAt at) × Keeps before after
MatchShown ReadFault bytes rest before after = Keeps before after
MatchShown WriteFault bytes rest before after = IfSome bytes IsSpool × IsAtEnd rest × IfSome bytes (PrintsFront before after)
MatchShown Memory bytes rest before after = Keeps before after
MatchShown _ bytes rest before after = ⊥
