-- What a query is evaluated on: rows, inactive nodes and pattern matching.
use Rattle.std.specs.Prelude.{ℕ, List, [], Bool, Option, Some, None}
use Rattle.table_spec.specs.fleet_rows.declared.row.Entity.{Entity}
use Rattle.table_spec.specs.fleet_rows.declared.settings.Ttls.{Ttls}
use Rattle.table_spec.specs.history_spec.Trace.{Trace}
use Rattle.table_spec.specs.history_spec.Life as life
use Rattle.table_spec.specs.Rows as table
use Rattle.table_spec.specs.Rows.{Cells}

pub record World : Type 0 where
  pub rows : Entity → List Cells  -- in the order of their keys
  pub is_inactive : List ℕ → Bool  -- whether the node with this certname is deactivated or expired
  pub matches : List ℕ → List ℕ → Bool  -- whether a pattern matches a text

-- the tables of a history
abbrev pub world_of : Ttls → Trace → (List ℕ → List ℕ → Bool) → World
world_of ttls history matches = record {
  rows = λ e. table.rows e ttls history;
  is_inactive = λ node. life.is_inactive ttls history node;
  matches = matches;
}

-- the rows of the entity, if there is one
abbrev pub rows_in : World → Option Entity → List Cells
rows_in w None = []
rows_in w (Some e) = w.rows e
