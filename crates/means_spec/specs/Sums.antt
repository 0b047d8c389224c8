-- Sums that overflow 128 bits: a partial sum does so, when the rows are added in order.
use Rattle.std.specs.Prelude.{◌^◌, ℤ, pos, neg_ℤ, ◌+ℤ◌, int_lt, List, [], ◌∷◌, Bool, false, not, ◌&&◌, ◌||◌, if◌then◌else◌, Option, None, map, filter}
use Rattle.std.specs.List.{list_any}
use Rattle.table_spec.specs.fleet_rows.declared.row.Entity.{Entity}
use Rattle.query_spec.specs.declared.parts.Function.TheVariants.{Sum}
use Rattle.query_spec.specs.declared.parts.Name.{Name}
use Rattle.query_spec.specs.declared.parts.Selected.{Selected}
use Rattle.query_spec.specs.declared.parts.Selected.TheVariants as selected
use Rattle.query_spec.specs.Check.{Place, at_fault, first, entity_named, makes_groups, shown_list}
use Rattle.query_spec.specs.Query as query
use Rattle.query_spec.specs.Query.{Filter, compare, matches, is_null, in_list, in_level, subquery, negation, all_of, any_of, Filters, no_filters, Clause, no_clause, clause, Level, level}
use Rattle.table_spec.specs.Rows.{Cells}
use Rattle.means_spec.specs.World.{World, rows_in}
use Rattle.means_spec.specs.Cells.{cell_in}
use Rattle.means_spec.specs.Groups.{Group, groups, scaled_numbers}
use Rattle.means_spec.specs.Means.{passes}

-- m fits into a signed number of 128 bits
abbrev pub fits : ℤ → Bool
fits m = not (int_lt m (neg_ℤ (pos (2 ^ 127)))) && int_lt m (pos (2 ^ 127))

-- some partial sum overflows 128 bits, beginning with this total
abbrev pub is_too_large : ℤ → List ℤ → Bool
is_too_large total [] = false
is_too_large total (m ∷ ms) = not (fits (total +ℤ m)) || is_too_large (total +ℤ m) ms

-- the sum of the column in a group is too large
abbrev pub sum_too_large : Option Entity → Name → Group → Bool
sum_too_large e n x = is_too_large (pos 0) (scaled_numbers (map (cell_in e n.text) x.rows))

abbrev pub large_sum : Option Entity → List Group → Selected → Option Place
large_sum e xs (selected.Function Sum n) = at_fault (list_any (sum_too_large e n) xs) n.place
large_sum e xs _ = None

-- the first of the outputs whose sum is too large
abbrev pub large_sums : Option Entity → List Group → List Selected → Option Place
large_sums e xs [] = None
large_sums e xs (s ∷ ss) = first (large_sum e xs s) (large_sums e xs ss)

abbrev pub level_sum : Option Entity → List Selected → List Name → List Cells → Option Place
level_sum e ss g rows = if makes_groups ss g then large_sums e (groups e g rows) ss else None

-- sums of inner levels come before the level's own, since its rows depend on theirs
module _ (w : World) where
  abbrev mutual
    pub filter_sum : Filter → Option Place
    filter_sum (compare o f l) = None
    filter_sum (matches f t) = None
    filter_sum (is_null f b) = None
    filter_sum (in_list fs p ls) = None
    filter_sum (in_level fs p q) = too_large q
    filter_sum (subquery n k) = clause_sum k
    filter_sum (negation f) = filter_sum f
    filter_sum (all_of fs) = filters_sum fs
    filter_sum (any_of fs) = filters_sum fs

    pub filters_sum : Filters → Option Place
    filters_sum no_filters = None
    filters_sum (query.filter f fs) = first (filter_sum f) (filters_sum fs)

    pub clause_sum : Clause → Option Place
    clause_sum no_clause = None
    clause_sum (clause f) = filter_sum f

    -- the place of the first sum that is too large
    pub too_large : Level → Option Place
    too_large (level n s k g p) =
        first (clause_sum k) (level_sum (entity_named n.text) (shown_list s) g
        (filter (λ row. passes w k (entity_named n.text) row) (rows_in w (entity_named n.text))))
