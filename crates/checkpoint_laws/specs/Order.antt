-- The order in which a checkpoint lists its marks and commands.
use Rattle.std.specs.Prelude.{ℕ, if◌then◌else◌, List}
use Rattle.std.specs.List.{filter}
use Rattle.std.specs.Ordering.{nat_cmp, ordering_then}
use Rattle.std.specs.Str.{bytes_eq}
use Rattle.std.specs.declared.cmp.Ordering.{Ordering}
use Rattle.std.specs.declared.cmp.Ordering.TheVariants.{Equal}
use Rattle.checkpoint_spec.specs.text_spec.Compact.{text_cmp}
use Rattle.checkpoint_spec.specs.fleet_rows.Change.{change_certname, change_kind}
use Rattle.checkpoint_spec.specs.fleet_rows.Rank.{rank_cmp}
use Rattle.checkpoint_spec.specs.fleet_rows.declared.applied.Applied.{Applied}
use Rattle.checkpoint_spec.specs.fleet_rows.declared.command.Kind.{Kind}
use Rattle.checkpoint_spec.specs.fleet_rows.declared.command.Kind.TheVariants as kind
use Rattle.checkpoint_spec.specs.fleet_rows.declared.store.Mark.{Mark}
use Rattle.checkpoint_spec.specs.history_spec.Trace.{is_kind, rank_of}

-- the position of a kind in the list; reports are last
abbrev pub place_of : Kind → ℕ
place_of kind.Facts = 0
place_of kind.Catalog = 1
place_of kind.Deactivate = 2
place_of kind.Expiration = 3
place_of kind.Report = 4

abbrev pub rank_order : Applied → Applied → Ordering
rank_order x y = rank_cmp (rank_of x) (rank_of y)

-- commands are compared by certname, then by kind, then reports by rank. Two commands of one node and of the same other kind are
-- equal, whatever their ranks
abbrev pub command_cmp : Applied → Applied → Ordering
command_cmp x y =
    ordering_then (text_cmp (change_certname x.change) (change_certname y.change))
    (ordering_then (nat_cmp (place_of (change_kind x.change)) (place_of (change_kind y.change)))
    (if is_kind kind.Report x then rank_order x y else Equal))

abbrev pub mark_cmp : Mark → Mark → Ordering
mark_cmp mark other = text_cmp mark.certname other.certname

-- the commands of one node
abbrev pub commands_with : List ℕ → List Applied → List Applied
commands_with certname xs = filter (λ x. bytes_eq certname (change_certname x.change)) xs
