use Rattle.std.proofs.Common.{◌<◌, length, refl, arith}
use Rattle.std.specs.List.{flat_map}
use Rattle.std.proofs.lemmas.Option.{slice_get_read}
use Rattle.checkpoint_spec.specs.Lists.{commands_of}
use Rattle.fleet_tables.specs.Groups.{joined}
use Rattle.fleet_tables.proofs.SnapshotLaws.{group_flat}
use Rattle.fleet_tables.proofs.snapshot.commands_in.Goals as goal

pub listing-preserved : goal.listing-preserved
listing-preserved c =
    let groups = c.args.groups.now in
    let at = c.listing.group-index in
    let g = c.group-item.result in
    let within : at < length groups = omega arith in
    group_flat c.listing.commands c.push_commands.new.commands (flat_map commands_of (joined groups)) groups at g (slice_get_read groups (length groups) at g refl within c.group-item.is) commands_of
    c.in_ok-push_commands.ensures c.listing.invariant
