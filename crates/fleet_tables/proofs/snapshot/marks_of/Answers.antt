use Rattle.std.proofs.Common.{◌<◌, length, map, refl, arith}
use Rattle.std.proofs.lemmas.Option.{slice_get_read}
use Rattle.checkpoint_spec.specs.Lists.{mark_of}
use Rattle.fleet_tables.specs.Groups.{joined}
use Rattle.fleet_tables.proofs.SnapshotLaws.{group_mapped}
use Rattle.fleet_tables.proofs.snapshot.marks_of.Goals as goal

pub listing-preserved : goal.listing-preserved
listing-preserved c =
    let groups = c.args.groups.now in
    let at = c.listing.group-index in
    let g = c.group-item.result in
    let within : at < length groups = omega arith in
    group_mapped c.listing.marks c.push_marks.new.marks (map mark_of (joined groups)) groups at g (slice_get_read groups (length groups) at g refl within c.group-item.is) mark_of
    c.in_ok-push_marks.ensures c.listing.invariant
