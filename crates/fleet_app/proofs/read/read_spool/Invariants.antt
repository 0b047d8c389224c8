use Rattle.std.proofs.Common.{◌≡◌, ◌≤◌, ◌-◌}
use Rattle.busy_commands.specs.spool_text.Next.{unread, place}
use Rattle.fleet_app.specs.Reads.{SoFar}
use Rattle.fleet_app.proofs.read.read_spool.Given as goal
use Rattle.program_words.specs.spool_spec.Limits.{most_spool}

abbrev pub invariant-items : goal.invariant-items
invariant-items g l = record {
  so_far : SoFar (g.S.Source.left l.fn.spool) (unread l.reader (g.S.Source.left l.spool)) (place l.reader) l.receipt l.tables;
  counted : l.receipt ≤ place l.reader;
  within : place l.reader ≤ most_spool;
  later : g.S.Source.fault_count l.spool ≡ g.S.Source.fault_count l.fn.spool;
}

abbrev pub decreases-items : goal.decreases-items
decreases-items g l = most_spool - place l.reader
