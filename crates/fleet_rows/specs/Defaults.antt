-- The default lifetimes.
use Rattle.std.specs.Prelude.{None}
use Rattle.std.proofs.Common.{lit≤}
use Rattle.fleet_rows.specs.declared.settings.Ttls.{Ttls}

-- a node expires after 7 days and is purged after 14 more; a report is kept for 14 days, without a limit on their number
abbrev pub default_ttls : Ttls
default_ttls = record {
  node_days = 7;
  purge_days = 14;
  report_days = 14;
  report_count = None;
  node = (lit≤ tt, lit≤ tt);
  purge = (lit≤ tt, lit≤ tt);
  report = (lit≤ tt, lit≤ tt);
  count = tt;
}
