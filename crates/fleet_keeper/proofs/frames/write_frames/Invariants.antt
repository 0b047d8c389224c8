use Rattle.std.proofs.Common.{◌≡◌, ◌++◌, drop, map}
use Rattle.std.specs.List.{AllByRecursion}
use Rattle.core_spec.specs.record_spec.Store.{store_text, IsStoreRecord}
use Rattle.fleet_keeper.proofs.frames.write_frames.Given as goal

abbrev pub invariant-writing : goal.invariant-writing
invariant-writing l =
    let rest = drop l.rec-index l.records in
    record {
      fits : AllByRecursion IsStoreRecord rest;
      written : l.frames ++ map store_text rest ≡ map store_text l.records;
    }
