use Rattle.std.proofs.Common.{◌+◌, arith}
use Rattle.http_front.specs.Scans.{place_of}
use Rattle.http_front.proofs.Scans.{goes_on, ends_there}
use Rattle.http_front.proofs.scan.Scan.run.Goals as goal

pub returns-in-Some-clause-found : goal.returns-in-Some-clause-found
returns-in-Some-clause-found c =
    let scan = c.looking.self in
    ends_there (place_of scan) scan.at (c.step.new.self.at + 1) _ c.args.bytes.now c.looking.invariant.scanned (omega arith) (omega (arith, c.in-Some.ensures.at)) c.in-Some.ensures.step

pub looking-preserved : goal.looking-preserved
looking-preserved c =
    let scan = c.looking.self in
    record {
      inside = omega (arith, c.in-None.ensures.at);
      most = omega (arith, c.in-None.ensures.at);
      lines = omega (arith, c.in-None.ensures.lines, c.in-None.ensures.at);
      scanned =
          goes_on (place_of scan) (place_of c.step.new.self) scan.at (c.step.new.self.at + 1) c.args.bytes.now c.looking.invariant.scanned (omega arith) (omega (arith, c.in-None.ensures.at)) c.in-None.ensures.step;
    }
