use Rattle.std.proofs.Common.{◌≡◌, ◌∙◌, inr, ◌++◌, length, ap, arith, subst, sym, length-append}
use Rattle.std.proofs.KnownBytes.{Keeps-trans}
use Rattle.http_front.specs.Inside.{buffered}
use Rattle.http_front.specs.Scans.{place_of, HasScanned}
use Rattle.http_front.specs.Fronts.{HasHead}
use Rattle.http_front.proofs.Scans.{still_scanned, has_head, no_head_in_reach, no_head_to_end, in_head, ends_in_head}
use Rattle.http_front.proofs.reader.Reader.find_head.Goals as goal

pub returns-in-Some-clause-head : goal.returns-in-Some-clause-head
returns-in-Some-clause-head g c =
    let run = c.in-Some.ensures in
    subst (HasHead c.run.new.self.at c.in-Some.lines) c.as_slice.ensures (has_head c.run.new.self.at c.in-Some.lines c.as_slice.result.now run.inside run.most run.found)

pub returns-then-scan-ge-MOST_HEAD-clause-head : goal.returns-then-scan-ge-MOST_HEAD-clause-head
returns-then-scan-ge-MOST_HEAD-clause-head g c =
    let run = c.in-None.ensures in
    let scanned = subst (HasScanned c.run.new.self) c.as_slice.ensures run.scanned in
    no_head_in_reach (place_of c.run.new.self) c.run.new.self.at (buffered c.reading.self.buffer) scanned (omega arith) (omega (arith, run.inside, ap length c.as_slice.ensures))

pub returns-in-Ended-clause-keeps : goal.returns-in-Ended-clause-keeps
returns-in-Ended-clause-keeps g c = Keeps-trans _ _ _ c.reading.invariant.kept c.in-Ended.ensures.keeps

pub returns-in-Failed-clause-keeps : goal.returns-in-Failed-clause-keeps
returns-in-Failed-clause-keeps g c = Keeps-trans _ _ _ c.reading.invariant.kept c.in-Failed.ensures.keeps

pub returns-in-Ended-clause-head : goal.returns-in-Ended-clause-head
returns-in-Ended-clause-head g c =
    let run = c.in-None.ensures in
    let same = c.as_slice.ensures ∙ sym c.in-Ended.ensures.grows in
    let scanned = subst (HasScanned c.run.new.self) same run.scanned in
    let all : c.run.new.self.at ≡ length (buffered c.refill.new.self) = omega (arith, run.looked, ap length same) in
    no_head_to_end (place_of c.run.new.self) c.run.new.self.at (buffered c.refill.new.self) _ scanned all (omega (arith, all)) (c.in-Ended.ensures.end (grind arith))

pub returns-in-Failed-clause-head : goal.returns-in-Failed-clause-head
returns-in-Failed-clause-head g c =
    let run = c.in-None.ensures in
    let same = c.as_slice.ensures ∙ sym c.in-Failed.ensures.grows in
    let scanned = subst (HasScanned c.run.new.self) same run.scanned in
    let all : c.run.new.self.at ≡ length (buffered c.refill.new.self) = omega (arith, run.looked, ap length same) in
    in_head (place_of c.run.new.self) c.run.new.self.at (buffered c.refill.new.self) scanned all (omega (arith, all))

pub returns-in-Ended-clause-asks : goal.returns-in-Ended-clause-asks
returns-in-Ended-clause-asks g c =
    let run = c.in-None.ensures in
    let scanned = subst (HasScanned c.run.new.self) c.as_slice.ensures run.scanned in
    let all : c.run.new.self.at ≡ length (buffered c.reading.self.buffer) = omega (arith, run.looked, ap length c.as_slice.ensures) in
    inr (ends_in_head _ (place_of c.run.new.self) c.run.new.self.at _ (buffered c.reading.self.buffer) c.reading.invariant.asks scanned all (omega (arith, all)))

pub returns-in-Failed-clause-asks : goal.returns-in-Failed-clause-asks
returns-in-Failed-clause-asks g c =
    let run = c.in-None.ensures in
    let scanned = subst (HasScanned c.run.new.self) c.as_slice.ensures run.scanned in
    let all : c.run.new.self.at ≡ length (buffered c.reading.self.buffer) = omega (arith, run.looked, ap length c.as_slice.ensures) in
    inr (ends_in_head _ (place_of c.run.new.self) c.run.new.self.at _ (buffered c.reading.self.buffer) c.reading.invariant.asks scanned all (omega (arith, all)))

pub reading-preserved : goal.reading-preserved
reading-preserved g c =
    let run = c.in-None.ensures in
    let grown = c.in-Bytes.ensures.grows in
    let new : buffered c.refill.new.self ≡ c.as_slice.result.now ++ grown.0 = grown.2 ∙ ap (λ xs. xs ++ grown.0) (sym c.as_slice.ensures) in
    let scanned = subst (HasScanned c.run.new.self) c.as_slice.ensures run.scanned in
    let all : c.run.new.self.at ≡ length (buffered c.reading.self.buffer) = omega (arith, run.looked, ap length c.as_slice.ensures) in
    record {
      kept = Keeps-trans _ _ _ c.reading.invariant.kept c.in-Bytes.ensures.keeps;
      ready = omega (arith, c.in-Bytes.ensures.room, c.reading.invariant.ready);
      inside = omega (arith, run.inside, ap length new, length-append c.as_slice.result.now grown.0);
      most = run.most;
      lines = run.lines;
      scanned = still_scanned (place_of c.run.new.self) c.run.new.self.at c.as_slice.result.now grown.0 (buffered c.refill.new.self) run.inside new run.scanned;
      asks = inr (ends_in_head _ (place_of c.run.new.self) c.run.new.self.at _ (buffered c.reading.self.buffer) c.reading.invariant.asks scanned all (omega (arith, all)));
      later = c.in-Bytes.ensures.cause.calm (grind arith) ∙ c.reading.invariant.later;
    }
