use Rattle.std.proofs.Common.{arith}
use Rattle.std.proofs.lemmas.List.{length-take-le}
use Rattle.std.proofs.KnownBytes.{Keeps-refl}
use Rattle.http_front.proofs.Links.{taken_some, still_kept, still_ended, bound_ended}
use Rattle.http_front.proofs.link.read_link.Goals as goal

pub returns-then-left-eq0-clause-bytes : goal.returns-then-left-eq0-clause-bytes
returns-then-left-eq0-clause-bytes g c = (Keeps-refl _, bound_ended c.args.taken.now (g.L.Source.left c.args.link.now) (omega arith))

pub returns-in-Bytes-clause-bytes : goal.returns-in-Bytes-clause-bytes
returns-in-Bytes-clause-bytes g c =
    let bytes = c.in-Bytes.ensures.bytes in
    taken_some c.args.taken.now c.in-Bytes.count _ _ c.read_some.new.into _ bytes.0 bytes.1 (omega (arith, length-take-le c.min-room.result c.args.into.now (omega arith))) bytes.2

pub returns-in-Ended-clause-bytes : goal.returns-in-Ended-clause-bytes
returns-in-Ended-clause-bytes g c =
    let bytes = c.in-Ended.ensures.bytes in
    (still_kept c.args.taken.now _ _ bytes.0, still_ended c.args.taken.now _ bytes.1)

pub returns-in-Failed-clause-bytes : goal.returns-in-Failed-clause-bytes
returns-in-Failed-clause-bytes g c = still_kept c.args.taken.now _ _ c.in-Failed.ensures.bytes
