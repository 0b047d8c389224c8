use Rattle.std.proofs.Common.{subst}
use Rattle.query_reading.specs.Wanted.{IsOwnBy}
use Rattle.query_reading.proofs.WantedLaws.{none_wanted}
use Rattle.query_reading.proofs.reading.with_certname.Goals as goal

pub returns-in-None : goal.returns-in-None
returns-in-None c = λ e ps h own. none_wanted e ps (subst (IsOwnBy e ps) c.in-None.is own)

pub returns-in-Some : goal.returns-in-Some
returns-in-Some c = λ e ps h own. c.own_with.ensures e ps h (subst (IsOwnBy e ps) c.in-Some.is own)
