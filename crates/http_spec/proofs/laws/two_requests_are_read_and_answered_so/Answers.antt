use Rattle.std.proofs.Common.{refl}
use Rattle.std.specs.Fmt.{digits}
use Rattle.http_spec.specs.Answers.{reason_of}
use Rattle.http_spec.proofs.Links.{two_are_read}
use Rattle.http_spec.proofs.laws.two_requests_are_read_and_answered_so.Goals as goal

pub returns-clause-read : goal.returns-clause-read
returns-clause-read c = two_are_read

pub returns-clause-answered : goal.returns-clause-answered
unfolding digits reason_of
returns-clause-answered c = refl

pub returns-clause-memory : goal.returns-clause-memory
unfolding digits reason_of
returns-clause-memory c = refl
