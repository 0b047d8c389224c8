use Rattle.std.proofs.Common.{refl}
use Rattle.std.specs.Fmt.{digits}
use Rattle.http_spec.specs.Answers.{reason_of}
use Rattle.http_spec.proofs.laws.numbers_are_printed_so.Goals as goal

pub returns-clause-both : goal.returns-clause-both
unfolding digits reason_of
returns-clause-both c = refl

pub returns-clause-seen : goal.returns-clause-seen
unfolding digits reason_of
returns-clause-seen c = refl
