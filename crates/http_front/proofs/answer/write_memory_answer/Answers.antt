use Rattle.std.specs.Fmt.{digits}
use Rattle.http_spec.specs.Answers.{reason_of}
use Rattle.http_front.proofs.answer.write_memory_answer.Goals as goal

pub returns-clause-bytes : goal.returns-clause-bytes
unfolding digits reason_of
returns-clause-bytes g c = c.write_all.ensures.bytes
