use Rattle.query_laws.proofs.OneAnswer.{texts_have_some_answer, texts_have_one_answer}
use Rattle.query_laws.proofs.laws.a_text_has_one_answer.Goals as goal

pub returns-clause-some : goal.returns-clause-some
returns-clause-some c = texts_have_some_answer

pub returns-clause-one : goal.returns-clause-one
returns-clause-one c = texts_have_one_answer
