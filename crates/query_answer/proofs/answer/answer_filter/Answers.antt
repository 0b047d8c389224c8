use Rattle.ast_reader.specs.query_spec.Answer as spelt
use Rattle.query_answer.proofs.answer.answer_filter.Goals as goal

pub returns-clause-answer : goal.returns-clause-answer
returns-clause-answer g c = c.answered.ensures.answer (spelt.route c.args.entity) c.args.text.now c.read_filter.ensures

pub returns-clause-stands : goal.returns-clause-stands
returns-clause-stands g c = λ history s. c.answered.ensures.stands history s (spelt.route c.args.entity) c.args.text.now c.read_filter.ensures
