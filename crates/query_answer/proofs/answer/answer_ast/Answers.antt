use Rattle.ast_reader.specs.query_spec.Answer as spelt
use Rattle.query_answer.proofs.answer.answer_ast.Goals as goal

pub returns-clause-answer : goal.returns-clause-answer
returns-clause-answer g c = c.answered.ensures.answer spelt.query c.args.text.now c.read_ast.ensures

pub returns-clause-stands : goal.returns-clause-stands
returns-clause-stands g c = λ history s. c.answered.ensures.stands history s spelt.query c.args.text.now c.read_ast.ensures
