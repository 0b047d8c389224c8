use Rattle.std.proofs.Common.{refl, sym, ap, subst, Err}
use Rattle.query_engine.specs.fleet_ports.Counts.{Counts}
use Rattle.ast_reader.specs.query_spec.Answer.{AnswerOf}
use Rattle.ast_reader.specs.Answered.{AnsweredAs}
use Rattle.means_laws.specs.means_spec.OutRows.{lines_text}
use Rattle.means_laws.specs.means_spec.World as spec
use Rattle.means_laws.specs.paging_text.Shown.{written_text}
use Rattle.query_engine.specs.Tables.{world_of}
use Rattle.query_answer.specs.Told.{in_ast}
use Rattle.query_answer.specs.Answers.{IsUntold, IsPatternFault}
use Rattle.query_answer.proofs.Answered.{text_told, fault_told, counts_stay}
use Rattle.query_answer.proofs.answer.answered.Goals as goal

pub returns-in-Ok-clause-answer : goal.returns-in-Ok-clause-answer
returns-in-Ok-clause-answer g c = λ ast text h.
    text_told (world_of c.args.tables.now (g.P.Patterns.says c.args.patterns.now)) (in_ast (AnswerOf ast text)) (g.P.Patterns.asked c.args.patterns.now) (g.P.Patterns.asked c.answer_query.new.patterns) written_text
    c.in-Ok.query (subst (AnsweredAs ast text) c.in-Ok.is h) c.answer_query.result c.answer_query.ensures.answer

pub returns-in-Ok-clause-stands : goal.returns-in-Ok-clause-stands
returns-in-Ok-clause-stands g c = λ history s ast text h.
    text_told (spec.world_of c.args.tables.now.ttls history (g.P.Patterns.says c.args.patterns.now)) (in_ast (AnswerOf ast text)) (g.P.Patterns.asked c.args.patterns.now) (g.P.Patterns.asked c.answer_query.new.patterns) lines_text
    c.in-Ok.query (subst (AnsweredAs ast text) c.in-Ok.is h) c.answer_query.result (c.answer_query.ensures.stands history s)

pub returns-in-Err-clause-answer : goal.returns-in-Err-clause-answer
returns-in-Err-clause-answer g c = λ ast text h.
    let w = world_of c.args.tables.now (g.P.Patterns.says c.args.patterns.now) in
    let before = g.P.Patterns.asked c.args.patterns.now in
    subst (IsUntold w (in_ast (AnswerOf ast text)) before before) (sym c.unread.ensures) (fault_told w before before ast text c.in-Err.fault (subst (AnsweredAs ast text) c.in-Err.is h) refl)

pub returns-in-Err-clause-stands : goal.returns-in-Err-clause-stands
returns-in-Err-clause-stands g c = λ history s ast text h.
    let w = spec.world_of c.args.tables.now.ttls history (g.P.Patterns.says c.args.patterns.now) in
    let before = g.P.Patterns.asked c.args.patterns.now in
    subst (IsUntold w (in_ast (AnswerOf ast text)) before before) (sym c.unread.ensures) (fault_told w before before ast text c.in-Err.fault (subst (AnsweredAs ast text) c.in-Err.is h) refl)

pub returns-in-Err-clause-cause : goal.returns-in-Err-clause-cause
returns-in-Err-clause-cause g c =
    let count = g.P.Patterns.refusals c.args.patterns.now in
    subst (λ f. Counts count count (IsPatternFault f)) (sym c.unread.ensures) (counts_stay count c.in-Err.fault)
