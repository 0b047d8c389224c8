use Rattle.std.proofs.Common.{List, ℕ, [], ◌∷◌, ◌++◌, sym, subst}
use Rattle.query_answer.specs.means_spec.World as spec
use Rattle.query_answer.specs.paging_text.Shown.{written_text}
use Rattle.query_answer.specs.query_engine.Tables.{world_of}
use Rattle.calm_commands.specs.declared.status.Status.{Status}
use Rattle.query_answer.specs.Told.{told_of}
use Rattle.calm_commands.specs.Rows.{PrintsText, AnswersText}
use Rattle.calm_commands.proofs.Printed.{rows_printed, text_of_rows, text_of_fault}
use Rattle.calm_commands.proofs.rows.print_answer.Goals as goal

pub returns-in-Ok-clause-stands : goal.returns-in-Ok-clause-stands
returns-in-Ok-clause-stands g c history stands =
    let p = g.P.Patterns in
    let o = g.O.Sink in
    let at = c.args in
    let before = o.held at.out.now in
    let after = o.held c.print_text.new.out in
    let printed = subst (λ (rows : List ℕ). PrintsText c.print_text.result (rows ++ 10 ∷ []) before after) c.as_slice.ensures c.print_text.ensures.which in
    rows_printed (spec.world_of at.tables.now.ttls history (p.says at.patterns.now)) at.text.now (p.asked at.patterns.now) (p.asked c.answer_text.new.patterns) c.print_text.result c.in-Ok.rows before after (c.in-Ok.ensures.stands history stands) printed

pub returns-in-Ok-clause-text : goal.returns-in-Ok-clause-text
returns-in-Ok-clause-text g c =
    let p = g.P.Patterns in
    let o = g.O.Sink in
    let at = c.args in
    text_of_rows (world_of at.tables.now (p.says at.patterns.now)) (told_of at.text.now) (p.asked at.patterns.now) (p.asked c.answer_text.new.patterns) written_text c.print_text.result c.in-Ok.rows (c.as_slice.result.now ++ 10 ∷ []) (o.held at.out.now) (o.held c.print_text.new.out) c.in-Ok.ensures.answer c.print_text.ensures.which

pub returns-in-Err-clause-text : goal.returns-in-Err-clause-text
returns-in-Err-clause-text g c =
    let p = g.P.Patterns in
    let at = c.args in
    let told = told_of at.text.now in
    subst (λ (s : Status). AnswersText s told) (sym c.status_of.ensures) (text_of_fault (world_of at.tables.now (p.says at.patterns.now)) told (p.asked at.patterns.now) (p.asked c.answer_text.new.patterns) written_text c.in-Err.fault c.in-Err.ensures.answer)
