use Rattle.std.proofs.Common.{refl, subst, IfSome}
use Rattle.std.specs.Io.KnownBytes.{Keeps, prepend_known}
use Rattle.spool_text.specs.Unread.{buffered}
use Rattle.spool_text.specs.Next.{IsBad}
use Rattle.spool_text.proofs.Losses.{loses_nothing, read_ahead}
use Rattle.spool_text.proofs.Items.{end_of_source, kept_bad, no_line_bad, kept_stops, stops_in_line}
use Rattle.spool_text.proofs.reader.ItemReader.next_item.Goals as goal

pub returns-in-Nothing-clause-read_to_the_end : goal.returns-in-Nothing-clause-read_to_the_end
returns-in-Nothing-clause-read_to_the_end g c = λ e. end_of_source _ _ c.in-Nothing.ensures.front

pub returns-in-NoLine-clause-bad : goal.returns-in-NoLine-clause-bad
returns-in-NoLine-clause-bad g c = (
  refl,
  subst (λ xs. IfSome (prepend_known xs (g.S.Source.left c.args.source.now)) (IsBad c.args.received c.args.self.now.given)) c.prepare.ensures.same (kept_bad c.args.received c.args.self.now.given _ _ c.front.ensures.keeps (no_line_bad c.args.received c.args.self.now.given _ c.in-NoLine.ensures.front)),
)

pub returns-in-Line-clause-lost : goal.returns-in-Line-clause-lost
returns-in-Line-clause-lost g c =
    let left = g.S.Source.left in
    read_ahead c.read_item.result 16_777_418 (prepend_known (buffered c.args.self.now.piece) (left c.args.source.now)) (prepend_known (buffered c.front.new.self) (left c.front.new.source)) _
    (subst (λ xs. Keeps (prepend_known xs (left c.args.source.now)) (prepend_known (buffered c.front.new.self) (left c.front.new.source))) c.prepare.ensures.same c.front.ensures.keeps) c.read_item.ensures.lost

pub returns-in-NoLine-clause-lost : goal.returns-in-NoLine-clause-lost
returns-in-NoLine-clause-lost g c =
    let left = g.S.Source.left in
    loses_nothing 16_777_418 (prepend_known (buffered c.args.self.now.piece) (left c.args.source.now)) (prepend_known (buffered c.front.new.self) (left c.front.new.source))
    (subst (λ xs. Keeps (prepend_known xs (left c.args.source.now)) (prepend_known (buffered c.front.new.self) (left c.front.new.source))) c.prepare.ensures.same c.front.ensures.keeps)

pub returns-in-Failed-clause-lost : goal.returns-in-Failed-clause-lost
returns-in-Failed-clause-lost g c =
    let left = g.S.Source.left in
    loses_nothing 16_777_418 (prepend_known (buffered c.args.self.now.piece) (left c.args.source.now)) (prepend_known (buffered c.front.new.self) (left c.front.new.source))
    (subst (λ xs. Keeps (prepend_known xs (left c.args.source.now)) (prepend_known (buffered c.front.new.self) (left c.front.new.source))) c.prepare.ensures.same c.front.ensures.keeps)

pub returns-in-Line-clause-fault : goal.returns-in-Line-clause-fault
returns-in-Line-clause-fault g c = λ h.
    let left = g.S.Source.left in
    kept_stops c.args.received c.args.self.now.given (prepend_known (buffered c.args.self.now.piece) (left c.args.source.now)) (prepend_known (buffered c.front.new.self) (left c.front.new.source)) _
    (subst (λ xs. Keeps (prepend_known xs (left c.args.source.now)) (prepend_known (buffered c.front.new.self) (left c.front.new.source))) c.prepare.ensures.same c.front.ensures.keeps) (c.read_item.ensures.fault h)

pub returns-in-Failed-clause-fault : goal.returns-in-Failed-clause-fault
returns-in-Failed-clause-fault g c = λ _.
    let left = g.S.Source.left in
    stops_in_line c.args.received c.args.self.now.given (buffered c.front.new.self) (prepend_known (buffered c.args.self.now.piece) (left c.args.source.now)) _
    (subst (λ xs. Keeps (prepend_known xs (left c.args.source.now)) (prepend_known (buffered c.front.new.self) (left c.front.new.source))) c.prepare.ensures.same c.front.ensures.keeps) c.in-Failed.ensures.front
