use Rattle.std.proofs.Common.{arith, refl, rules}
use Rattle.spool_text.specs.declared.first_line.FirstLine.TheVariants as first
use Rattle.spool_text.specs.Unread.{buffered}
use Rattle.spool_text.proofs.Items.{far_line, cut_payload, no_feed_after, stops_in_payload, stops_at_feed, gives_command}
use Rattle.spool_text.proofs.Losses.{loses_part, loses_payload}
use Rattle.spool_text.proofs.reader.ItemReader.read_command.Goals as goal

pub returns-then-end-gt-MOST_SPOOL-clause-bad : goal.returns-then-end-gt-MOST_SPOOL-clause-bad
returns-then-end-gt-MOST_SPOOL-clause-bad g c = (
  refl,
  far_line c.args.received c.args.self.now.given c.args.len (buffered c.args.self.now.piece) c.requires.line (g.S.Source.left c.args.source.now) (first.Command c.args.kind c.args.version c.args.size) c.requires.first (omega arith),
)

pub returns-in-Taken-clause-item : goal.returns-in-Taken-clause-item
returns-in-Taken-clause-item g c =
    gives_command c.args.received c.args.self.now.given _ c.args.len (buffered c.args.self.now.piece) c.args.kind c.args.version c.args.size c.in-Whole.payload.items c.from_vec.result _ (g.S.Source.left c.args.source.now) _ _ c.requires.line c.requires.first c.in-Whole.ensures.payload.0 c.advance.ensures.rest c.in-Whole.ensures.payload.1 c.in-Taken.ensures.feed (omega arith) c.from_vec.ensures

pub returns-in-Missing-clause-bad : goal.returns-in-Missing-clause-bad
returns-in-Missing-clause-bad g c = (
  refl,
  no_feed_after c.args.received c.args.self.now.given c.args.len (buffered c.args.self.now.piece) c.requires.line c.args.kind c.args.version c.args.size c.requires.first _ (g.S.Source.left c.args.source.now) _ _ c.advance.ensures.rest c.in-Whole.ensures.payload.0 c.in-Whole.ensures.payload.1 c.in-Missing.ensures.feed,
)

pub returns-in-Cut-clause-bad : goal.returns-in-Cut-clause-bad
returns-in-Cut-clause-bad g c = (
  refl,
  cut_payload c.args.received c.args.self.now.given c.args.len (buffered c.args.self.now.piece) c.requires.line c.args.kind c.args.version c.args.size c.requires.first _ (g.S.Source.left c.args.source.now) c.advance.ensures.rest c.in-Cut.ensures.payload,
)

pub returns-in-Missing-clause-lost : goal.returns-in-Missing-clause-lost
returns-in-Missing-clause-lost g c =
    loses_part c.args.len c.args.size (buffered c.args.self.now.piece) _ (g.S.Source.left c.args.source.now) _ _ c.requires.line c.requires.short c.advance.ensures.rest c.requires.small c.take_payload.ensures.lost c.take_feed.ensures.lost

pub returns-in-Failed-take_feed-clause-lost : goal.returns-in-Failed-take_feed-clause-lost
returns-in-Failed-take_feed-clause-lost g c =
    loses_part c.args.len c.args.size (buffered c.args.self.now.piece) _ (g.S.Source.left c.args.source.now) _ _ c.requires.line c.requires.short c.advance.ensures.rest c.requires.small c.take_payload.ensures.lost c.take_feed.ensures.lost

pub returns-in-Cut-clause-lost : goal.returns-in-Cut-clause-lost
returns-in-Cut-clause-lost g c =
    loses_payload c.args.len c.args.size (buffered c.args.self.now.piece) _ (g.S.Source.left c.args.source.now) _ c.requires.line c.requires.short c.advance.ensures.rest c.requires.small c.take_payload.ensures.lost

pub returns-in-Failed-clause-lost : goal.returns-in-Failed-clause-lost
returns-in-Failed-clause-lost g c =
    loses_payload c.args.len c.args.size (buffered c.args.self.now.piece) _ (g.S.Source.left c.args.source.now) _ c.requires.line c.requires.short c.advance.ensures.rest c.requires.small c.take_payload.ensures.lost

pub returns-in-Memory-clause-lost : goal.returns-in-Memory-clause-lost
returns-in-Memory-clause-lost g c =
    loses_payload c.args.len c.args.size (buffered c.args.self.now.piece) _ (g.S.Source.left c.args.source.now) _ c.requires.line c.requires.short c.advance.ensures.rest c.requires.small c.take_payload.ensures.lost

pub returns-in-Failed-take_feed-clause-fault : goal.returns-in-Failed-take_feed-clause-fault
returns-in-Failed-take_feed-clause-fault g c = λ _.
    stops_at_feed c.args.received c.args.self.now.given c.args.len (buffered c.args.self.now.piece) c.requires.line c.args.kind c.args.version c.args.size c.requires.first _ c.in-Whole.payload.items (g.S.Source.left c.args.source.now) _ _ (omega arith) c.advance.ensures.rest c.in-Whole.ensures.payload.0 c.in-Whole.ensures.payload.1
    (c.take_feed.ensures.fault (search rules))

pub returns-in-Failed-clause-fault : goal.returns-in-Failed-clause-fault
returns-in-Failed-clause-fault g c = λ _.
    stops_in_payload c.args.received c.args.self.now.given c.args.len (buffered c.args.self.now.piece) c.requires.line c.args.kind c.args.version c.args.size c.requires.first _ (g.S.Source.left c.args.source.now) _ (omega arith) c.advance.ensures.rest
    (c.take_payload.ensures.fault (search rules))
