use Rattle.std.proofs.Common.{arith, subst}
use Rattle.std.specs.Io.KnownBytes.{Keeps, prepend_known}
use Rattle.http_front.specs.Inside.{buffered, unread}
use Rattle.http_front.specs.Link.{limited}
use Rattle.http_front.proofs.Requests.{kept_next, kept_bad, kept_ended, many_lines, out_of_reach, cut_head, asks_head, asks_request, kept_stops, stops_in_head}
use Rattle.http_front.proofs.reader.Reader.next.Goals as goal

-- `prepare` keeps what is buffered, so what the search for the head keeps is what there was
pub returns-then-lines-gt-MOST_LINES-clause-next : goal.returns-then-lines-gt-MOST_LINES-clause-next
returns-then-lines-gt-MOST_LINES-clause-next g c =
    let after = unread c.find_head.new.self.buffer c.find_head.new.self.taken (g.L.Source.left c.find_head.new.link) in
    let kept = subst (λ xs. Keeps (prepend_known xs (limited c.args.self.now.taken (g.L.Source.left c.args.link.now))) after) c.prepare.ensures.same c.find_head.ensures.keeps in
    kept_bad _ _ _ kept (many_lines c.in-Ends.len c.in-Ends.lines (buffered c.find_head.new.self.buffer) _ c.in-Ends.ensures.head (omega arith))

pub returns-else-lines-gt-MOST_LINES-clause-next : goal.returns-else-lines-gt-MOST_LINES-clause-next
returns-else-lines-gt-MOST_LINES-clause-next g c =
    let after = unread c.find_head.new.self.buffer c.find_head.new.self.taken (g.L.Source.left c.find_head.new.link) in
    let kept = subst (λ xs. Keeps (prepend_known xs (limited c.args.self.now.taken (g.L.Source.left c.args.link.now))) after) c.prepare.ensures.same c.find_head.ensures.keeps in
    kept_next _ _ _ kept c.read_request.result c.read_request.ensures.next

pub returns-in-TooLarge-clause-next : goal.returns-in-TooLarge-clause-next
returns-in-TooLarge-clause-next g c =
    let after = unread c.find_head.new.self.buffer c.find_head.new.self.taken (g.L.Source.left c.find_head.new.link) in
    let kept = subst (λ xs. Keeps (prepend_known xs (limited c.args.self.now.taken (g.L.Source.left c.args.link.now))) after) c.prepare.ensures.same c.find_head.ensures.keeps in
    kept_bad _ _ _ kept (out_of_reach (buffered c.find_head.new.self.buffer) _ c.in-TooLarge.ensures.head)

pub returns-in-Cut-clause-next : goal.returns-in-Cut-clause-next
returns-in-Cut-clause-next g c =
    let after = unread c.find_head.new.self.buffer c.find_head.new.self.taken (g.L.Source.left c.find_head.new.link) in
    let kept = subst (λ xs. Keeps (prepend_known xs (limited c.args.self.now.taken (g.L.Source.left c.args.link.now))) after) c.prepare.ensures.same c.find_head.ensures.keeps in
    kept_ended _ _ kept (cut_head _ c.in-Cut.ensures.head)

pub returns-then-lines-gt-MOST_LINES-clause-asks : goal.returns-then-lines-gt-MOST_LINES-clause-asks
returns-then-lines-gt-MOST_LINES-clause-asks g c = asks_head _ (buffered c.args.self.now.buffer) (buffered c.prepare.new.self) (buffered c.find_head.new.self.buffer) c.prepare.ensures.same c.find_head.ensures.asks

pub returns-in-TooLarge-clause-asks : goal.returns-in-TooLarge-clause-asks
returns-in-TooLarge-clause-asks g c = asks_head _ (buffered c.args.self.now.buffer) (buffered c.prepare.new.self) (buffered c.find_head.new.self.buffer) c.prepare.ensures.same c.find_head.ensures.asks

pub returns-in-Cut-clause-asks : goal.returns-in-Cut-clause-asks
returns-in-Cut-clause-asks g c = asks_head _ (buffered c.args.self.now.buffer) (buffered c.prepare.new.self) (buffered c.find_head.new.self.buffer) c.prepare.ensures.same c.find_head.ensures.asks

pub returns-in-Failed-clause-asks : goal.returns-in-Failed-clause-asks
returns-in-Failed-clause-asks g c = asks_head _ (buffered c.args.self.now.buffer) (buffered c.prepare.new.self) (buffered c.find_head.new.self.buffer) c.prepare.ensures.same c.find_head.ensures.asks

pub returns-else-lines-gt-MOST_LINES-clause-asks : goal.returns-else-lines-gt-MOST_LINES-clause-asks
returns-else-lines-gt-MOST_LINES-clause-asks g c =
    asks_request _ _ _ (buffered c.args.self.now.buffer) (buffered c.prepare.new.self) (buffered c.find_head.new.self.buffer) c.prepare.ensures.same c.find_head.ensures.asks c.read_request.ensures.asks

pub returns-else-lines-gt-MOST_LINES-clause-fault : goal.returns-else-lines-gt-MOST_LINES-clause-fault
returns-else-lines-gt-MOST_LINES-clause-fault g c = λ h.
    let after = unread c.find_head.new.self.buffer c.find_head.new.self.taken (g.L.Source.left c.find_head.new.link) in
    let kept = subst (λ xs. Keeps (prepend_known xs (limited c.args.self.now.taken (g.L.Source.left c.args.link.now))) after) c.prepare.ensures.same c.find_head.ensures.keeps in
    kept_stops _ _ _ kept (c.read_request.ensures.fault h)

pub returns-in-Failed-clause-fault : goal.returns-in-Failed-clause-fault
returns-in-Failed-clause-fault g c = λ _.
    let after = unread c.find_head.new.self.buffer c.find_head.new.self.taken (g.L.Source.left c.find_head.new.link) in
    let kept = subst (λ xs. Keeps (prepend_known xs (limited c.args.self.now.taken (g.L.Source.left c.args.link.now))) after) c.prepare.ensures.same c.find_head.ensures.keeps in
    stops_in_head _ _ (buffered c.find_head.new.self.buffer) kept c.in-Failed.ensures.head
