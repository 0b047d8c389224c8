use Rattle.http_routes.specs.paging_text.Shown.{written_text}
use Rattle.http_routes.specs.query_engine.Tables.{world_of}
use Rattle.http_routes.specs.Course.{outside}
use Rattle.http_routes.specs.Inbox.{Takes}
use Rattle.front_port.specs.Links.{Given}
use Rattle.link_serving.specs.Serving.{front_seen}
use Rattle.link_serving.proofs.Links.{one_served}
use Rattle.link_serving.proofs.Ends.{ends_by}
use Rattle.link_serving.proofs.front.serve_first.Goals as goal

pub returns-in-Link-clause-served : goal.returns-in-Link-clause-served
returns-in-Link-clause-served g c =
    let inbox = c.args.inbox.now in
    let patterns = c.args.patterns.now in
    let front = c.args.front.now in
    let left = c.give_back.new.self in
    let served = c.serve_link-end.new in
    let link : Given = record {
      left = g.F.Incoming.Source.left served.link.incoming;
      held = g.F.Outgoing.Sink.held served.link.outgoing;
      read_faults = g.F.Incoming.Source.fault_count served.link.incoming;
      write_faults = g.F.Outgoing.Sink.fault_count served.link.outgoing;
    } in
    one_served (Takes g.I.Inbox.held g.I.Inbox.does) (world_of (g.I.Inbox.shown inbox) (g.P.Patterns.says patterns)) written_text c.args.now
    (front_seen (g.F.Front.left front) (g.F.Front.handed_out front) (g.F.Front.given_back front)) (front_seen (g.F.Front.left left) (g.F.Front.handed_out left) (g.F.Front.given_back left))
    (g.F.Front.left c.next.new.self) (g.F.Front.handed_out c.next.new.self) (g.F.Front.given_back c.next.new.self) (outside inbox (g.P.Patterns.asked patterns) (g.P.Patterns.refusals patterns))
    (outside served.inbox (g.P.Patterns.asked served.patterns) (g.P.Patterns.refusals served.patterns)) link
    (record {
      comes = g.F.Incoming.Source.left c.in-Link.link.incoming;
      held = g.F.Outgoing.Sink.held c.in-Link.link.outgoing;
      handed_out = c.in-Link.ensures.link;
      end = c.serve_link-end.result;
      ends =
          ends_by link (g.F.Incoming.Source.fault_count c.in-Link.link.incoming) (g.F.Outgoing.Sink.fault_count c.in-Link.link.outgoing) c.in-Link.ensures.calm.0 c.in-Link.ensures.calm.1
          c.serve_link-end.result c.serve_link-end.ensures.reads c.serve_link-end.ensures.writes;
      serves = c.serve_link-end.ensures.served;
      so_far = c.serve_link-end.ensures.so_far;
    })
    c.give_back.ensures.left c.in-Link.ensures.counted c.give_back.ensures.handed_out c.in-Link.ensures.given_back c.give_back.ensures.given_back
