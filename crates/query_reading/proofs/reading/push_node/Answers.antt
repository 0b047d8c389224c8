use Rattle.std.proofs.Common.{Some, ◌∷◌, [], ◌&&◌}
use Rattle.std.proofs.lemmas.Result.{IfOk-weaker}
use Rattle.fleet_tables.specs.Wanted.{is_wanted, texts_of}
use Rattle.fleet_tables.specs.table_machine.Rows.{table_rows}
use Rattle.query_reach.specs.Reach.{shows_own}
use Rattle.query_reading.specs.Joins.{is_of}
use Rattle.query_reading.proofs.ReadLaws.{one_node, node_more}
use Rattle.query_reading.proofs.reading.push_node.Goals as goal

pub returns : goal.returns
returns c =
    let e = c.args.entity in
    let w = c.own_under-wanted.result in
    IfOk-weaker c.push_places.result _ _
    (λ b h on ps own before was.
    node_more (table_rows e c.args.tables.now) before (λ row. is_of e (c.args.node.now ∷ []) row && shows_own (Some e) ps row) (is_wanted e (texts_of w)) c.args.places.now.items c.in_ok-more.more.items c.push_places.new.places.items was
    c.in_ok-more.ensures (one_node e ps c.args.own.now w c.args.node own c.own_under-wanted.ensures.certname c.own_under-wanted.ensures.name c.own_under-wanted.ensures.resource) (h on).0 (h on).1)
    c.push_places.ensures
