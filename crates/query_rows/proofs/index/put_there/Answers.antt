use Rattle.query_rows.proofs.IndexLaws.{put_is}
use Rattle.query_rows.proofs.index.put_there.Goals as goal

pub returns : goal.returns
returns c =
    put_is c.args.lists.now.items c.args.number c.index_mut.result.now (record { places = c.push.new.self }) c.args.place c.requires c.index_mut.ensures.value c.in_ok-push.ensures.items
