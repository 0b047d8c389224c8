use Rattle.query_rows.proofs.PartLaws.{put_is}
use Rattle.query_rows.proofs.parts.put_at.Goals as goal

pub returns : goal.returns
returns c =
    put_is c.args.parts.now.items c.args.mark c.index_mut.result.now (record { rows = c.push.new.self }) c.args.row c.requires c.index_mut.ensures.value c.in_ok-push.ensures.items
