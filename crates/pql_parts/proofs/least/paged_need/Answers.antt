use Rattle.pql_parts.proofs.NeedLaws.{paged_told}
use Rattle.pql_parts.proofs.least.paged_need.Goals as goal

pub returns-in-Right : goal.returns-in-Right
returns-in-Right c =
    λ x. paged_told c.args.frames.now c.args.paged.now c.in-Right.right x c.deeper-height.result c.put_height.result c.depth_of.result c.in-Right.is c.deeper-height.ensures c.put_height.ensures c.depth_of.ensures
