use Rattle.pql_parts.proofs.NeedLaws.{body_is, within_is, done_is, paged_is}
use Rattle.pql_parts.proofs.least.need.Goals as goal

pub returns-in-Body : goal.returns-in-Body
returns-in-Body c =
    body_is c.args.frames.now c.args.state.now c.in-Body.field-0 c.bare.result c.depth_of.result c.in-Body.is c.bare.ensures c.depth_of.ensures

pub returns-in-Within : goal.returns-in-Within
returns-in-Within c =
    within_is c.args.frames.now c.args.state.now c.in-Within.spot c.in-Within.mode c.least_height-height.result c.put_height.result c.depth_of-in-Within.result c.in-Within.is c.least_height-height.ensures c.put_height.ensures c.depth_of-in-Within.ensures

pub returns-in-Done : goal.returns-in-Done
returns-in-Done c =
    done_is c.args.frames.now c.args.state.now c.in-Done.field-0 c.in-Done.pending c.region_height.result c.depth_of-in-Done.result c.in-Done.is c.region_height.ensures c.depth_of-in-Done.ensures

pub returns-in-Paged : goal.returns-in-Paged
returns-in-Paged c =
    paged_is c.args.frames.now c.args.state.now c.in-Paged.paged c.in-Paged.field-1 c.paged_need.result c.in-Paged.is c.paged_need.ensures
