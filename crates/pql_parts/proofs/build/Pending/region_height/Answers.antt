use Rattle.pql_parts.specs.Parts.{pending_of}
use Rattle.pql_parts.proofs.Heights.{region_told}
use Rattle.pql_parts.proofs.build.Pending.region_height.Goals as goal

pub returns : goal.returns
returns c =
    let s = c.args.self.now in
    region_told (pending_of s) c.is_empty.result s.any.tallest s.all.tallest c.joined_height.result c.joined.result c.is_empty.ensures s.any.exact s.all.exact c.joined_height.ensures c.joined.ensures
