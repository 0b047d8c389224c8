use Rattle.std.proofs.Common.{ap}
use Rattle.json_read.specs.json_tree.Tree.{json_of}
use Rattle.record_values.proofs.Values.{shown_members}
use Rattle.record_values.proofs.json.take_members.Goals as goal

pub returns-in-Map : goal.returns-in-Map
returns-in-Map c =
    shown_members json_of (λ r. r.now) c.args.most c.args.bytes.now c.in_ok-take_json.field-0 c.in-Some.json c.in-Map.members c.in-Some.rest
    c.in_ok-take_json.ensures.value c.in-Some.is (ap json_of c.in-Map.is)
