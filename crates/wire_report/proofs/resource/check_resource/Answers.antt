use Rattle.std.proofs.Common.{◌∙◌, sym, ap}
use Rattle.wire_fields.specs.json_tree.Tree.{json_of}
use Rattle.wire_fields.specs.wire_spec.Table.{Checked, Pairs, ◌>>=◌, members}
use Rattle.wire_fields.proofs.of_wire_spec.CountedLaws.{counted-members}
use Rattle.wire_report.specs.InOrder.{resource_fields}
use Rattle.wire_report.proofs.OrderLaws.{resource_checked}
use Rattle.wire_report.proofs.resource.check_resource.Goals as goal

pub check_fields-requires : goal.check_fields-requires
check_fields-requires c = counted-members c.outer.result (json_of c.args.json.now) c.in_ok-json.json.now (sym c.in_ok-json.ensures) c.requires

pub returns : goal.returns
returns c =
    let i = c.args.index in
    let j = json_of c.args.json.now in
    c.check_fields.ensures
    ∙ ap (λ (m : Checked Pairs). m >>= resource_fields i) (sym c.in_ok-json.ensures ∙ ap (λ p. members p j) c.outer.ensures)
    ∙ sym (resource_checked i j)
