use Rattle.std.proofs.Common.{◌∙◌, sym, ap}
use Rattle.wire_fields.specs.json_tree.Tree.{json_of}
use Rattle.wire_fields.specs.wire_spec.Table.{Checked, Pairs, ◌>>=◌, members}
use Rattle.wire_report.specs.InOrder.{event_fields}
use Rattle.wire_report.proofs.OrderLaws.{event_checked}
use Rattle.wire_report.proofs.event.check_event.Goals as goal

pub returns : goal.returns
returns c =
    let i = c.args.index in
    let k = c.args.within in
    let j = json_of c.args.json.now in
    c.check_fields.ensures
    ∙ ap (λ (m : Checked Pairs). m >>= event_fields i k) (sym c.in_ok-json.ensures ∙ ap (λ p. members p j) c.inner.ensures)
    ∙ sym (event_checked i k j)
