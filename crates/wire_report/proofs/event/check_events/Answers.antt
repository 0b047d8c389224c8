use Rattle.std.proofs.Common.{◌≡◌, ◌∙◌, ◌+◌, ◌∷◌, drop, sym, ap, Err, arith}
use Rattle.std.proofs.lemmas.List.{drop_more}
use Rattle.wire_fields.specs.wire_spec.Table.{event}
use Rattle.wire_report.proofs.KeptLaws.{passes, fails}
use Rattle.wire_report.proofs.event.check_events.Goals as goal

pub returns-in_err-check_event : goal.returns-in_err-check_event
returns-in_err-check_event c =
    let list = c.args.events.now in
    let i = c.loop-json.json-index in
    let x = c.json-item.result in
    let rest : drop i list ≡ x ∷ drop (i + 1) list = drop_more list i x c.loop-json-test.true ∙ ap (λ y. y ∷ drop (i + 1) list) (sym c.json-item.is) in
    let refused : c.from_residual.result ≡ Err c.in_err-check_event.field-0.0 = grind (arith, c.from_residual.ensures) in
    refused ∙ fails (event c.args.index) list i x rest c.loop-json.within c.in_err-check_event.ensures ∙ c.loop-json.invariant.rest

pub loop-json-preserved : goal.loop-json-preserved
loop-json-preserved c =
    let list = c.args.events.now in
    let i = c.loop-json.json-index in
    let x = c.json-item.result in
    let rest : drop i list ≡ x ∷ drop (i + 1) list = drop_more list i x c.loop-json-test.true ∙ ap (λ y. y ∷ drop (i + 1) list) (sym c.json-item.is) in
    record {
      at = ap (λ n. n + 1) c.loop-json.invariant.at;
      rest = sym (passes (event c.args.index) list i x rest c.loop-json.within c.in_ok-check_event.ensures) ∙ c.loop-json.invariant.rest;
    }
