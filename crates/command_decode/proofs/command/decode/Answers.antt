use Rattle.std.proofs.Common.{◌∙◌}
use Rattle.json_read.specs.json_tree.Tree.{json_of}
use Rattle.command_decode.specs.Faults.{of_read, of_wire}
use Rattle.command_decode.proofs.DecodeLaws.{counted, failed, unread, refused, decoded}
use Rattle.command_decode.proofs.KindLaws.{of_its_kind}
use Rattle.wire_laws.proofs.LawfulChanges.{decoded_changes_are_lawful}
use Rattle.command_decode.proofs.command.decode.Goals as goal

pub returns-in_err-json-clause-answer : goal.returns-in_err-json-clause-answer
returns-in_err-json-clause-answer c =
    let clauses = c.read.ensures in
    failed c.args.command.now c.from_residual.result (of_read c.in_err-json.field-0.0) c.from_residual.ensures.1
    (unread c.args.command.now c.as_slice.result.now c.as_slice.ensures (c.if-command-version_taken.false ∙ c.version_taken.ensures)
    c.read.result c.in_err-json.field-0.0 c.in_err-json.was clauses.not_json clauses.too_deep)

pub change-requires : goal.change-requires
change-requires c =
    counted c.args.command.now.payload c.as_slice.result.now (json_of c.in_ok-json.json) c.as_slice.ensures c.requires.counted c.in_ok-json.ensures.found

pub returns-in_err-change-clause-answer : goal.returns-in_err-change-clause-answer
returns-in_err-change-clause-answer c =
    failed c.args.command.now c.from_residual-in_err-change.result (of_wire c.in_err-change.field-0.0) c.from_residual-in_err-change.ensures.1
    (refused c.args.command.now c.as_slice.result.now c.as_slice.ensures (c.if-command-version_taken.false ∙ c.version_taken.ensures)
    (json_of c.in_ok-json.json) c.in_err-change.field-0.0 c.in_ok-json.ensures.found c.in_err-change.ensures.value)

pub returns : goal.returns
returns c =
    let answer =
    decoded c.args.command.now c.as_slice.result.now c.as_slice.ensures (c.if-command-version_taken.false ∙ c.version_taken.ensures)
    (json_of c.in_ok-json.json) c.in_ok-change.field-0 c.in_ok-json.ensures.found c.in_ok-change.ensures.value in
    record {
      answer = answer;
      kind = of_its_kind c.args.command.now c.in_ok-change.field-0 answer;
      lawful = decoded_changes_are_lawful c.args.command.now c.in_ok-change.field-0 c.requires.counted answer;
      version = λ other. absurd (other (c.if-command-version_taken.false ∙ c.version_taken.ensures));
    }
