use Rattle.std.proofs.Common.{◌∙◌, ap}
use Rattle.std.specs.Prelude.{codes}
use Rattle.http_spec.specs.text_spec.Json.{find_member}
use Rattle.http_routes.specs.Questions.{with_member}
use Rattle.http_routes.proofs.QuestionLaws.{four_moved}
use Rattle.http_routes.proofs.question.body_params.Goals as goal

pub returns : goal.returns
returns c =
    let members = c.args.members in
    four_moved members c.move_member.new.members c.move_member-2.new.members c.move_member-3.new.members c.move_member.new.params c.move_member-2.new.params c.move_member-3.new.params c.move_member-4.new.params
    c.move_member.ensures.others c.move_member-2.ensures.others c.move_member-3.ensures.others
    (c.in_ok-move_member.ensures.moved ∙ ap (with_member (codes "limit") (find_member (codes "limit") members)) c.new-params.ensures)
    c.in_ok-move_member-2.ensures.moved c.in_ok-move_member-3.ensures.moved c.in_ok-move_member-4.ensures.moved
