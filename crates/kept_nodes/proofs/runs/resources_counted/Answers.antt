use Rattle.std.proofs.Common.{◌∙◌, ◌+◌, ◌<◌, Some, length, refl, sym, ap, arith}
use Rattle.std.specs.Option.{option_map}
use Rattle.std.proofs.lemmas.List.{take_all}
use Rattle.std.proofs.lemmas.Option.{slice_get_read}
use Rattle.kept_nodes.specs.Runs.{as_one, is_before, number, resource_rank}
use Rattle.kept_nodes.specs.Wanted.{text_in}
use Rattle.kept_nodes.proofs.RunLaws.{counted_at_most, counted_step, one_at_most}
use Rattle.kept_nodes.proofs.runs.resources_counted.Goals as goal

pub overflow_add-before : goal.overflow_add-before
overflow_add-before c =
    let most = counted_at_most (λ resource. is_before c.args.past (resource_rank c.args.rtype.now (text_in c.args.title) resource)) c.args.resources.now c.resources.at in
    omega (arith, most, c.resources.invariant, c.as_one-before.ensures, one_at_most c.stands_before.result)

pub resources-preserved : goal.resources-preserved
resources-preserved c =
    let resources = c.args.resources.now in
    let r = c.index-resources-at.result in
    let rank = resource_rank c.args.rtype.now (text_in c.args.title) in
    let within : c.resources.at < length resources = omega arith in
    let shows = ap (option_map rank) (slice_get_read resources (length resources) c.resources.at r refl within c.index-resources-at.is) ∙ ap (λ x. Some x) (sym c.resource_rank.ensures) in
    let one = c.as_one-before.ensures ∙ ap as_one c.stands_before.ensures in
    (λ i. c.resources.invariant i + one i) ∙ sym (counted_step rank c.args.past resources c.resources.at c.resource_rank.result shows)

pub returns : goal.returns
returns c = c.resources.invariant ∙ ap (number (λ resource. is_before c.args.past (resource_rank c.args.rtype.now (text_in c.args.title) resource))) (take_all c.resources.at c.args.resources.now (omega arith))
