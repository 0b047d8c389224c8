use Rattle.std.proofs.Common.{◌∙◌, ◌+◌, sym, ap, arith}
use Rattle.std.proofs.lemmas.List.{take_all}
use Rattle.kept_nodes.specs.Runs.{as_one, is_before, name_rank, number}
use Rattle.kept_nodes.proofs.RunLaws.{counted_at_most, counted_step, one_at_most}
use Rattle.kept_nodes.proofs.runs.facts_counted.Goals as goal

pub overflow_add-before : goal.overflow_add-before
overflow_add-before c =
    let most = counted_at_most (λ fact. is_before c.args.past (name_rank c.args.name.now fact)) c.args.values.now c.facts.at in
    omega (arith, most, c.facts.invariant, c.as_one-before.ensures, one_at_most c.stands_before.result)

pub facts-preserved : goal.facts-preserved
facts-preserved c =
    let one = c.as_one-before.ensures ∙ ap as_one c.stands_before.ensures in
    (λ i. c.facts.invariant i + one i)
    ∙ sym (counted_step (name_rank c.args.name.now) c.args.past c.args.values.now c.facts.at c.fact_rank.result c.fact_rank.ensures)

pub returns : goal.returns
returns c = c.facts.invariant ∙ ap (number (λ fact. is_before c.args.past (name_rank c.args.name.now fact))) (take_all c.facts.at c.args.values.now (omega arith))
