use Rattle.std.proofs.Common.{◌∙◌, ap, take}
use Rattle.json_tree.proofs.ScaledLaws.{front_is, rest_is}
use Rattle.json_tree.proofs.scaled.split_digits.Goals as goal

pub returns-clause-digits : goal.returns-clause-digits
returns-clause-digits c = ap (λ n. take n c.args.text.now) c.count_digits-count.ensures.value ∙ front_is c.args.text.now

pub returns-clause-rest : goal.returns-clause-rest
returns-clause-rest c = rest_is c.args.text.now c.count_digits-count.result c.count_digits-count.ensures.value
