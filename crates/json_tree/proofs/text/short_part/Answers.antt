use Rattle.std.proofs.Common.{◌-◌, ◌+◌, ◌∙◌, take, drop, ap, arith}
use Rattle.std.proofs.lemmas.List.{take-take}
use Rattle.json_tree.proofs.text.short_part.Goals as goal

pub returns-clause-bytes : goal.returns-clause-bytes
returns-clause-bytes c =
    let count = c.args.end - c.args.start in
    ap (take count) c.copy_from_slice.ensures.after ∙ take-take count (c.args.start + 23 - c.args.start) (drop c.args.start c.args.bytes.now) (omega arith)
