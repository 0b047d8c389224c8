use Rattle.std.proofs.Common.{◌≡◌, ◌∙◌, ◌<◌, ◌+◌, ◌++◌, length, length-append, sym, ap, arith}
use Rattle.entry_tree.specs.Tree.{of_fork}
use Rattle.entry_tree.proofs.Rising.{rest_rises, front_rises}
use Rattle.entry_tree.proofs.joins.+joined.Goals as goal

pub joined-requires : goal.joined-requires
joined-requires t c =
    let f = c.in-Some.left.value in
    let rest : c.replace-rest.result ≡ f.right = grind arith in
    let upper : c.kept-then-weight.result ≡ c.args.high = grind arith in
    let shorter : length c.replace-rest.result < length c.args.low = grind (arith, rest, c.in-Some.ensures.shorter.1) in
    let same : length c.kept-then-weight.result ≡ length c.args.high = ap length upper in
    let whole = length-append c.args.low c.args.high in
    let part = length-append c.replace-rest.result c.kept-then-weight.result in
    (omega (arith, shorter, same, c.decreases), (rest_rises c.args.low c.args.high f.left f.waiting f.right c.replace-rest.result c.kept-then-weight.result c.in-Some.ensures.fork.0 rest upper c.requires.rises, omega (arith, shorter, same, whole, part, c.requires.few)))

pub joined-requires-else-weight : goal.joined-requires-else-weight
joined-requires-else-weight t c =
    let f = c.in-Some-opened.right.value in
    let front : c.replace-rest-else-weight.result ≡ f.left = grind arith in
    let lower : c.kept-else-weight.result ≡ c.args.low = grind arith in
    let shorter : length c.replace-rest-else-weight.result < length c.args.high = grind (arith, front, c.in-Some-opened.ensures.shorter.0) in
    let same : length c.kept-else-weight.result ≡ length c.args.low = ap length lower in
    let whole = length-append c.args.low c.args.high in
    let part = length-append c.kept-else-weight.result c.replace-rest-else-weight.result in
    (omega (arith, shorter, same, c.decreases), (front_rises c.args.low c.args.high f.left f.waiting f.right c.kept-else-weight.result c.replace-rest-else-weight.result c.in-Some-opened.ensures.fork.0 lower front c.requires.rises, omega (arith, shorter, same, whole, part, c.requires.few)))
