use Rattle.std.proofs.Common.{◌≡◌, ◌<◌, [], ◌∷◌, length, refl, ap, arith}
use Rattle.entry_tree.proofs.Rising.{rest_rises}
use Rattle.entry_tree.proofs.joins.+appended.Goals as goal

pub appended-requires : goal.appended-requires
appended-requires t c =
    let f = c.in-Some.top.value in
    let rest : c.replace-right.result ≡ f.right = grind arith in
    let shorter : length c.replace-right.result < length c.args.tree = grind (arith, rest, c.in-Some.ensures.shorter.1) in
    let rises = rest_rises c.args.tree (c.args.last.value.waiting ∷ []) f.left f.waiting f.right c.replace-right.result (c.args.last.value.waiting ∷ []) c.in-Some.ensures.fork.0 rest refl c.requires.rises in
    (omega (arith, shorter, c.decreases), (c.requires.left, (c.requires.right, (rises, omega (arith, shorter, c.requires.few)))))
