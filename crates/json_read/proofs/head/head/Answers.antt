use Rattle.std.proofs.Common.{◌∙◌, ◌<◌, [], length, refl, sym, ap, arith}
use Rattle.json_machine.specs.Machine.{value}
use Rattle.json_read.specs.Heads.{head_told}
use Rattle.json_read.proofs.HeadLaws.{headless}
use Rattle.json_read.proofs.head.head.Goals as goal

pub returns-then-bytes-start-ne123 : goal.returns-then-bytes-start-ne123
returns-then-bytes-start-ne123 c =
    let bytes = c.args.bytes.now in
    let at = c.skip-start.result in
    let within : at < length bytes = omega (arith, c.skip-start.ensures.bounds, c.if-start-bytes.false) in
    sym (ap head_told (c.skip-start.ensures.same [] value (λ n fs b h. rw h refl))
    ∙ headless bytes at within (c.skip-start.ensures.black within) (λ e. omega (arith, e, c.if-bytes-start-ne123.true)))
