use Rattle.std.proofs.Common.{◌≡◌, ◌∙◌, ◌+◌, ◌<◌, [], length, refl, sym, ap, arith, drop}
use Rattle.std.specs.Prelude.{slice_index}
use Rattle.json_machine.specs.text_spec.Json as spec
use Rattle.std.proofs.lemmas.List.{drop_more}
use Rattle.json_machine.specs.text_spec.Json.{members_of, settled}
use Rattle.json_machine.specs.Machine.{first_key, verdict}
use Rattle.json_read.specs.Heads.{head_told}
use Rattle.json_read.proofs.Stacks.{object_ends}
use Rattle.json_read.proofs.HeadLaws.{headless-owed}
use Rattle.json_read.proofs.head.object_head.Goals as goal

pub returns-then-bytes-first-eq125 : goal.returns-then-bytes-first-eq125
returns-then-bytes-first-eq125 c =
    let bytes = c.args.bytes.now in
    let at = c.skip-first.result in
    let within : at < length bytes = omega (arith, c.skip-first.ensures.bounds, c.if-first-bytes.false) in
    let is : slice_index bytes at ≡ 125 = omega (arith, c.if-bytes-first-eq125.true) in
    sym (ap head_told (c.skip-first.ensures.same [] first_key (λ n fs b h. rw h refl)
    ∙ ap (verdict 127 [] first_key at) (drop_more bytes at 0 within)
    ∙ object_ends [] (slice_index bytes at) at (drop (at + 1) bytes) (c.skip-first.ensures.black within) is)
    ∙ headless-owed (spec.object spec.no_members) (drop (at + 1) bytes) (at + 1) refl)
