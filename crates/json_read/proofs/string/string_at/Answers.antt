use Rattle.std.proofs.Common.{◌≡◌, ◌∙◌, ◌+◌, [], arith, drop}
use Rattle.std.specs.Prelude.{slice_index, slice_range}
use Rattle.json_machine.proofs.TextUtf8.{verdict-utf8}
use Rattle.json_read.proofs.Steps.{quote_ends}
use Rattle.json_read.proofs.string.string_at.Goals as goal

pub from_part-requires-clause-text : goal.from_part-requires-clause-text
from_part-requires-clause-text c =
    let bytes = c.args.bytes.now in
    let end = c.in-Ok.end in
    let text = slice_range bytes c.args.start end in
    let bound = c.in-Ok.ensures.bound in
    let quote : slice_index bytes end ≡ 34 = grind (arith, bound.2, c.if-bytes-end-eq92.false) in
    verdict-utf8 (drop c.args.start bytes) c.args.start text (end + 1) (drop (end + 1) bytes) (c.in-Ok.ensures.value [] ∙ quote_ends bytes end text bound.1 quote)
