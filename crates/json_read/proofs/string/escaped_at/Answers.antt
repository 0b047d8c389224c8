use Rattle.std.proofs.Common.{◌≡◌, ◌∙◌, ◌+◌, sym, subst, arith, drop}
use Rattle.std.specs.Prelude.{slice_index}
use Rattle.std.specs.Str.{IsUtf8}
use Rattle.json_machine.proofs.TextUtf8.{verdict-utf8}
use Rattle.json_read.proofs.Steps.{quote_ends}
use Rattle.json_read.proofs.string.escaped_at.Goals as goal

pub from_bytes-requires : goal.from_bytes-requires
from_bytes-requires c =
    let bytes = c.args.bytes.now in
    let stop = c.escapes.invariant.stop in
    let quote : slice_index bytes c.escapes.at ≡ 34 = grind (arith, stop, c.escapes-test.false) in
    subst IsUtf8 (sym c.as_slice.ensures.value)
    (verdict-utf8 (drop c.args.start bytes) c.args.start c.escapes.out.items (c.escapes.at + 1) (drop (c.escapes.at + 1) bytes) (c.escapes.invariant.same ∙ quote_ends bytes c.escapes.at c.escapes.out.items c.escapes.invariant.within quote))
