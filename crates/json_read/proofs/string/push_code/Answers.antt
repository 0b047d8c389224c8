use Rattle.std.proofs.Common.{sym}
use Rattle.json_machine.proofs.Characters.{encode_2, encode_3, encode_4}
use Rattle.json_read.proofs.Steps.{pushed_on}
use Rattle.json_read.proofs.string.push_code.Goals as goal

pub returns-then-code-lt2048 : goal.returns-then-code-lt2048
returns-then-code-lt2048 c = pushed_on c.extend_from_slice.result c.args.out.now.items c.extend_from_slice.new.self.items _ _ c.extend_from_slice.ensures.items (sym (encode_2 c.args.code c.if-code-lt128.false c.if-code-lt2048.true))

pub returns-then-code-lt65536 : goal.returns-then-code-lt65536
returns-then-code-lt65536 c = pushed_on c.extend_from_slice-then-code-lt65536.result c.args.out.now.items c.extend_from_slice-then-code-lt65536.new.self.items _ _ c.extend_from_slice-then-code-lt65536.ensures.items (sym (encode_3 c.args.code c.if-code-lt2048.false c.if-code-lt65536.true))

pub returns-else-code-lt65536 : goal.returns-else-code-lt65536
returns-else-code-lt65536 c = pushed_on c.extend_from_slice-else-code-lt65536.result c.args.out.now.items c.extend_from_slice-else-code-lt65536.new.self.items _ _ c.extend_from_slice-else-code-lt65536.ensures.items (sym (encode_4 c.args.code c.if-code-lt65536.false))
