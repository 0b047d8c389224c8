use Rattle.std.proofs.Common.{◌∙◌, ap, length, arith}
use Rattle.http_tests.proofs.Counted.{taken_so, still_light, bytes_of}
use Rattle.http_tests.proofs.outside.OneInbox.take.Goals as goal

pub invariant_of-self-2 : goal.invariant_of-self-2
invariant_of-self-2 c =
    let cs = c.args.self.now.taken.items in
    let room = c.is_full.ensures.room c.if-is_full.false in
    let size = ap length c.as_slice.ensures in
    record {
      bytes_are = omega (arith, c.args.self.now.bytes_are, bytes_of cs c.push.new.self.items c.args.command c.in-Ok.ensures.items, size);
      few = omega (arith, c.args.self.now.bytes_are, still_light cs c.args.command room, size);
    }

pub returns-clause-submits : goal.returns-clause-submits
returns-clause-submits c =
    taken_so c.args.self.now.taken.items c.push.new.self.items c.args.command c.len.result c.in-Ok.ensures.items (c.len.ensures ∙ c.push.new.self.ok.0) c.requires (c.is_full.ensures.room c.if-is_full.false)
