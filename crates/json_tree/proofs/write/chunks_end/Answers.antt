use Rattle.std.proofs.Common.{◌+◌, ◌≤◌, length, arith, refl}
use Rattle.json_tree.proofs.EscapeLaws.{run-on, piece-plain}
use Rattle.json_tree.proofs.write.chunks_end.Goals as goal

pub chunks-preserved : goal.chunks-preserved
chunks-preserved c =
    let bytes = c.args.bytes.now in
    let at = c.chunks.at in
    let room : at + 8 ≤ length bytes = omega (arith, c.chunks.invariant.within, c.chunks-test.true) in
    record {
      from = omega (arith, c.chunks.invariant.from);
      within = room;
      plain = run-on bytes c.args.start at (at + 8) 8 refl c.chunks.invariant.from room (piece-plain bytes at (at + 8) room (c.if-are_plain.ensures refl)) c.chunks.invariant.plain;
    }
