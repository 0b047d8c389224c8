use Rattle.std.proofs.Common.{◌-◌, arith, length}
use borrow.Rule.Slice.PartMut.{post_of}
use Rattle.text_spec.proofs.of_plain_laws.ReadAhead.{read_more, read_none}
use Rattle.spool_text.proofs.piece.Piece.refill.Goals as goal

pub returns-in-Bytes-clause-keeps : goal.returns-in-Bytes-clause-keeps
returns-in-Bytes-clause-keeps g c =
    read_more _ _ _ _ _ _ _ _ _ _ _ _ c.move_to_front.ensures.front c.deref_mut.ensures.value c.move_to_front.ensures.same (omega arith) c.in-Bytes.ensures.bytes.1 (omega (arith, c.in-Bytes.ensures.bytes.1)) c.in-Bytes.ensures.bytes.2

pub returns-in-Ended-clause-keeps : goal.returns-in-Ended-clause-keeps
returns-in-Ended-clause-keeps g c =
    let piece = c.move_to_front.new.self in
    let all = c.deref_mut.result.now in
    read_none piece.bytes.items all c.read_some.new.into (post_of piece.«end» (length all - piece.«end») all) piece.bytes.items _ _ _ _ _ _ c.move_to_front.ensures.front c.deref_mut.ensures.value c.move_to_front.ensures.same (omega arith) (omega arith) c.in-Ended.ensures.bytes.0

pub returns-in-Failed-clause-keeps : goal.returns-in-Failed-clause-keeps
returns-in-Failed-clause-keeps g c =
    let piece = c.move_to_front.new.self in
    let all = c.deref_mut.result.now in
    read_none piece.bytes.items all c.read_some.new.into (post_of piece.«end» (length all - piece.«end») all) piece.bytes.items _ _ _ _ _ _ c.move_to_front.ensures.front c.deref_mut.ensures.value c.move_to_front.ensures.same (omega arith) (omega arith) c.in-Failed.ensures.bytes
