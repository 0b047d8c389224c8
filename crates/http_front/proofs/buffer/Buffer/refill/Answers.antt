use Rattle.std.proofs.Common.{◌-◌, arith, length}
use borrow.Rule.Slice.PartMut.{post_of}
use Rattle.http_spec.proofs.of_plain_laws.ReadAhead.{read_more, read_none}
use Rattle.http_front.proofs.Buffers.{grows_by}
use Rattle.http_front.proofs.buffer.Buffer.refill.Goals as goal

pub returns-in-Bytes-clause-keeps : goal.returns-in-Bytes-clause-keeps
returns-in-Bytes-clause-keeps g c =
    read_more _ _ _ _ _ _ _ _ _ _ _ _ c.move_to_front.ensures.front c.deref_mut.ensures.value c.move_to_front.ensures.same (omega arith) c.in-Bytes.ensures.bytes.1 (omega (arith, c.in-Bytes.ensures.bytes.1)) c.in-Bytes.ensures.bytes.2

pub returns-in-Bytes-clause-grows : goal.returns-in-Bytes-clause-grows
returns-in-Bytes-clause-grows g c =
    grows_by _ _ _ _ _ _ _ _ _ _ c.move_to_front.ensures.front c.deref_mut.ensures.value c.move_to_front.ensures.same (omega arith) c.in-Bytes.ensures.bytes.0 c.in-Bytes.ensures.bytes.1 (omega (arith, c.in-Bytes.ensures.bytes.1))

pub returns-in-Ended-clause-keeps : goal.returns-in-Ended-clause-keeps
returns-in-Ended-clause-keeps g c =
    let buffer = c.move_to_front.new.self in
    let all = c.deref_mut.result.now in
    read_none buffer.bytes.items all c.read_link.new.into (post_of buffer.«end» (length all - buffer.«end») all) buffer.bytes.items _ _ _ _ _ _ c.move_to_front.ensures.front c.deref_mut.ensures.value c.move_to_front.ensures.same (omega arith) (omega arith) c.in-Ended.ensures.bytes.0

pub returns-in-Failed-clause-keeps : goal.returns-in-Failed-clause-keeps
returns-in-Failed-clause-keeps g c =
    let buffer = c.move_to_front.new.self in
    let all = c.deref_mut.result.now in
    read_none buffer.bytes.items all c.read_link.new.into (post_of buffer.«end» (length all - buffer.«end») all) buffer.bytes.items _ _ _ _ _ _ c.move_to_front.ensures.front c.deref_mut.ensures.value c.move_to_front.ensures.same (omega arith) (omega arith) c.in-Failed.ensures.bytes
