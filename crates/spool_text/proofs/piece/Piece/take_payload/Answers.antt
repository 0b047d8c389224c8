use Rattle.std.proofs.Common.{arith, ◌∙◌, refl}
use Rattle.spool_text.specs.Unread.{buffered}
use Rattle.spool_text.proofs.Pieces.{stops_short}
use Rattle.text_spec.proofs.of_plain_laws.ReadAhead.{filled_more}
use Rattle.spool_text.proofs.piece.Piece.take_payload.Goals as goal

pub filling-preserved : goal.filling-preserved
filling-preserved g c = record {
  taken =
      filled_more _ _ _ _ _ _ _ _ _ _ _ c.deref_mut.ensures.value (omega arith) c.in-Bytes.ensures.bytes.1 (omega (arith, c.in-Bytes.ensures.bytes.1)) c.filling.invariant.taken c.in-Bytes.ensures.bytes.2;
  size = c.filling.invariant.size;
  filled = omega (arith, c.in-Bytes.ensures.bytes.1);
  room = omega arith;
  later = c.in-Bytes.ensures.cause.calm (grind arith) ∙ c.filling.invariant.later;
}

pub returns-in-Failed-clause-fault : goal.returns-in-Failed-clause-fault
returns-in-Failed-clause-fault g c = λ _.
    stops_short _ _ _ (buffered c.fill.new.self) c.filling.payload.items c.filling.filled c.args.size c.filling.invariant.taken c.in-Failed.ensures.bytes (c.in-Failed.ensures.none refl) (omega arith) (omega arith)
