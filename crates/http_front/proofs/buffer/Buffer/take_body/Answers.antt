use Rattle.std.proofs.Common.{arith, ◌∙◌, inr, length, refl}
use Rattle.http_front.specs.Inside.{buffered}
use Rattle.http_spec.proofs.of_plain_laws.ReadAhead.{filled_more}
use Rattle.http_front.proofs.Buffers.{asks_more, asks_end, stops_short}
use Rattle.http_front.proofs.buffer.Buffer.take_body.Goals as goal

pub filling-preserved : goal.filling-preserved
filling-preserved g c = record {
  gone =
      filled_more _ _ _ _ _ _ _ _ _ _ _ c.deref_mut.ensures.value (omega arith) c.in-Bytes.ensures.bytes.1 (omega (arith, c.in-Bytes.ensures.bytes.1)) c.filling.invariant.gone c.in-Bytes.ensures.bytes.2;
  asks =
      asks_more _ c.filling.link c.fill.new.link c.filling.filled c.in-Bytes.count (length (buffered c.filling.self)) (length (buffered c.fill.new.self)) _ c.args.size c.filling.invariant.asks (omega arith) c.in-Bytes.ensures.asks;
  size = c.filling.invariant.size;
  filled = omega (arith, c.in-Bytes.ensures.bytes.1);
  room = omega arith;
  within = c.in-Bytes.ensures.within;
  later = c.in-Bytes.ensures.cause.calm (grind arith) ∙ c.filling.invariant.later;
}

pub returns-in-Ended-clause-asks : goal.returns-in-Ended-clause-asks
returns-in-Ended-clause-asks g c = inr (asks_end _ c.filling.link c.filling.filled (length (buffered c.filling.self)) _ c.args.size c.filling.invariant.asks (omega arith) (λ some. (c.in-Ended.ensures.asks some).1))

pub returns-in-Failed-clause-asks : goal.returns-in-Failed-clause-asks
returns-in-Failed-clause-asks g c = inr (asks_end _ c.filling.link c.filling.filled (length (buffered c.filling.self)) _ c.args.size c.filling.invariant.asks (omega arith) (λ some. (c.in-Failed.ensures.asks some).1))

pub returns-in-Failed-clause-fault : goal.returns-in-Failed-clause-fault
returns-in-Failed-clause-fault g c = λ _.
    stops_short _ _ _ (buffered c.fill.new.self) c.filling.body.items c.filling.filled c.args.size c.filling.invariant.gone c.in-Failed.ensures.bytes (c.in-Failed.ensures.none refl) (omega arith) (omega arith)
