use Rattle.std.proofs.Common.{◌≤◌, ◌<◌, ◌+◌, length, arith}
use Rattle.pql_parts.specs.States.{state_of}
use Rattle.pql_reader.proofs.Readings.{within, text_ends, stops, goes_on, moves}
use Rattle.pql_reader.proofs.read.read_level.Goals as goal

pub tokens-init : goal.tokens-init
tokens-init c = record {
  within = omega arith;
  few = omega arith;
  shallow = omega arith;
  reached = λ z m rest g. g;
}

pub returns-then-is_end : goal.returns-then-is_end
returns-then-is_end c =
    let l = c.tokens in
    let text = c.args.text.now in
    text_ends text (state_of l.frames l.state) l.number l.at l.invariant.reached l.invariant.within c.behind-left.result.now c.space_length.result c.behind-left.ensures.bytes c.space_length.ensures.value c.space_length.ensures.within c.if-is_end.true
    c.ends.result (c.ends.ensures l.frames)

pub returns-in-Err : goal.returns-in-Err
returns-in-Err c =
    let l = c.tokens in
    let text = c.args.text.now in
    let inside : l.at + c.space_length.result ≤ length text = within text (state_of l.frames l.state) l.number l.at l.invariant.reached l.invariant.within c.behind-left.result.now c.space_length.result c.behind-left.ensures.bytes c.space_length.ensures.value c.space_length.ensures.within in
    let more : l.at + c.space_length.result < length text = omega (arith, inside, c.if-is_end.false) in
    stops text (state_of l.frames l.state) l.number l.at l.invariant.reached l.invariant.within c.behind-left.result.now c.space_length.result c.behind-left.ensures.bytes c.space_length.ensures.value c.space_length.ensures.within
    c.behind-bytes.result.now c.behind-bytes.ensures.bytes c.token_step.new.frames more c.in-Err.fault c.in-Err.ensures.stepped c.stopped_by.result c.stopped_by.ensures

pub tokens-preserved : goal.tokens-preserved
tokens-preserved c =
    let l = c.tokens in
    let text = c.args.text.now in
    let some = moves text (state_of l.frames l.state) l.number l.at l.invariant.reached l.invariant.within c.behind-left.result.now c.space_length.result c.behind-left.ensures.bytes c.space_length.ensures.value c.space_length.ensures.within
    c.behind-bytes.result.now c.behind-bytes.ensures.bytes c.token_step.new.frames c.in-Ok.next c.in-Ok.length c.in-Ok.ensures.stepped in
    record {
      within = some.1;
      few = omega (arith, some.0, l.invariant.few);
      shallow = c.in-Ok.ensures.shallow;
      reached = goes_on text (state_of l.frames l.state) l.number l.at l.invariant.reached l.invariant.within c.behind-left.result.now c.space_length.result c.behind-left.ensures.bytes c.space_length.ensures.value c.space_length.ensures.within
          c.behind-bytes.result.now c.behind-bytes.ensures.bytes c.token_step.new.frames c.in-Ok.next c.in-Ok.length c.in-Ok.ensures.stepped;
    }
