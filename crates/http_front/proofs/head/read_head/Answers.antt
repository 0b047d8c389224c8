use Rattle.std.proofs.Common.{arith}
use Rattle.http_front.proofs.SpanHeads.{span_within, spans_within, parts_are}
use Rattle.http_front.proofs.head.read_head.Goals as goal

pub copy_parts-requires-clause-method : goal.copy_parts-requires-clause-method
copy_parts-requires-clause-method c =
    let inside = rw c.in-Ok-Complete.field-0-is at c.in-Ok-Complete.ensures.within in
    span_within _ _ _ inside.section.len_fits inside.method

pub copy_parts-requires-clause-path : goal.copy_parts-requires-clause-path
copy_parts-requires-clause-path c =
    let inside = rw c.in-Ok-Complete.field-0-is at c.in-Ok-Complete.ensures.within in
    span_within _ _ _ inside.section.len_fits inside.path

pub copy_parts-requires-clause-headers : goal.copy_parts-requires-clause-headers
copy_parts-requires-clause-headers c =
    let inside = rw c.in-Ok-Complete.field-0-is at c.in-Ok-Complete.ensures.within in
    spans_within _ _ _ inside.section.len_fits inside.section.headers_fit

pub returns-in-Ok : goal.returns-in-Ok
returns-in-Ok c =
    let whole = rw c.in-Ok-Complete.field-0-is at c.in-Ok-Complete.ensures.complete in
    let copied = c.in-Ok.ensures in
    parts_are c.args.text.now c.parse_request.new.headers c.in-Ok-Complete.head whole.0 c.in-Ok.parts whole.1 (omega arith) copied.method copied.target copied.headers copied.minor

pub returns-in-Ok-Partial : goal.returns-in-Ok-Partial
returns-in-Ok-Partial c = λ head behind reads few. rw c.in-Ok-Partial.field-0-is at c.in-Ok-Partial.ensures.partial head behind reads

pub returns-in-Err : goal.returns-in-Err
returns-in-Err c = λ head behind reads few. c.in-Err.ensures.found head behind reads few
