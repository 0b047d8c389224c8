use Rattle.std.proofs.Common.{◌∙◌, ◌-◌, replicate, arith, ap, vec_len}
use Rattle.std.specs.Prelude.{slice_range}
use Rattle.http_spec.proofs.of_plain_laws.ReadAhead.{longer}
use Rattle.http_front.proofs.buffer.Buffer.prepare.Goals as goal

pub returns-in_ok-resize-clause-same : goal.returns-in_ok-resize-clause-same
returns-in_ok-resize-clause-same c =
    let buffer = c.args.self.now in
    ap (λ xs. slice_range xs buffer.start buffer.«end») c.in_ok-resize.ensures.items
    ∙ longer buffer.bytes.items (replicate (131_072 - vec_len buffer.bytes) 0) buffer.start buffer.«end» 131_072 (omega arith) (omega arith)
