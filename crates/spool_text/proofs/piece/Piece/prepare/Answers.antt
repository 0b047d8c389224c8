use Rattle.std.proofs.Common.{◌∙◌, ◌-◌, replicate, arith, ap, vec_len}
use Rattle.std.specs.Prelude.{slice_range}
use Rattle.text_spec.proofs.of_plain_laws.ReadAhead.{longer}
use Rattle.spool_text.proofs.piece.Piece.prepare.Goals as goal

pub returns-in_ok-resize-clause-same : goal.returns-in_ok-resize-clause-same
returns-in_ok-resize-clause-same c =
    let piece = c.args.self.now in
    ap (λ xs. slice_range xs piece.start piece.«end») c.in_ok-resize.ensures.items
    ∙ longer piece.bytes.items (replicate (65_792 - vec_len piece.bytes) 0) piece.start piece.«end» 65_792 (omega arith) (omega arith)
