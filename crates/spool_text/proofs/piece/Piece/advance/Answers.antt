use Rattle.text_spec.proofs.of_plain_laws.ReadAhead.{advanced}
use Rattle.spool_text.proofs.piece.Piece.advance.Goals as goal

pub returns-clause-rest : goal.returns-clause-rest
returns-clause-rest c = advanced c.args.self.now.bytes.items c.args.self.now.start c.args.self.now.«end» c.args.count
