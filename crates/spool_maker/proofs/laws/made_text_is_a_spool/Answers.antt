use Rattle.std.proofs.Common.{arith}
use Rattle.spool_maker.proofs.Spools.{is_spool, so_many}
use Rattle.spool_maker.proofs.laws.made_text_is_a_spool.Goals as goal

pub returns : goal.returns
returns c = record {
  spool = λ received. is_spool received c.args.seed c.args.count (omega arith);
  count = λ received. so_many received c.args.seed c.args.count;
}
