use Rattle.spool_maker.proofs.Fronts.{front_of}
use Rattle.spool_maker.proofs.laws.fewer_items_are_a_front.Goals as goal

pub returns : goal.returns
returns c = front_of c.args.seed c.args.few c.args.many
