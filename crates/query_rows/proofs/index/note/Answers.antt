use Rattle.std.proofs.lemmas.Result.{on_ok_weaker}
use Rattle.query_rows.proofs.FirstLaws.{noted_rises}
use Rattle.query_rows.proofs.IndexLaws.{noted_stays}
use Rattle.query_rows.specs.declared.index.Index.{Index}
use Rattle.query_rows.proofs.index.note.Goals as goal

pub returns-clause-kept : goal.returns-clause-kept
returns-clause-kept c =
    let new : Index = record { numbers = c.number_of.new.texts; lists = c.put_place.new.lists } in
    on_ok_weaker c.put_place.result (λ put. noted_stays c.args.index.now new c.in_ok-number.number c.args.place put c.in_ok-number.ensures.kept) c.put_place.ensures

pub returns-clause-rising : goal.returns-clause-rising
returns-clause-rising c =
    let new : Index = record { numbers = c.number_of.new.texts; lists = c.put_place.new.lists } in
    on_ok_weaker c.put_place.result (λ put. noted_rises c.args.index.now new c.in_ok-number.number c.args.place put) c.put_place.ensures
