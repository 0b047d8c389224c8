use Rattle.std.proofs.Common.{◌≡◌, ℕ, Option, take, sym, subst}
use Rattle.query_plan.specs.means_spec.Paging.{from_offset}
use Rattle.query_reading.proofs.StoppingLaws.{behind_offset}
use Rattle.query_reading.proofs.stopping.rows_behind.Goals as goal

pub returns-in-Some-checked_add : goal.returns-in-Some-checked_add
returns-in-Some-checked_add c = λ rows.
    let limit = c.args.limit in
    let end = c.in-Some-checked_add.end in
    subst (λ (o : Option ℕ). take limit (from_offset o (take end rows)) ≡ take limit (from_offset o rows)) (sym c.in-Some.is)
    (behind_offset c.in-Some.offset limit end c.in-Some-checked_add.ensures.1 rows)
