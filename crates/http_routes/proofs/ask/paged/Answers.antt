use Rattle.std.proofs.Common.{ℕ, List, refl, arith, Ok}
use Rattle.paging_params.specs.Params.{last_under}
use Rattle.paging_text.specs.Shown.{rows_of}
use Rattle.http_routes.specs.Asked.{shown_answer, IsPagedAnswer}
use Rattle.http_routes.proofs.Asking.{unpaged_told, unpaged_code}
use Rattle.http_routes.proofs.Results.{if_is, has_code}
use Rattle.http_routes.proofs.ask.paged.Goals as goal

pub returns-in-Ok-clause-answer : goal.returns-in-Ok-clause-answer
returns-in-Ok-clause-answer c =
    let rows = rows_of c.args.rows in
    if_is (IsPagedAnswer c.args.ends c.args.query.now (λ (name : List ℕ). last_under name c.args.params.now) rows) (shown_answer c.args.ends rows c.in-Ok.paging) c.shown.result
    (Ok c.in-Ok.paging, c.in-Ok.ensures.paging, refl) c.shown.ensures

pub returns-in-Ok-clause-code : goal.returns-in-Ok-clause-code
returns-in-Ok-clause-code c = has_code (shown_answer c.args.ends (rows_of c.args.rows) c.in-Ok.paging) c.shown.result (λ h. omega (arith, h)) c.shown.ensures

pub returns-in-Err-clause-answer : goal.returns-in-Err-clause-answer
returns-in-Err-clause-answer c =
    unpaged_told c.args.ends c.args.query.now (λ (name : List ℕ). last_under name c.args.params.now) (rows_of c.args.rows) c.in-Err.fault c.unpaged.result c.in-Err.ensures.paging c.unpaged.ensures

pub returns-in-Err-clause-code : goal.returns-in-Err-clause-code
returns-in-Err-clause-code c = unpaged_code c.args.ends c.in-Err.fault c.unpaged.result c.unpaged.ensures
