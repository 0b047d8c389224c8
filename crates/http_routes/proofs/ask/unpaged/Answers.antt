use Rattle.std.proofs.Common.{◌≡◌, ◌++◌, subst, sym, ℕ, List}
use Rattle.std.specs.Prelude.{codes, IfOk}
use Rattle.http_spec.specs.declared.answer.Answer.{Answer}
use Rattle.routes_spec.specs.Answers.{error}
use Rattle.http_routes.specs.Asked.{IsUnpagedAnswer}
use Rattle.http_routes.proofs.ask.unpaged.Goals as goal

pub returns-in-BadPaging : goal.returns-in-BadPaging
returns-in-BadPaging c =
    let result = c.bad_paging.result in
    subst (λ f. IsUnpagedAnswer c.args.ends f result) (sym c.in-BadPaging.is)
    (subst (λ (n : List ℕ). IfOk result (λ (a : Answer). a ≡ error c.args.ends 400 (codes "bad paging " ++ n))) c.as_str.ensures c.bad_paging.ensures)
