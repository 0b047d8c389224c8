use Rattle.std.proofs.Common.{◌≡◌, ◌≤◌, ℕ, []}
use Rattle.std.proofs.lemmas.Result.{IfOk-weaker}
use Rattle.text_spec.specs.Json.{settled, members_of, members_levels, HasDistinctKeys}
use Rattle.json_tree.specs.Tree.{pairs}
use Rattle.json_tree.proofs.KeptLaws.{distinct-settled, levels-settled}
use Rattle.json_tree.proofs.settled.settle.Goals as goal

pub returns-then-len-le-FEW-clause-distinct : goal.returns-then-len-le-FEW-clause-distinct
returns-then-len-le-FEW-clause-distinct c = IfOk-weaker c.settle_few.result (λ v. pairs v.items ≡ settled [] (pairs c.args.list.items)) (λ v. HasDistinctKeys (pairs v.items)) (λ v e. distinct-settled (pairs c.args.list.items) (pairs v.items) e) c.settle_few.ensures

pub returns-then-len-le-FEW-clause-levels : goal.returns-then-len-le-FEW-clause-levels
returns-then-len-le-FEW-clause-levels c = IfOk-weaker c.settle_few.result (λ v. pairs v.items ≡ settled [] (pairs c.args.list.items)) (λ v. (n : ℕ) → members_levels (members_of (pairs c.args.list.items)) ≤ n → members_levels (members_of (pairs v.items)) ≤ n) (λ v e. levels-settled (pairs c.args.list.items) (pairs v.items) e) c.settle_few.ensures

pub returns-else-len-le-FEW-clause-distinct : goal.returns-else-len-le-FEW-clause-distinct
returns-else-len-le-FEW-clause-distinct c = IfOk-weaker c.settle_many.result (λ v. pairs v.items ≡ settled [] (pairs c.args.list.items)) (λ v. HasDistinctKeys (pairs v.items)) (λ v e. distinct-settled (pairs c.args.list.items) (pairs v.items) e) c.settle_many.ensures

pub returns-else-len-le-FEW-clause-levels : goal.returns-else-len-le-FEW-clause-levels
returns-else-len-le-FEW-clause-levels c = IfOk-weaker c.settle_many.result (λ v. pairs v.items ≡ settled [] (pairs c.args.list.items)) (λ v. (n : ℕ) → members_levels (members_of (pairs c.args.list.items)) ≤ n → members_levels (members_of (pairs v.items)) ≤ n) (λ v e. levels-settled (pairs c.args.list.items) (pairs v.items) e) c.settle_many.ensures
