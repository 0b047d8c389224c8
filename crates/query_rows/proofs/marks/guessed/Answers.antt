use Rattle.std.proofs.Common.{◌≡◌, ◌∙◌, ℕ, ◌<◌, Bool, true, false, Option, Some, IfSome, length, refl, sym, subst, arith}
use Rattle.std.specs.Bool.{then_some}
use Rattle.std.proofs.lemmas.Option.{slice_get_read}
use Rattle.query_plan.specs.means_spec.Groups.{key_of}
use Rattle.query_rows.specs.Marked.{key_text, number_of}
use Rattle.query_rows.proofs.MarkLaws.{number_like}
use Rattle.query_rows.proofs.marks.guessed.Goals as goal

if_true : (b : Bool) (x : ℕ) (P : ℕ → Type 0) → (b ≡ true → P x) → IfSome (then_some b x) P
if_true true x P h = h refl
if_true false x P h = tt

pub returns : goal.returns
returns c = λ texts h.
    let firsts = c.args.firsts.now in
    let m = c.index-firsts-at.result in
    let key = key_of c.args.entity c.args.columns.now in
    let within : c.args.at < length firsts = omega arith in
    let there = slice_get_read firsts (length firsts) c.args.at m refl within c.index-firsts-at.is in
    subst (λ (o : Option ℕ). IfSome o (λ mark. number_of texts (key_text (key c.args.row.now)) ≡ Some mark)) (sym c.then_some.ensures)
    (if_true c.in_one_group.result m.mark (λ mark. number_of texts (key_text (key c.args.row.now)) ≡ Some mark)
    (λ e. number_like key texts firsts c.args.at m c.args.row.now h there (sym c.in_one_group.ensures ∙ e)))
