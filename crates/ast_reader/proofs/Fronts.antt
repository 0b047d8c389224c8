-- Lists that are read one by one.
use Rattle.std.proofs.Common.{◌≡◌, ◌∙◌, ℕ, ◌+◌, List, [], ◌∷◌, ◌++◌, refl, sym, ap, append_assoc, Ok, Err}
use Rattle.json_read.specs.text_spec.Json as json
use Rattle.json_read.specs.text_spec.Json.{Items, item}
use Rattle.json_read.specs.json_tree.declared.tree.Json.{Json}
use Rattle.query_spec.specs.Query.{Filter}
use Rattle.query_spec.specs.Ast.{Read, ◌>>=◌, filter_at, filters_at}
use Rattle.ast_parts.specs.Gives.{with_front}

front-on : (found : List Filter) (f : Filter) (r : Read (List Filter)) → with_front found (r >>= λ fs. Ok (f ∷ fs)) ≡ with_front (found ++ f ∷ []) r
front-on found f (Ok fs) = ap Ok (sym (append_assoc found (f ∷ []) fs))
front-on found f (Err p) = refl

-- one more filter is read
pub filters-on : (d : ℕ) (p : List ℕ) (at : ℕ) (found : List Filter) (f : Filter) (j : json.Json) (js : Items) (whole : Read (List Filter)) → filter_at d (p ++ at ∷ []) j ≡ Ok f → with_front found (filters_at d p at (item j js)) ≡ whole → with_front (found ++ f ∷ []) (filters_at d p (at + 1) js) ≡ whole
filters-on d p at found f j js whole e h =
    sym (front-on found f (filters_at d p (at + 1) js))
    ∙ sym (ap (λ r. with_front found (r >>= λ f. filters_at d p (at + 1) js >>= λ fs. Ok (f ∷ fs))) e)
    ∙ h
