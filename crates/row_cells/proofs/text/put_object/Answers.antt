use Rattle.std.proofs.Common.{◌∙◌, ap, sym, ◌++◌, ◌∷◌, [], map, false}
use Rattle.row_cells.specs.Texts.{rises, members_text, column}
use Rattle.row_cells.proofs.ObjectTexts.{object_text, wrapped, column_keys}
use Rattle.row_cells.proofs.text.put_object.Goals as goal

pub returns : goal.returns
returns c =
    let columns = c.args.columns.now in
    let out = c.args.out.now.items in
    let text = members_text false (map column columns) in
    c.in_ok-push-2.ensures.items
    ∙ ap (λ t. t ++ 125 ∷ []) (c.in_ok-put_columns.ensures ∙ ap (λ t. t ++ text) c.in_ok-push.ensures.items)
    ∙ wrapped 123 125 out text
    ∙ ap (λ t. out ++ t) (sym (object_text (map column columns) (ap rises (column_keys columns) ∙ c.requires.order)))
