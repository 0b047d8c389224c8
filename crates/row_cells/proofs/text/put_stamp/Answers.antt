use Rattle.std.proofs.Common.{◌≡◌, ◌∙◌, ap, sym, ◌++◌, ◌∷◌, []}
use Rattle.table_spec.specs.fleet_rows.Printed.{full_text}
use Rattle.history_laws.proofs.PrintedTexts.{printed_is_full_text}
use Rattle.row_cells.proofs.ObjectTexts.{wrapped}
use Rattle.row_cells.proofs.StampTexts.{full_text-stays}
use Rattle.row_cells.proofs.text.put_stamp.Goals as goal

pub returns : goal.returns
returns c =
    let m = c.args.moment in
    let out = c.args.out.now.items in
    let text = c.write_full-text.result in
    let is : text ≡ full_text m = printed_is_full_text text m c.write_full-text.ensures in
    c.in_ok-push-2.ensures.items
    ∙ ap (λ t. t ++ 34 ∷ []) (c.in_ok-extend_from_slice.ensures.items ∙ ap (λ t. t ++ text) c.in_ok-push.ensures.items)
    ∙ wrapped 34 34 out text
    ∙ ap (λ t. out ++ 34 ∷ (t ++ 34 ∷ [])) (is ∙ sym (full_text-stays m))
