use Rattle.std.proofs.Common.{◌≡◌, ◌∙◌, ap, sym, ◌++◌, ◌∷◌, []}
use Rattle.row_cells.proofs.ObjectTexts.{wrapped}
use Rattle.paging_text.specs.Shown.{short_text}
use Rattle.paging_text.proofs.StampTexts.{stamp_stays, printed_is_short_text}
use Rattle.paging_text.proofs.write.put_stamp.Goals as goal

pub returns : goal.returns
returns c =
    let m = c.args.moment in
    let out = c.args.out.now.items in
    let text = c.write_stamp-text.result in
    let is : text ≡ short_text m = printed_is_short_text text m c.write_stamp-text.ensures in
    c.in_ok-push-2.ensures.items
    ∙ ap (λ t. t ++ 34 ∷ []) (c.in_ok-extend_from_slice.ensures.items ∙ ap (λ t. t ++ text) c.in_ok-push.ensures.items)
    ∙ wrapped 34 34 out text
    ∙ ap (λ t. out ++ 34 ∷ (t ++ 34 ∷ [])) (is ∙ sym (stamp_stays m))
