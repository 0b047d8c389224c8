use Rattle.std.proofs.Common.{◌≡◌, ◌∙◌, ◌++◌, ◌∷◌, [], ap, subst, false, append_assoc, OnOk, ℕ, List}
use Rattle.means_spec.specs.fleet_rows.Cell.{cells_of}
use Rattle.paging_text.specs.Shown.{headed_text, members_text, row_text}
use Rattle.paging_text.proofs.RowTexts.{headed_is}
use Rattle.paging_text.proofs.write.put_row.Goals as goal

pub returns : goal.returns
returns c = λ names are.
    let out = c.args.out.now.items in
    let cells = cells_of c.args.cells.now in
    let text : headed_text c.args.heads.now cells ≡ members_text false names cells = ap (λ hs. headed_text hs cells) are ∙ headed_is false names cells in
    let whole : c.push.new.self.items ++ headed_text c.args.heads.now cells ≡ out ++ row_text names cells =
    ap (λ o. o ++ headed_text c.args.heads.now cells) c.in_ok-push.ensures.items
    ∙ append_assoc out (123 ∷ []) (headed_text c.args.heads.now cells)
    ∙ ap (λ t. out ++ 123 ∷ t) text
    in
    subst (λ (t : List ℕ). OnOk c.put_members.result (c.put_members.new.out.items ≡ t)) whole c.put_members.ensures
