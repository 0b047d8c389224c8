use Rattle.std.proofs.Common.{◌∙◌, ap, sym, ◌++◌, ◌∷◌, [], append_assoc}
use Rattle.dump_laws.specs.dump_spec.Stamps.{short_text}
use Rattle.dump_writer.proofs.StampStays.{short_text-stays}
use Rattle.dump_writer.proofs.shown.put_moment.Goals as goal

-- no byte of a stamp is escaped
pub returns : goal.returns
returns c =
    let m = c.args.moment in
    let out = c.args.out.now.items in
    c.in_ok-push-2.ensures.items
    ∙ ap (λ t. t ++ 34 ∷ []) (c.in_ok-put_stamp.ensures ∙ ap (λ t. t ++ short_text m) c.in_ok-push.ensures.items)
    ∙ append_assoc (out ++ 34 ∷ []) (short_text m) (34 ∷ []) ∙ append_assoc out (34 ∷ []) (short_text m ++ 34 ∷ [])
    ∙ ap (λ t. out ++ 34 ∷ (t ++ 34 ∷ [])) (sym (short_text-stays m c.requires))
