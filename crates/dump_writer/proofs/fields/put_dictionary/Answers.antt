use Rattle.std.proofs.Common.{◌∙◌, ap, sym, ◌++◌, ◌∷◌, [], map, false, append_assoc}
use Rattle.dump_laws.specs.dump_spec.Payloads.{there}
use Rattle.dump_writer.specs.Shown.{field, pairs_text}
use Rattle.dump_writer.proofs.Texts.{dictionary_text}
use Rattle.dump_writer.proofs.fields.put_dictionary.Goals as goal

pub returns : goal.returns
returns c =
    let fields = map field c.args.fields.now in
    let out = c.args.out.now.items in
    let text = pairs_text false (there fields) in
    c.in_ok-push-2.ensures.items
    ∙ ap (λ t. t ++ 125 ∷ []) (c.in_ok-put_fields.ensures ∙ ap (λ t. t ++ text) c.in_ok-push.ensures.items)
    ∙ append_assoc (out ++ 123 ∷ []) text (125 ∷ []) ∙ append_assoc out (123 ∷ []) (text ++ 125 ∷ [])
    ∙ ap (λ t. out ++ t) (sym (dictionary_text fields))
