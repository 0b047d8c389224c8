use Rattle.std.proofs.Common.{◌∙◌, ap, ◌++◌, ◌∷◌, [], List, ℕ, true, false, codes, Some}
use Rattle.dump_laws.specs.dump_spec.text_spec.Compact.{compact, comma_if, quoted}
use Rattle.dump_laws.specs.dump_spec.text_spec.Json.{boolean, string}
use Rattle.dump_laws.specs.dump_spec.Payloads.{Fields, there, dictionary, stamp}
use Rattle.dump_writer.specs.Shown.{pairs_text}
use Rattle.dump_writer.proofs.Texts.{one_further}
use Rattle.dump_writer.proofs.payload.put_expiration.Goals as goal

pub returns : goal.returns
returns c =
    let k = c.args.expiration.now in
    let out = c.args.out.now.items in
    let fs : Fields = (codes "producer_timestamp", Some (stamp k.stamp)) ∷ [] in
    let first = pairs_text false (there ((codes "certname", Some (string k.certname)) ∷ fs)) in
    let expire = dictionary ((codes "facts", Some (boolean k.expire)) ∷ []) in
    c.in_ok-push-2.ensures.items
    ∙ ap (λ (t : List ℕ). t ++ 125 ∷ [])
    (c.in_ok-put_expire.ensures
    ∙ ap (λ (t : List ℕ). t ++ compact expire)
    (c.in_ok-put_name.ensures
    ∙ ap (λ (t : List ℕ). t ++ comma_if true ++ quoted (codes "expire") ++ 58 ∷ [])
    (c.in_ok-put_fields.ensures ∙ ap (λ (t : List ℕ). t ++ first) c.in_ok-push.ensures.items)))
    ∙ one_further out (codes "certname") (string k.certname) fs (codes "expire") expire
