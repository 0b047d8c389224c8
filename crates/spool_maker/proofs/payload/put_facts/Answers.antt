use Rattle.std.proofs.Common.{◌≡◌, ◌∙◌, ◌++◌, List, ℕ, subst}
use Rattle.std.specs.Prelude.{OnOk}
use Rattle.spool_maker.proofs.Payloads.{facts_pieces}
use Rattle.spool_maker.proofs.payload.put_facts.Goals as goal

pub returns : goal.returns
returns c =
    subst (λ (t : List ℕ). OnOk c.put_all.result (c.put_all.new.text.items ≡ c.args.payload.now.items ++ t))
    (facts_pieces c.args.node c.args.number c.as_bytes.result.now c.as_bytes-2.result.now c.args.stamp.now (c.as_bytes.ensures.value ∙ c.format.ensures.text) (c.as_bytes-2.ensures.value ∙ c.format-2.ensures.text))
    c.put_all.ensures
