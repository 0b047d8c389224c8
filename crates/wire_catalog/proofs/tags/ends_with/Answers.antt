use Rattle.std.proofs.Common.{◌∙◌, ◌-◌, length, sym, ap, arith}
use Rattle.std.specs.Str.{bytes_eq}
use Rattle.wire_catalog.proofs.FallLaws.{ends-last}
use Rattle.wire_catalog.proofs.tags.ends_with.Goals as goal

pub returns-in-len1-up : goal.returns-in-len1-up
returns-in-len1-up c =
    let texts = c.args.texts.now in
    let t = c.args.text.now in
    c.eq.ensures ∙ ap (λ s. bytes_eq s t) (c.as_str.ensures ∙ c.last-item.is) ∙ sym (ends-last texts (length texts - 1) t _ (omega (arith, c.in-len1-up.len_at_least)))
