-- What is peeked at is what the verdict tells.
use Rattle.std.proofs.Common.{◌≡◌, ℕ, ℤ, List, [], Option, None, refl, sym, ap, subst, ◌∙◌}
use Rattle.core_spec.specs.text_spec.Json.{Json}
use Rattle.core_spec.specs.text_spec.JsonText.{Spells}
use Rattle.core_spec.specs.json_machine.Machine.{value, verdict}
use Rattle.core_spec.specs.json_machine.Verdict.{Verdict, spelled, not_json, too_deep, Means}
use Rattle.core_spec.proofs.of_json_machine.Law.{verdict_means}
use Rattle.core_spec.proofs.of_json_machine.OneVerdict.{verdict_is}
use Rattle.core_spec.specs.json_read.Heads.{head_of, head_told}
use Rattle.core_spec.specs.fleet_rows.declared.command.Command.{Command}
use Rattle.core_spec.specs.Commands.{verdict_of, keyed, key_of}

module _ (bytes : List ℕ) (head : Option (List ℕ × ℤ)) (spelled_head : (v : Json) → Spells bytes v → head ≡ head_of v) (no_head : ((v : Json) → Spells bytes v → ⊥) → head ≡ None) where
  by : (w : Verdict) → verdict 127 [] value 0 bytes ≡ w → head ≡ head_told w
  by (spelled v) e = spelled_head v (subst (λ (w : Verdict). Means bytes w) e (verdict_means bytes))
  by (not_json at) e = no_head (λ v spells. let never : not_json at ≡ spelled v = sym e ∙ verdict_is bytes (spelled v) spells in cc)
  by (too_deep at) e = no_head (λ v spells. let never : too_deep at ≡ spelled v = sym e ∙ verdict_is bytes (spelled v) spells in cc)

  pub peeked : head ≡ head_told (verdict_of bytes)
  unfolding verdict_of
  peeked = by (verdict 127 [] value 0 bytes) refl

pub key_is : (c : Command) → keyed c.kind (head_told (verdict_of c.payload)) ≡ key_of c
unfolding key_of
key_is c = refl
