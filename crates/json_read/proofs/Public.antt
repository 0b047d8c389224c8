-- What `read` says of the text, from the verdict of the machine.
use Rattle.std.proofs.Common.{◌≡◌, ◌∙◌, ℕ, ℤ, List, [], refl, sym, ap, subst, Option, None, Result, Ok, Err}
use Rattle.std.specs.Prelude.{IfOk}
use Rattle.json_machine.specs.text_spec.Json as spec
use Rattle.json_tree.specs.declared.tree.Json.{Json}
use Rattle.json_tree.specs.Tree.{json_of}
use Rattle.json_machine.specs.text_spec.JsonText.{Spells, NotJsonAt, TooDeepAt}
use Rattle.json_machine.specs.Machine.{value, Verdict, spelled, not_json, too_deep, verdict}
use Rattle.json_machine.proofs.Law.{verdict_means, spells_verdict}
use Rattle.json_machine.specs.Verdict.{Means}
use Rattle.json_read.specs.declared.fault.ReadFault.{ReadFault}
use Rattle.json_read.specs.declared.fault.ReadFault.TheVariants.{NotJson, TooDeep, Memory}
use Rattle.std.specs.declared.alloc.AllocError.{AllocError}
use Rattle.json_read.specs.Heads.{head_of, head_told}
use Rattle.json_read.specs.Found.{Reads, IsReadOf}

same_value : (v w : spec.Json) → spelled v ≡ spelled w → w ≡ v
same_value v w h = cc

not_both : (v : spec.Json) (at : ℕ) → spelled v ≡ not_json at → ⊥
not_both v at h = cc

not_deep : (v : spec.Json) (at : ℕ) → spelled v ≡ too_deep at → ⊥
not_deep v at h = cc

module _ (bytes : List ℕ) where
  pub found : (r : Result Json ReadFault) → Reads r (verdict 127 [] value 0 bytes) → IfOk r (λ j. Spells bytes (json_of j))
  found (Ok j) h = subst (Means bytes) h (verdict_means bytes)
  found (Err e) h = tt

  pub only : (v : spec.Json) → Spells bytes v → (r : Result Json ReadFault) → Reads r (verdict 127 [] value 0 bytes) → IsReadOf v r
  only v s (Ok j) h = same_value v (json_of j) (sym (spells_verdict bytes v s) ∙ h)
  only v s (Err (NotJson at)) h = not_both v at (sym (spells_verdict bytes v s) ∙ h)
  only v s (Err (TooDeep at)) h = not_deep v at (sym (spells_verdict bytes v s) ∙ h)
  only v s (Err Memory) h = tt

  pub not_json_at : (at : ℕ) (r : Result Json ReadFault) → Reads r (verdict 127 [] value 0 bytes) → r ≡ Err (NotJson at) → NotJsonAt bytes at
  not_json_at at r h e = let v : verdict 127 [] value 0 bytes ≡ not_json at = subst (λ r. Reads r (verdict 127 [] value 0 bytes)) e h in subst (Means bytes) v (verdict_means bytes)

  pub too_deep_at : (at : ℕ) (r : Result Json ReadFault) → Reads r (verdict 127 [] value 0 bytes) → r ≡ Err (TooDeep at) → TooDeepAt bytes at
  too_deep_at at r h e = let v : verdict 127 [] value 0 bytes ≡ too_deep at = subst (λ r. Reads r (verdict 127 [] value 0 bytes)) e h in subst (Means bytes) v (verdict_means bytes)

-- ---- `peek`

told_other : (bytes : List ℕ) (w : Verdict) → Means bytes w → ((v : spec.Json) → ¬ Spells bytes v) → head_told w ≡ None
told_other bytes (spelled v) h no' = absurd (no' v h)
told_other bytes (not_json at) h no' = refl
told_other bytes (too_deep at) h no' = refl

module _ (bytes : List ℕ) where
  pub head_spelled : (r : Result (Option (List ℕ × ℤ)) AllocError) → IfOk r (λ h. h ≡ head_told (verdict 127 [] value 0 bytes)) → (v : spec.Json) → Spells bytes v → IfOk r (λ h. h ≡ head_of v)
  head_spelled (Ok h) e v s = e ∙ ap head_told (spells_verdict bytes v s)
  head_spelled (Err x) e v s = tt

  pub head_other : (r : Result (Option (List ℕ × ℤ)) AllocError) → IfOk r (λ h. h ≡ head_told (verdict 127 [] value 0 bytes)) → ((v : spec.Json) → ¬ Spells bytes v) → IfOk r (λ h. h ≡ None)
  head_other (Ok h) e no' = e ∙ told_other bytes (verdict 127 [] value 0 bytes) (verdict_means bytes) no'
  head_other (Err x) e no' = tt
