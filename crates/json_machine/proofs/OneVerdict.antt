-- No two verdicts are true of a text.
use Rattle.std.proofs.Common.{◌≡◌, ◌∙◌, inl, inr, ℕ, ◌+◌, ◌<◌, ◌≤◌, List, [], ◌++◌, length, take, sym, ap, subst, arith}
use Rattle.std.proofs.lemmas.Bool.{cases_lt}
use Rattle.std.proofs.lemmas.List.{take-append-le, take-take, length-take}
use Rattle.text_spec.specs.JsonText.{Begins, NotJsonAt, TooDeepAt}
use Rattle.json_machine.specs.Verdict.{Verdict, spelled, not_json, too_deep, Means}
use Rattle.json_machine.specs.Laws.{HasOneVerdict}
use Rattle.json_machine.specs.Machine.{value, verdict}
use Rattle.json_machine.proofs.Law.{only_spelled, front_begins, verdict_means}

-- ---- what begins a text at one place begins one before it

begins_deeper : (front : List ℕ) → Begins 127 front → Begins 128 front
begins_deeper front b = record {
  rest = b.rest;
  value = b.value;
  spells = record {
    tree = b.spells.tree;
    is_tree = b.spells.is_tree;
    bytes_are = b.spells.bytes_are;
    value_is = b.spells.value_is;
    levels = omega (arith, b.spells.levels);
  };
}

begins_before : (n k l : ℕ) (bytes : List ℕ) → k ≤ l → l ≤ length bytes → Begins n (take l bytes) → Begins n (take k bytes)
begins_before n k l bytes kl lb b =
    let fits : k ≤ length (take l bytes) = omega (arith, kl, lb, length-take l bytes) in
    let same : take k (take l bytes ++ b.rest) ≡ take k bytes = take-append-le k (take l bytes) b.rest fits ∙ take-take k l bytes kl in
    subst (Begins n) same (front_begins n (take l bytes ++ b.rest) b.value k b.spells)

-- ---- places

module _ (bytes : List ℕ) where
  -- where a text goes wrong, none goes on
  not_json_first : (k l : ℕ) → k < l → l ≤ length bytes → NotJsonAt bytes k → Begins 127 (take l bytes) → ⊥
  not_json_first k l kl lb h b = h.longest (omega (arith, kl, lb)) (begins_deeper (take (k + 1) bytes) (begins_before 127 (k + 1) l bytes (omega (arith, kl)) lb b))

  too_deep_first : (k l : ℕ) → k < l → l ≤ length bytes → TooDeepAt bytes k → Begins 127 (take l bytes) → ⊥
  too_deep_first k l kl lb h b = h.barred (begins_before 127 (k + 1) l bytes (omega (arith, kl)) lb b)

  same_not_json : (k l : ℕ) → NotJsonAt bytes k → NotJsonAt bytes l → k ≡ l
  same_not_json k l h g = elim (cases_lt k l) [
    | inl kl ↦ absurd (not_json_first k l kl g.within h g.begins)
    | inr lk ↦ elim (cases_lt l k) [
      | inl lk ↦ absurd (not_json_first l k lk h.within g h.begins)
      | inr kl ↦ omega (arith, lk, kl)
    ]
  ]

  same_too_deep : (k l : ℕ) → TooDeepAt bytes k → TooDeepAt bytes l → k ≡ l
  same_too_deep k l h g = elim (cases_lt k l) [
    | inl kl ↦ absurd (too_deep_first k l kl (omega (arith, g.within)) h g.begins)
    | inr lk ↦ elim (cases_lt l k) [
      | inl lk ↦ absurd (too_deep_first l k lk (omega (arith, h.within)) g h.begins)
      | inr kl ↦ omega (arith, lk, kl)
    ]
  ]

  one_fault : (k l : ℕ) → NotJsonAt bytes k → TooDeepAt bytes l → ⊥
  one_fault k l h g = elim (cases_lt l k) [
    | inl lk ↦ too_deep_first l k lk h.within g h.begins
    | inr kl ↦ h.longest (omega (arith, kl, g.within)) (begins_before 128 (k + 1) (l + 1) bytes (omega (arith, kl)) (omega (arith, g.within)) g.deeper)
  ]

  pub same_verdict : (v w : Verdict) → Means bytes v → Means bytes w → w ≡ v
  same_verdict (spelled u) w h g = only_spelled bytes u w h g
  same_verdict (not_json k) (spelled u) h g = sym (only_spelled bytes u (not_json k) g h)
  same_verdict (not_json k) (not_json l) h g = ap not_json (same_not_json l k g h)
  same_verdict (not_json k) (too_deep l) h g = absurd (one_fault k l h g)
  same_verdict (too_deep k) (spelled u) h g = sym (only_spelled bytes u (too_deep k) g h)
  same_verdict (too_deep k) (not_json l) h g = absurd (one_fault l k g h)
  same_verdict (too_deep k) (too_deep l) h g = ap too_deep (same_too_deep l k g h)

-- a verdict that is true is the machine's
pub verdict_is : (bytes : List ℕ) (w : Verdict) → Means bytes w → verdict 127 [] value 0 bytes ≡ w
verdict_is bytes w h = same_verdict bytes w (verdict 127 [] value 0 bytes) h (verdict_means bytes)

pub one_verdict : HasOneVerdict
one_verdict bytes = (verdict 127 [] value 0 bytes, verdict_means bytes, λ w h. same_verdict bytes (verdict 127 [] value 0 bytes) w (verdict_means bytes) h)

pub one_meaning : (bytes : List ℕ) (v w : Verdict) → Means bytes v → Means bytes w → v ≡ w
one_meaning bytes v w h k = sym (verdict_is bytes v h) ∙ verdict_is bytes w k
