-- One step more of a stage: what it demands, and what it names.
use Rattle.std.proofs.Common.{◌≡◌, ◌∙◌, ℕ, ◌+◌, ◌<◌, List, ◌∷◌, ◌++◌, length, map, drop, get_or, sym, ap, append_assoc}
use Rattle.std.specs.Prelude.{flat_map}
use Rattle.std.proofs.lemmas.List.{drop_more}
use Rattle.query_plan.specs.Made.{step_of, steps_of}
use Rattle.query_plan.specs.declared.step.Step.{Step}
use Rattle.query_reach.specs.Reach.{Pin}
use Rattle.query_reach.specs.Pins.{pin_act, pin_run}

pub one_more : (steps : List Step) (i : ℕ) (s : Step) → i < length steps → s ≡ get_or steps i s → (before after whole : List (List Pin)) → after ≡ pin_act (step_of s) before
    → pin_run (steps_of (drop i steps)) before ≡ whole → pin_run (steps_of (drop (i + 1) steps)) after ≡ whole
one_more steps i s lt at before after whole acted so_far =
    let rest = steps_of (drop (i + 1) steps) in
    let is : steps_of (drop i steps) ≡ step_of s ∷ rest = ap steps_of (drop_more steps i s lt) ∙ ap (λ (x : Step). step_of x ∷ rest) (sym at) in
    ap (pin_run rest) acted ∙ sym (ap (λ l. pin_run l before) is) ∙ so_far

-- a list that is put together from lists
pub more_named : {A B : Type 0} (g : A → B) (f : B → List (List ℕ)) (xs : List A) (i : ℕ) (x : A) → i < length xs → x ≡ get_or xs i x → (old new whole : List (List ℕ)) → new ≡ old ++ f (g x)
    → old ++ flat_map f (map g (drop i xs)) ≡ whole → new ++ flat_map f (map g (drop (i + 1) xs)) ≡ whole
more_named g f xs i x lt at old new whole e h =
    let rest = flat_map f (map g (drop (i + 1) xs)) in
    ap (λ l. l ++ rest) e
    ∙ append_assoc old (f (g x)) rest
    ∙ ap (λ l. old ++ flat_map f (map g l)) (ap (λ y. y ∷ drop (i + 1) xs) at ∙ sym (drop_more xs i x lt))
    ∙ h

pub more_facts : {A : Type 0} (f : A → List (List ℕ)) (xs : List A) (i : ℕ) (x : A) → i < length xs → x ≡ get_or xs i x → (old new whole : List (List ℕ)) → new ≡ old ++ f x
    → old ++ flat_map f (drop i xs) ≡ whole → new ++ flat_map f (drop (i + 1) xs) ≡ whole
more_facts f xs i x lt at old new whole e h =
    let rest = flat_map f (drop (i + 1) xs) in
    ap (λ l. l ++ rest) e
    ∙ append_assoc old (f x) rest
    ∙ ap (λ l. old ++ flat_map f l) (ap (λ y. y ∷ drop (i + 1) xs) at ∙ sym (drop_more xs i x lt))
    ∙ h
