-- Steps that are applied to tables, one after the other.
use Rattle.std.proofs.Common.{◌≡◌, ◌∙◌, true, false, ◌<◌, ℕ, zero, suc, List, [], ◌∷◌, ◌++◌, length, drop, Option, Some, None, IsSome, option_to_list, slice_index_or, Ok, Err, refl, sym, ap, subst, arith}
use Rattle.std.specs.List.{AllByRecursion}
use Rattle.core_ends.specs.fleet_rows.declared.change.Change.{Change}
use Rattle.core_ends.specs.fleet_rows.declared.command.Command.{Command}
use Rattle.core_ends.specs.fleet_rows.declared.refusal.Refusal.{Refusal}
use Rattle.core_ends.specs.history_spec.Trace.{Trace}
use Rattle.core_ends.specs.core_spec.Commands.{answer_of}
use Rattle.core_ends.specs.table_machine.Table.{Table}
use Rattle.live_stage.specs.declared.shelf.Step.{Step}
use Rattle.live_stage.specs.Shelf.{IsLawfulStep, LeadsTo, StepMakes, FirstMakes, GoesOn}
use Rattle.live_stage.specs.Trace.{SnapshotView, HasTrace}
use Rattle.live_stage.proofs.Shelving.{base_trace}

pub goes_not : (t : Table) (steps : List Step) → GoesOn t steps t steps
goes_not t steps trace base is stands leads = (base, stands, leads)

pub goes_join : (a b c : Table) (xs ys zs : List Step) → GoesOn a xs b ys → GoesOn b ys c zs → GoesOn a xs c zs
goes_join a b c xs ys zs first second trace base is stands leads = let r = first trace base is stands leads in second trace r.0 is r.1 r.2

pub goes_same : (a b c : Table) (xs ys : List Step) → c ≡ b → GoesOn a xs b ys → GoesOn a xs c ys
goes_same a b c xs ys same goes = subst (λ (t : Table). GoesOn a xs t ys) (sym same) goes

-- the first step is applied
goes_one : (s : Step) (a b : Table) (all rest : List Step) → all ≡ s ∷ rest → StepMakes s a b → GoesOn a all b rest
goes_one s a b all rest is ok trace base trace_is stands leads =
    let l = subst (λ (xs : List Step). LeadsTo base xs trace) is leads in
    (l.0 ∷ base, ok base l.0 stands l.1 (base_trace (l.0 ∷ base) rest trace l.2 trace_is), l.2)

-- the first step is applied and taken off
pub goes_first : (r : Option Step) (a b : Table) (all rest : List Step) → IsSome r → all ≡ option_to_list r ++ rest → FirstMakes all a b → GoesOn a all b rest
goes_first None a b all rest is all_is makes = absurd (let apart : false ≡ true = is in cc)
goes_first (Some s) a b all rest is all_is makes = goes_one s a b all rest all_is (subst (λ (l : List Step). FirstMakes l a b) all_is makes)

pub rest_lawful : (r : Option Step) (all rest : List Step) → all ≡ option_to_list r ++ rest → AllByRecursion IsLawfulStep all → AllByRecursion IsLawfulStep rest
rest_lawful None all rest all_is a = subst (AllByRecursion IsLawfulStep) all_is a
rest_lawful (Some s) all rest all_is a = (subst (AllByRecursion IsLawfulStep) all_is a).1

pub fewer : (r : Option Step) (all rest : List Step) → IsSome r → all ≡ option_to_list r ++ rest → length rest < length all
fewer None all rest is all_is = absurd (let apart : false ≡ true = is in cc)
fewer (Some s) all rest is all_is = let l : length all ≡ suc (length rest) = ap (λ (xs : List Step). length xs) all_is in omega arith

-- a step at its place
pub item_dropped : (xs : List Step) (i : ℕ) (d : Step) → i < length xs → drop i xs ≡ slice_index_or xs i d ∷ drop (suc i) xs
item_dropped [] i d lt = absurd (omega (arith, lt))
item_dropped (x ∷ xs) zero d lt = refl
item_dropped (x ∷ xs) (suc i) d lt = item_dropped xs i d (omega arith)

-- the first of lawful steps
pub first_lawful : (xs : List Step) (x : Step) → 0 < length xs → x ≡ slice_index_or xs 0 x → AllByRecursion IsLawfulStep xs → IsLawfulStep x
first_lawful [] x lt is a = absurd (omega (arith, lt))
first_lawful (s ∷ xs) x lt is a = subst IsLawfulStep (sym is) a.0

pub first_makes : (xs : List Step) (x : Step) (a b : Table) → 0 < length xs → x ≡ slice_index_or xs 0 x → StepMakes x a b → FirstMakes xs a b
first_makes [] x a b lt is makes = absurd (omega (arith, lt))
first_makes (s ∷ xs) x a b lt is makes = subst (λ (y : Step). StepMakes y a b) is makes

pub first_none : (xs : List Step) (a : Table) → (0 < length xs → ⊥) → FirstMakes xs a a
first_none [] a none = refl
first_none (s ∷ xs) a none = absurd (none (omega arith))

-- what a lane has goes on
pub caught_up : (old new : SnapshotView) (trace : Trace) → GoesOn old.tables old.behind new.tables new.behind → HasTrace old trace → HasTrace new trace
caught_up old new trace goes had = (had.0, goes trace had.1.0 had.0 had.1.1 had.1.2)

-- what decodes to a change isn't refused
pub not_refused : (c : Command) (change : Change) (refusal : Refusal) → answer_of c ≡ Ok change → answer_of c ≡ Err refusal → ⊥
not_refused c change refusal is other = let apart : Ok change ≡ Err refusal = sym is ∙ other in absurd cc
