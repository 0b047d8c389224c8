-- Lines one behind the other.
use Rattle.std.proofs.Common.{◌≡◌, ◌∙◌, ℕ, ◌+◌, zero, suc, List, [], ◌∷◌, ◌++◌, drop, slice_get, refl, sym, subst, append_assoc, arith, Option, Some, None}
use Rattle.std.specs.List.{AllByRecursion}
use Rattle.query_answer.proofs.of_plain_laws.Options.{some_is}
use Rattle.query_answer.specs.stamp_time.Range.{IsPrintable}
use Rattle.query_answer.proofs.of_stamp_time.RangeLaws.{stamp_is_printable, stamp_in_range}
use Rattle.command_core.specs.core_spec.declared.dead.Dead.{Dead}
use Rattle.command_core.specs.core_state.Seen.{IsFit}
use Rattle.command_core.specs.retry_discard.Line.{IsLineOf}
use Rattle.calm_commands.specs.Calm.{AreLines}

left_at : (ds : List Dead) (i : ℕ) (d : Dead) → slice_get ds i ≡ Some d → drop i ds ≡ d ∷ drop (suc i) ds
left_at [] i d h = absurd (let none : ◌≡◌ {A = Option Dead} None (Some d) = h in cc)
left_at (x ∷ ds) zero d h = (let same : x ≡ d = some_is x d h in λ i. same i ∷ ds)
left_at (x ∷ ds) (suc i) d h = left_at ds i d h

fit_at : (ds : List Dead) (i : ℕ) (d : Dead) → AllByRecursion (λ (x : Dead). IsFit x.command) ds → slice_get ds i ≡ Some d → IsFit d.command
fit_at [] i d fit h = absurd (let none : ◌≡◌ {A = Option Dead} None (Some d) = h in cc)
fit_at (x ∷ ds) zero d fit h = subst (λ (y : Dead). IsFit y.command) (some_is x d h) fit.0
fit_at (x ∷ ds) (suc i) d fit h = fit_at ds i d fit.1 h

pub printable_at : (ds : List Dead) (i : ℕ) (d : Dead) → AllByRecursion (λ (x : Dead). IsFit x.command) ds → slice_get ds i ≡ Some d → IsPrintable d.command.received
printable_at ds i d fit h =
    let stamp = (fit_at ds i d fit h).0 in
    stamp_is_printable d.command.received (stamp_in_range stamp.0 d.command.received stamp.1)

-- one line more
pub one_more : (ds : List Dead) (i : ℕ) (d : Dead) (so_far line : List ℕ) → slice_get ds i ≡ Some d → IsLineOf d line
    → ((rest : List ℕ) → AreLines (drop i ds) rest → AreLines ds (so_far ++ rest))
    → (rest : List ℕ) → AreLines (drop (i + 1) ds) rest → AreLines ds (((so_far ++ line) ++ 10 ∷ []) ++ rest)
one_more ds i d so_far line at is before rest are =
    let next : i + 1 ≡ suc i = omega arith in
    let tail : AreLines (drop (suc i) ds) rest = subst (λ n. AreLines (drop n ds) rest) next are in
    let whole : AreLines (drop i ds) (line ++ 10 ∷ rest) = subst (λ l. AreLines l (line ++ 10 ∷ rest)) (sym (left_at ds i d at)) (line, rest, is, tail, refl) in
    subst (AreLines ds) (sym (append_assoc (so_far ++ line) (10 ∷ []) rest ∙ append_assoc so_far line (10 ∷ rest))) (before (line ++ 10 ∷ rest) whole)
