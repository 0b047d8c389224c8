use Rattle.std.proofs.Common.{◌≡◌, ◌∙◌, ◌≤◌, ◌++◌, [], ◌∷◌, List, ℕ, refl, sym, ap, subst, drop, length, append-nil, arith}
use Rattle.std.proofs.lemmas.List.{drop_all}
use Rattle.command_core.specs.core_spec.declared.dead.Dead.{Dead}
use Rattle.calm_commands.specs.Calm.{AreLines}
use Rattle.calm_commands.proofs.Lines.{printable_at, one_more}
use Rattle.calm_commands.proofs.discards.lines_of.Goals as goal

pub write_line-requires : goal.write_line-requires
write_line-requires c = printable_at c.args.discards.now.list c.lines.i c.at.result.now c.requires c.at.ensures

pub lines-preserved : goal.lines-preserved
lines-preserved c rest are =
    let more = one_more c.args.discards.now.list c.lines.i c.at.result.now c.lines.text.items c.in_ok-line.line c.at.ensures c.in_ok-line.ensures c.lines.invariant rest are in
    let text : c.push.new.self.items ≡ (c.lines.text.items ++ c.in_ok-line.line) ++ 10 ∷ [] = c.in_ok-push.ensures.items ∙ ap (λ (t : List ℕ). t ++ 10 ∷ []) (c.in_ok-extend_from_slice.ensures.items ∙ ap (λ (t : List ℕ). c.lines.text.items ++ t) c.as_slice.ensures) in
    subst (λ (t : List ℕ). AreLines c.args.discards.now.list (t ++ rest)) (sym text) more

pub returns : goal.returns
returns c =
    let ds = c.args.discards.now.list in
    let past : length ds ≤ c.lines.i = omega (arith, c.count-i-end.ensures, c.lines-test.false) in
    let none : AreLines (drop c.lines.i ds) [] = subst (λ (l : List Dead). AreLines l []) (sym (drop_all c.lines.i ds past)) refl in
    subst (AreLines ds) (append-nil c.lines.text.items) (c.lines.invariant [] none)
