use Rattle.std.proofs.Common.{◌≡◌, ◌+◌, ◌-◌, ◌≤◌, ◌++◌, [], List, ℕ, length, take, drop, sym, ◌∙◌, ap, arith, length-append, length-drop}
use Rattle.std.proofs.lemmas.List.{take_at, drop_all, drop-drop, length-take, append-nil}
use Rattle.std.proofs.Math.Seq.{take-add}
use Rattle.record_log.proofs.window.fetch_through.Goals as goal

pub returns-clause-bytes : goal.returns-clause-bytes
returns-clause-bytes g c told =
    let file = g.D.Disk.seen c.args.disk.now in
    let at = c.args.at in
    let into = c.args.into.now in
    let n = length into in
    let had = c.copy-had.result in
    let copied = c.copy-had.new.into in
    let fetched = c.fetch_rest.new.into in
    let L = drop at file in
    let F = take had L in
    let is : copied ≡ F ++ drop had into = c.copy-had.ensures.bytes file (c.requires.shows told) in
    let count : had ≤ n = c.copy-had.ensures.count in
    let front_long : length F ≡ had = omega (arith, length-take had L, length-drop at file, c.requires.length told, c.requires.inside, count) in
    let front : take had copied ≡ F = ap (λ (l : List ℕ). take had l) is ∙ take_at F (drop had into) had front_long in
    let size : length copied ≡ n = omega (arith, ap length is, length-append F (drop had into), front_long, length-drop had into, count) in
    let none : drop (length copied - had) (drop had copied) ≡ [] = drop_all (length copied - had) (drop had copied) (omega (arith, length-drop had copied)) in
    let rest : fetched ≡ take (n - had) (drop (at + had) file) =
    c.in_ok-fetch_rest.ensures.bytes told ∙ ap (λ (k : ℕ). take k (drop (at + had) file)) (omega (arith, size, length-take (length copied - had) (drop had copied), length-drop had copied)) in
    let sum : had + (n - had) ≡ n = omega (arith, count) in
    ap (λ (l : List ℕ). l ++ (fetched ++ drop (length copied - had) (drop had copied))) front
    ∙ ap (λ (l : List ℕ). F ++ (fetched ++ l)) none
    ∙ ap (λ (l : List ℕ). F ++ l) (append-nil fetched ∙ rest)
    ∙ ap (λ (l : List ℕ). F ++ take (n - had) l) (sym (drop-drop had at file))
    ∙ sym (take-add had (n - had) L)
    ∙ ap (λ (k : ℕ). take k L) sum
