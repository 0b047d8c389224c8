use Rattle.std.proofs.Common.{◌≡◌, ◌+◌, ◌-◌, ◌≤◌, ◌++◌, List, ℕ, length, take, drop, sym, ◌∙◌, ap, arith}
use Rattle.std.proofs.lemmas.List.{drop-drop}
use Rattle.log_spec.proofs.Runs.{take_within}
use Rattle.record_log.proofs.window.copy.Goals as goal

pub returns-clause-bytes : goal.returns-clause-bytes
returns-clause-bytes c file shows =
    let window = c.args.window.now in
    let held = window.bytes.items in
    let bytes = c.as_slice-bytes.result.now in
    let m = length held in
    let from = c.args.at - window.place in
    let n = c.min-count.result in
    let is : bytes ≡ held = c.as_slice-bytes.ensures.value in
    let width : from + n - from ≡ n = omega arith in
    let place : window.place + from ≡ c.args.at = omega (arith, c.if-at-window.false) in
    let fits : from + n ≤ m = omega (arith, c.min-count.ensures, c.if-at-window-2.false, ap length is) in
    let after : c.copy_from_slice.new.self ≡ take (from + n - from) (drop from bytes) = c.copy_from_slice.ensures.after in
    let read : take n (drop from held) ≡ take n (drop c.args.at file) =
    ap (λ (l : List ℕ). take n (drop from l)) shows
    ∙ sym (take_within (drop window.place file) m from n fits)
    ∙ ap (λ (l : List ℕ). take n l) (drop-drop from window.place file)
    ∙ ap (λ (k : ℕ). take n (drop k file)) place in
    ap (λ (l : List ℕ). l ++ drop n c.args.into.now)
    (after ∙ ap (λ (k : ℕ). take k (drop from bytes)) width ∙ ap (λ (l : List ℕ). take n (drop from l)) is ∙ read)
