use Rattle.std.proofs.Common.{◌≡◌, ◌+◌, ◌-◌, ◌++◌, List, ℕ, length, take, drop, sym, ◌∙◌, ap, arith, take-append-drop, length-append, length-drop}
use Rattle.std.proofs.lemmas.List.{take_at, drop-drop, length-take}
use Rattle.port_memory.proofs.source.MemorySourceSource.read_some.Goals as goal

pub returns-clause-bytes : goal.returns-clause-bytes
returns-clause-bytes c =
    let s = c.args.self.now in
    let n = c.min-count.result in
    let front = c.copy_from_slice.new.self in
    let bytes = c.as_slice-bytes.result.now in
    let left = drop s.at s.bytes in
    let later = drop n c.args.into.now in
    let is : bytes ≡ s.bytes = c.as_slice-bytes.ensures in
    let width : s.at + n - s.at ≡ n = omega arith in
    let after : front ≡ take (s.at + n - s.at) (drop s.at bytes) = c.copy_from_slice.ensures.after in
    let same : front ≡ take n left = after ∙ ap (λ (k : ℕ). take k (drop s.at bytes)) width ∙ ap (λ (l : List ℕ). take n (drop s.at l)) is in
    let size : length front ≡ n = omega (arith, ap length same, ap length is, length-take n left, length-drop s.at s.bytes) in
    let read : take n (front ++ later) ≡ take n left = take_at front later n size ∙ same in
    let rest : drop n left ≡ drop (s.at + n) s.bytes = drop-drop n s.at s.bytes in (
      omega arith,
      omega (arith, size, length-append front later),
      sym (ap (λ (l : List ℕ). l ++ drop (s.at + n) s.bytes) read ∙ ap (λ (l : List ℕ). take n left ++ l) (sym rest) ∙ take-append-drop n left),
    )
