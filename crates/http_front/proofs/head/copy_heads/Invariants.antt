use Rattle.std.proofs.Common.{◌≡◌, take}
use Rattle.std.specs.Prelude.{map}
use Rattle.httparse.specs.Spans.{header_bytes}
use Rattle.http_front.specs.Heads.{pair_head}
use Rattle.http_front.proofs.head.copy_heads.Given as goal

abbrev pub invariant-loop-span : goal.invariant-loop-span
invariant-loop-span l = l.heads ≡ map (λ span. pair_head (header_bytes l.text span)) (take l.span-index l.spans)
