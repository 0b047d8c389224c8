use Rattle.std.proofs.Common.{◌≡◌, length}
use Rattle.http_spec.specs.Framing.{says_close}
use Rattle.http_front.proofs.fields.says_close.Given as goal

abbrev pub invariant-options : goal.invariant-options
invariant-options l = says_close l.rest ≡ says_close l.value

abbrev pub decreases-options : goal.decreases-options
decreases-options l = length l.rest
