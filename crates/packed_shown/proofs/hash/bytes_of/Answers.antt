use Rattle.std.proofs.Common.{◌∙◌, sym}
use Rattle.packed_shown.proofs.HashLaws.{digits_again, never_refused}
use Rattle.packed_shown.proofs.hash.bytes_of.Goals as goal

pub unreachable-requires : goal.unreachable-requires
unreachable-requires c = never_refused c.args.digits.now c.in-Err.field-0 c.requires (sym c.from_hex.ensures ∙ c.in-Err.is)

pub returns : goal.returns
returns c = digits_again c.args.digits.now c.in-Ok.bytes c.requires (sym c.from_hex.ensures ∙ c.in-Ok.is)
