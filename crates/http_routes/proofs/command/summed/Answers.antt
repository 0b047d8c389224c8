use Rattle.std.proofs.Common.{◌∙◌, sym, ap, Bool, if◌then◌else◌, Ok, Err}
use Rattle.std.specs.Prelude.{codes, option_copied}
use Rattle.routes_spec.specs.fleet_rows.declared.command.Command.{Command as Handed}
use Rattle.routes_spec.specs.Commands.{Checked, has_checksum}
use Rattle.http_routes.proofs.command.summed.Goals as goal

abbrev chosen : Handed → Bool → Checked Handed
chosen c t = if t then Ok c else Err (codes "bad checksum")

pub returns-then-good : goal.returns-then-good
returns-then-good c = ap (chosen c.args.command) (ap (has_checksum (option_copied c.args.checksum)) (sym c.as_slice.ensures) ∙ sym c.in-Ok.ensures ∙ c.if-good.true)

pub returns-else-good : goal.returns-else-good
returns-else-good c = ap (chosen c.args.command) (ap (has_checksum (option_copied c.args.checksum)) (sym c.as_slice.ensures) ∙ sym c.in-Ok.ensures ∙ c.if-good.false)
