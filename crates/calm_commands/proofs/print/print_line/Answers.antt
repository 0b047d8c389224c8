use Rattle.std.proofs.Common.{subst}
use Rattle.calm_commands.specs.Told.{stream, IsTold}
use Rattle.calm_commands.proofs.StatusLines.{printed}
use Rattle.calm_commands.proofs.print.print_line.Goals as goal

pub returns-in_default : goal.returns-in_default
returns-in_default g c =
    let before = stream (g.E.Sink.held c.args.errors.now) (g.E.Sink.fault_count c.args.errors.now) in
    let after = stream (g.E.Sink.held c.print_text.new.errors) (g.E.Sink.fault_count c.print_text.new.errors) in
    record {
      told = subst (λ text. IsTold text before after) (printed c.args.status.now c.in_default.not-Done) c.print_text.ensures;
      quiet = λ done. absurd (c.in_default.not-Done done);
    }
