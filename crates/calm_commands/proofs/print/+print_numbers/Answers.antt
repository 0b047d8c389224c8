use Rattle.std.proofs.Common.{◌∙◌, ◌++◌, ◌-◌, length, take, drop, subst, codes}
use Rattle.calm_commands.specs.Refused.{numbers_line}
use Rattle.calm_commands.specs.Told.{IsTold, stream}
use Rattle.calm_commands.proofs.PlaceLines.{numbers_at}
use Rattle.calm_commands.proofs.TellingLaws.{first_failed, more_pieces}
use Rattle.calm_commands.proofs.print.+print_numbers.Goals as goal

pub returns-in-All-write_all : goal.returns-in-All-write_all
returns-in-All-write_all g t c =
    let held = g.E.Sink.held in
    let faults = g.E.Sink.fault_count in
    let numbers = c.args.numbers.now in
    let digits = c.as_bytes.result.now in
    let others = numbers_line (codes ".") (take (length numbers - 1) (drop 1 numbers)) in
    let before = stream (held c.args.errors.now) (faults c.args.errors.now) in
    let marked = stream (held c.write_all-in-len1-up.new.sink) (faults c.write_all-in-len1-up.new.sink) in
    let told = stream (held c.write_all-in-All.new.sink) (faults c.write_all-in-All.new.sink) in
    let after = stream (held c.print_numbers.new.errors) (faults c.print_numbers.new.errors) in
    let behind = more_pieces digits others marked told after c.in-All-write_all.ensures.bytes c.in-All-write_all.ensures.cause c.print_numbers.ensures in
    subst (λ text. IsTold text before after) (numbers_at c.args.mark.now numbers digits c.in-len1-up.len_at_least (c.as_bytes.ensures.value ∙ c.format.ensures.text))
    (more_pieces c.args.mark.now (digits ++ others) before marked after c.in-All.ensures.bytes c.in-All.ensures.cause behind)

pub returns-in_default-write_all : goal.returns-in_default-write_all
returns-in_default-write_all g t c =
    let held = g.E.Sink.held in
    let faults = g.E.Sink.fault_count in
    let numbers = c.args.numbers.now in
    let digits = c.as_bytes.result.now in
    let others = numbers_line (codes ".") (take (length numbers - 1) (drop 1 numbers)) in
    let before = stream (held c.args.errors.now) (faults c.args.errors.now) in
    let marked = stream (held c.write_all-in-len1-up.new.sink) (faults c.write_all-in-len1-up.new.sink) in
    let after = stream (held c.write_all-in-All.new.sink) (faults c.write_all-in-All.new.sink) in
    let behind = first_failed c.in_default-write_all.field-0 digits others marked after c.in_default-write_all.ensures.bytes c.in_default-write_all.ensures.cause in
    subst (λ text. IsTold text before after) (numbers_at c.args.mark.now numbers digits c.in-len1-up.len_at_least (c.as_bytes.ensures.value ∙ c.format.ensures.text))
    (more_pieces c.args.mark.now (digits ++ others) before marked after c.in-All.ensures.bytes c.in-All.ensures.cause behind)
