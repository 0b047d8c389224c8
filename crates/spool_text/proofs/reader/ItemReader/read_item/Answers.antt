use Rattle.std.proofs.Common.{rules, ◌≡◌, ◌∙◌, refl, sym, ap, take, Some, None}
use Rattle.std.proofs.lemmas.Int.{to_z-of_z}
use mir.Syntax.{w128}
use mir.Val.{SFits}
use Rattle.spool_text.specs.declared.first_line.FirstLine.TheVariants as first
use Rattle.spool_text.specs.FirstLine.{first_line_at}
use Rattle.spool_text.specs.Unread.{buffered}
use Rattle.spool_text.proofs.Items.{bad_line, swept, swept_too_far}
use Rattle.spool_text.proofs.reader.ItemReader.read_item.Goals as goal

pub returns-in-None-clause-bad : goal.returns-in-None-clause-bad
returns-in-None-clause-bad g c =
    let bytes = buffered c.args.self.now.piece in
    let line : take c.args.len c.as_slice.result.now ≡ take c.args.len bytes = ap (take c.args.len) c.as_slice.ensures in
    let none : first_line_at (take c.args.len bytes) ≡ None = ap first_line_at (sym line) ∙ sym c.in-None.ensures.value in (
      refl,
      bad_line c.args.received c.args.self.now.given c.args.len bytes c.requires.line (g.S.Source.left c.args.source.now) none,
    )

pub returns-in-Some-Sweep-clause-item : goal.returns-in-Some-Sweep-clause-item
returns-in-Some-Sweep-clause-item g c =
    let bytes = buffered c.args.self.now.piece in
    let line : take c.args.len c.as_slice.result.now ≡ take c.args.len bytes = ap (take c.args.len) c.as_slice.ensures in
    let moment = c.from_nanosecond.result in
    let fits : SFits w128 c.in-Some-Sweep.nanos = search rules in
    let same : moment ≡ c.in-Some-Sweep.nanos = c.from_nanosecond.ensures ∙ to_z-of_z w128 c.in-Some-Sweep.nanos fits in
    let is_first : first_line_at (take c.args.len bytes) ≡ Some (first.Sweep c.in-Some-Sweep.kinds moment) = ap first_line_at (sym line) ∙ sym c.in-Some-Sweep.ensures.value ∙ ap Some c.in-Some-Sweep.field-0-is ∙ ap (λ m. Some (first.Sweep c.in-Some-Sweep.kinds m)) (sym same) in
    swept c.read_sweep.result c.args.received c.args.self.now.given _ c.args.len bytes _ c.in-Some-Sweep.kinds moment (g.S.Source.left c.args.source.now) c.requires.line is_first c.read_sweep.ensures.item

pub returns-in-Some-Sweep-clause-bad : goal.returns-in-Some-Sweep-clause-bad
returns-in-Some-Sweep-clause-bad g c =
    let bytes = buffered c.args.self.now.piece in
    let line : take c.args.len c.as_slice.result.now ≡ take c.args.len bytes = ap (take c.args.len) c.as_slice.ensures in
    let moment = c.from_nanosecond.result in
    let fits : SFits w128 c.in-Some-Sweep.nanos = search rules in
    let same : moment ≡ c.in-Some-Sweep.nanos = c.from_nanosecond.ensures ∙ to_z-of_z w128 c.in-Some-Sweep.nanos fits in
    let is_first : first_line_at (take c.args.len bytes) ≡ Some (first.Sweep c.in-Some-Sweep.kinds moment) = ap first_line_at (sym line) ∙ sym c.in-Some-Sweep.ensures.value ∙ ap Some c.in-Some-Sweep.field-0-is ∙ ap (λ m. Some (first.Sweep c.in-Some-Sweep.kinds m)) (sym same) in
    swept_too_far c.read_sweep.result c.args.received c.args.self.now.given c.read_sweep.new.self.given c.args.len bytes (buffered c.read_sweep.new.self.piece) c.in-Some-Sweep.kinds moment (g.S.Source.left c.args.source.now) c.requires.line is_first c.read_sweep.ensures.bad
