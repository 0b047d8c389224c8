use Rattle.std.proofs.Common.{◌≡◌, ◌∙◌, ap, sym, true, Some, None, if◌then◌else◌}
use Rattle.std.specs.Result.{result_ok}
use Rattle.std.specs.Str.Parse.{digits_value}
use Rattle.wire_spec.specs.Table.{is_whole}
use Rattle.wire_fields.proofs.WholeLaws.{whole_gives}
use Rattle.wire_fields.proofs.kind.whole_of.Goals as goal

pub returns-then-is_whole : goal.returns-then-is_whole
returns-then-is_whole c =
    let spelling = c.args.spelling.now in
    let whole : is_whole spelling ≡ true = sym c.is_whole.ensures ∙ c.if-is_whole.true in
    c.ok.ensures.value
    ∙ ap result_ok (whole_gives spelling c.parse.result c.parse.ensures.value.0 whole)
    ∙ ap (λ b. if b then Some (digits_value 10 spelling) else None) (sym whole)
