use Rattle.std.proofs.Common.{◌≡◌, ◌∙◌}
use Rattle.query_spec.specs.Query.{in_level}
use Rattle.pql_reader.proofs.page.among_rows.Goals as goal

pub returns : goal.returns
returns c = λ i. in_level (c.in_ok-fields.ensures i) ((c.place.view_is ∙ c.in_ok-place.ensures) i) ((c.in_ok-new.ensures.ok ∙ c.new-level.ensures) i)
