-- The groups of the code as the definitions see them.
use Rattle.query_plan.specs.means_spec.Groups.{Group}
use Rattle.query_rows.specs.Referred.{row_of, rows_of}
use Rattle.level_answers.specs.declared.groups.RowGroup.{RowGroup}

abbrev pub group_seen : RowGroup → Group
group_seen g = record { first = row_of g.first; rows = rows_of g.rows.items }
