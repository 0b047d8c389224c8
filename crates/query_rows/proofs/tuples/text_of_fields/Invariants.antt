use Rattle.std.proofs.Common.{◌≡◌, ◌++◌, drop, map}
use Rattle.query_rows.specs.Marked.{key_text}
use Rattle.query_rows.specs.Scenes.{seen_cell}
use Rattle.query_rows.proofs.tuples.text_of_fields.Given as goal

abbrev pub invariant-loop-field : goal.invariant-loop-field
invariant-loop-field l =
    let seen = seen_cell l.scene l.entity l.row in
    l.text.items ++ key_text (map seen (drop l.field-index l.fields)) ≡ key_text (map seen l.fields)
