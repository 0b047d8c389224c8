use Rattle.std.proofs.Common.{◌≡◌, drop}
use Rattle.std.specs.Prelude.{◌&&◌, ◌||◌}
use Rattle.std.specs.List.{list_any}
use Rattle.std.specs.Str.{bytes_eq}
use Rattle.query_spec.specs.Parts.{output_name, is_function}
use Rattle.ast_reader.proofs.shown.is_taken.Given as goal

abbrev pub invariant-loop-other : goal.invariant-loop-other
invariant-loop-other l =
    list_any (λ x. bytes_eq l.name (output_name x) && (l.applies || is_function x)) (drop l.other-index l.earlier)
    ≡ list_any (λ x. bytes_eq l.name (output_name x) && (l.applies || is_function x)) l.earlier
