-- The moment of a stamp among the parameters.
use Rattle.std.proofs.Common.{◌≡◌, ◌∙◌, ℕ, ℤ, List, Option, Some, None, sym}
use Rattle.core_ends.proofs.of_table_laws.of_text_laws.StampLaws.{stamps_are_read, stamp_is_read}
use Rattle.live_stage.specs.core_ends.history_spec.text_spec.StampReader.{stamp_of}
use Rattle.live_links.specs.Sweeps.{IsMoment}

pub moment_of : (text : List ℕ) (read : Option ℤ) → read ≡ stamp_of text → IsMoment (Some text) read
moment_of text (Some m) is = (stamps_are_read text m).0 (sym is)
moment_of text None is = λ m named. let differ : None ≡ Some m = is ∙ stamp_is_read text m named in cc
