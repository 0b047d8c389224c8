-- The head words of filters, in parts that the code follows.
use Rattle.std.specs.Prelude.{ℕ, List, codes, if◌then◌else◌}
use Rattle.std.specs.Str.{bytes_eq}
use Rattle.query_spec.specs.declared.parts.Op.TheVariants.{Equal, Less, AtMost, More, AtLeast}
use Rattle.query_spec.specs.declared.words.FilterWord.{FilterWord}
use Rattle.query_spec.specs.declared.words.FilterWord.TheVariants as of_filter

-- `~`, `null?`, and the filters that look at other rows
abbrev pub test_word : List ℕ → FilterWord
test_word s =
    if bytes_eq s (codes "~") then of_filter.Matches
    else (if bytes_eq s (codes "null?") then of_filter.IsNull
    else (if bytes_eq s (codes "in") then of_filter.In
    else (if bytes_eq s (codes "subquery") then of_filter.Subquery
    else of_filter.Other)))

-- a comparison, or one of those
abbrev pub compare_word : List ℕ → FilterWord
compare_word s =
    if bytes_eq s (codes "=") then of_filter.Compare Equal
    else (if bytes_eq s (codes "<") then of_filter.Compare Less
    else (if bytes_eq s (codes "<=") then of_filter.Compare AtMost
    else (if bytes_eq s (codes ">") then of_filter.Compare More
    else (if bytes_eq s (codes ">=") then of_filter.Compare AtLeast
    else test_word s))))
