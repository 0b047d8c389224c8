-- Whether a text matches a pattern, by the crate `regex`.
use Rattle.std.specs.Prelude.{◌≡◌, ◌<◌, ℕ, List, get_or, Bool, false, is_some}
use Rattle.std.specs.Option.{option_map_or}
use Rattle.std.specs.Str.{chars}
use Rattle.regex.specs.declared.string.matcher.Matcher.{Matcher}
use Rattle.regex.specs.Patterns.{find_str, default_config}
use Rattle.regex.specs.Strings.{matcher_pattern}
use Rattle.regex_syntax.specs.Grammar.{read}
use Rattle.pattern_port.specs.declared.keys.Keys.{Keys}
use Rattle.pattern_regex.specs.declared.patterns.RegexPatterns.{RegexPatterns}

-- the first text, read as a pattern, matches somewhere in the second
abbrev pub regex_says : List ℕ → List ℕ → Bool
regex_says pattern text = option_map_or (λ found. is_some (find_str found.0.value text 0)) (read default_config (chars pattern)) false

-- whether the matcher finds something in a text is what the pattern says of the text
abbrev pub Finds : Matcher → List ℕ → Type 0
Finds matcher pattern = (text : List ℕ) → ((k : ℕ) → get_or text k 0 < 256) → is_some (find_str (matcher_pattern matcher) text 0) ≡ regex_says pattern text

abbrev pub refusals_of : RegexPatterns → ℕ
refusals_of r = r.refused

-- the keys under which texts are hashed
abbrev pub keys_of : RegexPatterns → Keys
keys_of r = r.keys
