use Rattle.std.proofs.Common.{◌∙◌, ap, is_some, arith}
use Rattle.regex.specs.Patterns.{find_str}
use Rattle.pattern_regex.specs.Regexes.{regex_says}
use Rattle.pattern_regex.proofs.Says.{says_what_is_read}
use Rattle.pattern_regex.proofs.patterns.RegexPatternsPatterns.matches.Goals as goal

pub returns-clause-answer : goal.returns-clause-answer
returns-clause-answer c =
    let text = c.args.text.now in
    let r = c.compiled.inside.regex in
    c.is_match.ensures.found
    ∙ ap (λ p. is_some (find_str p text 0)) c.in_ok-matcher.ensures.pattern
    ∙ says_what_is_read r text (λ k. omega (arith, (c.type_inv.text k).fits)) c.compiled.invariant.0 c.compiled.invariant.1
    ∙ ap (λ p. regex_says p text) c.compiled.view_is
