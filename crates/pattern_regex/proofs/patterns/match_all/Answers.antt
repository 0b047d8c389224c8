use Rattle.std.proofs.Common.{◌∙◌, ◌++◌, ap, is_some, map}
use Rattle.regex.specs.Patterns.{find_str}
use Rattle.pattern_port.specs.Course.{texts_of}
use Rattle.pattern_regex.specs.Regexes.{regex_says}
use Rattle.pattern_regex.proofs.Says.{says_what_is_read, one_more}
use Rattle.pattern_regex.proofs.patterns.match_all.Goals as goal

pub matching-init : goal.matching-init
matching-init c =
    let r = c.compiled.inside.regex in
    record {
      finds = λ text bytes.
          ap (λ p. is_some (find_str p text 0)) c.in_ok-matcher.ensures.pattern
          ∙ says_what_is_read r text bytes c.compiled.invariant.0 c.compiled.invariant.1
          ∙ ap (λ p. regex_says p text) c.compiled.view_is;
      rest = ap (λ l. l ++ map (regex_says c.args.compiled.now) (texts_of c.args.texts.now)) c.new-all.ensures.items;
    }

pub matching-preserved : goal.matching-preserved
matching-preserved c =
    let pattern = c.args.compiled.now in
    record {
      finds = λ text bytes. ap (λ p. is_some (find_str p text 0)) c.match_one.ensures.same ∙ c.matching.invariant.finds text bytes;
      rest =
          one_more (regex_says pattern) c.args.texts.now c.matching.text-index _ c.matching-test.true c.matching.all.items c.match_one.new.all.items _
          (c.in_ok-match_one.ensures.answer pattern c.matching.invariant.finds) c.matching.invariant.rest;
    }
