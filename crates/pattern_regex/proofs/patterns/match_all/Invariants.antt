use Rattle.std.proofs.Common.{◌≡◌, ◌++◌, map, drop}
use Rattle.pattern_port.specs.Course.{texts_of}
use Rattle.pattern_regex.specs.Regexes.{Finds, regex_says}
use Rattle.pattern_regex.proofs.patterns.match_all.Given as goal

abbrev pub invariant-matching : goal.invariant-matching
invariant-matching l = record {
  finds : Finds l.matcher l.compiled;
  rest : l.all.items ++ map (regex_says l.compiled) (texts_of (drop l.text-index l.texts)) ≡ map (regex_says l.compiled) (texts_of l.texts);
}
