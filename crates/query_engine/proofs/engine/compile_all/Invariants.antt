use Rattle.std.proofs.Common.{◌≡◌, ◌++◌, ℕ, List, map, take, drop}
use Rattle.pattern_port.specs.Course.{course_more, only_read}
use Rattle.pattern_port.specs.Refused.{asked_more}
use Rattle.query_plan.specs.Made.{patterns_of}
use Rattle.query_plan.specs.Plan.{pattern_texts}
use Rattle.query_engine.specs.Answers.{taken}
use Rattle.query_engine.proofs.engine.compile_all.Given as goal

abbrev pub invariant-loop-pattern : goal.invariant-loop-pattern
invariant-loop-pattern g l = record {
  same : (p t : List ℕ) → g.P.Patterns.says l.patterns p t ≡ g.P.Patterns.says l.initial.patterns p t;
  calm : g.P.Patterns.refusals l.patterns ≡ g.P.Patterns.refusals l.initial.patterns;
  asked : g.P.Patterns.asked l.patterns ≡ asked_more (g.P.Patterns.asked l.initial.patterns) (taken (patterns_of (take l.pattern-index l.list)));
  course : g.P.Patterns.course l.patterns ≡ course_more (g.P.Patterns.course l.initial.patterns) (only_read (taken (patterns_of (take l.pattern-index l.list))));
  made : map (λ c. g.P.Patterns.made_from c) l.compiled.items ++ pattern_texts (patterns_of (drop l.pattern-index l.list)) ≡ pattern_texts (patterns_of l.list);
}
