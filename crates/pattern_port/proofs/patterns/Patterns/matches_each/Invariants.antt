use Rattle.std.proofs.Common.{◌≡◌, ◌++◌, ℕ, List, map, take, drop}
use Rattle.pattern_port.specs.Course.{course_more, texts_of, tries_on}
use Rattle.pattern_port.proofs.patterns.Patterns.matches_each.Given as goal

abbrev pub invariant-matching : goal.invariant-matching
invariant-matching g l =
    let pattern : List ℕ = g.Self.Patterns.made_from l.compiled in
    record {
      same : (p t : List ℕ) → g.Self.Patterns.says l.self p t ≡ g.Self.Patterns.says l.initial.self p t;
      calm : g.Self.Patterns.refusals l.self ≡ g.Self.Patterns.refusals l.initial.self;
      silent : g.Self.Patterns.asked l.self ≡ g.Self.Patterns.asked l.initial.self;
      course : g.Self.Patterns.course l.self ≡ course_more (g.Self.Patterns.course l.initial.self) (tries_on pattern (texts_of (take l.text-index l.texts)));
      rest : l.all.items ++ map (g.Self.Patterns.says l.initial.self pattern) (texts_of (drop l.text-index l.texts)) ≡ map (g.Self.Patterns.says l.initial.self pattern) (texts_of l.texts);
    }
