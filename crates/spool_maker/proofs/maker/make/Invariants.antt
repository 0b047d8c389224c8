use Rattle.std.proofs.Common.{◌≡◌, List, ℕ, ◌++◌}
use Rattle.std.specs.Io.KnownBytes.{Appends}
use Rattle.made_spec.specs.Made.{number, made_text}
use Rattle.spool_maker.proofs.maker.make.Given as goal

-- what went out and the text that is left are the text of the items so far
abbrev pub invariant-items : goal.invariant-items
invariant-items g l = record {
  made_of : l.x ≡ number l.seed l.i;
  told : (went : List ℕ) × (went ++ l.text.items ≡ made_text l.seed l.i) × Appends (g.O.Sink.held l.fn.out) (g.O.Sink.held l.out) went;
  calm : g.O.Sink.fault_count l.out ≡ g.O.Sink.fault_count l.fn.out;
}
