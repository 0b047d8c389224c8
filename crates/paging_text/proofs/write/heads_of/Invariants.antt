use Rattle.std.proofs.Common.{◌≡◌, ◌++◌, drop, false}
use Rattle.paging_text.specs.Shown.{heads_text}
use Rattle.paging_text.proofs.write.heads_of.Given as goal

abbrev pub invariant-loop-name : goal.invariant-loop-name
invariant-loop-name l = l.heads.items ++ heads_text l.later (drop l.name-index l.names) ≡ heads_text false l.names
