use Rattle.std.proofs.Common.{◌≡◌, drop}
use denote.Shadow.{shadow}
use denote.Text.{Utf8}
use Rattle.record_values.specs.Lists.{rise_from}
use Rattle.record_values.proofs.list.rise_from.Given as goal

abbrev pub invariant-loop-text : goal.invariant-loop-text
invariant-loop-text l = record {
  rises : rise_from l.last (drop l.text-index l.rest) ≡ rise_from l.first l.rest;
  text : shadow (Utf8 l.last);
}
