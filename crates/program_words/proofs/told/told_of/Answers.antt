use Rattle.std.proofs.Common.{◌∙◌, [], map, Some, sym, ap}
use Rattle.clap.specs.Matches.{found_of}
use Rattle.program_words.specs.Splitting.{plain_words, value_word}
use Rattle.program_words.proofs.Found.{told_made, plain_is, no_plain}
use Rattle.program_words.proofs.told.told_of.Goals as goal
use Rattle.program_words.proofs.told.told_of.Goals.{in-Some+in_ok-plain-in-Some, in-None}

pub returns : goal.returns
returns c split told = elim c.match-get_strs.branch [
  | in-Some+in_ok-plain-in-Some w ↦
      told_made (found_of c.args.matches.now) split (value_word c.get_str-serve.result) (value_word c.get_str-links.result) (plain_words c.match-get_strs.plain) (map (λ v. v.now) w.in-Some.words.now) told
      c.get_str-serve.ensures c.get_str-links.ensures (plain_is split.plain _ (sym told.plain ∙ sym w.in-Some.ensures)) (ap (λ p. Some (plain_words p)) w.plain-is ∙ w.in_ok-plain-in-Some.ensures)
  | in-None w ↦
      told_made (found_of c.args.matches.now) split (value_word c.get_str-serve.result) (value_word c.get_str-links.result) (plain_words c.match-get_strs.plain) [] told
      c.get_str-serve.ensures c.get_str-links.ensures (no_plain split.plain (sym told.plain ∙ sym w.in-None.ensures)) (ap (λ p. Some (plain_words p)) w.plain-is)
]
