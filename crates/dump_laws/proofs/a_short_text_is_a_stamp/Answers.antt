use Rattle.dump_laws.proofs.PlainStamps.{short_texts_are_in_utc, no_fraction_ends_with_zero}
use Rattle.dump_laws.proofs.ShortStamps.{short_texts_are_stamps}
use Rattle.dump_laws.proofs.a_short_text_is_a_stamp.Goals as goal

pub returns-clause-stamp : goal.returns-clause-stamp
returns-clause-stamp c = short_texts_are_stamps

pub returns-clause-utc : goal.returns-clause-utc
returns-clause-utc c = short_texts_are_in_utc

pub returns-clause-fraction : goal.returns-clause-fraction
returns-clause-fraction c = no_fraction_ends_with_zero
