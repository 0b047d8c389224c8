use Rattle.wire_laws.proofs.TakenFields.{missing_is_absence_of_each_kind, nothing_is_absence_or_null_of_each_kind, wrong_is_another_kind, taken_is_the_value, bad_stamp_is_no_stamp}
use Rattle.wire_laws.proofs.table.a_refusal_of_a_field_has_one_meaning.Goals as goal

pub returns : goal.returns
returns c = record { missing = missing_is_absence_of_each_kind; nothing = nothing_is_absence_or_null_of_each_kind; wrong = wrong_is_another_kind; taken = taken_is_the_value; bad_stamp = bad_stamp_is_no_stamp }
