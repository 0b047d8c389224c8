use Rattle.table_laws.proofs.PrintedMoments.{moments_are_printed}
use Rattle.table_laws.proofs.columns.a_moment_is_printed_with_three_digits.Goals as goal

pub returns : goal.returns
returns c = moments_are_printed
