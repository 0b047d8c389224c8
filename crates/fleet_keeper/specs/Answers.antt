-- How the answers of a pair become answers of a keeper, and how many faults each counts.
use Rattle.std.specs.Prelude.{ℕ}
use Rattle.log_pair.specs.record_log.declared.put.Appended.{Appended}
use Rattle.log_pair.specs.record_log.declared.put.Appended.TheVariants as appended
use Rattle.log_pair.specs.declared.checkpoint.Checked.{Checked}
use Rattle.log_pair.specs.declared.checkpoint.Checked.TheVariants as checked
use Rattle.fleet_keeper.specs.declared.kept.Kept.{Kept}
use Rattle.fleet_keeper.specs.declared.kept.Kept.TheVariants as kept

abbrev pub of_append : Appended → Kept
of_append appended.Ok = kept.Ok
of_append appended.Failed = kept.Failed
of_append appended.Down = kept.Down
of_append appended.Memory = kept.Memory
of_append appended.TooLong = kept.Spent

abbrev pub of_checkpoint : Checked → Kept
of_checkpoint checked.Ok = kept.Ok
of_checkpoint checked.Failed = kept.Failed
of_checkpoint checked.Down = kept.Down
of_checkpoint checked.Spent = kept.Spent
of_checkpoint checked.TooLong = kept.Spent

-- the number of faults that an answer counts
abbrev pub faults_in : Kept → ℕ
faults_in kept.Ok = 0
faults_in kept.Failed = 1
faults_in kept.Down = 2
faults_in kept.Memory = 0
faults_in kept.Spent = 0
