use Rattle.std.proofs.Common.{length}
use Rattle.stamp_time.proofs.write.+put_digits.Given as goal

abbrev pub decreases-put_digits : goal.decreases-put_digits
decreases-put_digits l = length l.place.now
