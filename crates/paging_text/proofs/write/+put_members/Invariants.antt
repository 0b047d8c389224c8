use Rattle.std.proofs.Common.{length}
use Rattle.paging_text.proofs.write.+put_members.Given as goal

abbrev pub decreases-put_members : goal.decreases-put_members
decreases-put_members l = length l.heads.now
