use Rattle.history_laws.proofs.LastPurges.{lives_follow_the_last_purge}
use Rattle.history_laws.proofs.traces.a_life_follows_the_last_purge.Goals as goal

pub returns : goal.returns
returns c = lives_follow_the_last_purge
