use Rattle.std.proofs.Common.{◌≡◌, ◌∙◌, true, arith, sym}
use Rattle.core_state.specs.core_machine.Claims.{is_claimed}
use Rattle.core_state.proofs.SoundLists.{claimed_released}
use Rattle.core_claims.proofs.releases.release_step.Goals as goal

pub free_claim-requires-clause-room : goal.free_claim-requires-clause-room
free_claim-requires-clause-room g c =
    let was : is_claimed c.args.receipt c.args.core.now.pending ≡ true = sym c.is_claimed.ensures ∙ c.if-is_claimed.true in
    omega (arith, claimed_released c.args.receipt c.args.core.now.pending was, c.requires.room)
