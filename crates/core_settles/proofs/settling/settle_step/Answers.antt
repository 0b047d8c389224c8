use Rattle.std.proofs.Common.{◌≡◌, ◌∙◌, ◌||◌, true, arith, rules, sym, subst}
use Rattle.core_claims.proofs.of_plain_laws.Booleans.{neither}
use Rattle.core_claims.specs.wire_spec.Decode.{DecodeOf}
use Rattle.core_claims.proofs.of_wire_laws.LawfulChanges.{decoded_changes_are_lawful}
use Rattle.core_claims.specs.core_machine.Claims.{is_claimed}
use Rattle.core_claims.proofs.of_core_laws.Keys.{answer_decodes}
use Rattle.core_claims.specs.queue_log.Queued.{queue_down}
use Rattle.core_claims.proofs.of_core_state.SoundLists.{claimed_released}
use Rattle.core_settles.specs.Settles.{IsVerdictOf}
use Rattle.core_settles.specs.declared.answers.Verdict.{Verdict}
use Rattle.core_settles.proofs.settling.settle_step.Goals as goal

pub keep-requires-clause-up : goal.keep-requires-clause-up
keep-requires-clause-up g c =
    let core = c.args.core.now in
    let stopped = g.K.Keeper.down core.store in
    c.requires.sound.queue (neither (queue_down core.queue) stopped (neither core.undone (queue_down core.queue || stopped) (sym c.is_down.ensures.value ∙ c.if-is_down.false)).1).0

pub keep-requires-clause-release : goal.keep-requires-clause-release
keep-requires-clause-release g c =
    let was : is_claimed c.args.job.receipt c.args.core.now.pending ≡ true = search rules in
    omega (arith, claimed_released c.args.job.receipt c.args.core.now.pending was, c.requires.sound.room)

pub keep-requires-clause-lawful : goal.keep-requires-clause-lawful
keep-requires-clause-lawful g c =
    let decodes = subst (λ (v : Verdict). IsVerdictOf v c.args.job.command) c.in-Change.is c.requires.decodes in
    decoded_changes_are_lawful c.args.job.command c.in-Change.prepared c.requires.fit.1 (subst (DecodeOf c.args.job.command) decodes (answer_decodes c.args.job.command))
