use Rattle.command_core.proofs.open.open_core.Goals as goal

pub of_state-requires-clause-sound : goal.of_state-requires-clause-sound
of_state-requires-clause-sound g c = c.in-Ok.ensures.does.up.sound

pub of_state-requires-clause-spelling : goal.of_state-requires-clause-spelling
of_state-requires-clause-spelling g c = record { tables = c.in-Ok.ensures.does.up.tables; dead = c.in-Ok.ensures.does.up.dead }

pub returns-in-Ok : goal.returns-in-Ok
returns-in-Ok g c = record { does = rw c.of_state.ensures c.in-Ok.ensures.does }

pub returns-in-Err : goal.returns-in-Err
returns-in-Err g c = record { does = c.in-Err.ensures.does }
