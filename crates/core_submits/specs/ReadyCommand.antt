-- What is prepared for a submitted command.
use Rattle.std.specs.Prelude.{◌≡◌, ℕ}
use Rattle.core_state.specs.fleet_rows.declared.command.Command.{Command}
use Rattle.core_state.specs.record_spec.declared.queue.QueueRecord.TheVariants as queue
use Rattle.core_state.specs.record_spec.Queue.{queue_text}
use Rattle.core_state.specs.core_spec.Commands.{key_of}
use Rattle.core_submits.specs.declared.prepare.ReadyCommand.{ReadyCommand}

-- the command, its group and its record, under this receipt
pub record IsReadyCommand (prepared : ReadyCommand) (r : ℕ) (c : Command) : Type 0 where
  pub receipt : prepared.receipt ≡ r
  pub group : prepared.group ≡ key_of c
  pub held : prepared.held ≡ c
  pub noted : prepared.noted ≡ c
  pub frame : prepared.frame ≡ queue_text (queue.Submit r c)
