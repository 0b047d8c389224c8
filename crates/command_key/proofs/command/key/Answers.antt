use Rattle.std.proofs.Common.{ap, ◌∙◌, ℕ, List}
use Rattle.core_spec.specs.json_read.Heads.{head_told}
use Rattle.core_spec.specs.Commands.{keyed, verdict_of}
use Rattle.command_key.proofs.Heads.{key_is}
use Rattle.command_key.proofs.command.key.Goals as goal

pub returns : goal.returns
returns c =
    let command = c.args.command.now in
    record {
      value = c.key_with.ensures.value ∙ ap (keyed command.kind) (c.in_ok-head.ensures.value ∙ ap (λ (bytes : List ℕ). head_told (verdict_of bytes)) c.as_slice.ensures) ∙ key_is command;
    }
