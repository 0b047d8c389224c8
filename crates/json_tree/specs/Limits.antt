-- The size limit of one command.
use Rattle.std.specs.Prelude.{ℕ}
use Rattle.json_tree.specs.declared.limits.TheConstants.{MOST_PAYLOAD}

-- the most bytes of a command's payload, and so of a request's body
abbrev pub most_payload : ℕ
most_payload = MOST_PAYLOAD
