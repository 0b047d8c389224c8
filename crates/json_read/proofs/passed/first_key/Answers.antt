use Rattle.std.proofs.Common.{◌+◌, ◌++◌, [], refl, drop}
use Rattle.json_machine.specs.text_spec.Json as spec
use Rattle.json_machine.specs.text_spec.Json.{items_of, members_of, settled}
use Rattle.json_machine.specs.Machine.{owed}
use Rattle.json_read.proofs.Stacks.{object_ends}
use Rattle.json_read.proofs.passed.first_key.Goals as goal

pub returns-then-byte-eq125-clause-value : goal.returns-then-byte-eq125-clause-value
returns-then-byte-eq125-clause-value c = λ base fs s.
    let whole = spec.object spec.no_members in
    (fs, owed [] whole, s, (whole, (λ e. tt), refl), object_ends (fs ++ base) c.args.byte c.args.at (drop (c.args.at + 1) c.args.bytes.now) c.requires.black c.if-byte-eq125.true)
