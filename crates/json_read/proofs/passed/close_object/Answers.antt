use Rattle.std.proofs.Common.{◌+◌, ◌∷◌, ◌++◌, [], refl, drop}
use Rattle.json_machine.specs.text_spec.Json as spec
use Rattle.json_machine.specs.text_spec.Json.{items_of, members_of, settled}
use Rattle.json_machine.specs.Machine.{next_key, owed}
use Rattle.json_read.proofs.Stacks.{object_comma, object_brace}
use Rattle.json_read.proofs.passed.close_object.Goals as goal

pub returns-in-44-clause-value : goal.returns-in-44-clause-value
returns-in-44-clause-value c = λ base fs ms k j s.
    (fs, next_key (ms ++ (k, j) ∷ []), s, (ms ++ (k, j) ∷ [], refl), object_comma (fs ++ base) j c.args.byte c.args.at (drop (c.args.at + 1) c.args.bytes.now) ms k c.in-44.is)

pub returns-in-125-clause-value : goal.returns-in-125-clause-value
returns-in-125-clause-value c = λ base fs ms k j s.
    let whole = spec.object (members_of (settled [] (ms ++ (k, j) ∷ []))) in
    (fs, owed [] whole, s, (whole, (λ e. tt), refl), object_brace (fs ++ base) j c.args.byte c.args.at (drop (c.args.at + 1) c.args.bytes.now) ms k c.in-125.is)
