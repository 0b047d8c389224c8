use Rattle.std.proofs.Common.{◌≡◌, ◌∙◌, ◌+◌, ◌∷◌, [], false, sym, ap, subst, arith, drop}
use Rattle.std.specs.Prelude.{slice_index}
use Rattle.json_machine.specs.Machine.{begins, in_array, first_item, value, is_space, verdict}
use Rattle.json_read.specs.Found.{frames_of, Found}
use Rattle.json_read.proofs.Runs.{value_here}
use Rattle.json_read.proofs.Steps.{item_begins}
use Rattle.json_read.proofs.container.first_item.Goals as goal

pub returns-clause-value : goal.returns-clause-value
returns-clause-value c =
    let bytes = c.args.bytes.now in
    let at = c.args.at in
    let fs = frames_of c.args.frames.now.items in
    let rest = drop (at + 1) bytes in
    let other : ¬ (c.args.byte ≡ 93) = λ e. omega (arith, e, c.if-byte-eq93.false) in
    let black : is_space (slice_index bytes at) ≡ false = subst (λ b. is_space b ≡ false) (sym c.requires.byte) c.requires.black in
    let path : verdict 127 (in_array c.take_items-items.result ∷ fs) value at (drop at bytes) ≡ verdict 127 fs first_item at (c.args.byte ∷ rest) =
    ap (λ js. verdict 127 (in_array js ∷ fs) value at (drop at bytes)) c.take_items-items.ensures
    ∙ value_here bytes (in_array [] ∷ fs) at c.requires.place black
    ∙ ap (λ b. begins 127 (in_array [] ∷ fs) b at rest) c.requires.byte
    ∙ sym (item_begins fs c.args.byte at rest c.requires.black other) in
    subst (Found bytes (frames_of c.more_items.new.frames.items) c.more_items.result) path c.more_items.ensures.value
