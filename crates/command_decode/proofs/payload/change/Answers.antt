use Rattle.std.proofs.Common.{refl}
use Rattle.command_decode.proofs.DecodeLaws.{of_object}
use Rattle.command_decode.proofs.payload.change.Goals as goal

pub returns-in-Map : goal.returns-in-Map
returns-in-Map c = rw c.in-Map.is (record {
  value = of_object c.args.kind c.in-Map.members c.object.result c.object.ensures.value;
  no_object = λ none. absurd (none _ refl);
  memory = c.object.ensures.memory;
})
