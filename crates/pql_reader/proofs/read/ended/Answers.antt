use Rattle.std.proofs.Common.{◌≡◌, List, None, refl}
use Rattle.pql_machine.specs.Machine.{Frame, ended}
use Rattle.pql_parts.specs.States.{state_of}
use Rattle.pql_parts.specs.declared.state.Finished.{Finished}
use Rattle.pql_parts.specs.declared.state.State.{State}
use Rattle.pql_parts.specs.declared.state.State.TheVariants.{Start, Headed, HeadColumns, HeadBrace, Body, Within, Done, Paged, Complete}
use Rattle.pql_reader.proofs.read.ended.Goals as goal

goes_on : (fs : List Frame) (s : State) → ((f : Finished) → s ≡ Complete f → ⊥) → None ≡ ended (state_of fs s)
goes_on fs Start n = refl
goes_on fs (Headed e) n = refl
goes_on fs (HeadColumns e s k) n = refl
goes_on fs (HeadBrace e cs) n = refl
goes_on fs (Body h) n = refl
goes_on fs (Within s m) n = refl
goes_on fs (Done h p) n = refl
goes_on fs (Paged p x) n = refl
goes_on fs (Complete f) n = absurd (n f refl)

pub returns-in_default : goal.returns-in_default
returns-in_default c = λ fs. goes_on fs c.args.state c.in_default.not-Complete
