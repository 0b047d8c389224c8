-- Groups of commands, and the order in which a group is applied.
use Rattle.std.specs.Prelude.{◌≡◌, ◌≢◌, ◌↔◌, ℕ, ℤ, List, [], ◌∷◌, codes, Option, Some, Ok}
use Rattle.core_machine.specs.text_spec.Json.{Members, string, object, members_list, find_member}
use Rattle.core_machine.specs.text_spec.JsonText.{Spells}
use Rattle.core_machine.specs.text_spec.Stamp.{IsStampOf}
use Rattle.core_machine.specs.fleet_rows.declared.change.Change.{Change}
use Rattle.core_machine.specs.fleet_rows.declared.command.Command.{Command}
use Rattle.core_machine.specs.fleet_rows.declared.command.Group.{Group}
use Rattle.core_machine.specs.fleet_rows.declared.command.Kind.TheVariants.{Report}
use Rattle.core_machine.specs.fleet_rows.declared.settings.Ttls.{Ttls}
use Rattle.core_machine.specs.history_spec.Trace.{applied_as}
use Rattle.core_machine.specs.core_spec.declared.event.Event.TheVariants.{Apply}
use Rattle.core_machine.specs.core_spec.Commands.{Key, key_of}
use Rattle.core_machine.specs.core_spec.History.{History, answer, key, claimed, standing}
use Rattle.core_machine.specs.core_spec.Legal.{IsLegal, newest_of}

-- ---- which commands have a group

-- The payload spells an object. It has this nonempty string at `certname`, and a stamp of this moment at `producer_timestamp`.
pub record HasHead (payload certname : List ℕ) (moment : ℤ) : Type 0 where
  pub members : Members
  pub stamp : List ℕ
  pub spells : Spells payload (object members)
  pub certname_is : find_member (codes "certname") (members_list members) ≡ Some (string certname)
  pub nonempty : certname ≢ []
  pub stamp_is : find_member (codes "producer_timestamp") (members_list members) ≡ Some (string stamp)
  pub names : IsStampOf stamp moment

-- the command has this group exactly if its payload has such a head and it is no report
abbrev pub GroupsAreThoseOfPayloads : Type 0
GroupsAreThoseOfPayloads =
    (c : Command) (certname : List ℕ) (moment : ℤ)
    → (key_of c ≡ Some (record { certname = certname; kind = c.kind }, moment)) ↔ ((c.kind ≢ Report) × HasHead c.payload certname moment)

-- the kind of a command's group is the command's kind
abbrev pub GroupsAreOfTheKind : Type 0
GroupsAreOfTheKind = (c : Command) (k : Key) → key_of c ≡ Some k → k.0.kind ≡ c.kind

-- ---- in which order a group is applied

-- at most one command of a group is claimed
abbrev pub OneOfAGroupIsClaimed : Type 0
OneOfAGroupIsClaimed =
    (ttls : Ttls) (history : History) (group : Group) (q r : ℕ) (stamp other : ℤ) → IsLegal ttls history
    → key q history ≡ Some (group, stamp) → standing q history ≡ claimed → key r history ≡ Some (group, other) → standing r history ≡ claimed → q ≡ r

-- a command that is applied is then the newest of its group since the last purge of its node
abbrev pub AppliedCommandsAreTheNewest : Type 0
AppliedCommandsAreTheNewest =
    (ttls : Ttls) (history : History) (r : ℕ) (t : Option ℤ) (k : Key) (change : Change) → IsLegal ttls (Apply r t ∷ history)
    → key r history ≡ Some k → answer r history ≡ Some (Ok change) → newest_of ttls k.0 (Apply r t ∷ history) ≡ Some (applied_as r t change)
