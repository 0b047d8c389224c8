-- The values of fields as the code refers to them, and the text of fields.
use Rattle.std.specs.Prelude.{ℕ, List, [], ◌∷◌, ◌++◌, Bool, true, Option, Some, None, map}
use Rattle.std.specs.Borrow.{Bor}
use Rattle.std.specs.List.{AllByRecursion}
use Rattle.std.specs.Option.{option_map}
use Rattle.dump_laws.specs.dump_spec.history_spec.Lawful.{HasStamp, IfMoment}
use Rattle.dump_laws.specs.dump_spec.json_machine.Values.{IsValue}
use Rattle.dump_laws.specs.dump_spec.text_spec.Compact.{compact, comma_if, quoted}
use Rattle.dump_laws.specs.dump_spec.text_spec.Json.{Json, boolean, string}
use Rattle.dump_laws.specs.dump_spec.wire_spec.Table.{Pairs}
use Rattle.dump_laws.specs.dump_spec.Payloads.{list, members, whole, stamp, if_any, if_true}
use Rattle.dump_writer.specs.declared.shown.Shown.{Shown}
use Rattle.dump_writer.specs.declared.shown.Shown.TheVariants.{Text, OptionalText, Flag, OptionalFlag, IfTrue, OptionalNumber, Stamp, OptionalStamp, Object, IfMembers, IfPacked, IfTags}

abbrev pub shown_value : Shown → Option Json
shown_value (Text s) = Some (string s.now)
shown_value (OptionalText o) = option_map string o.now
shown_value (Flag b) = Some (boolean b)
shown_value (OptionalFlag o) = option_map boolean o
shown_value (IfTrue b) = if_true b
shown_value (OptionalNumber o) = option_map whole o
shown_value (Stamp m) = Some (stamp m)
shown_value (OptionalStamp o) = option_map stamp o
shown_value (Object ms) = Some (members ms.now)
shown_value (IfMembers ms) = if_any members ms.now
shown_value (IfPacked js) = if_any list js.now
shown_value (IfTags ts) = if_any (λ tags. list (map string tags)) ts.now

-- moments have stamps, and packed items are JSON
abbrev pub CanBeShown : Shown → Type 0
CanBeShown (Stamp m) = HasStamp m
CanBeShown (OptionalStamp o) = IfMoment o
CanBeShown (IfPacked js) = AllByRecursion IsValue js.now
CanBeShown _ = Unit {0}

abbrev pub value_text : Option Json → List ℕ
value_text None = []
value_text (Some j) = compact j

-- a member, after a comma if `later` is true
abbrev pub member_text : Bool → List ℕ → Json → List ℕ
member_text later name value = comma_if later ++ quoted name ++ 58 ∷ compact value

-- members in their order
abbrev pub pairs_text : Bool → Pairs → List ℕ
pairs_text later [] = []
pairs_text later (m ∷ ms) = member_text later m.0 m.1 ++ pairs_text true ms

-- a field, if it has a value
abbrev pub field_text : Bool → List ℕ → Option Json → List ℕ
field_text later name None = []
field_text later name (Some value) = member_text later name value

-- a field by its name and its value, if there is one
abbrev pub field : Bor (List ℕ) × Shown → List ℕ × Option Json
field c = (c.0.now, shown_value c.1)
