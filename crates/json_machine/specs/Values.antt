-- The JSON values that texts can spell.
use Rattle.std.specs.Str.{IsUtf8}
use Rattle.text_spec.specs.Json.{Json, null, boolean, number, string, array, object, Items, no_items, item, Members, no_members, member, members_list, HasDistinctKeys}
use Rattle.text_spec.specs.Number.{IsNumber}

-- numbers are spelled as numbers (RFC 8259, section 6), texts and keys are UTF-8 (section 8.1), and keys in an object are
-- distinct
abbrev mutual
  pub IsValue : Json → Type 0
  IsValue null = Unit {0}
  IsValue (boolean b) = Unit {0}
  IsValue (number s) = IsNumber s
  IsValue (string s) = IsUtf8 s
  IsValue (array js) = AreValues js
  IsValue (object ms) = AreMemberValues ms × HasDistinctKeys (members_list ms)

  pub AreValues : Items → Type 0
  AreValues no_items = Unit {0}
  AreValues (item j js) = IsValue j × AreValues js

  pub AreMemberValues : Members → Type 0
  AreMemberValues no_members = Unit {0}
  AreMemberValues (member k j ms) = IsUtf8 k × IsValue j × AreMemberValues ms
