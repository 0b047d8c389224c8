-- Statements on spools and on the reader of items.
use Rattle.std.specs.Prelude.{◌≡◌, ◌≢◌, ℕ, suc, ◌≤◌, ℤ, pos, List, ◌∷◌, ◌++◌, length, Some}
use Rattle.std.specs.List.{AllByRecursion}
use Rattle.spool_spec.specs.history_spec.Lawful.{HasStamp}
use Rattle.spool_spec.specs.history_spec.Thread.{Item, IsItem}
use Rattle.spool_spec.specs.Spool.{IsItemText, End, SpoolOf}
use Rattle.history_laws.specs.Reading.{item_at}

-- an item's text is read as that item, whatever bytes follow
abbrev pub ItemTextsAreRead : Type 0
ItemTextsAreRead =
    (received : ℤ) (item : Item) (text rest : List ℕ) → IsItemText received item text → item_at received (text ++ rest) ≡ Some (item, rest)

-- whatever the reader reads is an item's text
abbrev pub WhatIsReadIsAnItemText : Type 0
WhatIsReadIsAnItemText =
    (received : ℤ) (bytes : List ℕ) (item : Item) (rest : List ℕ) → item_at received bytes ≡ Some (item, rest)
    → (text : List ℕ) × IsItemText received item text × (bytes ≡ text ++ rest)

-- the text begins with a line of at most n bytes, including its line feed
pub record HasFirstLine (n : ℕ) (text : List ℕ) : Type 0 where
  pub line : List ℕ
  pub rest : List ℕ
  pub text_is : text ≡ line ++ 10 ∷ rest
  pub no_feed : AllByRecursion (λ c. c ≢ 10) line
  pub short : suc (length line) ≤ n

abbrev pub FirstLinesAreShort : Type 0
FirstLinesAreShort = (received : ℤ) (item : Item) (text : List ℕ) → IsItemText received item text → HasFirstLine 200 text

-- a spool has at most one list of items and one end
abbrev pub SpoolsHaveOneReading : Type 0
SpoolsHaveOneReading =
    (received : ℤ) (bytes : List ℕ) (items others : List Item) (end other : End)
    → SpoolOf received bytes items end → SpoolOf received bytes others other → (items ≡ others) × (end ≡ other)

-- all bytes have a list of items and an end
abbrev pub BytesHaveSomeReading : Type 0
BytesHaveSomeReading = (received : ℤ) (bytes : List ℕ) → (items : List Item) × (end : End) × SpoolOf received bytes items end

-- each item meets its rules (short payload, a moment with a stamp), if the moment of receipt has a stamp
abbrev pub SpoolsHaveItems : Type 0
SpoolsHaveItems =
    (received : ℤ) (bytes : List ℕ) (items : List Item) (end : End)
    → SpoolOf received bytes items end → HasStamp received → AllByRecursion IsItem items

-- the moment 0, 1970-01-01T00:00:00Z, has a stamp
abbrev pub TheFirstMomentHasAStamp : Type 0
TheFirstMomentHasAStamp = HasStamp (pos 0)
