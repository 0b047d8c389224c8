-- A spool: a sequence of commands and sweeps, defined as a relation on the whole text.
use Rattle.std.specs.Prelude.{◌≡◌, ◌≢◌, ℕ, ◌+◌, ◌^◌, ◌<◌, ◌≤◌, ℤ, List, [], ◌∷◌, ◌++◌, length, Bool, if◌then◌else◌, codes, decimal}
use Rattle.history_spec.specs.text_spec.Stamp.{IsStampOf}
use Rattle.history_spec.specs.fleet_rows.declared.command.Command.{Command}
use Rattle.history_spec.specs.fleet_rows.declared.command.Kind.{Kind}
use Rattle.history_spec.specs.fleet_rows.declared.command.Kind.TheVariants.{Facts, Catalog, Report, Deactivate, Expiration}
use Rattle.history_spec.specs.fleet_rows.declared.settings.Kinds.{Kinds}
use Rattle.history_spec.specs.Thread.{Item, command, sweep}
use Rattle.history_spec.specs.json_tree.Limits.{most_payload}
use Rattle.spool_spec.specs.Limits.{most_spool}

abbrev pub kind_word : Kind → List ℕ
kind_word Facts = codes "replace_facts"
kind_word Catalog = codes "replace_catalog"
kind_word Report = codes "store_report"
kind_word Deactivate = codes "deactivate_node"
kind_word Expiration = codes "configure_expiration"

abbrev pub chosen : Bool → List ℕ → List (List ℕ)
chosen b word = if b then word ∷ [] else []

abbrev pub joined : List (List ℕ) → List ℕ
joined [] = []
joined (word ∷ []) = word
joined (word ∷ next ∷ words) = word ++ 44 ∷ joined (next ∷ words)

-- the words of a sweep's kinds, in this order
abbrev pub kind_words : Kinds → List (List ℕ)
kind_words kinds =
    chosen kinds.expire (codes "expire") ++ chosen kinds.purge (codes "purge") ++ chosen kinds.reports (codes "reports")

-- a first line with the kind's word, the version and the payload's length in decimal; then the payload and a line feed
abbrev pub command_text : Command → List ℕ
command_text c =
    kind_word c.kind ++ 32 ∷ (decimal c.version ++ 32 ∷ (decimal (length c.payload) ++ 10 ∷ (c.payload ++ 10 ∷ [])))

-- the word `sweep`, the kinds joined by commas, and a stamp
abbrev pub sweep_text : Kinds → List ℕ → List ℕ
sweep_text kinds stamp = codes "sweep " ++ joined (kind_words kinds) ++ 32 ∷ (stamp ++ 10 ∷ [])

-- the text of a command in a spool: the version fits 32 bits, the payload has at most 16 MiB, and the reader sets the moment of
-- receipt
pub record IsCommandText (received : ℤ) (c : Command) (text : List ℕ) : Type 0 where
  pub text_is : text ≡ command_text c
  pub version : c.version < 2 ^ 32
  pub payload : length c.payload ≤ most_payload
  pub received_is : c.received ≡ received

-- the text of a sweep with at least one kind, at the moment of its stamp
pub record IsSweepText (kinds : Kinds) (m : ℤ) (text : List ℕ) : Type 0 where
  pub stamp : List ℕ
  pub moment : IsStampOf stamp m
  pub text_is : text ≡ sweep_text kinds stamp
  pub some_kind : kind_words kinds ≢ []

-- the text of an item. Its first line has at most 200 bytes
abbrev pub IsItemText : ℤ → Item → List ℕ → Type 0
IsItemText received (command c) text = IsCommandText received c text
IsItemText received (sweep kinds m) text = IsSweepText kinds m text

-- how a spool ends: after its last item, or at the first byte that begins no item
pub data End : Type 0 where
  whole : End
  bad_at : ℕ → End

-- the bytes begin with an item that ends at byte 2^62 or before; the bytes themselves begin at byte p
pub record BeginsWithItem (received : ℤ) (p : ℕ) (bytes : List ℕ) : Type 0 where
  pub item : Item
  pub text : List ℕ
  pub rest : List ℕ
  pub is_item : IsItemText received item text
  pub bytes_are : bytes ≡ text ++ rest
  pub ends : p + length text ≤ most_spool

-- from byte p on, the bytes are these items, followed by this end
abbrev pub ItemsFrom : ℤ → ℕ → List ℕ → List Item → End → Type 0
ItemsFrom received p bytes [] whole = bytes ≡ []
ItemsFrom received p bytes [] (bad_at at) = (at ≡ p) × (bytes ≢ []) × ¬ BeginsWithItem received p bytes
ItemsFrom received p bytes (item ∷ items) end =
    (text : List ℕ) × (rest : List ℕ) × IsItemText received item text × (bytes ≡ text ++ rest)
    × (p + length text ≤ most_spool) × ItemsFrom received (p + length text) rest items end

-- the items and the end of a spool whose commands are received at this moment
abbrev pub SpoolOf : ℤ → List ℕ → List Item → End → Type 0
SpoolOf received bytes items end = ItemsFrom received 0 bytes items end
