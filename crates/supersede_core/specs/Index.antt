-- The index of the pending commands: a tree by receipt that marks the candidates, and the data of each group.
use Rattle.std.specs.Prelude.{◌≡◌, ℕ, ℤ, ◌+◌, List, [], ◌∷◌, ◌++◌, map, Bool, false, ◌&&◌, if◌then◌else◌, Option, Some, None}
use Rattle.std.specs.Option.{option_map}
use Rattle.std.specs.List.{AllByRecursion, list_any}
use Rattle.std.specs.Ordering.{is_eq}
use Rattle.std.specs.Str.{bytes_eq}
use Rattle.std.specs.String.{string_bytes}
use Rattle.entry_tree.specs.fleet_rows.Change.{kind_number}
use Rattle.entry_tree.specs.fleet_rows.declared.command.Group.{Group}
use Rattle.entry_tree.specs.core_spec.declared.entry.Entry.{Entry}
use Rattle.entry_tree.specs.core_spec.Commands.{Key}
use Rattle.entry_tree.specs.core_machine.Claims.{is_candidate}
use Rattle.entry_tree.specs.declared.waiting.GroupKey.{GroupKey}
use Rattle.entry_tree.specs.declared.waiting.Waiting.{Waiting}
use Rattle.supersede_core.specs.declared.turns.Turns.{Turns}
use Rattle.supersede_core.specs.Waiting.{Rises}
use Rattle.supersede_core.specs.Turns.{rank_order, has, claims, members_at}

-- ---- the text of a group

-- the certname, followed by one digit for the kind
abbrev pub key_text : Group → List ℕ
key_text g = g.certname ++ (48 + kind_number g.kind) ∷ []

abbrev pub key_of_group : Option Key → Option (List ℕ × ℤ)
key_of_group group = option_map {U = List ℕ × ℤ} (λ k. (key_text k.0, k.1)) group

abbrev pub key_parts : Option GroupKey → Option (List ℕ × ℤ)
key_parts key = option_map {U = List ℕ × ℤ} (λ k. (string_bytes k.text, k.stamp)) key

abbrev pub IsKey : Option GroupKey → Option Key → Type 0
IsKey key group = key_parts key ≡ key_of_group group

-- ---- what the list says about the group of a text

abbrev pub is_of : List ℕ → Option Key → Bool
is_of text None = false
is_of text (Some k) = bytes_eq (key_text k.0) text

abbrev pub is_ranked : List ℕ → ℤ × ℕ → ℕ → Option Key → Bool
is_ranked text q r None = false
is_ranked text q r (Some k) = bytes_eq (key_text k.0) text && is_eq (rank_order (k.1, r) q)

abbrev pub has_rank : List ℕ → ℤ × ℕ → List Entry → Bool
has_rank text q es = list_any (λ (e : Entry). is_ranked text q e.receipt e.group) es

abbrev pub own_claim : List ℕ → Entry → ℕ
own_claim text e = if is_of text e.group && e.claimed then 1 else 0

abbrev pub claimed_number : List ℕ → List Entry → ℕ
claimed_number text [] = 0
claimed_number text (e ∷ es) = own_claim text e + claimed_number text es

pub record Stands (t : Turns) (es : List Entry) : Type 0 where
  pub ranks : (text : List ℕ) → (q : ℤ × ℕ) → has (members_at t text) q ≡ has_rank text q es
  pub claims : (text : List ℕ) → claims (members_at t text) ≡ claimed_number text es

-- ---- the whole index

abbrev pub entries : List Waiting → List Entry
entries ws = map (λ (w : Waiting). w.entry) ws

abbrev pub AreKeyed : List Waiting → Type 0
AreKeyed ws = AllByRecursion (λ (w : Waiting). IsKey w.key w.entry.group) ws

-- each entry is marked exactly if it is a candidate among all
abbrev pub AreMarked : List Entry → List Waiting → Type 0
AreMarked es ws = AllByRecursion (λ (w : Waiting). w.candidate ≡ is_candidate es w.entry) ws

pub record IsIndex (ws : List Waiting) (t : Turns) : Type 0 where
  pub rises : Rises (entries ws)
  pub keyed : AreKeyed ws
  pub stands : Stands t (entries ws)
  pub marked : AreMarked (entries ws) ws
