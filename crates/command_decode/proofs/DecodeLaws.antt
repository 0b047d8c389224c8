-- From what the reader of JSON and the tables answer to the command's answer.
use Rattle.std.proofs.Common.{◌≡◌, refl, sym, ap, subst, ℕ, ◌<◌, ◌^◌, List, length, Result, Ok, Err, arith}
use Rattle.std.specs.Prelude.{IsErrAnd}
use Rattle.json_read.proofs.of_text_spec.JsonLemmas.{members_list-of}
use Rattle.json_read.specs.text_spec.Json as spec
use Rattle.json_read.specs.text_spec.Json.{object, members_of}
use Rattle.json_read.specs.text_spec.JsonText.{Spells, NotJsonAt, TooDeepAt}
use Rattle.wire_laws.proofs.of_text_laws.LengthLaws.{compact_is_shortest}
use Rattle.json_read.specs.json_tree.declared.tree.Json.{Json}
use Rattle.json_read.specs.declared.fault.ReadFault.{ReadFault}
use Rattle.json_read.specs.declared.fault.ReadFault.TheVariants as read_fault
use Rattle.wire_catalog.specs.fleet_rows.declared.change.Change.{Change}
use Rattle.wire_catalog.specs.fleet_rows.declared.command.Command.{Command}
use Rattle.wire_catalog.specs.fleet_rows.declared.command.Kind.{Kind}
use Rattle.wire_catalog.specs.wire_spec.Decode.{DecodeOf, not_json, too_deep, value, version_of}
use Rattle.wire_catalog.specs.wire_spec.Table.{Pairs, object_change, value_change}
use Rattle.wire_catalog.specs.wire_fields.Answers.{Gives, Fails}
use Rattle.wire_catalog.specs.wire_spec.Counted.{IsCounted}
use Rattle.wire_catalog.specs.wire_fields.declared.fault.WireFault.{WireFault}
use Rattle.wire_catalog.specs.wire_fields.declared.fault.WireFault.TheVariants as wire_fault
use Rattle.command_decode.specs.Answers.{DecodedAs, RefusedAs}
use Rattle.command_decode.specs.declared.fault.DecodeFault.{DecodeFault}
use Rattle.command_decode.specs.Faults.{of_read, of_wire}

-- an object's members are the list of them
pub of_object : (kind : Kind) (ms : Pairs) (r : Result Change WireFault) → Gives r (object_change kind ms) → Gives r (value_change kind (object (members_of ms)))
of_object kind ms r h = subst (λ l. Gives r (object_change kind l)) (sym (members_list-of ms)) h

-- a payload of fewer than 2 ^ 32 bytes has a value that a u32 counts
pub counted : (payload bytes : List ℕ) (v : spec.Json) → bytes ≡ payload → length payload < 2 ^ 32 → Spells bytes v → IsCounted v
counted payload bytes v e h s = omega (arith, compact_is_shortest bytes v s, h, ap length e)

-- ---- refusals

-- a fault that `?` hands on
pub failed : (c : Command) (r : Result Change DecodeFault) (fault : DecodeFault) → IsErrAnd r (λ e. e ≡ fault) → RefusedAs fault c → DecodedAs r c
failed c (Ok change) fault h k = absurd h
failed c (Err e) fault h k = subst (λ f. RefusedAs f c) (sym h) k

module _ (c : Command) (bytes : List ℕ) (same : bytes ≡ c.payload) (taken : c.version ≡ version_of c.kind) where
  -- of the reader of JSON
  pub unread : (r : Result Json ReadFault) (fault : ReadFault) → r ≡ Err fault →
      ((at : ℕ) → r ≡ Err (read_fault.NotJson at) → NotJsonAt bytes at) →
      ((at : ℕ) → r ≡ Err (read_fault.TooDeep at) → TooDeepAt bytes at) →
      RefusedAs (of_read fault) c
  unread r (read_fault.NotJson at) e not deep = not_json at taken (subst (λ b. NotJsonAt b at) same (not at e)) refl
  unread r (read_fault.TooDeep at) e not deep = too_deep at taken (subst (λ b. TooDeepAt b at) same (deep at e)) refl
  unread r read_fault.Memory e not deep = tt

  -- of the table
  pub refused : (v : spec.Json) (fault : WireFault) → Spells bytes v → Fails fault (value_change c.kind v) → RefusedAs (of_wire fault) c
  refused v (wire_fault.Refused refusal) s h = value v taken (subst (λ b. Spells b v) same s) (sym h)
  refused v wire_fault.Memory s h = tt

  -- ---- a change

  pub decoded : (v : spec.Json) (change : Change) → Spells bytes v → value_change c.kind v ≡ Ok change → DecodeOf c (Ok change)
  decoded v change s h = value v taken (subst (λ b. Spells b v) same s) (sym h)
