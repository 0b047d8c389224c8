-- The bytes of a dump are a spool of its items.
use Rattle.std.proofs.Common.{◌≢◌, ℕ, ◌+◌, ◌<◌, ◌≤◌, ◌^◌, ℤ, List, [], ◌∷◌, ◌++◌, length, map, arith, refl, Option, Some, None, length-append}
use Rattle.std.specs.List.{AllByRecursion, flat_map}
use Rattle.dump_spec.specs.fleet_rows.Change.{change_kind}
use Rattle.dump_spec.specs.fleet_rows.declared.change.Change.{Change}
use Rattle.dump_spec.specs.fleet_rows.declared.change.Change.TheVariants.{Facts, Catalog, Report, Deactivate, Expiration}
use Rattle.dump_spec.specs.fleet_rows.declared.settings.Kinds.{Kinds}
use Rattle.dump_spec.specs.history_spec.Lawful.{IfMoment}
use Rattle.dump_spec.specs.history_spec.Thread.{Item, command}
use Rattle.dump_spec.specs.json_tree.Limits.{most_payload}
use Rattle.dump_spec.specs.spool_spec.Limits.{most_spool}
use Rattle.dump_spec.specs.spool_spec.Spool.{kind_words, IsItemText, ItemsFrom, whole}
use Rattle.dump_spec.specs.text_spec.Compact.{compact}
use Rattle.dump_spec.specs.wire_spec.Decode.{version_of}
use Rattle.dump_spec.specs.list_again.Told.{expire_alone, reports_alone}
use Rattle.dump_spec.specs.Dumps.{sweep_if, item_text}
use Rattle.dump_spec.specs.Payloads.{payload_of, command_of}
use Rattle.dump_spec.specs.Stamps.{short_text}
use Rattle.dump_spec.proofs.of_plain_laws.Members.{all_both}
use Rattle.dump_laws.proofs.ShortStamps.{short_texts_are_stamps}

module _ (received : ℤ) where
  abbrev IsOwnText : Item → Type 0
  IsOwnText item = IsItemText received item (item_text item)

  -- ---- items

  version_fits : (c : Change) → version_of (change_kind c) < 2 ^ 32
  version_fits (Facts c) = omega arith
  version_fits (Catalog c) = omega arith
  version_fits (Report c) = omega arith
  version_fits (Deactivate c) = omega arith
  version_fits (Expiration c) = omega arith

  commands_are : (cs : List Change) → AllByRecursion (λ c. length (compact (payload_of c)) ≤ most_payload) cs → AllByRecursion IsOwnText (map (λ c. command (command_of received c)) cs)
  commands_are [] h = tt
  commands_are (c ∷ cs) h = (record { text_is = refl; version = version_fits c; payload = h.0; received_is = refl }, commands_are cs h.1)

  sweep_is : (kinds : Kinds) (o : Option ℤ) → kind_words kinds ≢ [] → IfMoment o → AllByRecursion IsOwnText (sweep_if kinds o)
  sweep_is kinds None some h = tt
  sweep_is kinds (Some m) some h = (record { stamp = short_text m; moment = short_texts_are_stamps m h; text_is = refl; some_kind = some }, tt)

  expire_is_some : kind_words expire_alone ≢ []
  expire_is_some e = cc

  reports_are_some : kind_words reports_alone ≢ []
  reports_are_some e = cc

  pub items_are : (cs : List Change) (expiry retention : Option ℤ) → AllByRecursion (λ c. length (compact (payload_of c)) ≤ most_payload) cs → IfMoment expiry → IfMoment retention
      → AllByRecursion IsOwnText (map (λ c. command (command_of received c)) cs ++ (sweep_if expire_alone expiry ++ sweep_if reports_alone retention))
  items_are cs expiry retention short e r =
      all_both IsOwnText (map (λ c. command (command_of received c)) cs) (sweep_if expire_alone expiry ++ sweep_if reports_alone retention) (commands_are cs short)
      (all_both IsOwnText (sweep_if expire_alone expiry) (sweep_if reports_alone retention) (sweep_is expire_alone expiry expire_is_some e) (sweep_is reports_alone retention reports_are_some r))

  -- ---- the whole

  pub items_from : (p : ℕ) (items : List Item) → AllByRecursion IsOwnText items → p + length (flat_map item_text items) ≤ most_spool → ItemsFrom received p (flat_map item_text items) items whole
  items_from p [] h few = refl
  items_from p (item ∷ items) h few =
      let long = length-append (item_text item) (flat_map item_text items) in (
        item_text item,
        flat_map item_text items,
        h.0,
        refl,
        omega (arith, few, long),
        items_from (p + length (item_text item)) items h.1 (omega (arith, few, long)),
      )
