-- What a command decodes to is a change of its kind.
use Rattle.std.proofs.Common.{◌≡◌, refl, sym, subst, Ok, Err}
use Rattle.json_read.specs.text_spec.Json.{Json, null, boolean, number, string, array, object, members_list}
use Rattle.wire_catalog.specs.fleet_rows.Change.{change_kind}
use Rattle.wire_catalog.specs.fleet_rows.declared.change.Change.{Change}
use Rattle.wire_catalog.specs.fleet_rows.declared.change.Change.TheVariants as change
use Rattle.wire_catalog.specs.fleet_rows.declared.command.Command.{Command}
use Rattle.wire_catalog.specs.fleet_rows.declared.command.Kind.{Kind}
use Rattle.wire_catalog.specs.fleet_rows.declared.command.Kind.TheVariants as kind
use Rattle.wire_catalog.specs.wire_spec.Decode.{DecodeOf, bad_version, not_json, too_deep, value}
use Rattle.wire_catalog.specs.wire_spec.Table.{Pairs, Checked, ◌>>=◌, object_change, value_change, facts_change, catalog_change, report_change, deactivate_change, expiration_change}

-- the change is of that kind, where there is one
abbrev IsOfKind : Kind → Checked Change → Type 0
IsOfKind k (Ok c) = change_kind c ≡ k
IsOfKind k (Err refusal) = Unit {0}

of_made : {A : Type 0} (k : Kind) (make : A → Change) → ((a : A) → change_kind (make a) ≡ k) → (checked : Checked A) → IsOfKind k (checked >>= (λ a. Ok (make a)))
of_made k make h (Ok a) = h a
of_made k make h (Err refusal) = tt

of_object_kind : (k : Kind) (ms : Pairs) → IsOfKind k (object_change k ms)
of_object_kind kind.Facts ms = of_made kind.Facts (λ c. change.Facts c) (λ c. refl) (facts_change ms)
of_object_kind kind.Catalog ms = of_made kind.Catalog (λ c. change.Catalog c) (λ c. refl) (catalog_change ms)
of_object_kind kind.Report ms = of_made kind.Report (λ c. change.Report c) (λ c. refl) (report_change ms)
of_object_kind kind.Deactivate ms = of_made kind.Deactivate (λ c. change.Deactivate c) (λ c. refl) (deactivate_change ms)
of_object_kind kind.Expiration ms = of_made kind.Expiration (λ c. change.Expiration c) (λ c. refl) (expiration_change ms)

of_value_kind : (k : Kind) (v : Json) → IsOfKind k (value_change k v)
of_value_kind k null = tt
of_value_kind k (boolean b) = tt
of_value_kind k (number s) = tt
of_value_kind k (string s) = tt
of_value_kind k (array js) = tt
of_value_kind k (object ms) = of_object_kind k (members_list ms)

pub of_its_kind : (c : Command) (change : Change) → DecodeOf c (Ok change) → change_kind change ≡ c.kind
of_its_kind c change (bad_version other e) = cc
of_its_kind c change (not_json at taken h e) = cc
of_its_kind c change (too_deep at taken h e) = cc
of_its_kind c change (value v taken h e) = subst (IsOfKind c.kind) (sym e) (of_value_kind c.kind v)
