-- What is put together from fields that were taken out of their object is what the table says of the object.
use Rattle.std.proofs.Common.{◌≡◌, ℕ, ℤ, List, [], Bool, Ok, Err, Option, refl}
use Rattle.std.specs.Prelude.{unwrap_or, false}
use Rattle.wire_fields.specs.text_spec.Json.{Json}
use Rattle.wire_fields.specs.fleet_rows.Texts.{sorted_texts}
use Rattle.wire_fields.specs.fleet_rows.declared.change.Change.TheVariants as change
use Rattle.wire_fields.specs.fleet_rows.declared.command.Kind.TheVariants as kind
use Rattle.wire_fields.specs.fleet_rows.declared.catalog.Resource.{Resource}
use Rattle.wire_fields.specs.fleet_rows.declared.catalog.Edge.{Edge}
use Rattle.wire_fields.specs.fleet_rows.declared.catalog.CatalogChange.{CatalogChange}
use Rattle.wire_fields.specs.fleet_rows.declared.refusal.Field.TheVariants as field
use Rattle.wire_fields.specs.wire_spec.Table.{Pairs, Checked, ◌>>=◌, object_change, resource, members, each_from, edge, distinct_edges, resources_from, outer}
use Rattle.wire_catalog.specs.InOrder.{fields_of, change_in_order, resource_fields_of, resource_in_order, tag}

-- what is made of a list once it is read
abbrev catalog_of : List ℕ → List ℕ → Option (List ℕ) → Option (List ℕ) → Option (List ℕ) → Option (List ℕ) → Option (List ℕ) → ℤ → Option (List ℕ) → List Edge → List Resource → CatalogChange
catalog_of certname version environment transaction_uuid catalog_uuid code_id job_id moment producer edges resources = record { certname = certname; version = version; environment = environment; transaction_uuid = transaction_uuid; catalog_uuid = catalog_uuid; code_id = code_id; job_id = job_id; stamp = moment; producer = producer; edges = edges; resources = resources }

abbrev resource_of : List ℕ → List ℕ → Bool → Option (List ℕ) → Option ℕ → List (List ℕ) → Pairs → Resource
resource_of rtype title exported file line tags parameters = record { rtype = rtype; title = title; exported = exported; file = file; line = line; tags = tags; parameters = parameters }

mapped : {A B C : Type 0} (c : Checked A) (f : A → B) (k : B → Checked C) → (c >>= (λ a. Ok (f a))) >>= k ≡ c >>= (λ a. k (f a))
mapped (Ok a) f k = refl
mapped (Err refusal) f k = refl

pub catalog_in_table : (ms : Pairs) → change_in_order (fields_of ms) ≡ object_change kind.Catalog ms
catalog_in_table ms = λ i.
    ((fields_of ms).certname >>= (λ certname.
    (fields_of ms).version >>= (λ version.
    (fields_of ms).environment >>= (λ environment.
    (fields_of ms).transaction_uuid >>= (λ transaction_uuid.
    (fields_of ms).catalog_uuid >>= (λ catalog_uuid.
    (fields_of ms).code_id >>= (λ code_id.
    (fields_of ms).job_id >>= (λ job_id.
    (fields_of ms).stamp >>= (λ moment.
    (fields_of ms).producer >>= (λ producer.
    (fields_of ms).edges >>= (λ edge_list.
    mapped (each_from 0 edge edge_list) distinct_edges (λ edges.
    (fields_of ms).resources >>= (λ resource_list.
    resources_from [] 0 resource_list >>= (λ resources.
    Ok (catalog_of certname version environment transaction_uuid catalog_uuid code_id job_id moment producer edges resources)))) i))))))))))) >>= (λ c. Ok (change.Catalog c))

pub resource_in_table : (i : ℕ) (j : Json) (ms : Pairs) → Ok ms ≡ members (outer i field.Resources) j → resource_in_order i (resource_fields_of i ms) ≡ resource i j
resource_in_table i j ms e = rw (← e) (λ k.
    (resource_fields_of i ms).rtype >>= (λ rtype.
    (resource_fields_of i ms).title >>= (λ title.
    (resource_fields_of i ms).exported >>= (λ exported.
    (resource_fields_of i ms).file >>= (λ file.
    (resource_fields_of i ms).line >>= (λ line.
    (resource_fields_of i ms).tags >>= (λ list.
    mapped (each_from 0 (tag i) (unwrap_or list [])) sorted_texts (λ tags.
    (resource_fields_of i ms).parameters >>= (λ parameters.
    Ok (resource_of rtype title (unwrap_or exported false) file line tags (unwrap_or parameters [])))) k)))))))
