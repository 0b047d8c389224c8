-- What is put together from fields that were taken out of their object is what the table says of the object.
use Rattle.std.proofs.Common.{◌≡◌, ◌∙◌, ℕ, ℤ, List, [], Bool, Ok, Err, Option, refl}
use Rattle.std.specs.Prelude.{unwrap_or}
use Rattle.wire_fields.specs.text_spec.Json.{Json}
use Rattle.wire_fields.specs.fleet_rows.declared.change.Change.TheVariants as change
use Rattle.wire_fields.specs.fleet_rows.declared.change.ReportChange.{ReportChange}
use Rattle.wire_fields.specs.fleet_rows.declared.command.Kind.TheVariants as kind
use Rattle.wire_fields.specs.fleet_rows.declared.refusal.Field.{Field}
use Rattle.wire_fields.specs.fleet_rows.declared.refusal.Field.TheVariants as field
use Rattle.wire_fields.specs.wire_spec.Table.{Pairs, Checked, ◌>>=◌, object_change, members, items, text, stamp, required, optional, each_from, event, report_resource, object_in, outer, inner}
use Rattle.wire_fields.specs.Checks.{checked}
use Rattle.wire_report.specs.InOrder.{fields_of, change_in_order, event_fields, resource_fields}
use Rattle.wire_report.proofs.KeptLaws.{Keeps, checked-bind}

grouped : {A B C : Type 0} (c : Checked A) (f : A → Checked B) (k : B → Checked C) → (c >>= f) >>= k ≡ c >>= (λ a. f a >>= k)
grouped (Ok a) f k = refl
grouped (Err refusal) f k = refl

regrouped : {A B C X Y Z D : Type 0} (a : Checked A) (b : Checked B) (c : Checked C) (f : A → Checked X) (g : B → Checked Y) (h : C → Checked Z) (k : X → Y → Z → Checked D) → (a >>= f) >>= (λ x. (b >>= g) >>= (λ y. (c >>= h) >>= (λ z. k x y z))) ≡ a >>= (λ p. f p >>= (λ x. b >>= (λ q. g q >>= (λ y. c >>= (λ r. h r >>= (λ z. k x y z))))))
regrouped a b c f g h k =
    grouped a f (λ x. (b >>= g) >>= (λ y. (c >>= h) >>= (λ z. k x y z)))
    ∙ (λ n. a >>= (λ p. f p >>= (λ x. grouped b g (λ y. (c >>= h) >>= (λ z. k x y z)) n)))
    ∙ (λ n. a >>= (λ p. f p >>= (λ x. b >>= (λ q. g q >>= (λ y. grouped c h (λ z. k x y z) n)))))

-- ---- events and resources

event_step : {A B C D : Type 0} (j : Json) (a : Checked A) (b : Checked B) (c : Checked C) (d : Checked D) → checked (a >>= (λ x. b >>= (λ y. c >>= (λ z. d >>= (λ w. Ok j))))) ≡ a >>= (λ x. b >>= (λ y. c >>= (λ z. d >>= (λ w. Ok tt))))
event_step j (Ok x) (Ok y) (Ok z) (Ok w) = refl
event_step j (Ok x) (Ok y) (Ok z) (Err refusal) = refl
event_step j (Ok x) (Ok y) (Err refusal) d = refl
event_step j (Ok x) (Err refusal) c d = refl
event_step j (Err refusal) b c d = refl

pub event_checked : (i k : ℕ) (j : Json) → checked (event i k j) ≡ members (inner i k field.Events) j >>= event_fields i k
event_checked i k j =
    checked-bind (members (inner i k field.Events) j) (λ ms. required text (inner i k field.Status) ms >>= (λ x. optional stamp (inner i k field.Timestamp) ms >>= (λ y. optional text (inner i k field.Property) ms >>= (λ z. optional text (inner i k field.Message) ms >>= (λ w. Ok j)))))
    ∙ (λ n. members (inner i k field.Events) j >>= (λ ms. event_step j (required text (inner i k field.Status) ms) (optional stamp (inner i k field.Timestamp) ms) (optional text (inner i k field.Property) ms) (optional text (inner i k field.Message) ms) n))

resource_step : {A B C D : Type 0} (j : Json) (a : Checked A) (b : Checked B) (c : Checked C) (f : C → Checked D) → checked (a >>= (λ x. b >>= (λ y. c >>= (λ z. f z >>= (λ w. Ok j))))) ≡ a >>= (λ x. b >>= (λ y. (c >>= f) >>= (λ w. Ok tt)))
resource_step j (Ok x) (Ok y) (Ok z) f = checked-bind (f z) (λ w. Ok j)
resource_step j (Ok x) (Ok y) (Err refusal) f = refl
resource_step j (Ok x) (Err refusal) c f = refl
resource_step j (Err refusal) b c f = refl

pub resource_checked : (i : ℕ) (j : Json) → checked (report_resource i j) ≡ members (outer i field.Resources) j >>= resource_fields i
resource_checked i j =
    checked-bind (members (outer i field.Resources) j) (λ ms. required text (outer i field.ResourceType) ms >>= (λ x. required text (outer i field.ResourceTitle) ms >>= (λ y. optional items (outer i field.Events) ms >>= (λ list. each_from 0 (event i) (unwrap_or list []) >>= (λ w. Ok j)))))
    ∙ (λ n. members (outer i field.Resources) j >>= (λ ms. resource_step j (required text (outer i field.ResourceType) ms) (required text (outer i field.ResourceTitle) ms) (optional items (outer i field.Events) ms) (λ list. each_from 0 (event i) (unwrap_or list [])) n))

pub object_checked : (list : Field) (i : ℕ) (j : Json) → checked (object_in list i j) ≡ checked (members (outer i list) j)
object_checked list i j = checked-bind (members (outer i list) j) (λ ms. Ok j)

-- ---- what passes is given as it came

keeps_step : {A : Type 0} (j : Json) (m : Checked A) (f : A → Checked Json) → ((a : A) → f a ≡ checked (f a) >>= (λ u. Ok j)) → m >>= f ≡ checked (m >>= f) >>= (λ u. Ok j)
keeps_step j (Ok a) f keeps = keeps a
keeps_step j (Err refusal) f keeps = refl

pub keeps_event : (i : ℕ) → Keeps (event i)
keeps_event i k j = keeps_step j (members (inner i k field.Events) j) _ (λ ms. keeps_step j (required text (inner i k field.Status) ms) _ (λ x. keeps_step j (optional stamp (inner i k field.Timestamp) ms) _ (λ y. keeps_step j (optional text (inner i k field.Property) ms) _ (λ z. keeps_step j (optional text (inner i k field.Message) ms) _ (λ w. refl)))))

pub keeps_resource : Keeps report_resource
keeps_resource i j = keeps_step j (members (outer i field.Resources) j) _ (λ ms. keeps_step j (required text (outer i field.ResourceType) ms) _ (λ x. keeps_step j (required text (outer i field.ResourceTitle) ms) _ (λ y. keeps_step j (optional items (outer i field.Events) ms) _ (λ list. keeps_step j (each_from 0 (event i) (unwrap_or list [])) _ (λ w. refl)))))

pub keeps_object : (list : Field) → Keeps (object_in list)
keeps_object list i j = keeps_step j (members (outer i list) j) _ (λ ms. refl)

-- ---- a report

abbrev report_of : List ℕ → Option (List ℕ) → Option (List ℕ) → Option ℕ → Option (List ℕ) → Option ℤ → Option ℤ → ℤ → Option (List ℕ) → Option Bool → Option (List ℕ) → Option (List ℕ) → List Json → List Json → List Json → ReportChange
report_of certname environment puppet_version report_format configuration_version start_time end_time moment producer noop status transaction_uuid resources logs metrics = record { certname = certname; environment = environment; puppet_version = puppet_version; report_format = report_format; configuration_version = configuration_version; start_time = start_time; end_time = end_time; stamp = moment; producer = producer; noop = noop; status = status; transaction_uuid = transaction_uuid; resources = resources; logs = logs; metrics = metrics }

pub report_in_table : (ms : Pairs) → change_in_order (fields_of ms) ≡ object_change kind.Report ms
report_in_table ms = λ i.
    ((fields_of ms).certname >>= (λ certname.
    (fields_of ms).environment >>= (λ environment.
    (fields_of ms).puppet_version >>= (λ puppet_version.
    (fields_of ms).report_format >>= (λ report_format.
    (fields_of ms).configuration_version >>= (λ configuration_version.
    (fields_of ms).start_time >>= (λ start_time.
    (fields_of ms).end_time >>= (λ end_time.
    (fields_of ms).stamp >>= (λ moment.
    (fields_of ms).producer >>= (λ producer.
    (fields_of ms).noop >>= (λ noop.
    (fields_of ms).status >>= (λ status.
    (fields_of ms).transaction_uuid >>= (λ transaction_uuid.
    regrouped (fields_of ms).resources (fields_of ms).logs (fields_of ms).metrics (λ list. each_from 0 report_resource (unwrap_or list [])) (λ list. each_from 0 (object_in field.Logs) (unwrap_or list [])) (λ list. each_from 0 (object_in field.Metrics) (unwrap_or list [])) (λ resources logs metrics. Ok (report_of certname environment puppet_version report_format configuration_version start_time end_time moment producer noop status transaction_uuid resources logs metrics)) i))))))))))))) >>= (λ c. Ok (change.Report c))
