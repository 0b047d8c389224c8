-- What a command decodes to is told by its answer, and the key of one that decodes is that of its change.
use Rattle.std.proofs.Common.{◌≡◌, ◌∙◌, ℕ, ◌==◌, ℤ, List, [], ◌∷◌, arith, refl, sym, ap, subst, Bool, true, false, if◌then◌else◌, Option, Some, None, Ok, Err}
use Rattle.std.specs.Prelude.{codes}
use Rattle.core_machine.proofs.of_plain_laws.Options.{none_some, some_is}
use Rattle.core_machine.specs.text_spec.Json as json
use Rattle.core_machine.specs.text_spec.Json.{Json, members_list, find_member}
use Rattle.core_machine.specs.text_spec.StampReader.{stamp_of}
use Rattle.core_machine.specs.json_machine.Machine.{value, verdict}
use Rattle.core_machine.specs.json_machine.Verdict.{Verdict, spelled, not_json, too_deep, Means}
use Rattle.core_machine.proofs.of_json_machine.Law.{verdict_means}
use Rattle.core_machine.specs.json_read.Heads.{text_in, nonempty, stamp_in, both, head_of, head_told}
use Rattle.core_machine.specs.fleet_rows.Change.{change_certname, change_kind, change_stamp}
use Rattle.core_machine.specs.fleet_rows.declared.catalog.CatalogChange.{CatalogChange}
use Rattle.core_machine.specs.fleet_rows.declared.change.Change.{Change}
use Rattle.core_machine.specs.fleet_rows.declared.change.Change.TheVariants as change
use Rattle.core_machine.specs.fleet_rows.declared.change.DeactivateChange.{DeactivateChange}
use Rattle.core_machine.specs.fleet_rows.declared.change.ExpirationChange.{ExpirationChange}
use Rattle.core_machine.specs.fleet_rows.declared.change.FactsChange.{FactsChange}
use Rattle.core_machine.specs.fleet_rows.declared.command.Command.{Command}
use Rattle.core_machine.specs.fleet_rows.declared.command.Kind.{Kind}
use Rattle.core_machine.specs.fleet_rows.declared.command.Kind.TheVariants as kind
use Rattle.core_machine.specs.fleet_rows.declared.refusal.Field.TheVariants as field
use Rattle.core_machine.specs.fleet_rows.declared.refusal.Place.{Place}
use Rattle.core_machine.specs.fleet_rows.declared.refusal.Refusal.TheVariants as refusal
use Rattle.core_machine.specs.wire_spec.Decode as decode
use Rattle.core_machine.specs.wire_spec.Decode.{DecodeOf, version_of}
use Rattle.core_machine.specs.wire_spec.Table.{Pairs, top, text, nonempty_text, bool, stamp, stamp_or, members, items, taken, required, optional, each_from, edge, resources_from, facts_change, catalog_change, report_change, deactivate_change, expiration_change, object_change, value_change}
use Rattle.checkpoint_spec.proofs.of_wire_laws.LawfulFields.{refused, answered, bound}
use Rattle.core_machine.specs.core_spec.Commands.{verdict_of, told, answer_of, Key, keyed, key_of}

-- ---- answers

told_decodes : (c : Command) (v : Verdict) → c.version ≡ version_of c.kind → Means c.payload v → DecodeOf c (told c.kind v)
told_decodes c (spelled v) e h = decode.value v e h refl
told_decodes c (not_json at) e h = decode.not_json at e h refl
told_decodes c (too_deep at) e h = decode.too_deep at e h refl

by_version : (c : Command) (b : Bool) → (c.version == version_of c.kind) ≡ b → DecodeOf c (if b then told c.kind (verdict_of c.payload) else Err refusal.BadVersion)
unfolding verdict_of
by_version c true e = told_decodes c (verdict 127 [] value 0 c.payload) (grind arith) (verdict_means c.payload)
by_version c false e = decode.bad_version (λ same. grind arith) refl

pub answer_decodes : (c : Command) → DecodeOf c (answer_of c)
unfolding answer_of
answer_decodes c = by_version c (c.version == version_of c.kind) refl

-- ---- heads

name_in : (o : Option Json) (p : Place) (s : List ℕ) → taken nonempty_text p o ≡ Ok s → nonempty (text_in o) ≡ Some s
name_in None p s h = refused _ s h
name_in (Some json.null) p s h = refused _ s h
name_in (Some (json.boolean b)) p s h = refused _ s h
name_in (Some (json.number t)) p s h = refused _ s h
name_in (Some (json.string [])) p s h = refused _ s h
name_in (Some (json.string (x ∷ t))) p s h = ap (λ z. Some z) (answered (x ∷ t) s h)
name_in (Some (json.array js)) p s h = refused _ s h
name_in (Some (json.object ms)) p s h = refused _ s h

stamp_told : (o : Option ℤ) (p : Place) (m : ℤ) → stamp_or p o ≡ Ok m → o ≡ Some m
stamp_told None p m h = refused _ m h
stamp_told (Some n) p m h = ap (λ z. Some z) (answered n m h)

moment_in : (o : Option Json) (p : Place) (m : ℤ) → taken stamp p o ≡ Ok m → stamp_in (text_in o) ≡ Some m
moment_in None p m h = refused _ m h
moment_in (Some json.null) p m h = refused _ m h
moment_in (Some (json.boolean b)) p m h = refused _ m h
moment_in (Some (json.number t)) p m h = refused _ m h
moment_in (Some (json.string s)) p m h = stamp_told (stamp_of s) p m h
moment_in (Some (json.array js)) p m h = refused _ m h
moment_in (Some (json.object ms)) p m h = refused _ m h

abbrev head_in : Pairs → Option (List ℕ × ℤ)
head_in ms = both (nonempty (text_in (find_member (codes "certname") ms))) (stamp_in (text_in (find_member (codes "producer_timestamp") ms)))

head_is : (ms : Pairs) (s : List ℕ) (m : ℤ) → required nonempty_text (top field.Certname) ms ≡ Ok s → required stamp (top field.ProducerTimestamp) ms ≡ Ok m → head_in ms ≡ Some (s, m)
head_is ms s m h k = λ i. both (name_in (find_member (codes "certname") ms) (top field.Certname) s h i) (moment_in (find_member (codes "producer_timestamp") ms) (top field.ProducerTimestamp) m k i)

facts_head : (ms : Pairs) (c : FactsChange) → facts_change ms ≡ Ok c → head_in ms ≡ Some (c.certname, c.stamp)
facts_head ms c h =
    let certname = bound (required nonempty_text (top field.Certname) ms) _ c h in
    let environment = bound (optional text (top field.Environment) ms) _ c certname.2 in
    let values = bound (required members (top field.Values) ms) _ c environment.2 in
    let moment = bound (required stamp (top field.ProducerTimestamp) ms) _ c values.2 in
    let producer = bound (optional text (top field.Producer) ms) _ c moment.2 in
    subst (λ (c : FactsChange). head_in ms ≡ Some (c.certname, c.stamp)) (answered _ c producer.2) (head_is ms certname.0 moment.0 certname.1 moment.1)

catalog_head : (ms : Pairs) (c : CatalogChange) → catalog_change ms ≡ Ok c → head_in ms ≡ Some (c.certname, c.stamp)
catalog_head ms c h =
    let certname = bound (required nonempty_text (top field.Certname) ms) _ c h in
    let version = bound (required text (top field.Version) ms) _ c certname.2 in
    let environment = bound (optional text (top field.Environment) ms) _ c version.2 in
    let transaction_uuid = bound (optional text (top field.TransactionUuid) ms) _ c environment.2 in
    let catalog_uuid = bound (optional text (top field.CatalogUuid) ms) _ c transaction_uuid.2 in
    let code_id = bound (optional text (top field.CodeId) ms) _ c catalog_uuid.2 in
    let job_id = bound (optional text (top field.JobId) ms) _ c code_id.2 in
    let moment = bound (required stamp (top field.ProducerTimestamp) ms) _ c job_id.2 in
    let producer = bound (optional text (top field.Producer) ms) _ c moment.2 in
    let edge_list = bound (required items (top field.Edges) ms) _ c producer.2 in
    let edges = bound (each_from 0 edge edge_list.0) _ c edge_list.2 in
    let resource_list = bound (required items (top field.Resources) ms) _ c edges.2 in
    let resources = bound (resources_from [] 0 resource_list.0) _ c resource_list.2 in
    subst (λ (c : CatalogChange). head_in ms ≡ Some (c.certname, c.stamp)) (answered _ c resources.2) (head_is ms certname.0 moment.0 certname.1 moment.1)

deactivation_head : (ms : Pairs) (c : DeactivateChange) → deactivate_change ms ≡ Ok c → head_in ms ≡ Some (c.certname, c.stamp)
deactivation_head ms c h =
    let certname = bound (required nonempty_text (top field.Certname) ms) _ c h in
    let moment = bound (required stamp (top field.ProducerTimestamp) ms) _ c certname.2 in
    subst (λ (c : DeactivateChange). head_in ms ≡ Some (c.certname, c.stamp)) (answered _ c moment.2) (head_is ms certname.0 moment.0 certname.1 moment.1)

expiration_head : (ms : Pairs) (c : ExpirationChange) → expiration_change ms ≡ Ok c → head_in ms ≡ Some (c.certname, c.stamp)
expiration_head ms c h =
    let certname = bound (required nonempty_text (top field.Certname) ms) _ c h in
    let moment = bound (required stamp (top field.ProducerTimestamp) ms) _ c certname.2 in
    let expire = bound (required members (top field.Expire) ms) _ c moment.2 in
    let facts = bound (required bool (top field.ExpireFacts) expire.0) _ c expire.2 in
    subst (λ (c : ExpirationChange). head_in ms ≡ Some (c.certname, c.stamp)) (answered _ c facts.2) (head_is ms certname.0 moment.0 certname.1 moment.1)

-- ---- keys

-- what the key of a command is that makes this change
abbrev pub key_of_change : Change → Option Key
key_of_change c = keyed (change_kind c) (Some (change_certname c, change_stamp c))

object_key : (k : Kind) (ms : Pairs) (c : Change) → object_change k ms ≡ Ok c → keyed k (head_in ms) ≡ key_of_change c
object_key kind.Facts ms c h =
    let b = bound (facts_change ms) _ c h in
    ap (keyed kind.Facts) (facts_head ms b.0 b.1) ∙ ap key_of_change (answered (change.Facts b.0) c b.2)
object_key kind.Catalog ms c h =
    let b = bound (catalog_change ms) _ c h in
    ap (keyed kind.Catalog) (catalog_head ms b.0 b.1) ∙ ap key_of_change (answered (change.Catalog b.0) c b.2)
object_key kind.Report ms c h =
    let b = bound (report_change ms) _ c h in
    no_key (head_in ms) ∙ ap key_of_change (answered (change.Report b.0) c b.2)
  where
    no_key : (head : Option (List ℕ × ℤ)) → keyed kind.Report head ≡ None
    no_key None = refl
    no_key (Some h) = refl
object_key kind.Deactivate ms c h =
    let b = bound (deactivate_change ms) _ c h in
    ap (keyed kind.Deactivate) (deactivation_head ms b.0 b.1) ∙ ap key_of_change (answered (change.Deactivate b.0) c b.2)
object_key kind.Expiration ms c h =
    let b = bound (expiration_change ms) _ c h in
    ap (keyed kind.Expiration) (expiration_head ms b.0 b.1) ∙ ap key_of_change (answered (change.Expiration b.0) c b.2)

value_key : (k : Kind) (v : Json) (c : Change) → value_change k v ≡ Ok c → keyed k (head_of v) ≡ key_of_change c
value_key k json.null c h = refused _ c h
value_key k (json.boolean b) c h = refused _ c h
value_key k (json.number t) c h = refused _ c h
value_key k (json.string s) c h = refused _ c h
value_key k (json.array js) c h = refused _ c h
value_key k (json.object ms) c h = object_key k (members_list ms) c h

told_key : (k : Kind) (v : Verdict) (c : Change) → told k v ≡ Ok c → keyed k (head_told v) ≡ key_of_change c
told_key k (spelled v) c h = value_key k v c h
told_key k (not_json at) c h = refused _ c h
told_key k (too_deep at) c h = refused _ c h

version_key : (c : Command) (b : Bool) (d : Change) → (if b then told c.kind (verdict_of c.payload) else Err refusal.BadVersion) ≡ Ok d → keyed c.kind (head_told (verdict_of c.payload)) ≡ key_of_change d
version_key c true d h = told_key c.kind (verdict_of c.payload) d h
version_key c false d h = refused _ d h

-- a command that decodes has the key of its change
pub key_is_of_change : (c : Command) (d : Change) → answer_of c ≡ Ok d → key_of c ≡ key_of_change d
unfolding answer_of key_of
key_is_of_change c d h = version_key c (c.version == version_of c.kind) d h

-- and where it has one, its node, kind and stamp are those of its change
pub record IsKeyOf (k : Key) (d : Change) : Type 0 where
  pub certname : k.0.certname ≡ change_certname d
  pub of_kind : k.0.kind ≡ change_kind d
  pub stamp : k.1 ≡ change_stamp d
  pub no_report : change_kind d ≡ kind.Report → ⊥

keyed_as : (n : Kind) (d : Change) (k : Key) → change_kind d ≡ n → Some (record { certname = change_certname d; kind = n }, change_stamp d) ≡ Some k → (n ≡ kind.Report → ⊥) → IsKeyOf k d
keyed_as n d k e h other =
    let same = some_is _ k h in
    record {
      certname = ap (λ (k : Key). k.0.certname) (sym same);
      of_kind = ap (λ (k : Key). k.0.kind) (sym same) ∙ sym e;
      stamp = ap (λ (k : Key). k.1) (sym same);
      no_report = λ f. other (sym e ∙ f);
    }

by_kind : (n : Kind) (d : Change) (k : Key) → change_kind d ≡ n → keyed n (Some (change_certname d, change_stamp d)) ≡ Some k → IsKeyOf k d
by_kind kind.Facts d k e h = keyed_as kind.Facts d k e h (λ f. cc)
by_kind kind.Catalog d k e h = keyed_as kind.Catalog d k e h (λ f. cc)
by_kind kind.Report d k e h = none_some k h
by_kind kind.Deactivate d k e h = keyed_as kind.Deactivate d k e h (λ f. cc)
by_kind kind.Expiration d k e h = keyed_as kind.Expiration d k e h (λ f. cc)

pub key_tells : (c : Command) (d : Change) (k : Key) → answer_of c ≡ Ok d → key_of c ≡ Some k → IsKeyOf k d
key_tells c d k h e = by_kind (change_kind d) d k refl (sym (key_is_of_change c d h) ∙ e)

-- no report has a key
keyed_no_report : (n : Kind) (o : Option (List ℕ × ℤ)) (k : Key) → keyed n o ≡ Some k → k.0.kind ≡ kind.Report → ⊥
keyed_no_report n None k h e = none_some k h
keyed_no_report kind.Facts (Some x) k h e = let same = some_is _ k h in let is : kind.Facts ≡ kind.Report = ap (λ (k : Key). k.0.kind) same ∙ e in cc
keyed_no_report kind.Catalog (Some x) k h e = let same = some_is _ k h in let is : kind.Catalog ≡ kind.Report = ap (λ (k : Key). k.0.kind) same ∙ e in cc
keyed_no_report kind.Report (Some x) k h e = none_some k h
keyed_no_report kind.Deactivate (Some x) k h e = let same = some_is _ k h in let is : kind.Deactivate ≡ kind.Report = ap (λ (k : Key). k.0.kind) same ∙ e in cc
keyed_no_report kind.Expiration (Some x) k h e = let same = some_is _ k h in let is : kind.Expiration ≡ kind.Report = ap (λ (k : Key). k.0.kind) same ∙ e in cc

pub key_is_no_report : (c : Command) (k : Key) → key_of c ≡ Some k → k.0.kind ≡ kind.Report → ⊥
unfolding key_of
key_is_no_report c k h e = keyed_no_report c.kind (head_told (verdict_of c.payload)) k h e
