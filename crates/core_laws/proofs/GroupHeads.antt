-- Which payloads give a command its group.
use Rattle.std.proofs.Common.{◌≡◌, ◌≢◌, ◌∙◌, ℕ, ℤ, List, [], ◌∷◌, codes, refl, sym, ap, subst, Option, Some, None}
use Rattle.core_machine.proofs.of_plain_laws.Options.{none_some, some_same}
use Rattle.core_machine.specs.text_spec.Json as json
use Rattle.core_machine.specs.text_spec.Json.{Json, Members, members_list, find_member}
use Rattle.core_machine.specs.text_spec.StampReader.{stamp_of}
use Rattle.core_machine.specs.json_machine.Machine.{value, verdict}
use Rattle.core_machine.specs.json_machine.Verdict.{Verdict, spelled, not_json, too_deep, Means}
use Rattle.core_machine.proofs.of_json_machine.Law.{verdict_means, only_spelled}
use Rattle.core_machine.specs.json_read.Heads.{text_in, nonempty, stamp_in, both, head_of, head_told}
use Rattle.checkpoint_spec.proofs.of_text_laws.StampLaws.{stamps_are_read}
use Rattle.core_machine.specs.fleet_rows.declared.command.Kind.{Kind}
use Rattle.core_machine.specs.fleet_rows.declared.command.Kind.TheVariants as kind
use Rattle.core_machine.specs.core_spec.Commands.{verdict_of, Key, keyed, key_of}
use Rattle.core_laws.specs.Groups.{HasHead, GroupsAreThoseOfPayloads, GroupsAreOfTheKind}

-- ---- what a head is made of

text_is : (o : Option Json) (s : List ℕ) → text_in o ≡ Some s → o ≡ Some (json.string s)
text_is None s h = none_some s h
text_is (Some json.null) s h = none_some s h
text_is (Some (json.boolean b)) s h = none_some s h
text_is (Some (json.number t)) s h = none_some s h
text_is (Some (json.string t)) s h = ap (λ t. Some (json.string t)) (sym (some_same t s h))
text_is (Some (json.array js)) s h = none_some s h
text_is (Some (json.object ms)) s h = none_some s h

empty_isnt : (c : ℕ) (cs : List ℕ) → c ∷ cs ≢ []
empty_isnt c cs h = cc

nonempty_is : (o : Option (List ℕ)) (s : List ℕ) → nonempty o ≡ Some s → (o ≡ Some s) × (s ≢ [])
nonempty_is None s h = none_some s h
nonempty_is (Some []) s h = none_some s h
nonempty_is (Some (c ∷ cs)) s h = (h, subst (λ t. t ≢ []) (sym (some_same (c ∷ cs) s h)) (empty_isnt c cs))

still_nonempty : (s : List ℕ) → s ≢ [] → nonempty (Some s) ≡ Some s
still_nonempty [] h = absurd (h refl)
still_nonempty (c ∷ cs) h = refl

stamp_is : (o : Option (List ℕ)) (m : ℤ) → stamp_in o ≡ Some m → (s : List ℕ) × (o ≡ Some s) × (stamp_of s ≡ Some m)
stamp_is None m h = none_some m h
stamp_is (Some s) m h = (s, refl, h)

both_are : (o : Option (List ℕ)) (p : Option ℤ) (s : List ℕ) (m : ℤ) → both o p ≡ Some (s, m) → (o ≡ Some s) × (p ≡ Some m)
both_are None p s m h = none_some (s, m) h
both_are (Some t) None s m h = none_some (s, m) h
both_are (Some t) (Some n) s m h =
    let same : ◌≡◌ {A = List ℕ × ℤ} (s, m) (t, n) = some_same (t, n) (s, m) h in
    (ap (λ (k : List ℕ × ℤ). Some k.0) (sym same), ap (λ (k : List ℕ × ℤ). Some k.1) (sym same))

-- ---- from the head to the payload

told : (payload : List ℕ) (v : Verdict) (s : List ℕ) (m : ℤ) → Means payload v → head_told v ≡ Some (s, m) → HasHead payload s m
told payload (spelled json.null) s m means h = none_some (s, m) h
told payload (spelled (json.boolean b)) s m means h = none_some (s, m) h
told payload (spelled (json.number t)) s m means h = none_some (s, m) h
told payload (spelled (json.string t)) s m means h = none_some (s, m) h
told payload (spelled (json.array js)) s m means h = none_some (s, m) h
told payload (spelled (json.object ms)) s m means h =
    let parts = both_are (nonempty (text_in (find_member (codes "certname") (members_list ms)))) (stamp_in (text_in (find_member (codes "producer_timestamp") (members_list ms)))) s m h in
    let name = nonempty_is (text_in (find_member (codes "certname") (members_list ms))) s parts.0 in
    let moment = stamp_is (text_in (find_member (codes "producer_timestamp") (members_list ms))) m parts.1 in
    record {
      members = ms;
      stamp = moment.0;
      spells = means;
      certname_is = text_is (find_member (codes "certname") (members_list ms)) s name.0;
      nonempty = name.1;
      stamp_is = text_is (find_member (codes "producer_timestamp") (members_list ms)) moment.0 moment.1;
      names = (stamps_are_read moment.0 m).0 moment.2;
    }
told payload (not_json at) s m means h = none_some (s, m) h
told payload (too_deep at) s m means h = none_some (s, m) h

-- ---- and back

head_is : (payload s : List ℕ) (m : ℤ) (h : HasHead payload s m) → head_of (json.object h.members) ≡ Some (s, m)
head_is payload s m h =
    λ i. both (name i) (moment i)
  where
    name : nonempty (text_in (find_member (codes "certname") (members_list h.members))) ≡ Some s
    name = ap (λ o. nonempty (text_in o)) h.certname_is ∙ still_nonempty s h.nonempty

    moment : stamp_in (text_in (find_member (codes "producer_timestamp") (members_list h.members))) ≡ Some m
    moment = ap (λ o. stamp_in (text_in o)) h.stamp_is ∙ (stamps_are_read h.stamp m).1 h.names

told_is : (payload : List ℕ) (v : Verdict) (s : List ℕ) (m : ℤ) → Means payload v → HasHead payload s m → head_told v ≡ Some (s, m)
told_is payload v s m means h = ap head_told (only_spelled payload (json.object h.members) v h.spells means) ∙ head_is payload s m h

-- ---- keys

no_report : (k : Kind) → (k ≡ kind.Report → ⊥) → (o : Option (List ℕ × ℤ)) (s : List ℕ) (m : ℤ) → o ≡ Some (s, m) → keyed k o ≡ Some (record { certname = s; kind = k }, m)
no_report kind.Facts n o s m h = ap (keyed kind.Facts) h
no_report kind.Catalog n o s m h = ap (keyed kind.Catalog) h
no_report kind.Report n o s m h = absurd (n refl)
no_report kind.Deactivate n o s m h = ap (keyed kind.Deactivate) h
no_report kind.Expiration n o s m h = ap (keyed kind.Expiration) h

pair_is : (k : Kind) (t : List ℕ × ℤ) (s : List ℕ) (m : ℤ) → ◌≡◌ {A = Option Key} (Some (record { certname = t.0; kind = k }, t.1)) (Some (record { certname = s; kind = k }, m)) → ◌≡◌ {A = List ℕ × ℤ} t (s, m)
pair_is k t s m h =
    let same : ◌≡◌ {A = Key} (record { certname = s; kind = k }, m) (record { certname = t.0; kind = k }, t.1) = some_same (record { certname = t.0; kind = k }, t.1) (record { certname = s; kind = k }, m) h in
    λ i. (sym (ap (λ (k : Key). k.0.certname) same) i, sym (ap (λ (k : Key). k.1) same) i)

keyed_is : (k : Kind) (o : Option (List ℕ × ℤ)) (s : List ℕ) (m : ℤ) → keyed k o ≡ Some (record { certname = s; kind = k }, m) → (k ≢ kind.Report) × (o ≡ Some (s, m))
keyed_is k None s m h = none_some (record { certname = s; kind = k }, m) h
keyed_is kind.Facts (Some t) s m h = ((λ e. cc), ap (λ (t : List ℕ × ℤ). Some t) (pair_is kind.Facts t s m h))
keyed_is kind.Catalog (Some t) s m h = ((λ e. cc), ap (λ (t : List ℕ × ℤ). Some t) (pair_is kind.Catalog t s m h))
keyed_is kind.Report (Some t) s m h = none_some (record { certname = s; kind = kind.Report }, m) h
keyed_is kind.Deactivate (Some t) s m h = ((λ e. cc), ap (λ (t : List ℕ × ℤ). Some t) (pair_is kind.Deactivate t s m h))
keyed_is kind.Expiration (Some t) s m h = ((λ e. cc), ap (λ (t : List ℕ × ℤ). Some t) (pair_is kind.Expiration t s m h))

pub groups_are_those_of_payloads : GroupsAreThoseOfPayloads
unfolding key_of verdict_of
groups_are_those_of_payloads c s m = (there, back)
  where
    there : keyed c.kind (head_told (verdict 127 [] value 0 c.payload)) ≡ Some (record { certname = s; kind = c.kind }, m) → (c.kind ≢ kind.Report) × HasHead c.payload s m
    there h =
        let is = keyed_is c.kind (head_told (verdict 127 [] value 0 c.payload)) s m h in
        (is.0, told c.payload (verdict 127 [] value 0 c.payload) s m (verdict_means c.payload) is.1)

    back : (c.kind ≢ kind.Report) × HasHead c.payload s m → keyed c.kind (head_told (verdict 127 [] value 0 c.payload)) ≡ Some (record { certname = s; kind = c.kind }, m)
    back h = no_report c.kind h.0 (head_told (verdict 127 [] value 0 c.payload)) s m (told_is c.payload (verdict 127 [] value 0 c.payload) s m (verdict_means c.payload) h.1)

keyed_kind : (k : Kind) (o : Option (List ℕ × ℤ)) (x : Key) → keyed k o ≡ Some x → x.0.kind ≡ k
keyed_kind k None x h = none_some x h
keyed_kind kind.Facts (Some t) x h = ap (λ (x : Key). x.0.kind) (some_same _ x h)
keyed_kind kind.Catalog (Some t) x h = ap (λ (x : Key). x.0.kind) (some_same _ x h)
keyed_kind kind.Report (Some t) x h = none_some x h
keyed_kind kind.Deactivate (Some t) x h = ap (λ (x : Key). x.0.kind) (some_same _ x h)
keyed_kind kind.Expiration (Some t) x h = ap (λ (x : Key). x.0.kind) (some_same _ x h)

pub groups_are_of_the_kind : GroupsAreOfTheKind
unfolding key_of
groups_are_of_the_kind c k h = keyed_kind c.kind (head_told (verdict_of c.payload)) k h
