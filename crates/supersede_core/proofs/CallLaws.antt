-- What the calls need of the tree and of the turns, and what they make of the list.
use Rattle.std.proofs.Common.{◌≡◌, ◌∙◌, ℕ, ℤ, suc, ◌<◌, ◌≤◌, ◌+◌, ◌-◌, ◌^◌, List, [], ◌∷◌, length, arith, refl, sym, ap, subst, Bool, true, false, not, ◌&&◌, if◌then◌else◌, Option, Some, None, is_some, IfSome, MatchOption}
use Rattle.std.specs.Prelude.{⊤}
use Rattle.std.specs.List.{AllByRecursion}
use Rattle.std.specs.Option.{option_map}
use Rattle.std.specs.String.{string_bytes}
use Rattle.entry_tree.proofs.of_plain_laws.Members.{Among, All-Among}
use Rattle.entry_tree.specs.core_spec.declared.entry.Entry.{Entry}
use Rattle.entry_tree.specs.core_spec.Commands.{Key}
use Rattle.entry_tree.specs.core_machine.Claims.{is_candidate, first_candidate, is_claimed, attempts_of}
use Rattle.entry_tree.specs.declared.waiting.Change.TheVariants.{Failed}
use Rattle.entry_tree.specs.declared.waiting.GroupKey.{GroupKey}
use Rattle.entry_tree.specs.declared.waiting.Waiting.{Waiting}
use Rattle.entry_tree.specs.Waits.{found, first_marked, unclaimed_number, bytes_in, MayChange}
use Rattle.entry_tree.specs.Waits as tree
use Rattle.supersede_core.specs.declared.members.Members.{Members}
use Rattle.supersede_core.specs.declared.turns.Turns.{Turns}
use Rattle.supersede_core.specs.Waiting.{entry_of, stands, is_queued, queued_number, payload_bytes, AreBelow}
use Rattle.supersede_core.specs.Turns.{has, claims, members_at}
use Rattle.supersede_core.specs.Index.{key_text, key_parts, key_of_group, is_of, IsKey, own_claim, claimed_number, entries, AreMarked, IsIndex}
use Rattle.supersede_core.specs.Handover.{AreSame}
use Rattle.supersede_core.proofs.AnyLaws.{claims_own}
use Rattle.supersede_core.proofs.EntryTells.{passes, passes_there, tells, stands_there, tries_there}
use Rattle.supersede_core.proofs.KeyLaws.{text_is}
use Rattle.supersede_core.proofs.TurnLaws.{of_key}
use Rattle.supersede_core.proofs.TreeEntries.{rises_entries, found_entry, found_among}
use Rattle.supersede_core.proofs.IndexLaws.{entry_among}
use Rattle.supersede_core.proofs.StepLaws.{IsThere}
use Rattle.entry_tree.specs.fleet_rows.Limits.{most_pending}

-- ---- the one of the receipt

pub there_is : (r : ℕ) (ws : List Waiting) (x : Waiting) → tree.Rises ws → Some x ≡ found r ws → IsThere r ws x
there_is r ws x h e =
    let at = found_among r ws x (sym e) in
    record { rises = rises_entries ws h; among = at.0; receipt = at.1; entry = sym (found_entry r ws) ∙ ap (option_map (λ (v : Waiting). v.entry)) (sym e) }

none_of : (r : ℕ) (ws : List Waiting) → None ≡ found r ws → entry_of r (entries ws) ≡ None
none_of r ws e = sym (found_entry r ws) ∙ ap (option_map (λ (v : Waiting). v.entry)) (sym e)

pub none_stands : (r : ℕ) (ws : List Waiting) → None ≡ found r ws → stands r (entries ws) ≡ true → ⊥
none_stands r ws e h = let no : stands r (entries ws) ≡ false = stands_there r (entries ws) ∙ ap is_some (none_of r ws e) in cc

none_passes : (p : Entry → Bool) (r : ℕ) (ws : List Waiting) → tree.Rises ws → None ≡ found r ws → passes p r (entries ws) ≡ true → ⊥
none_passes p r ws u e h = let no : passes p r (entries ws) ≡ false = tells p r (entries ws) (rises_entries ws u) ∙ ap (passes_there p) (none_of r ws e) in cc

pub none_queued : (r : ℕ) (ws : List Waiting) → tree.Rises ws → None ≡ found r ws → is_queued r (entries ws) ≡ true → ⊥
none_queued = none_passes (λ e. not e.claimed)

pub none_claimed : (r : ℕ) (ws : List Waiting) → tree.Rises ws → None ≡ found r ws → is_claimed r (entries ws) ≡ true → ⊥
none_claimed = none_passes (λ e. e.claimed)

not_false : (b : Bool) → not b ≡ true → b ≡ false
not_false true h = absurd (cc)
not_false false h = refl

pub queued_is : (r : ℕ) (ws : List Waiting) (x : Waiting) → IsThere r ws x → is_queued r (entries ws) ≡ true → x.entry.claimed ≡ false
queued_is r ws x h q = not_false x.entry.claimed (sym (tells (λ e. not e.claimed) r (entries ws) h.rises ∙ ap (passes_there (λ e. not e.claimed)) h.entry) ∙ q)

pub claimed_is : (r : ℕ) (ws : List Waiting) (x : Waiting) → IsThere r ws x → is_claimed r (entries ws) ≡ true → x.entry.claimed ≡ true
claimed_is r ws x h q = sym (tells (λ e. e.claimed) r (entries ws) h.rises ∙ ap (passes_there (λ e. e.claimed)) h.entry) ∙ q

-- ---- its group

pub record HasGroup (k : GroupKey) (o : Option Key) : Type 0 where
  pub key : Key
  pub group : o ≡ Some key
  pub text : string_bytes k.text ≡ key_text key.0

group_of : (k : GroupKey) (o : Option Key) → key_parts (Some k) ≡ key_of_group o → HasGroup k o
group_of k None e = absurd (cc)
group_of k (Some m) e = record { key = m; group = refl; text = ap (λ (p : List ℕ × ℤ). p.0) (inner (string_bytes k.text, k.stamp) (key_text m.0, m.1) e) }
  where
    inner : (p q : List ℕ × ℤ) → ◌≡◌ {A = Option (List ℕ × ℤ)} (Some p) (Some q) → p ≡ q
    inner p q e = cc

keyed : (ws : List Waiting) (x : Waiting) (t : Turns) (k : GroupKey) (o : Option GroupKey) → IsIndex ws t → Among x ws → x.key ≡ o → o ≡ Some k → HasGroup k x.entry.group
keyed ws x t k o i a e f = group_of k x.entry.group (ap key_parts (sym (e ∙ f)) ∙ All-Among (λ (w : Waiting). IsKey w.key w.entry.group) ws x i.keyed a)

some_members : (o : Option Members) (q : ℤ × ℕ) → has o q ≡ true → is_some o ≡ true
some_members None q e = absurd (cc)
some_members (Some m) q e = refl

by_key : (P : GroupKey → Type 0) (o : Option GroupKey) → ((k : GroupKey) → o ≡ Some k → P k) → MatchOption o ⊤ P
by_key P None h = tt
by_key P (Some k) h = h k refl

pub in_turns : (r : ℕ) (ws : List Waiting) (x : Waiting) (t : Turns) → IsIndex ws t → IsThere r ws x → MatchOption x.key ⊤ (λ (k : GroupKey). is_some (members_at t (string_bytes k.text)) ≡ true)
in_turns r ws x t i h = by_key _ x.key (λ k e.
    let g = keyed ws x t k x.key i h.among refl e in
    let text : List ℕ = string_bytes k.text in
    some_members (members_at t text) (g.key.1, x.entry.receipt)
    (i.stands.ranks text (g.key.1, x.entry.receipt) ∙ of_key text x.entry g.key (entries ws) (entry_among ws x h.among) g.group (text_is (key_text g.key.0) text (sym g.text))))

own_most : (a b : Bool) (n m : ℕ) → n ≤ m → (if a && b then 1 else 0) + n ≤ suc m
own_most true true n m h = omega (arith, h)
own_most true false n m h = omega (arith, h)
own_most false b n m h = omega (arith, h)

claims_most : (text : List ℕ) (es : List Entry) → claimed_number text es ≤ length es
claims_most text [] = omega arith
claims_most text (e ∷ es) = own_most (is_of text e.group) e.claimed (claimed_number text es) (length es) (claims_most text es)

entries_length : (ws : List Waiting) → length (entries ws) ≡ length ws
entries_length [] = refl
entries_length (w ∷ ws) = ap suc (entries_length ws)

pub few_claims : (ws : List Waiting) (x : Waiting) (t : Turns) → IsIndex ws t → length ws ≤ most_pending → MatchOption x.key ⊤ (λ (k : GroupKey). claims (members_at t (string_bytes k.text)) < 2 ^ 32 - 1)
few_claims ws x t i l = by_key _ x.key (λ k e.
    let n = i.stands.claims (string_bytes k.text) in
    let most = claims_most (string_bytes k.text) (entries ws) in
    let same = entries_length ws in
    omega (arith, n, most, same, l))

own_one : (text : List ℕ) (x : Entry) → is_of text x.group ≡ true → x.claimed ≡ true → own_claim text x ≡ 1
own_one text x e f = λ i. if e i && f i then 1 else 0

pub some_claims : (r : ℕ) (ws : List Waiting) (x : Waiting) (t : Turns) → IsIndex ws t → IsThere r ws x → MatchOption x.key ⊤ (λ (k : GroupKey). x.entry.claimed ≡ true → 1 ≤ claims (members_at t (string_bytes k.text)))
some_claims r ws x t i h = by_key _ x.key (λ k e c.
    let g = keyed ws x t k x.key i h.among refl e in
    let text : List ℕ = string_bytes k.text in
    let of : is_of text x.entry.group ≡ true = ap (is_of text) g.group ∙ text_is (key_text g.key.0) text (sym g.text) in
    let one = own_one text x.entry of c in
    let all = claims_own text r (entries ws) x.entry h.rises h.entry in
    let n = i.stands.claims text in
    omega (arith, one, all, n))

if_claimed : (o : Option GroupKey) (b : Bool) (P : GroupKey → Type 0) → b ≡ true → MatchOption o ⊤ (λ (k : GroupKey). b ≡ true → P k) → MatchOption o ⊤ P
if_claimed None b P e h = tt
if_claimed (Some k) b P e h = h e

pub claims_there : (r : ℕ) (ws : List Waiting) (x : Waiting) (t : Turns) → IsIndex ws t → IsThere r ws x → x.entry.claimed ≡ true → MatchOption x.key ⊤ (λ (k : GroupKey). 1 ≤ claims (members_at t (string_bytes k.text)))
claims_there r ws x t i h c = if_claimed x.key x.entry.claimed (λ k. 1 ≤ claims (members_at t (string_bytes k.text))) c (some_claims r ws x t i h)

-- ---- the rest

pub same_index : (ws : List Waiting) (t u : Turns) → AreSame t u → IsIndex ws t → IsIndex ws u
same_index ws t u s i = record { rises = i.rises; keyed = i.keyed; stands = record { ranks = λ k q. s.ranks k q ∙ i.stands.ranks k q; claims = λ k. s.claims k ∙ i.stands.claims k }; marked = i.marked }

pub always : (o : Option Waiting) (P : Waiting → Type 0) → ((w : Waiting) → P w) → IfSome o P
always None P h = tt
always (Some w) P h = h w

if_found : (o : Option Waiting) (P : Waiting → Type 0) → ((w : Waiting) → Some w ≡ o → P w) → IfSome o P
if_found None P h = tt
if_found (Some w) P h = h w refl

pub tries_of : (r : ℕ) (ws : List Waiting) (x : Waiting) → IsThere r ws x → attempts_of r (entries ws) ≡ x.entry.attempts
tries_of r ws x h = subst (λ o. IfSome o (λ e. attempts_of r (entries ws) ≡ e.attempts)) h.entry (tries_there r (entries ws))

pub may_fail : (r : ℕ) (ws : List Waiting) → tree.Rises ws → attempts_of r (entries ws) < 16 → IfSome (found r ws) (MayChange Failed)
may_fail r ws u l = if_found (found r ws) (MayChange Failed) (λ w e. let n = tries_of r ws w (there_is r ws w u e) in omega (arith, n, l))

pub all_below : (n : ℕ) (ws : List Waiting) → AreBelow n (entries ws) → AllByRecursion (λ (w : Waiting). w.entry.receipt < n) ws
all_below n [] h = tt
all_below n (w ∷ ws) h = (h.0, all_below n ws h.1)

first_step : (b c : Bool) (w : Waiting) (o : Option ℕ) (p : Option Entry) → b ≡ c → o ≡ option_map (λ (e : Entry). e.receipt) p → (if b then Some w.entry.receipt else o) ≡ option_map (λ (e : Entry). e.receipt) (if c then Some w.entry else p)
first_step true true w o p e h = refl
first_step false false w o p e h = h
first_step true false w o p e h = absurd (cc)
first_step false true w o p e h = absurd (cc)

pub first_is : (es : List Entry) (ws : List Waiting) → AreMarked es ws → first_marked ws ≡ option_map (λ (e : Entry). e.receipt) (first_candidate es (entries ws))
first_is es [] h = refl
first_is es (w ∷ ws) h = first_step w.candidate (is_candidate es w.entry) w (first_marked ws) (first_candidate es (entries ws)) h.0 (first_is es ws h.1)

pub queued_entries : (ws : List Waiting) → unclaimed_number ws ≡ queued_number (entries ws)
queued_entries [] = refl
queued_entries (w ∷ ws) = ap (λ n. (if w.entry.claimed then 0 else 1) + n) (queued_entries ws)

pub bytes_entries : (ws : List Waiting) → bytes_in ws ≡ payload_bytes (entries ws)
bytes_entries [] = refl
bytes_entries (w ∷ ws) = ap (λ n. length w.entry.command.payload + n) (bytes_entries ws)
