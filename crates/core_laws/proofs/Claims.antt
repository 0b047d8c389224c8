-- The first candidate of the list is the least command that may be claimed, or an older one that is superseded.
use Rattle.std.proofs.Common.{◌≡◌, ◌≢◌, ◌∙◌, inl, inr, ℕ, zero, suc, ◌<◌, ◌≤◌, ◌==◌, ℤ, List, [], ◌∷◌, arith, refl, sym, ap, subst, Bool, true, false, not, ◌&&◌, ◌||◌, if◌then◌else◌, Option, Some, None}
use Rattle.std.specs.List.{AllByRecursion, list_any}
use Rattle.std.specs.Option.{option_map}
use Rattle.std.specs.Ordering.{is_lt}
use Rattle.std.specs.Str.{bytes_eq}
use Rattle.std.proofs.lemmas.Slice.Eq.{bytes_eq-Decides}
use Rattle.core_machine.proofs.of_plain_laws.Booleans.{both_true, no_truth, eq_is, eq_true, neither}
use Rattle.core_machine.proofs.of_plain_laws.Lists.{bytes_eq-itself}
use Rattle.core_machine.proofs.of_plain_laws.Options.{none_some, some_none, some_same}
use Rattle.core_machine.specs.fleet_rows.Change.{kind_number}
use Rattle.core_machine.specs.fleet_rows.Rank.{rank_cmp}
use Rattle.core_machine.specs.fleet_rows.declared.command.Group.{Group}
use Rattle.core_machine.specs.fleet_rows.declared.command.Kind.{Kind}
use Rattle.core_machine.specs.fleet_rows.declared.command.Kind.TheVariants as kind
use Rattle.core_machine.specs.fleet_rows.declared.rank.Rank.{Rank}
use Rattle.core_machine.specs.fleet_rows.declared.settings.Ttls.{Ttls}
use Rattle.core_machine.specs.fleet_rows.declared.applied.Applied.{Applied}
use Rattle.core_machine.specs.history_spec.Trace.{rank_of}
use Rattle.checkpoint_spec.proofs.of_history_laws.Members.{Among, All-Among}
use Rattle.checkpoint_spec.proofs.of_history_laws.SameMembers.{passes_from_any, any_from_passes}
use Rattle.core_machine.specs.core_spec.declared.entry.Entry.{Entry}
use Rattle.core_machine.specs.core_spec.Commands.{Key}
use Rattle.core_machine.specs.core_spec.History.{History, key, Standing, queued, claimed, standing}
use Rattle.core_machine.specs.core_spec.Legal.{IsLegal, IsClaimable, IsFirst, IfFirst, IsOutdated, newest_of, rank_at}
use Rattle.core_machine.specs.core_spec.Pending.{pending_of, NoneIsWornOut}
use Rattle.core_machine.specs.Claims.{same_group, holds_back, is_held, is_candidate, first_candidate, is_below, is_older}
use Rattle.core_laws.specs.Claims.{newest_rank, FirstCandidatesAreClaimable, OlderCandidatesAreSuperseded, NoneFoundIsNone, IsUnheld, IfUnheld, IsCandidate, ClaimableCommandsAreCandidates}
use Rattle.core_laws.proofs.Waiting.{IsWaiting}
use Rattle.core_laws.proofs.Entries.{standing_if, IsEntryOf, entry_is_of, has_entry, Rises, pending_rises}

-- ---- groups

kind_at : ℕ → Kind
kind_at zero = kind.Facts
kind_at (suc zero) = kind.Catalog
kind_at (suc (suc zero)) = kind.Report
kind_at (suc (suc (suc zero))) = kind.Deactivate
kind_at (suc (suc (suc (suc n)))) = kind.Expiration

kind_at-number : (k : Kind) → kind_at (kind_number k) ≡ k
unfolding kind_at
kind_at-number kind.Facts = refl
kind_at-number kind.Catalog = refl
kind_at-number kind.Report = refl
kind_at-number kind.Deactivate = refl
kind_at-number kind.Expiration = refl

kinds_agree : (k l : Kind) → (kind_number k == kind_number l) ≡ true → k ≡ l
kinds_agree k l h = sym (kind_at-number k) ∙ ap kind_at (eq_is (kind_number k) (kind_number l) h) ∙ kind_at-number l

pub same_groups : (g h : Group) → same_group g h ≡ true → g ≡ h
same_groups g h e =
    let parts = both_true (bytes_eq g.certname h.certname) (kind_number g.kind == kind_number h.kind) e in
    λ i. record { certname = (bytes_eq-Decides g.certname h.certname).0 parts.0 i; kind = kinds_agree g.kind h.kind parts.1 i }

pub group_itself : (g : Group) → same_group g g ≡ true
group_itself g = rw (bytes_eq-itself g.certname, eq_true (kind_number g.kind) (kind_number g.kind) refl) refl

-- ---- what holds a command back

not_false : (b : Bool) → not b ≡ true → b ≡ false
not_false false h = refl
not_false true h = no_truth h

not_true : (b : Bool) → b ≡ false → not b ≡ true
not_true false h = refl
not_true true h = no_truth (sym h)

-- where none of the list passes a test, each of it fails
pub none_passes : {X : Type 0} (t : X → Bool) (xs : List X) (x : X) → list_any t xs ≡ false → Among x xs → t x ≡ false
none_passes t xs x h a = fails (t x) refl
  where
    fails : (b : Bool) → t x ≡ b → b ≡ false
    fails false e = refl
    fails true e = absurd (let passes = any_from_passes t xs x a e in let apart : true ≡ false = sym passes ∙ h in cc)

-- where each fails, none passes
pub none_from_all : {X : Type 0} (t : X → Bool) (xs : List X) → ((x : X) → Among x xs → t x ≡ false) → list_any t xs ≡ false
none_from_all t xs h = none (list_any t xs) refl
  where
    none : (b : Bool) → list_any t xs ≡ b → b ≡ false
    none false e = refl
    none true e = absurd (let one = passes_from_any t xs e in let apart : true ≡ false = sym one.2 ∙ h one.0 one.1 in cc)

queued_isnt_claimed : queued ≢ claimed
queued_isnt_claimed e = cc

module _ (ttls : Ttls) (history : History) (l : IsLegal ttls history) where
  abbrev es : List Entry
  es = pending_of history

  -- an entry of the group that is claimed, or has a greater rank, holds the command back
  entry_holds : (k : Key) (r q : ℕ) (stamp : ℤ) (s : Standing) → list_any (λ (e : Entry). holds_back k r e e.group) es ≡ false → key q history ≡ Some (k.0, stamp) → standing q history ≡ s → IsWaiting s
      → (e : Entry) × Among e es × (e.receipt ≡ q) × (standing q history ≡ standing_if e.claimed) × ((e.claimed || is_lt (rank_cmp (rank_at k.1 r) (rank_at stamp q))) ≡ false)
  entry_holds k r q stamp s h key_is st w =
      let has = has_entry ttls q history l (subst IsWaiting (sym st) w) in
      let e = has.entry in
      let of = entry_is_of ttls history e l has.among in
      let group : e.group ≡ Some (k.0, stamp) = sym of.key_is ∙ ap (λ n. key n history) has.receipt ∙ key_is in
      let fails : holds_back k r e e.group ≡ false = none_passes (λ (e : Entry). holds_back k r e e.group) es e h has.among in
      let fails_so : holds_back k r e (Some (k.0, stamp)) ≡ false = sym (ap (holds_back k r e) group) ∙ fails in
      let rest : (e.claimed || is_lt (rank_cmp (rank_at k.1 r) (rank_at stamp e.receipt))) ≡ false = sym (ap (λ b. b && (e.claimed || is_lt (rank_cmp (rank_at k.1 r) (rank_at stamp e.receipt)))) (group_itself k.0)) ∙ fails_so in
      (e, has.among, has.receipt, sym (ap (λ n. standing n history) has.receipt) ∙ of.stands, subst (λ n. (e.claimed || is_lt (rank_cmp (rank_at k.1 r) (rank_at stamp n))) ≡ false) has.receipt rest)

  unclaimed : (b : Bool) (s : Standing) → s ≡ standing_if b → b ≡ false → s ≢ claimed
  unclaimed false s e f c = queued_isnt_claimed (sym e ∙ c)
  unclaimed true s e f c = no_truth (sym f)

  newest_isnt_above : (k : Key) (r : ℕ) (x : Applied) (o : Option Applied) → o ≡ Some x → is_below (rank_at k.1 r) (option_map rank_of o) ≡ false → is_lt (rank_cmp (rank_at k.1 r) (rank_of x)) ≡ false
  newest_isnt_above k r x o e h = sym (ap (λ p. is_below (rank_at k.1 r) (option_map rank_of p)) e) ∙ h

  first_of : (k : Key) (r : ℕ) → list_any (λ (e : Entry). holds_back k r e e.group) es ≡ false → is_older (Some k) r (newest_rank ttls history) ≡ false → IsFirst ttls k.0 (rank_at k.1 r) history
  first_of k r h older = record {
    alone = λ q stamp key_is c. let held = entry_holds k r q stamp claimed h key_is c tt in unclaimed held.0.claimed (standing q history) held.3 (neither held.0.claimed _ held.4).0 c;
    greatest = λ q stamp key_is st. let held = entry_holds k r q stamp queued h key_is st tt in (neither held.0.claimed _ held.4).1;
    newest = λ x e. newest_isnt_above k r x (newest_of ttls k.0 history) e older;
  }

  if_first : (o : Option Key) (r : ℕ) → is_held o r es ≡ false → is_older o r (newest_rank ttls history) ≡ false → IfFirst ttls r o history
  if_first None r h older = tt
  if_first (Some k) r h older = first_of k r h older

  -- ---- candidates

  record IsFound (rest : List Entry) (e : Entry) : Type 0 where
    among : Among e rest
    passes : is_candidate es e ≡ true
    earlier : (f : Entry) → Among f rest → is_candidate es f ≡ true → e.receipt ≤ f.receipt

  found_step : (b : Bool) (e x : Entry) (rest : List Entry) → is_candidate es x ≡ b → AllByRecursion (λ (f : Entry). x.receipt < f.receipt) rest
      → (if b then Some x else first_candidate es rest) ≡ Some e → (first_candidate es rest ≡ Some e → IsFound rest e) → IsFound (x ∷ rest) e
  found_step true e x rest f above h next =
      let same : x ≡ e = sym (some_same x e h) in
      subst (IsFound (x ∷ rest)) same (record {
        among = inl refl;
        passes = f;
        earlier = λ g a p. later g a;
      })
    where
      later : (g : Entry) → Among g (x ∷ rest) → x.receipt ≤ g.receipt
      later g (inl e) = rw e (omega arith)
      later g (inr a) = omega (arith, All-Among (λ (f : Entry). x.receipt < f.receipt) rest g above a)
  found_step false e x rest f above h next =
      let found = next h in
      record {
        among = inr found.among;
        passes = found.passes;
        earlier = λ g a p. elim a [ inl same ↦ no_truth (sym f ∙ sym (ap (is_candidate es) same) ∙ p) | inr b ↦ found.earlier g b p ];
      }

  found : (rest : List Entry) (e : Entry) → Rises rest → first_candidate es rest ≡ Some e → IsFound rest e
  found [] e r h = none_some e h
  found (x ∷ rest) e r h = found_step (is_candidate es x) e x rest refl r.0 h (found rest e r.1)

  none_step : (b : Bool) (x f : Entry) (rest : List Entry) → is_candidate es x ≡ b → (if b then Some x else first_candidate es rest) ≡ None → Among f (x ∷ rest) → (first_candidate es rest ≡ None → Among f rest → is_candidate es f ≡ false) → is_candidate es f ≡ false
  none_step true x f rest e h a next = some_none x h
  none_step false x f rest e h (inl same) next = ap (is_candidate es) same ∙ e
  none_step false x f rest e h (inr a) next = next h a

  pub none_found : (rest : List Entry) (f : Entry) → first_candidate es rest ≡ None → Among f rest → is_candidate es f ≡ false
  none_found [] f h a = absurd a
  none_found (x ∷ rest) f h a = none_step (is_candidate es x) x f rest refl h a (none_found rest f)

  -- ---- a candidate that isn't older may be claimed

  candidate_parts : (e : Entry) → is_candidate es e ≡ true → (e.claimed ≡ false) × (is_held e.group e.receipt es ≡ false)
  candidate_parts e h = let parts = both_true (not e.claimed) (not (is_held e.group e.receipt es)) h in (not_false e.claimed parts.0, not_false _ parts.1)

  claimable : (e : Entry) → NoneIsWornOut es → Among e es → is_candidate es e ≡ true → is_older e.group e.receipt (newest_rank ttls history) ≡ false → IsClaimable ttls e.receipt history
  claimable e few a h older =
      let of = entry_is_of ttls history e l a in
      let parts = candidate_parts e h in
      record {
        queued = of.stands ∙ ap standing_if parts.0;
        few = subst (λ n. n < 16) of.attempts (All-Among (λ (e : Entry). e.attempts < 16) es e few a);
        first = subst (λ o. IfFirst ttls e.receipt o history) (sym of.key_is) (if_first e.group e.receipt parts.1 older);
      }

  -- ---- a command that may be claimed is a candidate

  group_tells : (b : Bool) (k : Key) (m : Key) → same_group k.0 m.0 ≡ b → (c : Bool) → ((k.0 ≡ m.0) → c ≡ false) → (b && c) ≡ false
  group_tells false k m e c h = refl
  group_tells true k m e c h = h (same_groups k.0 m.0 e)

  not_held_by : (k : Key) (r : ℕ) → IsUnheld k.0 (rank_at k.1 r) history → (f : Entry) → Among f es → (o : Option Key) → f.group ≡ o → holds_back k r f o ≡ false
  not_held_by k r first f a None e = refl
  not_held_by k r first f a (Some m) e =
      group_tells (same_group k.0 m.0) k m refl _ (λ same. of_group (entry_is_of ttls history f l a) same f.claimed refl)
    where
      of_group : IsEntryOf history f → k.0 ≡ m.0 → (c : Bool) → f.claimed ≡ c → (c || is_lt (rank_cmp (rank_at k.1 r) (rank_at m.1 f.receipt))) ≡ false
      of_group of same true g = absurd (first.alone f.receipt m.1 (of.key_is ∙ e ∙ (λ i. Some (sym same i, m.1))) (of.stands ∙ ap standing_if g))
      of_group of same false g = first.greatest f.receipt m.1 (of.key_is ∙ e ∙ (λ i. Some (sym same i, m.1))) (of.stands ∙ ap standing_if g)

  not_held : (o : Option Key) (r : ℕ) → IfUnheld r o history → is_held o r es ≡ false
  not_held None r first = refl
  not_held (Some k) r first = none_from_all (λ (e : Entry). holds_back k r e e.group) es (λ f a. not_held_by k r first f a f.group refl)

  queued_entry : (b : Bool) → queued ≡ standing_if b → b ≡ false
  queued_entry false h = refl
  queued_entry true h = absurd (queued_isnt_claimed h)

  record IsCandidateFor (q : ℕ) : Type 0 where
    entry : Entry
    among : Among entry es
    receipt : entry.receipt ≡ q
    passes : is_candidate es entry ≡ true

  candidate_for : (q : ℕ) → IsCandidate q history → IsCandidateFor q
  candidate_for q c =
      let has = has_entry ttls q history l (subst IsWaiting (sym c.queued) tt) in
      let e = has.entry in
      let of = entry_is_of ttls history e l has.among in
      let unclaimed_entry : e.claimed ≡ false = queued_entry e.claimed (sym c.queued ∙ sym (ap (λ n. standing n history) has.receipt) ∙ of.stands) in
      let group : e.group ≡ key q history = sym of.key_is ∙ ap (λ n. key n history) has.receipt in
      let held : is_held e.group e.receipt es ≡ false = (λ i. is_held (group i) (has.receipt i) es) ∙ not_held (key q history) q c.unheld in
      record {
        entry = e;
        among = has.among;
        receipt = has.receipt;
        passes = rw (unclaimed_entry, held) refl;
      }

  -- ---- what is found is one

  unheld_of : (k : Key) (r : ℕ) → list_any (λ (e : Entry). holds_back k r e e.group) es ≡ false → IsUnheld k.0 (rank_at k.1 r) history
  unheld_of k r h = record {
    alone = λ q stamp key_is c. let held = entry_holds k r q stamp claimed h key_is c tt in unclaimed held.0.claimed (standing q history) held.3 (neither held.0.claimed _ held.4).0 c;
    greatest = λ q stamp key_is st. let held = entry_holds k r q stamp queued h key_is st tt in (neither held.0.claimed _ held.4).1;
  }

  if_unheld : (o : Option Key) (r : ℕ) → is_held o r es ≡ false → IfUnheld r o history
  if_unheld None r h = tt
  if_unheld (Some k) r h = unheld_of k r h

  candidate : (e : Entry) → Among e es → is_candidate es e ≡ true → IsCandidate e.receipt history
  candidate e a h =
      let of = entry_is_of ttls history e l a in
      let parts = candidate_parts e h in
      record {
        queued = of.stands ∙ ap standing_if parts.0;
        unheld = subst (λ o. IfUnheld e.receipt o history) (sym of.key_is) (if_unheld e.group e.receipt parts.1);
      }

pub first_is_candidate : (ttls : Ttls) (history : History) (e : Entry) → IsLegal ttls history → first_candidate (pending_of history) (pending_of history) ≡ Some e → IsCandidate e.receipt history
first_is_candidate ttls history e l h =
    let f = found ttls history l (pending_of history) e (pending_rises ttls history l) h in
    candidate ttls history l e f.among f.passes

-- and no candidate has a smaller receipt
pub first_is_least : (ttls : Ttls) (history : History) (e : Entry) → IsLegal ttls history → first_candidate (pending_of history) (pending_of history) ≡ Some e → (q : ℕ) → IsCandidate q history → e.receipt ≤ q
first_is_least ttls history e l h q c =
    let f = found ttls history l (pending_of history) e (pending_rises ttls history l) h in
    let other = candidate_for ttls history l q c in
    subst (λ n. e.receipt ≤ n) other.receipt (f.earlier other.entry other.among other.passes)

pub first_candidates_are_claimable : FirstCandidatesAreClaimable
first_candidates_are_claimable ttls history e l few h older =
    let f = found ttls history l (pending_of history) e (pending_rises ttls history l) h in (
      record {
        claimable = claimable ttls history l e few f.among f.passes older;
        least = first_is_least ttls history e l h;
      },
      (entry_is_of ttls history e l f.among).command_is,
    )

unheld_of_first : (ttls : Ttls) (r : ℕ) (o : Option Key) (history : History) → IfFirst ttls r o history → IfUnheld r o history
unheld_of_first ttls r None history h = tt
unheld_of_first ttls r (Some k) history h = record { alone = h.alone; greatest = h.greatest }

pub claimable_commands_are_candidates : ClaimableCommandsAreCandidates
claimable_commands_are_candidates ttls r history h = record { queued = h.queued; unheld = unheld_of_first ttls r (key r history) history h.first }

pub none_found_is_none : NoneFoundIsNone
none_found_is_none ttls history q l h c =
    let other = candidate_for ttls history l q c in
    let fails = none_found ttls history l (pending_of history) other.entry h other.among in
    no_truth (sym fails ∙ other.passes)

-- ---- an older candidate is superseded

newest_with : (o : Option Applied) (rank : Rank) → option_map rank_of o ≡ Some rank → (x : Applied) × (o ≡ Some x) × (rank_of x ≡ rank)
newest_with None rank h = none_some rank h
newest_with (Some x) rank h = (x, refl, sym (some_same (rank_of x) rank h))

outdated : (ttls : Ttls) (history : History) (e : Entry) (k : Key) (rank : Rank) → IsEntryOf history e → e.claimed ≡ false → e.group ≡ Some k → newest_rank ttls history k.0 ≡ Some rank
    → is_lt (rank_cmp (rank_at k.1 e.receipt) rank) ≡ true → IsOutdated ttls e.receipt rank.receipt history
outdated ttls history e k rank of free g n below =
    let x = newest_with (newest_of ttls k.0 history) rank n in
    record {
      group = k.0;
      stamp = k.1;
      newer = x.0;
      queued = of.stands ∙ ap standing_if free;
      key_is = of.key_is ∙ g;
      newest = x.1;
      receipt = ap (λ (q : Rank). q.receipt) (sym x.2);
      below = subst (λ (q : Rank). is_lt (rank_cmp (rank_at k.1 e.receipt) q) ≡ true) (sym x.2) below;
    }

pub older_candidates_are_superseded : OlderCandidatesAreSuperseded
older_candidates_are_superseded ttls history e k rank l h g n below =
    let f = found ttls history l (pending_of history) e (pending_rises ttls history l) h in
    outdated ttls history e k rank (entry_is_of ttls history e l f.among) (candidate_parts ttls history l e f.passes).0 g n below
