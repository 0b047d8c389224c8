-- Of a group one command at most is claimed, and what is applied of it is its newest.
use Rattle.std.proofs.Common.{◌≡◌, ◌≢◌, ◌∙◌, ℕ, ◌==◌, ℤ, List, [], ◌∷◌, refl, sym, ap, subst, Bool, true, false, ◌&&◌, if◌then◌else◌, Option, Some, None, Ok}
use Rattle.std.specs.Option.{option_map, option_and_then}
use Rattle.std.specs.Ordering.{is_lt}
use Rattle.std.specs.Str.{bytes_eq}
use Rattle.std.proofs.lemmas.Slice.Eq.{bytes_eq-Decides}
use Rattle.core_machine.proofs.of_plain_laws.Booleans.{both_true, eq_is, eq_true}
use Rattle.core_machine.proofs.of_plain_laws.Options.{none_some, some_same}
use Rattle.core_machine.specs.fleet_rows.Change.{change_certname, change_kind, change_stamp, kind_number}
use Rattle.core_machine.specs.fleet_rows.Rank.{rank_cmp}
use Rattle.core_machine.specs.fleet_rows.declared.applied.Applied.{Applied}
use Rattle.core_machine.specs.fleet_rows.declared.change.Change.{Change}
use Rattle.core_machine.specs.fleet_rows.declared.command.Command.{Command}
use Rattle.core_machine.specs.fleet_rows.declared.command.Group.{Group}
use Rattle.core_machine.specs.fleet_rows.declared.command.Kind.{Kind}
use Rattle.core_machine.specs.fleet_rows.declared.command.Kind.TheVariants as kind
use Rattle.core_machine.specs.fleet_rows.declared.settings.Ttls.{Ttls}
use Rattle.core_machine.specs.history_spec.Life.{life, greatest_expiry}
use Rattle.core_machine.specs.history_spec.Node.{newest, greater, is_purged}
use Rattle.core_machine.specs.history_spec.Trace as trace
use Rattle.core_machine.specs.history_spec.Trace.{applied_as, is_kind, rank_of, Trace, swept}
use Rattle.checkpoint_spec.proofs.of_history_laws.Ranks.{kind_from_is_kind, is_kind_from_kind}
use Rattle.core_machine.specs.core_spec.declared.event.Event.TheVariants.{Submit, Claim, Release, Apply, Supersede, Fail, Discard, Sweep, Restart}
use Rattle.core_machine.specs.core_spec.Commands.{answer_of, Key, keyed, key_of}
use Rattle.core_machine.specs.core_spec.History.{History, command, answer, key, Standing, unknown, queued, claimed, applied, superseded, discarded, requeued, standing, with_applied, trace_of}
use Rattle.core_machine.specs.core_spec.Legal.{IsLegal, IsFirst, IfFirst, newest_of, rank_at}
use Rattle.core_laws.specs.Groups.{OneOfAGroupIsClaimed, AppliedCommandsAreTheNewest}
use Rattle.core_laws.proofs.Keys.{key_is_of_change, key_is_no_report, key_tells}

-- ---- what is claimed behind an event

-- behind an event that claims nothing what is claimed was so before
was_claimed : (b : Bool) (after s : Standing) → (if b then after else s) ≡ claimed → after ≢ claimed → (b ≡ false) × (s ≡ claimed)
was_claimed true after s h differ = absurd (differ h)
was_claimed false after s h differ = (refl, h)

none_after_restart : (s : Standing) → requeued s ≡ claimed → ⊥
none_after_restart unknown h = cc
none_after_restart queued h = cc
none_after_restart claimed h = cc
none_after_restart applied h = cc
none_after_restart (superseded p) h = cc
none_after_restart (discarded cause) h = cc

queued_isnt : queued ≢ claimed
queued_isnt e = cc

applied_isnt : applied ≢ claimed
applied_isnt e = cc

superseded_isnt : (p : ℕ) → superseded p ≢ claimed
superseded_isnt p e = cc

-- another submit leaves the key
still_key : (b : Bool) (c : Command) (o : Option Command) (x : Option Key) → b ≡ false → option_and_then key_of (if b then Some c else o) ≡ x → option_and_then key_of o ≡ x
still_key true c o x e h = absurd (let apart : true ≡ false = e in cc)
still_key false c o x e h = h

-- the rule of a claim, for a command with this key
first_with : (ttls : Ttls) (q r : ℕ) (k : Key) (earlier : History) → q ≡ r → key r earlier ≡ Some k → IfFirst ttls q (key q earlier) earlier → IsFirst ttls k.0 (rank_at k.1 r) earlier
first_with ttls q r k earlier same key_is first =
    subst (λ o. IfFirst ttls r o earlier) key_is (subst (λ n. IfFirst ttls n (key n earlier) earlier) same first)

module _ (ttls : Ttls) (group : Group) (q r : ℕ) (stamp other : ℤ) where
  claims : (b d : Bool) (p : ℕ) (earlier : History) → (p == q) ≡ b → (p == r) ≡ d → IfFirst ttls p (key p earlier) earlier
      → key q earlier ≡ Some (group, stamp) → (if b then claimed else standing q earlier) ≡ claimed → key r earlier ≡ Some (group, other) → (if d then claimed else standing r earlier) ≡ claimed
      → (standing q earlier ≡ claimed → standing r earlier ≡ claimed → q ≡ r) → q ≡ r
  claims true true p earlier e f first key_q s key_r t next = sym (eq_is p q e) ∙ eq_is p r f
  claims true false p earlier e f first key_q s key_r t next = absurd ((first_with ttls p q (group, stamp) earlier (eq_is p q e) key_q first).alone r other key_r t)
  claims false true p earlier e f first key_q s key_r t next = absurd ((first_with ttls p r (group, other) earlier (eq_is p r f) key_r first).alone q stamp key_q s)
  claims false false p earlier e f first key_q s key_r t next = next s t

  one_is_claimed : (history : History) → IsLegal ttls history → key q history ≡ Some (group, stamp) → standing q history ≡ claimed → key r history ≡ Some (group, other) → standing r history ≡ claimed → q ≡ r
  one_is_claimed [] l key_q s key_r t = absurd (let apart : unknown ≡ claimed = s in cc)
  one_is_claimed (Submit p c ∷ earlier) l key_q s key_r t =
      let was = was_claimed (p == q) queued (standing q earlier) s queued_isnt in
      let were = was_claimed (p == r) queued (standing r earlier) t queued_isnt in
      one_is_claimed earlier l.1 (still_key (p == q) c (command q earlier) (Some (group, stamp)) was.0 key_q) was.1 (still_key (p == r) c (command r earlier) (Some (group, other)) were.0 key_r) were.1
  one_is_claimed (Claim p ∷ earlier) l key_q s key_r t =
      claims (p == q) (p == r) p earlier refl refl l.0.first key_q s key_r t (λ s t. one_is_claimed earlier l.1 key_q s key_r t)
  one_is_claimed (Release p ∷ earlier) l key_q s key_r t =
      one_is_claimed earlier l.1 key_q (was_claimed (p == q) queued (standing q earlier) s queued_isnt).1 key_r (was_claimed (p == r) queued (standing r earlier) t queued_isnt).1
  one_is_claimed (Apply p m ∷ earlier) l key_q s key_r t =
      one_is_claimed earlier l.1 key_q (was_claimed (p == q) applied (standing q earlier) s applied_isnt).1 key_r (was_claimed (p == r) applied (standing r earlier) t applied_isnt).1
  one_is_claimed (Supersede p by ∷ earlier) l key_q s key_r t =
      one_is_claimed earlier l.1 key_q (was_claimed (p == q) (superseded by) (standing q earlier) s (superseded_isnt by)).1 key_r (was_claimed (p == r) (superseded by) (standing r earlier) t (superseded_isnt by)).1
  one_is_claimed (Fail p before after ∷ earlier) l key_q s key_r t =
      one_is_claimed earlier l.1 key_q (was_claimed (p == q) queued (standing q earlier) s queued_isnt).1 key_r (was_claimed (p == r) queued (standing r earlier) t queued_isnt).1
  one_is_claimed (Discard p cause ∷ earlier) l key_q s key_r t =
      one_is_claimed earlier l.1 key_q (was_claimed (p == q) (discarded cause) (standing q earlier) s (λ e. cc)).1 key_r (was_claimed (p == r) (discarded cause) (standing r earlier) t (λ e. cc)).1
  one_is_claimed (Sweep kinds m ∷ earlier) l key_q s key_r t = one_is_claimed earlier l.1 key_q s key_r t
  one_is_claimed (Restart ∷ earlier) l key_q s key_r t = absurd (none_after_restart (standing q earlier) s)

pub one_of_a_group_is_claimed : OneOfAGroupIsClaimed
one_of_a_group_is_claimed ttls history group q r stamp other l key_q s key_r t = one_is_claimed ttls group q r stamp other history l key_q s key_r t

-- ---- what is applied of a group

-- of another node or kind
abbrev of_group : Group → Change → Bool
of_group g d = bytes_eq g.certname (change_certname d) && (kind_number g.kind == kind_number (change_kind d))

beside : (a b : Bool) (y : Applied) (k : Kind) (xs : List Applied) → is_kind k y ≡ b → (a && b) ≡ false → newest k (if a then y ∷ xs else xs) ≡ newest k xs
beside true true y k xs e h = absurd (let apart : true ≡ false = h in cc)
beside true false y k xs e h = rw e refl
beside false b y k xs e h = refl

other_leaves : (ttls : Ttls) (g : Group) (y : Applied) (earlier : Trace) → of_group g y.change ≡ false
    → newest g.kind (life ttls g.certname (trace.applied y ∷ earlier)) ≡ newest g.kind (life ttls g.certname earlier)
other_leaves ttls g y earlier h = beside (bytes_eq g.certname (change_certname y.change)) (is_kind g.kind y) y g.kind (life ttls g.certname earlier) refl h

-- a command whose change is of the group is in it
of_the_group : (g : Group) (c : Command) (d : Change) → g.kind ≢ kind.Report → answer_of c ≡ Ok d → of_group g d ≡ true → key_of c ≡ Some (g, change_stamp d)
of_the_group g c d other decodes h =
    let parts = both_true (bytes_eq g.certname (change_certname d)) (kind_number g.kind == kind_number (change_kind d)) h in
    let name : g.certname ≡ change_certname d = (bytes_eq-Decides g.certname (change_certname d)).0 parts.0 in
    let same : change_kind d ≡ g.kind = kind_from_is_kind g.kind (applied_as 0 None d) parts.1 in
    key_is_of_change c d decodes ∙ keyed_so (change_kind d) g.kind (change_certname d) g.certname (change_stamp d) same (sym name) other
  where
    plain : (n : Kind) (t : List ℕ) (m : ℤ) → n ≢ kind.Report → keyed n (Some (t, m)) ≡ Some (record { certname = t; kind = n }, m)
    plain kind.Facts t m other = refl
    plain kind.Catalog t m other = refl
    plain kind.Report t m other = absurd (other refl)
    plain kind.Deactivate t m other = refl
    plain kind.Expiration t m other = refl

    keyed_so : (k n : Kind) (s t : List ℕ) (m : ℤ) → k ≡ n → s ≡ t → n ≢ kind.Report → keyed k (Some (s, m)) ≡ Some (record { certname = t; kind = n }, m)
    keyed_so k n s t m e f other = (λ i. keyed (e i) (Some (f i, m))) ∙ plain n t m other

-- and no group is one of reports
no_group_of_reports : (o : Option Command) (k : Key) → option_and_then key_of o ≡ Some k → k.0.kind ≢ kind.Report
no_group_of_reports None k h e = none_some k h
no_group_of_reports (Some c) k h e = key_is_no_report c k h e

module _ (ttls : Ttls) (g : Group) (r : ℕ) (stamp : ℤ) where
  abbrev NotBelow : Option Applied → Type 0
  NotBelow o = (x : Applied) → o ≡ Some x → is_lt (rank_cmp (rank_at stamp r) (rank_of x)) ≡ false

  swept_still : (b : Bool) (k : Kind) (xs : List Applied) → NotBelow (newest k xs) → NotBelow (newest k (if b then [] else xs))
  swept_still true k xs h x e = none_some x e
  swept_still false k xs h x e = h x e

  -- another command that is applied is of another group
  beside_it : (p : ℕ) (t : Option ℤ) (earlier : History) → IsLegal ttls (Apply p t ∷ earlier) → key r earlier ≡ Some (g, stamp) → standing r earlier ≡ claimed → (p == r) ≡ false
      → (b : Bool) (d : Change) → of_group g d ≡ b → answer p earlier ≡ Some (Ok d) → NotBelow (newest_of ttls g earlier)
      → NotBelow (newest g.kind (life ttls g.certname (with_applied p t (answer p earlier) (trace_of earlier))))
  beside_it p t earlier l key_r s differ true d e decodes h =
      let c = l.0.command_is in
      let answers : answer_of c ≡ Ok d = sym (some_same (answer_of c) (Ok d) (ap (option_map answer_of) (sym l.0.submitted) ∙ decodes)) in
      let key_p : key p earlier ≡ Some (g, change_stamp d) = ap (option_and_then key_of) l.0.submitted ∙ of_the_group g c d (no_group_of_reports (command r earlier) (g, stamp) key_r) answers e in
      let same : p ≡ r = one_is_claimed ttls g p r (change_stamp d) stamp earlier l.1 key_p l.0.claimed key_r s in
      absurd (let apart : true ≡ false = sym (eq_true p r same) ∙ differ in cc)
  beside_it p t earlier l key_r s differ false d e decodes h =
      subst NotBelow (sym (ap (λ a. newest g.kind (life ttls g.certname (with_applied p t a (trace_of earlier)))) decodes ∙ other_leaves ttls g (applied_as p t d) (trace_of earlier) e)) h

  claim_still : (b : Bool) (p : ℕ) (earlier : History) → (p == r) ≡ b → IfFirst ttls p (key p earlier) earlier → key r earlier ≡ Some (g, stamp)
      → (if b then claimed else standing r earlier) ≡ claimed → (standing r earlier ≡ claimed → NotBelow (newest_of ttls g earlier)) → NotBelow (newest_of ttls g earlier)
  claim_still true p earlier e first key_r s next = (first_with ttls p r (g, stamp) earlier (eq_is p r e) key_r first).newest
  claim_still false p earlier e first key_r s next = next s

  -- the newest that was applied of the group of a claimed command isn't above it
  claimed_is_newest : (history : History) → IsLegal ttls history → key r history ≡ Some (g, stamp) → standing r history ≡ claimed → NotBelow (newest_of ttls g history)
  claimed_is_newest [] l key_r s = absurd (let apart : unknown ≡ claimed = s in cc)
  claimed_is_newest (Submit p c ∷ earlier) l key_r s =
      let was = was_claimed (p == r) queued (standing r earlier) s queued_isnt in
      claimed_is_newest earlier l.1 (still_key (p == r) c (command r earlier) (Some (g, stamp)) was.0 key_r) was.1
  claimed_is_newest (Claim p ∷ earlier) l key_r s = claim_still (p == r) p earlier refl l.0.first key_r s (claimed_is_newest earlier l.1 key_r)
  claimed_is_newest (Release p ∷ earlier) l key_r s = claimed_is_newest earlier l.1 key_r (was_claimed (p == r) queued (standing r earlier) s queued_isnt).1
  claimed_is_newest (Apply p t ∷ earlier) l key_r s =
      let was = was_claimed (p == r) applied (standing r earlier) s applied_isnt in
      beside_it p t earlier l key_r was.1 was.0 (of_group g l.0.change) l.0.change refl l.0.decodes (claimed_is_newest earlier l.1 key_r was.1)
  claimed_is_newest (Supersede p by ∷ earlier) l key_r s = claimed_is_newest earlier l.1 key_r (was_claimed (p == r) (superseded by) (standing r earlier) s (superseded_isnt by)).1
  claimed_is_newest (Fail p before after ∷ earlier) l key_r s = claimed_is_newest earlier l.1 key_r (was_claimed (p == r) queued (standing r earlier) s queued_isnt).1
  claimed_is_newest (Discard p cause ∷ earlier) l key_r s = claimed_is_newest earlier l.1 key_r (was_claimed (p == r) (discarded cause) (standing r earlier) s (λ e. cc)).1
  claimed_is_newest (Sweep kinds m ∷ earlier) l key_r s =
      swept_still (kinds.purge && is_purged ttls m (greatest_expiry (swept kinds m ∷ trace_of earlier)) (life ttls g.certname (trace_of earlier))) g.kind (life ttls g.certname (trace_of earlier)) (claimed_is_newest earlier l.1 key_r s)
  claimed_is_newest (Restart ∷ earlier) l key_r s = absurd (none_after_restart (standing r earlier) s)

-- ---- and so it is the newest itself

on_top : (y : Applied) (o : Option Applied) → ((x : Applied) → o ≡ Some x → is_lt (rank_cmp (rank_of y) (rank_of x)) ≡ false) → greater y o ≡ Some y
on_top y None h = refl
on_top y (Some x) h = rw (h x refl) refl

in_life : (a b : Bool) (y : Applied) (k : Kind) (xs : List Applied) → is_kind k y ≡ b → a ≡ true → b ≡ true → newest k (if a then y ∷ xs else xs) ≡ greater y (newest k xs)
in_life true true y k xs e h g = rw e refl
in_life true false y k xs e h g = absurd (let apart : false ≡ true = g in cc)
in_life false b y k xs e h g = absurd (let apart : false ≡ true = h in cc)

pub applied_commands_are_the_newest : AppliedCommandsAreTheNewest
applied_commands_are_the_newest ttls history r t k d l key_r decodes =
    let c = l.0.command_is in
    let answers : answer_of c ≡ Ok d = sym (some_same (answer_of c) (Ok d) (ap (option_map answer_of) (sym l.0.submitted) ∙ decodes)) in
    let key_c : key_of c ≡ Some k = ap (option_and_then key_of) (sym l.0.submitted) ∙ key_r in
    let of = key_tells c d k answers key_c in
    let y = applied_as r t d in
    let name : bytes_eq k.0.certname (change_certname d) ≡ true = (bytes_eq-Decides k.0.certname (change_certname d)).1 of.certname in
    let kinds : is_kind k.0.kind y ≡ true = is_kind_from_kind k.0.kind y (sym of.of_kind) in
    let above = claimed_is_newest ttls k.0 r k.1 history l.1 key_r l.0.claimed in
    let rank : rank_at k.1 r ≡ rank_of y = ap (λ s. rank_at s r) of.stamp in
    ap (λ a. newest k.0.kind (life ttls k.0.certname (with_applied r t a (trace_of history)))) decodes
    ∙ in_life (bytes_eq k.0.certname (change_certname d)) (is_kind k.0.kind y) y k.0.kind (life ttls k.0.certname (trace_of history)) refl name kinds
    ∙ on_top y (newest_of ttls k.0 history) (λ x e. ap (λ a. is_lt (rank_cmp a (rank_of x))) (sym rank) ∙ above x e)
