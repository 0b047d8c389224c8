-- What an outcome says of its command.
use Rattle.std.proofs.Common.{◌≡◌, ◌∙◌, ◌⊎◌, inl, inr, ℕ, suc, ◌==◌, ℤ, List, [], ◌∷◌, arith, refl, sym, ap, subst, Bool, true, false, ◌&&◌, if◌then◌else◌, Option, Some, None, Result, Ok, Err}
use Rattle.std.specs.List.{Contains}
use Rattle.std.specs.Option.{option_map, option_and_then}
use Rattle.std.specs.Str.{bytes_eq}
use Rattle.core_machine.proofs.of_plain_laws.Booleans.{eq_is, eqb-refl}
use Rattle.core_machine.proofs.of_plain_laws.Options.{none_some, some_same}
use Rattle.core_machine.specs.fleet_rows.Change.{change_certname, change_kind, change_stamp}
use Rattle.core_machine.specs.fleet_rows.declared.applied.Applied.{Applied}
use Rattle.core_machine.specs.fleet_rows.declared.change.Change.{Change}
use Rattle.core_machine.specs.fleet_rows.declared.command.Command.{Command}
use Rattle.core_machine.specs.fleet_rows.declared.command.Group.{Group}
use Rattle.core_machine.specs.fleet_rows.declared.command.Kind.{Kind}
use Rattle.core_machine.specs.fleet_rows.declared.command.Kind.TheVariants as kind
use Rattle.core_machine.specs.fleet_rows.declared.refusal.Cause.{Cause}
use Rattle.core_machine.specs.fleet_rows.declared.refusal.Cause.TheVariants.{Refused, Failures}
use Rattle.core_machine.specs.fleet_rows.declared.refusal.Refusal.{Refusal}
use Rattle.core_machine.specs.fleet_rows.declared.settings.Ttls.{Ttls}
use Rattle.core_machine.specs.history_spec.Life.{life, greatest_expiry}
use Rattle.core_machine.specs.history_spec.Node.{is_purged}
use Rattle.core_machine.specs.history_spec.Trace as trace
use Rattle.core_machine.specs.history_spec.Trace.{Trace, swept, receipts, rank_of}
use Rattle.checkpoint_spec.proofs.of_history_laws.Lives.{comes_from}
use Rattle.checkpoint_spec.proofs.of_history_laws.Members.{Among, Among-from_Contains, Contains-from_Among}
use Rattle.checkpoint_spec.proofs.of_history_laws.NewestIsGreatest.{newest_is_greatest}
use Rattle.checkpoint_spec.proofs.of_history_laws.Ranks.{kind_from_is_kind}
use Rattle.core_machine.specs.core_spec.declared.event.Event.{Event}
use Rattle.core_machine.specs.core_spec.declared.event.Event.TheVariants.{Submit, Claim, Release, Apply, Supersede, Fail, Discard, Sweep, Restart}
use Rattle.core_machine.specs.core_spec.Commands.{answer_of, Key, keyed, key_of}
use Rattle.core_machine.specs.core_spec.History.{History, last_receipt, command, answer, key, Standing, unknown, queued, claimed, applied, superseded, discarded, requeued, standing, fails, with_applied, trace_of}
use Rattle.core_machine.specs.core_spec.Legal.{IsLegal, IsBelow, rank_at}
use Rattle.core_machine.proofs.Receipts.{receipts_are_new}
use Rattle.core_laws.specs.Outcomes as outcomes
use Rattle.core_laws.specs.Outcomes.{outcome_of, outcome, AppliedCommandsStandInTheTrace, AppliedCommandsDecode, IsReplaced, SupersededCommandsAreReplaced, RefusedCommandsAreRefused, GivenUpCommandsFailedSixteenTimes}
use Rattle.core_laws.specs.Threads.{received}
use Rattle.core_laws.specs.Traces.{IsAsSubmitted, EachApplied, AppliedCommandsWereSubmitted}
use Rattle.core_laws.proofs.Endings.{IsEnded, ended_stays}
use Rattle.core_laws.proofs.Entries.{IsKnown}
use Rattle.core_laws.proofs.Keys.{key_of_change, key_is_of_change, key_is_no_report}

-- ---- what stays as further events come

-- a command of which something is known
same_submit : (b : Bool) (ttls : Ttls) (q r : ℕ) (c : Command) (earlier : History) → (q == r) ≡ b → q ≡ suc (last_receipt earlier) → IsLegal ttls earlier → IsKnown (standing r earlier)
    → (if b then Some c else command r earlier) ≡ command r earlier
same_submit true ttls q r c earlier e h l k = absurd (subst IsKnown (receipts_are_new ttls earlier r l (λ p. omega (arith, h, eq_is q r e))).unknown k)
same_submit false ttls q r c earlier e h l k = refl

pub same_command : (ttls : Ttls) (e : Event) (earlier : History) (r : ℕ) → IsLegal ttls (e ∷ earlier) → IsKnown (standing r earlier) → command r (e ∷ earlier) ≡ command r earlier
same_command ttls (Submit q c) earlier r l k = same_submit (q == r) ttls q r c earlier refl l.0.receipt l.1 k
same_command ttls (Claim q) earlier r l k = refl
same_command ttls (Release q) earlier r l k = refl
same_command ttls (Apply q t) earlier r l k = refl
same_command ttls (Supersede q p) earlier r l k = refl
same_command ttls (Fail q before after) earlier r l k = refl
same_command ttls (Discard q cause) earlier r l k = refl
same_command ttls (Sweep kinds m) earlier r l k = refl
same_command ttls Restart earlier r l k = refl

-- how often the store failed at one that has ended
same_fail : (b : Bool) (q r : ℕ) (earlier : History) → (q == r) ≡ b → standing q earlier ≡ claimed → IsEnded (standing r earlier) → (if b then suc (fails r earlier) else fails r earlier) ≡ fails r earlier
same_fail true q r earlier e h k = absurd (subst IsEnded (ap (λ n. standing n earlier) (sym (eq_is q r e)) ∙ h) k)
same_fail false q r earlier e h k = refl

same_fails : (ttls : Ttls) (e : Event) (earlier : History) (r : ℕ) → IsLegal ttls (e ∷ earlier) → IsEnded (standing r earlier) → fails r (e ∷ earlier) ≡ fails r earlier
same_fails ttls (Submit q c) earlier r l k = refl
same_fails ttls (Claim q) earlier r l k = refl
same_fails ttls (Release q) earlier r l k = refl
same_fails ttls (Apply q t) earlier r l k = refl
same_fails ttls (Supersede q p) earlier r l k = refl
same_fails ttls (Fail q before after) earlier r l k = same_fail (q == r) q r earlier refl l.0.0 k
same_fails ttls (Discard q cause) earlier r l k = refl
same_fails ttls (Sweep kinds m) earlier r l k = refl
same_fails ttls Restart earlier r l k = refl

ended_is_known : (s : Standing) → IsEnded s → IsKnown s
ended_is_known unknown h = h
ended_is_known queued h = tt
ended_is_known claimed h = tt
ended_is_known applied h = tt
ended_is_known (superseded p) h = tt
ended_is_known (discarded cause) h = tt

-- ---- what stands in the trace

each_so : (P Q : Applied → Type 0) → ((x : Applied) → P x → Q x) → (history : Trace) → EachApplied P history → EachApplied Q history
each_so P Q f [] h = tt
each_so P Q f (trace.applied x ∷ earlier) h = (f x h.0, each_so P Q f earlier h.1)
each_so P Q f (swept kinds m ∷ earlier) h = each_so P Q f earlier h

module _ (P : Applied → Type 0) (ttls : Ttls) (n : List ℕ) where
  of_node : (b : Bool) (x y : Applied) (xs : List Applied) → P y → Among x (if b then y ∷ xs else xs) → (Among x xs → P x) → P x
  of_node true x y xs p (inl e) next = subst P (sym e) p
  of_node true x y xs p (inr a) next = next a
  of_node false x y xs p a next = next a

  unpurged : (b : Bool) (x : Applied) (xs : List Applied) → Among x (if b then [] else xs) → (Among x xs → P x) → P x
  unpurged true x xs a next = absurd a
  unpurged false x xs a next = next a

  -- so of each of a life
  pub life_each : (history : Trace) → EachApplied P history → (x : Applied) → Among x (life ttls n history) → P x
  life_each [] h x a = absurd a
  life_each (trace.applied y ∷ earlier) h x a = of_node (bytes_eq n (change_certname y.change)) x y (life ttls n earlier) h.0 a (life_each earlier h.1 x)
  life_each (swept kinds m ∷ earlier) h x a =
      unpurged (kinds.purge && is_purged ttls m (greatest_expiry (swept kinds m ∷ earlier)) (life ttls n earlier)) x (life ttls n earlier) a (life_each earlier h x)

-- of each receipt of the trace
receipt_each : (P : ℕ → Type 0) (history : Trace) → EachApplied (λ x. P x.receipt) history → (r : ℕ) → Among r (receipts history) → P r
receipt_each P [] h r a = absurd a
receipt_each P (trace.applied x ∷ earlier) h r (inl e) = subst P (sym e) h.0
receipt_each P (trace.applied x ∷ earlier) h r (inr a) = receipt_each P earlier h.1 r a
receipt_each P (swept kinds m ∷ earlier) h r a = receipt_each P earlier h r a

-- the command was applied, with the change that it decodes to
pub record WasApplied (history : History) (x : Applied) : Type 0 where
  pub stands : standing x.receipt history ≡ applied
  pub decodes : answer x.receipt history ≡ Some (Ok x.change)
  pub received : (x.received ≡ None) ⊎ (x.received ≡ received x.receipt history)

module _ (ttls : Ttls) where
  applied_still : (e : Event) (earlier : History) → IsLegal ttls (e ∷ earlier) → (x : Applied) → WasApplied earlier x → WasApplied (e ∷ earlier) x
  applied_still e earlier l x h =
      let known : IsKnown (standing x.receipt earlier) = subst IsKnown (sym h.stands) tt in
      record {
        stands = ended_stays ttls e earlier x.receipt l (subst IsEnded (sym h.stands) tt) ∙ h.stands;
        decodes = ap (option_map answer_of) (same_command ttls e earlier x.receipt l known) ∙ h.decodes;
        received = still_received (x.received) (same_command ttls e earlier x.receipt l known) h.received;
      }
    where
      still_received : (t : Option ℤ) → command x.receipt (e ∷ earlier) ≡ command x.receipt earlier → (t ≡ None) ⊎ (t ≡ received x.receipt earlier) → (t ≡ None) ⊎ (t ≡ received x.receipt (e ∷ earlier))
      still_received t same (inl none) = inl none
      still_received t same (inr is) = inr (is ∙ ap (option_map (λ (c : Command). c.received)) (sym same))

  each_still : (e : Event) (earlier : History) → IsLegal ttls (e ∷ earlier) → EachApplied (WasApplied earlier) (trace_of earlier) → EachApplied (WasApplied (e ∷ earlier)) (trace_of earlier)
  each_still e earlier l h = each_so (WasApplied earlier) (WasApplied (e ∷ earlier)) (applied_still e earlier l) (trace_of earlier) h

  by_apply : (r : ℕ) (t : Option ℤ) (earlier : History) (a : Option (Result Change Refusal)) → answer r earlier ≡ a → (t ≡ None) ⊎ (t ≡ received r earlier) → EachApplied (WasApplied (Apply r t ∷ earlier)) (trace_of earlier)
      → EachApplied (WasApplied (Apply r t ∷ earlier)) (with_applied r t a (trace_of earlier))
  by_apply r t earlier None e moment h = h
  by_apply r t earlier (Some (Err refusal)) e moment h = h
  by_apply r t earlier (Some (Ok change)) e moment h = (record { stands = now; decodes = e; received = moment }, h)
    where
      now : standing r (Apply r t ∷ earlier) ≡ applied
      now = rw (eqb-refl r) refl

  moment_of : (r : ℕ) (t : Option ℤ) (earlier : History) (c : Command) → command r earlier ≡ Some c → (t ≡ None) ⊎ (t ≡ Some c.received) → (t ≡ None) ⊎ (t ≡ received r earlier)
  moment_of r t earlier c submitted (inl none) = inl none
  moment_of r t earlier c submitted (inr is) = inr (is ∙ ap (option_map (λ (c : Command). c.received)) (sym submitted))

  pub each_was_applied : (history : History) → IsLegal ttls history → EachApplied (WasApplied history) (trace_of history)
  each_was_applied [] l = tt
  each_was_applied (Submit q c ∷ earlier) l = each_still (Submit q c) earlier l (each_was_applied earlier l.1)
  each_was_applied (Claim q ∷ earlier) l = each_still (Claim q) earlier l (each_was_applied earlier l.1)
  each_was_applied (Release q ∷ earlier) l = each_still (Release q) earlier l (each_was_applied earlier l.1)
  each_was_applied (Apply q t ∷ earlier) l = by_apply q t earlier (answer q earlier) refl (moment_of q t earlier l.0.command_is l.0.submitted l.0.received) (each_still (Apply q t) earlier l (each_was_applied earlier l.1))
  each_was_applied (Supersede q p ∷ earlier) l = each_still (Supersede q p) earlier l (each_was_applied earlier l.1)
  each_was_applied (Fail q before after ∷ earlier) l = each_still (Fail q before after) earlier l (each_was_applied earlier l.1)
  each_was_applied (Discard q cause ∷ earlier) l = each_still (Discard q cause) earlier l (each_was_applied earlier l.1)
  each_was_applied (Sweep kinds m ∷ earlier) l = each_still (Sweep kinds m) earlier l (each_was_applied earlier l.1)
  each_was_applied (Restart ∷ earlier) l = each_still Restart earlier l (each_was_applied earlier l.1)

as_submitted : (history : History) (x : Applied) (o : Option Command) → command x.receipt history ≡ o → WasApplied history x → IsAsSubmitted history x
as_submitted history x None e h = none_some (Ok x.change) (sym (ap (option_map answer_of) e) ∙ h.decodes)
as_submitted history x (Some c) e h = record {
  command_is = c;
  submitted = e;
  decodes = sym (some_same (answer_of c) (Ok x.change) (sym (ap (option_map answer_of) e) ∙ h.decodes));
  received = moment h.received;
}
  where
    moment : (x.received ≡ None) ⊎ (x.received ≡ received x.receipt history) → (x.received ≡ None) ⊎ (x.received ≡ Some c.received)
    moment (inl none) = inl none
    moment (inr is) = inr (is ∙ ap (option_map (λ (c : Command). c.received)) e)

pub applied_commands_were_submitted : AppliedCommandsWereSubmitted
applied_commands_were_submitted ttls history l =
    each_so (WasApplied history) (IsAsSubmitted history) (λ x h. as_submitted history x (command x.receipt history) refl h) (trace_of history) (each_was_applied ttls history l)

-- ---- what a standing says

-- it stands in the trace, and decodes to a change
record IsIn (r : ℕ) (history : History) : Type 0 where
  change : Change
  decodes : answer r history ≡ Some (Ok change)
  among : Among r (receipts (trace_of history))

record HasNewer (q p : ℕ) (history : History) : Type 0 where
  group : Group
  stamp : ℤ
  newer : ℤ
  known : IsKnown (standing q history)
  key_is : key q history ≡ Some (group, stamp)
  newer_key_is : key p history ≡ Some (group, newer)
  below : IsBelow (rank_at stamp q) (rank_at newer p)
  newer_stands : standing p history ≡ applied

abbrev Says : ℕ → Standing → History → Type 0
Says r unknown history = Unit {0}
Says r queued history = Unit {0}
Says r claimed history = Unit {0}
Says r applied history = IsIn r history
Says r (superseded p) history = HasNewer r p history
Says r (discarded (Refused refusal)) history = answer r history ≡ Some (Err refusal)
Says r (discarded Failures) history = fails r history ≡ 16

more_receipts : (r q : ℕ) (t : Option ℤ) (a : Option (Result Change Refusal)) (history : Trace) → Among r (receipts history) → Among r (receipts (with_applied q t a history))
more_receipts r q t None history h = h
more_receipts r q t (Some (Err refusal)) history h = h
more_receipts r q t (Some (Ok change)) history h = inr h

among_still : (e : Event) (earlier : History) (r : ℕ) → Among r (receipts (trace_of earlier)) → Among r (receipts (trace_of (e ∷ earlier)))
among_still (Submit q c) earlier r h = h
among_still (Claim q) earlier r h = h
among_still (Release q) earlier r h = h
among_still (Apply q t) earlier r h = more_receipts r q t (answer q earlier) (trace_of earlier) h
among_still (Supersede q p) earlier r h = h
among_still (Fail q before after) earlier r h = h
among_still (Discard q cause) earlier r h = h
among_still (Sweep kinds m) earlier r h = h
among_still Restart earlier r h = h

module _ (ttls : Ttls) (e : Event) (earlier : History) (l : IsLegal ttls (e ∷ earlier)) where
  same_answer : (r : ℕ) → IsKnown (standing r earlier) → answer r (e ∷ earlier) ≡ answer r earlier
  same_answer r k = ap (option_map answer_of) (same_command ttls e earlier r l k)

  same_key : (r : ℕ) → IsKnown (standing r earlier) → key r (e ∷ earlier) ≡ key r earlier
  same_key r k = ap (option_and_then key_of) (same_command ttls e earlier r l k)

  still : (r : ℕ) (s : Standing) → standing r earlier ≡ s → Says r s earlier → Says r s (e ∷ earlier)
  still r unknown f h = tt
  still r queued f h = tt
  still r claimed f h = tt
  still r applied f h = record {
    change = h.change;
    decodes = same_answer r (subst IsKnown (sym f) tt) ∙ h.decodes;
    among = among_still e earlier r h.among;
  }
  still r (superseded p) f h = record {
    group = h.group;
    stamp = h.stamp;
    newer = h.newer;
    known = subst IsKnown (sym (ended_stays ttls e earlier r l (subst IsEnded (sym f) tt))) h.known;
    key_is = same_key r h.known ∙ h.key_is;
    newer_key_is = same_key p (subst IsKnown (sym h.newer_stands) tt) ∙ h.newer_key_is;
    below = h.below;
    newer_stands = ended_stays ttls e earlier p l (subst IsEnded (sym h.newer_stands) tt) ∙ h.newer_stands;
  }
  still r (discarded (Refused refusal)) f h = same_answer r (subst IsKnown (sym f) tt) ∙ h
  still r (discarded Failures) f h = same_fails ttls e earlier r l (subst IsEnded (sym f) tt) ∙ h

  -- of the command that the event names, and of the others
  step : (b : Bool) (q r : ℕ) (after : Standing) → (q == r) ≡ b → Says q after (e ∷ earlier) → Says r (standing r earlier) earlier → Says r (if b then after else standing r earlier) (e ∷ earlier)
  step true q r after f now h = subst (λ n. Says n after (e ∷ earlier)) (eq_is q r f) now
  step false q r after f now h = still r (standing r earlier) refl h

requeued_says : (r : ℕ) (history : History) (s : Standing) → Says r s history → Says r (requeued s) history
requeued_says r history unknown h = h
requeued_says r history queued h = h
requeued_says r history claimed h = tt
requeued_says r history applied h = h
requeued_says r history (superseded p) h = h
requeued_says r history (discarded cause) h = h

applied_now : (r : ℕ) (t : Option ℤ) (earlier : History) (change : Change) → answer r earlier ≡ Some (Ok change) → Says r applied (Apply r t ∷ earlier)
applied_now r t earlier change e = record {
  change = change;
  decodes = e;
  among = subst (λ (a : Option (Result Change Refusal)). Among r (receipts (with_applied r t a (trace_of earlier)))) (sym e) (inl refl);
}

-- the newest of a group has the group's key
key_with : (k : Kind) (g : Group) (c : List ℕ) (m : ℤ) → (k ≡ kind.Report → ⊥) → g.certname ≡ c → g.kind ≡ k → keyed k (Some (c, m)) ≡ Some (g, m)
key_with kind.Facts g c m no_report e f = λ i. Some (record { certname = sym e i; kind = sym f i }, m)
key_with kind.Catalog g c m no_report e f = λ i. Some (record { certname = sym e i; kind = sym f i }, m)
key_with kind.Report g c m no_report e f = absurd (no_report refl)
key_with kind.Deactivate g c m no_report e f = λ i. Some (record { certname = sym e i; kind = sym f i }, m)
key_with kind.Expiration g c m no_report e f = λ i. Some (record { certname = sym e i; kind = sym f i }, m)

key_of_found : (o : Option Command) (d : Change) → option_map answer_of o ≡ Some (Ok d) → option_and_then key_of o ≡ key_of_change d
key_of_found None d e = none_some (Ok d) e
key_of_found (Some c) d e = key_is_of_change c d (sym (some_same (answer_of c) (Ok d) e))

group_is_no_report : (o : Option Command) (k : Key) → option_and_then key_of o ≡ Some k → k.0.kind ≡ kind.Report → ⊥
group_is_no_report None k e = none_some k e
group_is_no_report (Some c) k e = key_is_no_report c k e

superseded_now : (ttls : Ttls) (q p : ℕ) (earlier : History) → IsLegal ttls (Supersede q p ∷ earlier) → Says q (superseded p) (Supersede q p ∷ earlier)
superseded_now ttls q p earlier l =
    let o = l.0 in
    let x = o.newer in
    let xs = life ttls o.group.certname (trace_of earlier) in
    let greatest = newest_is_greatest o.group.kind xs x o.newest in
    let was = applied_still ttls (Supersede q p) earlier l x (life_each (WasApplied earlier) ttls o.group.certname (trace_of earlier) (each_was_applied ttls earlier l.1) x greatest.among) in
    let of_kind : change_kind x.change ≡ o.group.kind = kind_from_is_kind o.group.kind x greatest.kind in
    let no_report : change_kind x.change ≡ kind.Report → ⊥ = λ f. group_is_no_report (command q earlier) (o.group, o.stamp) o.key_is (sym of_kind ∙ f) in
    let newer_key : key x.receipt (Supersede q p ∷ earlier) ≡ Some (o.group, change_stamp x.change) =
    key_of_found (command x.receipt (Supersede q p ∷ earlier)) x.change was.decodes
    ∙ key_with (change_kind x.change) o.group (change_certname x.change) (change_stamp x.change) no_report (comes_from ttls o.group.certname (trace_of earlier) x greatest.among).certname (sym of_kind) in
    record {
      group = o.group;
      stamp = o.stamp;
      newer = change_stamp x.change;
      known = rw (eqb-refl q) tt;
      key_is = o.key_is;
      newer_key_is = ap (λ n. key n (Supersede q p ∷ earlier)) o.receipt ∙ newer_key;
      below = subst (λ n. IsBelow (rank_at o.stamp q) (rank_at (change_stamp x.change) n)) (sym o.receipt) o.below;
      newer_stands = ap (λ n. standing n (Supersede q p ∷ earlier)) o.receipt ∙ was.stands;
    }

says : (ttls : Ttls) (history : History) (r : ℕ) → IsLegal ttls history → Says r (standing r history) history
says ttls [] r l = tt
says ttls (Submit q c ∷ earlier) r l = step ttls (Submit q c) earlier l (q == r) q r queued refl tt (says ttls earlier r l.1)
says ttls (Claim q ∷ earlier) r l = step ttls (Claim q) earlier l (q == r) q r claimed refl tt (says ttls earlier r l.1)
says ttls (Release q ∷ earlier) r l = step ttls (Release q) earlier l (q == r) q r queued refl tt (says ttls earlier r l.1)
says ttls (Apply q t ∷ earlier) r l = step ttls (Apply q t) earlier l (q == r) q r applied refl (applied_now q t earlier l.0.change l.0.decodes) (says ttls earlier r l.1)
says ttls (Supersede q p ∷ earlier) r l = step ttls (Supersede q p) earlier l (q == r) q r (superseded p) refl (superseded_now ttls q p earlier l) (says ttls earlier r l.1)
says ttls (Fail q before after ∷ earlier) r l = step ttls (Fail q before after) earlier l (q == r) q r queued refl tt (says ttls earlier r l.1)
says ttls (Discard q (Refused refusal) ∷ earlier) r l = step ttls (Discard q (Refused refusal)) earlier l (q == r) q r (discarded (Refused refusal)) refl l.0.1 (says ttls earlier r l.1)
says ttls (Discard q Failures ∷ earlier) r l = step ttls (Discard q Failures) earlier l (q == r) q r (discarded Failures) refl l.0.1 (says ttls earlier r l.1)
says ttls (Sweep kinds m ∷ earlier) r l = still ttls (Sweep kinds m) earlier l r (standing r earlier) refl (says ttls earlier r l.1)
says ttls (Restart ∷ earlier) r l = requeued_says r (Restart ∷ earlier) (standing r earlier) (still ttls Restart earlier l r (standing r earlier) refl (says ttls earlier r l.1))

-- ---- what an outcome says

standing_of : (s : Standing) → outcome_of s ≡ Some outcomes.applied → s ≡ applied
standing_of unknown e = none_some outcomes.applied e
standing_of queued e = absurd (let same = some_same outcomes.pending outcomes.applied e in cc)
standing_of claimed e = absurd (let same = some_same outcomes.pending outcomes.applied e in cc)
standing_of applied e = refl
standing_of (superseded p) e = absurd (let same = some_same (outcomes.superseded_by p) outcomes.applied e in cc)
standing_of (discarded cause) e = absurd (let same = some_same (outcomes.discarded cause) outcomes.applied e in cc)

superseded_of : (s : Standing) (p : ℕ) → outcome_of s ≡ Some (outcomes.superseded_by p) → s ≡ superseded p
superseded_of unknown p e = none_some (outcomes.superseded_by p) e
superseded_of queued p e = absurd (let same = some_same outcomes.pending (outcomes.superseded_by p) e in cc)
superseded_of claimed p e = absurd (let same = some_same outcomes.pending (outcomes.superseded_by p) e in cc)
superseded_of applied p e = absurd (let same = some_same outcomes.applied (outcomes.superseded_by p) e in cc)
superseded_of (superseded q) p e = let same = some_same (outcomes.superseded_by q) (outcomes.superseded_by p) e in cc
superseded_of (discarded cause) p e = absurd (let same = some_same (outcomes.discarded cause) (outcomes.superseded_by p) e in cc)

discarded_of : (s : Standing) (cause : Cause) → outcome_of s ≡ Some (outcomes.discarded cause) → s ≡ discarded cause
discarded_of unknown cause e = none_some (outcomes.discarded cause) e
discarded_of queued cause e = absurd (let same = some_same outcomes.pending (outcomes.discarded cause) e in cc)
discarded_of claimed cause e = absurd (let same = some_same outcomes.pending (outcomes.discarded cause) e in cc)
discarded_of applied cause e = absurd (let same = some_same outcomes.applied (outcomes.discarded cause) e in cc)
discarded_of (superseded p) cause e = absurd (let same = some_same (outcomes.superseded_by p) (outcomes.discarded cause) e in cc)
discarded_of (discarded other) cause e = let same = some_same (outcomes.discarded other) (outcomes.discarded cause) e in cc

module _ (ttls : Ttls) (events : History) (l : IsLegal ttls events) where
  said : (r : ℕ) (s : Standing) → standing r events ≡ s → Says r s events
  said r s e = subst (λ (s : Standing). Says r s events) e (says ttls events r l)

  is_in : (r : ℕ) → outcome r events ≡ Some outcomes.applied → IsIn r events
  is_in r h = said r applied (standing_of (standing r events) h)

pub applied_commands_decode : AppliedCommandsDecode
applied_commands_decode ttls events r l h = let found = is_in ttls events l r h in (found.change, found.decodes)

pub applied_commands_stand_in_the_trace : AppliedCommandsStandInTheTrace
applied_commands_stand_in_the_trace ttls events r l = (there, back)
  where
    there : outcome r events ≡ Some outcomes.applied → Contains (receipts (trace_of events)) r
    there h = Contains-from_Among (receipts (trace_of events)) r (is_in ttls events l r h).among

    back : Contains (receipts (trace_of events)) r → outcome r events ≡ Some outcomes.applied
    back h =
        ap outcome_of (receipt_each (λ n. standing n events ≡ applied) (trace_of events)
        (each_so (WasApplied events) (λ x. standing x.receipt events ≡ applied) (λ x was. was.stands) (trace_of events) (each_was_applied ttls events l)) r (Among-from_Contains (receipts (trace_of events)) r h))

pub superseded_commands_are_replaced : SupersededCommandsAreReplaced
superseded_commands_are_replaced ttls events q p l h =
    let newer : HasNewer q p events = said ttls events l q (superseded p) (superseded_of (standing q events) p h) in
    record {
      group = newer.group;
      stamp = newer.stamp;
      newer = newer.newer;
      key_is = newer.key_is;
      newer_key_is = newer.newer_key_is;
      below = newer.below;
      newer_is_applied = ap outcome_of newer.newer_stands;
    }

pub refused_commands_are_refused : RefusedCommandsAreRefused
refused_commands_are_refused ttls events r refusal l h = said ttls events l r (discarded (Refused refusal)) (discarded_of (standing r events) (Refused refusal) h)

pub given_up_commands_failed_sixteen_times : GivenUpCommandsFailedSixteenTimes
given_up_commands_failed_sixteen_times ttls events r l h = said ttls events l r (discarded Failures) (discarded_of (standing r events) Failures h)
