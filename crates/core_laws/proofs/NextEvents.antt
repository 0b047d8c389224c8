-- A claimed command may end, and where commands wait one of them may go on.
use Rattle.std.proofs.Common.{◌≡◌, ◌≢◌, ◌∙◌, ◌⊎◌, inl, inr, ℕ, List, [], ◌∷◌, refl, sym, ap, subst, Bool, true, false, ◌&&◌, ◌||◌, Option, Some, None, Result, Ok, Err}
use Rattle.std.specs.List.{list_any}
use Rattle.std.specs.Option.{option_map}
use Rattle.std.specs.Ordering.{is_lt}
use Rattle.core_machine.proofs.of_plain_laws.Booleans.{both_true, no_truth}
use Rattle.core_machine.proofs.of_plain_laws.Options.{some_same}
use Rattle.core_machine.specs.fleet_rows.Rank.{rank_cmp}
use Rattle.core_machine.specs.fleet_rows.declared.change.Change.{Change}
use Rattle.core_machine.specs.fleet_rows.declared.command.Command.{Command}
use Rattle.core_machine.specs.fleet_rows.declared.rank.Rank.{Rank}
use Rattle.core_machine.specs.fleet_rows.declared.refusal.Refusal.{Refusal}
use Rattle.core_machine.specs.fleet_rows.declared.settings.Ttls.{Ttls}
use Rattle.checkpoint_spec.proofs.of_history_laws.Members.{Among}
use Rattle.checkpoint_spec.proofs.of_history_laws.Ranks.{not_below_itself, not_below_back, not_below_further}
use Rattle.checkpoint_spec.proofs.of_history_laws.SameMembers.{passes_from_any}
use Rattle.core_machine.specs.core_spec.declared.entry.Entry.{Entry}
use Rattle.core_machine.specs.core_spec.Commands.{answer_of, Key}
use Rattle.core_machine.specs.core_spec.History.{History, command, answer, claimed, standing}
use Rattle.core_machine.specs.core_spec.Legal.{IsLegal, rank_at}
use Rattle.core_machine.specs.core_spec.Pending.{pending_of, NoneIsWornOut}
use Rattle.core_machine.specs.Claims.{same_group, holds_back, is_held, is_candidate, first_candidate, is_below, is_older}
use Rattle.core_laws.specs.Claims.{newest_rank}
use Rattle.core_laws.specs.NextEvents.{MayBeApplied, MayBeRefused, ClaimedCommandsMayEnd, GoesOn, WaitingCommandsGoOn}
use Rattle.core_laws.proofs.Claims.{same_groups, group_itself, none_passes, none_from_all, none_found, first_candidates_are_claimable, older_candidates_are_superseded}
use Rattle.core_laws.proofs.Entries.{IsKnown, HasCommand, known_is_submitted, standing_if, entry_is_of}

-- ---- what is claimed may end

module _ (ttls : Ttls) (r : ℕ) (history : History) (s : standing r history ≡ claimed) where
  by_answer : (c : Command) (a : Result Change Refusal) → command r history ≡ Some c → answer_of c ≡ a → MayBeApplied ttls r history ⊎ MayBeRefused ttls r history
  by_answer c (Ok d) e h =
      let decodes : answer r history ≡ Some (Ok d) = ap (option_map answer_of) e ∙ ap (λ a. Some a) h in
      inl (record {
        command_is = c;
        submitted = e;
        with_moment = record { command_is = c; change = d; claimed = s; submitted = e; decodes = decodes; received = inr refl };
        without = record { command_is = c; change = d; claimed = s; submitted = e; decodes = decodes; received = inl refl };
      })
  by_answer c (Err refusal) e h =
      let decodes : answer r history ≡ Some (Err refusal) = ap (option_map answer_of) e ∙ ap (λ a. Some a) h in
      inr (record { refusal = refusal; decodes = decodes; discard = (s, decodes) })

  by_command : (o : Option Command) → command r history ≡ o → HasCommand o → MayBeApplied ttls r history ⊎ MayBeRefused ttls r history
  by_command None e h = absurd h
  by_command (Some c) e h = by_answer c (answer_of c) e refl

pub claimed_commands_may_end : ClaimedCommandsMayEnd
claimed_commands_may_end ttls r history l s = by_command ttls r history s (command r history) refl (known_is_submitted ttls r history l (subst IsKnown (sym s) tt))

-- ---- where none is claimed the greatest of a group is a candidate

either_false : (b : Bool) → ((b ≡ true) → ⊥) → b ≡ false
either_false true h = absurd (h refl)
either_false false h = refl

module _ (es : List Entry) (idle : (e : Entry) → Among e es → e.claimed ≡ false) where
  -- an entry of a group, that none of these holds back
  record IsBest (xs : List Entry) : Type 0 where
    entry : Entry
    key_of : Key
    among : Among entry es
    group : entry.group ≡ Some key_of
    free : (f : Entry) → Among f xs → holds_back key_of entry.receipt f f.group ≡ false

  -- what holds it back is of the group, and has a greater rank
  record Holds (k : Key) (r : ℕ) (f : Entry) : Type 0 where
    other : Key
    group : f.group ≡ Some other
    same : same_group k.0 other.0 ≡ true
    below : is_lt (rank_cmp (rank_at k.1 r) (rank_at other.1 f.receipt)) ≡ true

  holds_so : (k : Key) (r : ℕ) (f : Entry) (o : Option Key) → f.group ≡ o → f.claimed ≡ false → holds_back k r f o ≡ true → Holds k r f
  holds_so k r f None e c h = no_truth h
  holds_so k r f (Some m) e c h =
      let parts = both_true (same_group k.0 m.0) (f.claimed || is_lt (rank_cmp (rank_at k.1 r) (rank_at m.1 f.receipt))) h in
      record { other = m; group = e; same = parts.0; below = sym (ap (λ b. b || is_lt (rank_cmp (rank_at k.1 r) (rank_at m.1 f.receipt))) c) ∙ parts.1 }

  -- and what is of the group without holding it back has no greater one
  no_greater : (b : Bool) (k m : Key) (r : ℕ) (f : Entry) → same_group k.0 m.0 ≡ b → b ≡ true → f.claimed ≡ false → (b && (f.claimed || is_lt (rank_cmp (rank_at k.1 r) (rank_at m.1 f.receipt)))) ≡ false
      → is_lt (rank_cmp (rank_at k.1 r) (rank_at m.1 f.receipt)) ≡ false
  no_greater true k m r f e h c g = sym (ap (λ b. b || is_lt (rank_cmp (rank_at k.1 r) (rank_at m.1 f.receipt))) c) ∙ g
  no_greater false k m r f e h c g = no_truth h

  better : (xs : List Entry) (x : Entry) (best : IsBest xs) → Among x es → ((f : Entry) → Among f xs → Among f es) → Holds best.key_of best.entry.receipt x → IsBest (x ∷ xs)
  better xs x best a all h = record {
    entry = x;
    key_of = h.other;
    among = a;
    group = h.group;
    free = λ f b. either_false (holds_back h.other x.receipt f f.group) (λ g. fails f b (holds_so h.other x.receipt f f.group refl (idle f (within f b)) g));
  }
    where
      within : (f : Entry) → Among f (x ∷ xs) → Among f es
      within f (inl e) = subst (λ g. Among g es) (sym e) a
      within f (inr b) = all f b

      fails : (f : Entry) → Among f (x ∷ xs) → Holds h.other x.receipt f → ⊥
      fails f (inl e) g =
          let tie : h.other ≡ g.other = some_same g.other h.other (sym g.group ∙ ap (λ (e : Entry). e.group) e ∙ h.group) in
          no_truth (sym (not_below_itself (rank_at h.other.1 x.receipt)) ∙ (λ i. is_lt (rank_cmp (rank_at h.other.1 x.receipt) (rank_at (tie i).1 ((sym e i).receipt)))) ∙ g.below)
      fails f (inr b) g =
          let k = best.key_of in
          let r = best.entry.receipt in
          let one : k.0 ≡ g.other.0 = same_groups k.0 h.other.0 h.same ∙ same_groups h.other.0 g.other.0 g.same in
          let of : same_group k.0 g.other.0 ≡ true = subst (λ n. same_group k.0 n ≡ true) one (group_itself k.0) in
          let free : holds_back k r f (Some g.other) ≡ false = sym (ap (holds_back k r f) g.group) ∙ best.free f b in
          let beside = no_greater (same_group k.0 g.other.0) k g.other r f refl of (idle f (all f b)) free in
          let back = not_below_back (rank_at k.1 r) (rank_at h.other.1 x.receipt) h.below in
          no_truth (sym (not_below_further (rank_at h.other.1 x.receipt) (rank_at k.1 r) (rank_at g.other.1 f.receipt) back beside) ∙ g.below)

  pick_step : (b : Bool) (xs : List Entry) (x : Entry) (best : IsBest xs) → holds_back best.key_of best.entry.receipt x x.group ≡ b → ((f : Entry) → Among f (x ∷ xs) → Among f es) → IsBest (x ∷ xs)
  pick_step true xs x best e all =
      better xs x best (all x (inl refl)) (λ f a. all f (inr a)) (holds_so best.key_of best.entry.receipt x x.group refl (idle x (all x (inl refl))) e)
  pick_step false xs x best e all = record { entry = best.entry; key_of = best.key_of; among = best.among; group = best.group; free = free }
    where
      free : (f : Entry) → Among f (x ∷ xs) → holds_back best.key_of best.entry.receipt f f.group ≡ false
      free f (inl same) = ap (λ (f : Entry). holds_back best.key_of best.entry.receipt f f.group) same ∙ e
      free f (inr a) = best.free f a

  pick : (xs : List Entry) (e : Entry) (k : Key) → Among e es → e.group ≡ Some k → ((f : Entry) → Among f xs → Among f es) → IsBest xs
  pick [] e k a g all = record { entry = e; key_of = k; among = a; group = g; free = λ f b. absurd b }
  pick (x ∷ xs) e k a g all =
      let best = pick xs e k a g (λ f b. all f (inr b)) in
      pick_step (holds_back best.key_of best.entry.receipt x x.group) xs x best refl all

  unheld : (e : Entry) → Among e es → is_held e.group e.receipt es ≡ false → (f : Entry) × Among f es × (is_candidate es f ≡ true)
  unheld e a h = (e, a, rw (idle e a, h) refl)

  -- some entry is a candidate
  candidate : (e : Entry) → Among e es → (o : Option Key) → e.group ≡ o → (f : Entry) × Among f es × (is_candidate es f ≡ true)
  candidate e a None g = unheld e a (ap (λ o. is_held o e.receipt es) g)
  candidate e a (Some k) g =
      let best = pick es e k a g (λ f b. b) in
      unheld best.entry best.among (ap (λ o. is_held o best.entry.receipt es) best.group ∙ none_from_all (λ (f : Entry). holds_back best.key_of best.entry.receipt f f.group) es best.free)

-- ---- what waits goes on

some_entry : (es : List Entry) → es ≢ [] → (e : Entry) × Among e es
some_entry [] h = absurd (h refl)
some_entry (e ∷ es) h = (e, inl refl)

module _ (ttls : Ttls) (history : History) (l : IsLegal ttls history) (few : NoneIsWornOut (pending_of history)) where
  abbrev es : List Entry
  es = pending_of history

  by_rank : (e : Entry) (k : Key) (o : Option Rank) → first_candidate es es ≡ Some e → e.group ≡ Some k → newest_rank ttls history k.0 ≡ o → is_below (rank_at k.1 e.receipt) o ≡ true → GoesOn ttls history
  by_rank e k None h g n below = no_truth below
  by_rank e k (Some rank) h g n below = inr (inr (e.receipt, rank.receipt, older_candidates_are_superseded ttls history e k rank l h g n below))

  by_group : (e : Entry) (o : Option Key) → first_candidate es es ≡ Some e → e.group ≡ o → is_older o e.receipt (newest_rank ttls history) ≡ true → GoesOn ttls history
  by_group e None h g older = no_truth older
  by_group e (Some k) h g older = by_rank e k (newest_rank ttls history k.0) h g refl older

  by_age : (b : Bool) (e : Entry) → first_candidate es es ≡ Some e → is_older e.group e.receipt (newest_rank ttls history) ≡ b → GoesOn ttls history
  by_age true e h older = by_group e e.group h refl older
  by_age false e h older = inr (inl (e.receipt, (first_candidates_are_claimable ttls history e l few h older).0.claimable))

  by_candidate : (o : Option Entry) → first_candidate es es ≡ o → (e : Entry) × Among e es × (is_candidate es e ≡ true) → GoesOn ttls history
  by_candidate None h c = no_truth (sym (none_found ttls history l es c.0 h c.1) ∙ c.2)
  by_candidate (Some e) h c = by_age (is_older e.group e.receipt (newest_rank ttls history)) e h refl

  by_claim : (b : Bool) → list_any (λ (e : Entry). e.claimed) es ≡ b → es ≢ [] → GoesOn ttls history
  by_claim true h some =
      let one = passes_from_any (λ (e : Entry). e.claimed) es h in
      inl (one.0.receipt, (entry_is_of ttls history one.0 l one.1).stands ∙ ap standing_if one.2)
  by_claim false h some =
      let first = some_entry es some in
      by_candidate (first_candidate es es) refl (candidate es (λ e a. none_passes (λ (e : Entry). e.claimed) es e h a) first.0 first.1 first.0.group refl)

pub waiting_commands_go_on : WaitingCommandsGoOn
waiting_commands_go_on ttls history l few some = by_claim ttls history l few (list_any (λ (e : Entry). e.claimed) (pending_of history)) refl some
