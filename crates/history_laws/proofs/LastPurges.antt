-- A life is the node's commands since the last purge that took it.
use Rattle.std.proofs.Common.{◌≡◌, ◌∙◌, inl, inr, ℕ, ℤ, List, [], ◌∷◌, ◌++◌, refl, sym, ap, subst, Bool, true, false, ◌&&◌, if◌then◌else◌}
use Rattle.std.specs.Str.{bytes_eq}
use Rattle.spool_spec.proofs.of_plain_laws.Booleans.{both_true, true_both, no_truth}
use Rattle.spool_spec.specs.fleet_rows.declared.settings.Kinds.{Kinds}
use Rattle.spool_spec.specs.fleet_rows.declared.settings.Ttls.{Ttls}
use Rattle.spool_spec.specs.fleet_rows.declared.applied.Applied.{Applied}
use Rattle.spool_spec.specs.fleet_rows.Change.{change_certname}
use Rattle.spool_spec.specs.history_spec.Trace.{TraceEvent, applied, swept, Trace}
use Rattle.spool_spec.specs.history_spec.Node.{is_purged}
use Rattle.spool_spec.specs.history_spec.Life.{life, greatest_expiry}
use Rattle.history_laws.specs.LifeLaws.{commands_of, Takes, IsLifeOf, LivesFollowTheLastPurge}
use Rattle.history_laws.proofs.NodeStates.{purged_nodes}

-- a list that begins so
first_of : (e f : TraceEvent) (es fs : Trace) → e ∷ es ≡ f ∷ fs → (e ≡ f) × (es ≡ fs)
first_of e f es fs h = (cc, cc)

-- no list ends with something and is empty
nothing : (since : Trace) (e : TraceEvent) (before : Trace) → ◌≡◌ {A = Trace} [] (since ++ e ∷ before) → ⊥
nothing [] e before same = cc
nothing (f ∷ since) e before same = cc

abbrev is_command : TraceEvent → Bool
is_command (applied x) = true
is_command (swept kinds m) = false

module _ (ttls : Ttls) (node : List ℕ) where
  taken : (kinds : Kinds) (m : ℤ) (earlier : Trace) → (kinds.purge && is_purged ttls m (greatest_expiry (swept kinds m ∷ earlier)) (life ttls node earlier)) ≡ true → Takes ttls node kinds m earlier
  taken kinds m earlier h =
      let both = both_true kinds.purge (is_purged ttls m (greatest_expiry (swept kinds m ∷ earlier)) (life ttls node earlier)) h in
      (both.0, (purged_nodes ttls m (greatest_expiry (swept kinds m ∷ earlier)) (life ttls node earlier)).0 both.1)

  is_taken : (kinds : Kinds) (m : ℤ) (earlier : Trace) → Takes ttls node kinds m earlier → (kinds.purge && is_purged ttls m (greatest_expiry (swept kinds m ∷ earlier)) (life ttls node earlier)) ≡ true
  is_taken kinds m earlier h =
      true_both kinds.purge (is_purged ttls m (greatest_expiry (swept kinds m ∷ earlier)) (life ttls node earlier)) h.0
      ((purged_nodes ttls m (greatest_expiry (swept kinds m ∷ earlier)) (life ttls node earlier)).1 h.1)

  -- ---- a command in front

  behind_command : (x : Applied) (later earlier since : Trace) (kinds : Kinds) (m : ℤ) (before : Trace) → ((s : Trace) → later ≡ s ++ swept kinds m ∷ before → ¬ Takes ttls node kinds m (before ++ earlier))
      → applied x ∷ later ≡ since ++ swept kinds m ∷ before → ¬ Takes ttls node kinds m (before ++ earlier)
  behind_command x later earlier [] kinds m before h e = absurd (let same = first_of (applied x) (swept kinds m) later before e in no_truth (sym (ap is_command same.0)))
  behind_command x later earlier (f ∷ since) kinds m before h e = h since (first_of (applied x) f later (since ++ swept kinds m ∷ before) e).1

  of_command : (b : Bool) (x : Applied) (xs : List Applied) (later : Trace) → bytes_eq node (change_certname x.change) ≡ b → xs ≡ commands_of node later → ◌≡◌ {A = List Applied} (if b then x ∷ xs else xs) (commands_of node (applied x ∷ later))
  of_command true x xs later e h = rw e (ap (λ ys. x ∷ ys) h)
  of_command false x xs later e h = rw e h

  -- ---- a sweep in front

  abbrev TakesBy : TraceEvent → Trace → Type 0
  TakesBy (applied x) es = ⊥
  TakesBy (swept kinds m) es = Takes ttls node kinds m es

  behind_sweep : (kinds : Kinds) (m : ℤ) (later earlier since : Trace) (others : Kinds) (n : ℤ) (before : Trace) → ¬ Takes ttls node kinds m (later ++ earlier) → ((s : Trace) → later ≡ s ++ swept others n ∷ before → ¬ Takes ttls node others n (before ++ earlier))
      → swept kinds m ∷ later ≡ since ++ swept others n ∷ before → ¬ Takes ttls node others n (before ++ earlier)
  behind_sweep kinds m later earlier [] others n before left h e =
      let same = first_of (swept kinds m) (swept others n) later before e in
      λ takes. left (subst (λ (z : TraceEvent). TakesBy z (later ++ earlier)) (sym same.0) (subst (λ ls. Takes ttls node others n (ls ++ earlier)) (sym same.1) takes))
  behind_sweep kinds m later earlier (f ∷ since) others n before left h e = h since (first_of (swept kinds m) f later (since ++ swept others n ∷ before) e).1

  by_sweep : (b : Bool) (kinds : Kinds) (m : ℤ) (history : Trace) → (kinds.purge && is_purged ttls m (greatest_expiry (swept kinds m ∷ history)) (life ttls node history)) ≡ b
      → IsLifeOf ttls node history (life ttls node history) → IsLifeOf ttls node (swept kinds m ∷ history) (if b then [] else life ttls node history)
  by_sweep true kinds m history e h = record {
    later = [];
    earlier = swept kinds m ∷ history;
    history_is = refl;
    from_the_first_or_a_purge = inr (record { kinds = kinds; moment = m; before = history; history_is = refl; takes = taken kinds m history e });
    no_purge_since = λ since others n before same takes. nothing since (swept others n) before same;
    life_is = refl;
  }
  by_sweep false kinds m history e h = record {
    later = swept kinds m ∷ h.later;
    earlier = h.earlier;
    history_is = ap (λ es. swept kinds m ∷ es) h.history_is;
    from_the_first_or_a_purge = h.from_the_first_or_a_purge;
    no_purge_since = λ since others n before.
        behind_sweep kinds m h.later h.earlier since others n before
        (λ takes. no_truth (sym e ∙ is_taken kinds m history (subst (Takes ttls node kinds m) (sym h.history_is) takes)))
        (λ s. h.no_purge_since s others n before);
    life_is = h.life_is;
  }

  is_life : (history : Trace) → IsLifeOf ttls node history (life ttls node history)
  is_life [] = record {
    later = [];
    earlier = [];
    history_is = refl;
    from_the_first_or_a_purge = inl refl;
    no_purge_since = λ since kinds m before same takes. nothing since (swept kinds m) before same;
    life_is = refl;
  }
  is_life (applied x ∷ history) =
      let h = is_life history in
      record {
        later = applied x ∷ h.later;
        earlier = h.earlier;
        history_is = ap (λ es. applied x ∷ es) h.history_is;
        from_the_first_or_a_purge = h.from_the_first_or_a_purge;
        no_purge_since = λ since kinds m before. behind_command x h.later h.earlier since kinds m before (λ s. h.no_purge_since s kinds m before);
        life_is = of_command (bytes_eq node (change_certname x.change)) x (life ttls node history) h.later refl h.life_is;
      }
  is_life (swept kinds m ∷ history) = by_sweep (kinds.purge && is_purged ttls m (greatest_expiry (swept kinds m ∷ history)) (life ttls node history)) kinds m history refl (is_life history)

pub lives_follow_the_last_purge : LivesFollowTheLastPurge
lives_follow_the_last_purge = is_life
