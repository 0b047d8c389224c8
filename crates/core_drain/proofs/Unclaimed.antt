-- What stays claimed.
use Rattle.std.proofs.Common.{◌≡◌, ◌≢◌, ◌∙◌, ◌↔◌, inl, inr, ℕ, ◌==◌, arith, Bool, true, false, if◌then◌else◌, [], ◌∷◌, ◌++◌, refl, sym, ap, subst}
use Rattle.command_decode.specs.fleet_rows.declared.refusal.Cause.{Cause}
use Rattle.command_decode.specs.fleet_rows.declared.refusal.Cause.TheVariants as cause
use Rattle.core_ends.specs.core_spec.declared.event.Event.TheVariants.{Submit, Claim, Release, Apply, Supersede, Fail, Discard, Sweep, Restart}
use Rattle.core_ends.specs.core_spec.History.{History, Standing, queued, applied, superseded, discarded, standing}
use Rattle.core_ends.specs.core_spec.History as history
use Rattle.core_ends.specs.core_machine.Claims.{is_claimed}
use Rattle.core_ends.specs.core_state.declared.state.CoreState.{CoreState}
use Rattle.core_ends.specs.core_state.StandsFor.{history_of}
use Rattle.core_ends.specs.core_claims.declared.answers.Claimed.{Claimed}
use Rattle.core_ends.specs.core_claims.declared.answers.Claimed.TheVariants as claimed
use Rattle.core_ends.specs.core_claims.declared.job.Job.{Job}
use Rattle.core_ends.specs.core_claims.Claims.{OnlySupersede, claim_of}
use Rattle.core_ends.specs.core_claims.Releases.{ReleaseGives, released, wasnt_claimed}
use Rattle.core_ends.specs.core_settles.declared.answers.Settled.{Settled}
use Rattle.core_ends.specs.core_settles.declared.answers.Settled.TheVariants as settled
use Rattle.core_ends.specs.core_settles.declared.answers.Verdict.{Verdict}
use Rattle.core_ends.specs.core_settles.declared.answers.Verdict.TheVariants as verdict
use Rattle.core_ends.specs.core_settles.Settles.{SettleGives, SettleLeaves}
use Rattle.core_ends.proofs.of_core_state.Tests.{not_claimed_stands}
use Rattle.core_ends.specs.core_course.Sight.{Sight, Stood, is_down}
use Rattle.core_ends.specs.core_course.Work.{Worked}
use Rattle.core_ends.proofs.of_core_course.Stretches.{history_joined}
use Rattle.core_ends.specs.Ends.{NothingClaimed, ClaimsNoMore, LetsGo}
use Rattle.core_ends.proofs.Claims.{ClaimSays}
use Rattle.core_ends.proofs.Links.{core_up}

-- ---- events that let the command of a receipt go

-- what is claimed then was claimed before, and isn't of that receipt
abbrev Lets : ℕ → History → History → Type 0
Lets q old new = (r : ℕ) → standing r new ≡ history.claimed → (standing r old ≡ history.claimed) × (r ≢ q)

queued_isnt : queued ≢ history.claimed
queued_isnt e = cc

applied_isnt : applied ≢ history.claimed
applied_isnt e = cc

discarded_isnt : (why : Cause) → discarded why ≢ history.claimed
discarded_isnt why e = cc

superseded_isnt : (p : ℕ) → superseded p ≢ history.claimed
superseded_isnt p e = cc

-- an event that names the receipt, and after which it isn't claimed
named : (b : Bool) (q r : ℕ) (after s : Standing) → (q == r) ≡ b → after ≢ history.claimed → (if b then after else s) ≡ history.claimed → (s ≡ history.claimed) × (r ≢ q)
named true q r after s e other h = absurd (other h)
named false q r after s e other h = (h, λ same. let own : (q == r) ≡ true = grind (arith, same) in let apart : true ≡ false = sym own ∙ e in cc)

lets_release : (q : ℕ) (old : History) → Lets q old (Release q ∷ old)
lets_release q old r h = named (q == r) q r queued (standing r old) refl queued_isnt h

-- nothing happens to what isn't claimed
lets_none : (q : ℕ) (old : History) → standing q old ≢ history.claimed → Lets q old old
lets_none q old not r h = (h, λ same. not (ap (λ n. standing n old) (sym same) ∙ h))

pub lets_by_release : (q : ℕ) (old new : History) → ReleaseGives q old new → Lets q old new
lets_by_release q old new (released was is) = subst (Lets q old) (sym is) (lets_release q old)
lets_by_release q old new (wasnt_claimed not is) = subst (Lets q old) (sym is) (lets_none q old not)

-- ---- and what a settle makes of it

lets_settle : (came : Settled) (job : Job) (v : Verdict) (before now : ℕ) (old new : History) → came ≢ settled.StoreDown → came ≢ settled.Down → ((given : Job) (u : Verdict) → came ≢ settled.Memory given u)
    → SettleGives came job v before now false old new → Lets job.receipt old new
lets_settle settled.Applied job (verdict.Change change) before now old new store down memory is =
    subst (Lets job.receipt old) (sym is) (λ r h. named (job.receipt == r) job.receipt r applied (standing r old) refl applied_isnt h)
lets_settle settled.Applied job (verdict.Refused refusal) before now old new store down memory is = absurd is
lets_settle settled.Discarded job (verdict.Change change) before now old new store down memory is =
    subst (Lets job.receipt old) (sym is) (λ r h.
    let last = named (job.receipt == r) job.receipt r (discarded cause.Failures) (if job.receipt == r then queued else standing r old) refl (discarded_isnt cause.Failures) h in
    named (job.receipt == r) job.receipt r queued (standing r old) refl queued_isnt last.0)
lets_settle settled.Discarded job (verdict.Refused refusal) before now old new store down memory is =
    subst (Lets job.receipt old) (sym is) (λ r h. named (job.receipt == r) job.receipt r (discarded (cause.Refused refusal)) (standing r old) refl (discarded_isnt (cause.Refused refusal)) h)
lets_settle (settled.Failed attempts) job (verdict.Change change) before now old new store down memory is =
    subst (Lets job.receipt old) (sym is.0) (λ r h. named (job.receipt == r) job.receipt r queued (standing r old) refl queued_isnt h)
lets_settle (settled.Failed attempts) job (verdict.Refused refusal) before now old new store down memory is = absurd is
lets_settle settled.StoreDown job v before now old new store down memory is = absurd (store refl)
lets_settle settled.QueueFault job (verdict.Change change) before now old new store down memory (inl is) = absurd (let apart : false ≡ true = is.1 in cc)
lets_settle settled.QueueFault job (verdict.Change change) before now old new store down memory (inr (rose, inl is)) = subst (Lets job.receipt old) (sym is.1) (lets_release job.receipt old)
lets_settle settled.QueueFault job (verdict.Change change) before now old new store down memory (inr (rose, inr is)) = absurd (let apart : false ≡ true = is.0 in cc)
lets_settle settled.QueueFault job (verdict.Refused refusal) before now old new store down memory (inl is) = subst (Lets job.receipt old) (sym is.1) (lets_release job.receipt old)
lets_settle settled.QueueFault job (verdict.Refused refusal) before now old new store down memory (inr is) = absurd (let apart : false ≡ true = is.0 in cc)
lets_settle settled.NotClaimed job v before now old new store down memory is = subst (Lets job.receipt old) (sym is.1) (lets_none job.receipt old is.0)
lets_settle settled.Spent job v before now old new store down memory is = subst (Lets job.receipt old) (sym is) (lets_release job.receipt old)
lets_settle settled.Down job v before now old new store down memory is = absurd (down refl)
lets_settle (settled.Memory given u) job v before now old new store down memory is = absurd (memory given u refl)

-- ---- supersedings claim nothing

supersedings_claim : (more old : History) → OnlySupersede more → (r : ℕ) → standing r (more ++ old) ≡ history.claimed → standing r old ≡ history.claimed
supersedings_claim [] old only r h = h
supersedings_claim (Submit q c ∷ more) old only r h = absurd only
supersedings_claim (Claim q ∷ more) old only r h = absurd only
supersedings_claim (Release q ∷ more) old only r h = absurd only
supersedings_claim (Apply q t ∷ more) old only r h = absurd only
supersedings_claim (Supersede q p ∷ more) old only r h =
    supersedings_claim more old only r (named (q == r) q r (superseded p) (standing r (more ++ old)) refl (superseded_isnt p) h).0
supersedings_claim (Fail q before after ∷ more) old only r h = absurd only
supersedings_claim (Discard q why ∷ more) old only r h = absurd only
supersedings_claim (Sweep kinds m ∷ more) old only r h = absurd only
supersedings_claim (Restart ∷ more) old only r h = absurd only

-- a claim claims its own receipt alone
other_claim : (b : Bool) (q r : ℕ) (s : Standing) → (q == r) ≡ b → r ≢ q → (if b then history.claimed else s) ≡ history.claimed → s ≡ history.claimed
other_claim true q r s e other h = absurd (let same : r ≡ q = grind (arith, e) in other same)
other_claim false q r s e other h = h

no_claim : (came : Claimed) (more : History) → ((job : Job) → came ≢ claimed.Job job) → claim_of came ++ more ≡ more
no_claim (claimed.Job job) more none = absurd (none job refl)
no_claim claimed.Rest more none = refl
no_claim claimed.Done more none = refl
no_claim claimed.QueueFault more none = refl
no_claim claimed.Spent more none = refl
no_claim claimed.Down more none = refl
no_claim claimed.Memory more none = refl

module _ {D K : Type 0} (w : Sight D K) where
  -- ---- claims

  module _ (came : Claimed) (old new : CoreState D K) (says : ClaimSays w came old new) where
    pub claims_none : ((job : Job) → came ≢ claimed.Job job) → ClaimsNoMore w old new
    claims_none none up start stood r h =
        let added : new.events.list ≡ says.adds.more ++ old.events.list = says.adds.events ∙ no_claim came (says.adds.more ++ old.events.list) none in
        supersedings_claim says.adds.more (history_of old start) says.adds.only r
        (subst (λ (x : History). standing r x ≡ history.claimed) (history_joined says.adds.more old new start added) h)

    -- what it claims is let go
    pub claimed_let_go : (job : Job) (end : CoreState D K) → came ≡ claimed.Job job → LetsGo w job.receipt new end → ClaimsNoMore w old end
    claimed_let_go job end is lets up start stood r h =
        let left = lets up start (says.stands start stood) r h in
        let added : new.events.list ≡ (Claim job.receipt ∷ says.adds.more) ++ old.events.list = says.adds.events ∙ ap (λ (x : Claimed). claim_of x ++ (says.adds.more ++ old.events.list)) is in
        let held = subst (λ (x : History). standing r x ≡ history.claimed) (history_joined (Claim job.receipt ∷ says.adds.more) old new start added) left.0 in
        supersedings_claim says.adds.more (history_of old start) says.adds.only r
        (other_claim (job.receipt == r) job.receipt r (standing r (says.adds.more ++ history_of old start)) refl left.1 held)

  -- ---- settles

  module _ (came : Settled) (job : Job) (v : Verdict) (old new : CoreState D K) where
    pub settle_lets_go : is_down w old ≡ false → ((given : Job) (u : Verdict) → came ≢ settled.Memory given u) → (came ≡ settled.Down) ↔ (is_down w old ≡ true)
        → (is_down w old ≡ false → (w.store_down new.store ≡ true) ↔ (came ≡ settled.StoreDown))
        → ((start : History) → Stood w old start → SettleGives came job v (w.store_faults old.store) (w.store_faults new.store) (is_down w new) (history_of old start) (history_of new start))
        → LetsGo w job.receipt old new
    settle_lets_go was memory down store gives up start stood =
        lets_settle came job v (w.store_faults old.store) (w.store_faults new.store) (history_of old start) (history_of new start)
        (λ is. let apart : true ≡ false = sym ((store was).1 is) ∙ (core_up w new up).store in cc) (λ is. let apart : true ≡ false = sym (down.0 is) ∙ was in cc) memory
        (subst (λ (b : Bool). SettleGives came job v (w.store_faults old.store) (w.store_faults new.store) b (history_of old start) (history_of new start)) up (gives start stood))

    -- what a settle handed back is let go
    pub given_let_go : (given : Job) (u : Verdict) (end : CoreState D K) → came ≡ settled.Memory given u → SettleLeaves w.store_size came job v old new → ((start : History) → Stood w old start → Stood w new start)
        → LetsGo w given.receipt new end → LetsGo w job.receipt old end
    given_let_go given u end is leaves stands lets up start stood r h =
        let left = subst (λ (x : Settled). SettleLeaves w.store_size x job v old new) is leaves in
        let held = lets up start (stands start stood) r h in (
          subst (λ (x : History). standing r (x ++ start) ≡ history.claimed) left.2.memory.events held.0,
          λ same. held.1 (same ∙ ap (λ (x : Job). x.receipt) (sym left.0)),
        )

  -- ---- and a whole drain

  pub freed_claims_none : (old new : CoreState D K) → ((r : ℕ) → is_claimed r new.pending ≡ false) → ((start : History) → Stood w old start → Stood w new start) → NothingClaimed w old new
  freed_claims_none old new none stands up start stood r =
      let now = (stands start stood).holds.says in
      not_claimed_stands new.tables.ttls (history_of new start) now.plain.legal new.pending now.pending r (none r)

  pub still_none : (a b c : CoreState D K) → is_down w b ≡ false → Worked w a b → NothingClaimed w a b → ClaimsNoMore w b c → NothingClaimed w a c
  still_none a b c was worked none claims up start stood r h = none was start stood r (claims up start (worked.passed.stands start stood) r h)

  pub down_claims_none : (old new : CoreState D K) → is_down w new ≡ true → NothingClaimed w old new
  down_claims_none old new down up = absurd (let apart : true ≡ false = sym down ∙ up in cc)
