-- How many events of the live trace there are after each call.
use Rattle.std.proofs.Common.{◌≡◌, ◌∙◌, ℕ, suc, ◌+◌, ◌≤◌, ◌%◌, ◌^◌, ◌<◌, [], ◌∷◌, ◌++◌, None, Some, length, refl, sym, ap, arith, ℤ}
use Rattle.core_ends.specs.fleet_rows.declared.command.Command.{Command}
use Rattle.fleet_rows.specs.declared.submitted.Submitted.{Submitted}
use Rattle.fleet_rows.specs.declared.submitted.Submitted.TheVariants as submitted
use Rattle.core_ends.specs.fleet_rows.declared.settings.Kinds.{Kinds}
use Rattle.core_ends.specs.core_spec.declared.event.Event.TheVariants.{Submit, Claim, Release, Apply, Supersede, Fail, Discard, Sweep, Restart}
use Rattle.core_ends.specs.core_spec.History.{History}
use Rattle.core_ends.specs.core_state.Tallies.{tally_of}
use Rattle.core_ends.specs.core_submits.Submits.{SubmitAdds}
use Rattle.core_ends.specs.core_claims.declared.answers.Claimed.{Claimed}
use Rattle.core_ends.specs.core_claims.declared.answers.Claimed.TheVariants as claimed
use Rattle.core_ends.specs.core_claims.Claims.{OnlySupersede, claim_of}
use Rattle.core_ends.specs.core_sweeps.declared.answers.Swept.{Swept}
use Rattle.core_ends.specs.core_sweeps.declared.answers.Swept.TheVariants as swept
use Rattle.core_ends.specs.core_sweeps.Sweeps.{SweepAdds}
use Rattle.core_ends.specs.core_course.Work.{IsWork}
use Rattle.live_stage.specs.Trace.{applied_count, sweep_count, live_count, swept_number}

-- the tally counts the same
pub tallied : (events : History) → (tally_of events).applied ≡ applied_count events
tallied [] = refl
tallied (Submit r c ∷ es) = tallied es
tallied (Claim r ∷ es) = tallied es
tallied (Release r ∷ es) = tallied es
tallied (Apply r t ∷ es) = let e = tallied es in omega arith
tallied (Supersede q p ∷ es) = tallied es
tallied (Fail r before after ∷ es) = tallied es
tallied (Discard r why ∷ es) = tallied es
tallied (Sweep kinds m ∷ es) = tallied es
tallied (Restart ∷ es) = tallied es

-- no more than there are events
pub live_few : (events : History) → live_count events ≤ length events
live_few [] = omega arith
live_few (Submit r c ∷ es) = let e = live_few es in omega arith
live_few (Claim r ∷ es) = let e = live_few es in omega arith
live_few (Release r ∷ es) = let e = live_few es in omega arith
live_few (Apply r t ∷ es) = let e = live_few es in omega arith
live_few (Supersede q p ∷ es) = let e = live_few es in omega arith
live_few (Fail r before after ∷ es) = let e = live_few es in omega arith
live_few (Discard r why ∷ es) = let e = live_few es in omega arith
live_few (Sweep kinds m ∷ es) = let e = live_few es in omega arith
live_few (Restart ∷ es) = let e = live_few es in omega arith

-- the length of the live trace, of two words
pub live_word : (events : History) (applied sweeps : ℕ) → length events < 2 ^ 64 → applied ≡ applied_count events % 2 ^ 64 → sweeps ≡ sweep_count events % 2 ^ 64 → (applied + sweeps) % 2 ^ 64 ≡ live_count events
live_word events applied sweeps few a s = let e = live_few events in omega arith

-- ---- work

pub no_sweeps : (more old : History) → IsWork more → sweep_count (more ++ old) ≡ sweep_count old
no_sweeps [] old is = refl
no_sweeps (Submit r c ∷ es) old is = absurd is
no_sweeps (Claim r ∷ es) old is = no_sweeps es old is
no_sweeps (Release r ∷ es) old is = no_sweeps es old is
no_sweeps (Apply r None ∷ es) old is = absurd is
no_sweeps (Apply r (Some t) ∷ es) old is = no_sweeps es old is
no_sweeps (Supersede q p ∷ es) old is = no_sweeps es old is
no_sweeps (Fail r before after ∷ es) old is = no_sweeps es old is
no_sweeps (Discard r why ∷ es) old is = no_sweeps es old is
no_sweeps (Sweep kinds m ∷ es) old is = absurd is
no_sweeps (Restart ∷ es) old is = absurd is

supersedings_apply_none : (more old : History) → OnlySupersede more → applied_count (more ++ old) ≡ applied_count old
supersedings_apply_none [] old is = refl
supersedings_apply_none (Submit r c ∷ es) old is = absurd is
supersedings_apply_none (Claim r ∷ es) old is = absurd is
supersedings_apply_none (Release r ∷ es) old is = absurd is
supersedings_apply_none (Apply r t ∷ es) old is = absurd is
supersedings_apply_none (Supersede q p ∷ es) old is = supersedings_apply_none es old is
supersedings_apply_none (Fail r before after ∷ es) old is = absurd is
supersedings_apply_none (Discard r why ∷ es) old is = absurd is
supersedings_apply_none (Sweep kinds m ∷ es) old is = absurd is
supersedings_apply_none (Restart ∷ es) old is = absurd is

pub claims_apply_none : (came : Claimed) (more old new : History) → OnlySupersede more → new ≡ claim_of came ++ (more ++ old) → applied_count new ≡ applied_count old
claims_apply_none (claimed.Job job) more old new only is = ap (λ (es : History). applied_count es) is ∙ supersedings_apply_none more old only
claims_apply_none claimed.Rest more old new only is = ap (λ (es : History). applied_count es) is ∙ supersedings_apply_none more old only
claims_apply_none claimed.Done more old new only is = ap (λ (es : History). applied_count es) is ∙ supersedings_apply_none more old only
claims_apply_none claimed.QueueFault more old new only is = ap (λ (es : History). applied_count es) is ∙ supersedings_apply_none more old only
claims_apply_none claimed.Spent more old new only is = ap (λ (es : History). applied_count es) is ∙ supersedings_apply_none more old only
claims_apply_none claimed.Down more old new only is = ap (λ (es : History). applied_count es) is ∙ supersedings_apply_none more old only
claims_apply_none claimed.Memory more old new only is = ap (λ (es : History). applied_count es) is ∙ supersedings_apply_none more old only

-- ---- what comes in

pub submits_apply_none : (came : Submitted) (c : Command) (last : ℕ) (old new : History) → SubmitAdds came c last old new → applied_count new ≡ applied_count old
submits_apply_none (submitted.Receipt r) c last old new is = ap (λ (es : History). applied_count es) is.1
submits_apply_none submitted.Full c last old new is = ap (λ (es : History). applied_count es) is
submits_apply_none submitted.QueueFault c last old new is = ap (λ (es : History). applied_count es) is
submits_apply_none submitted.Spent c last old new is = ap (λ (es : History). applied_count es) is
submits_apply_none submitted.Down c last old new is = ap (λ (es : History). applied_count es) is
submits_apply_none submitted.Memory c last old new is = ap (λ (es : History). applied_count es) is

pub submits_sweep_none : (came : Submitted) (c : Command) (last : ℕ) (old new : History) → SubmitAdds came c last old new → sweep_count new ≡ sweep_count old
submits_sweep_none (submitted.Receipt r) c last old new is = ap (λ (es : History). sweep_count es) is.1
submits_sweep_none submitted.Full c last old new is = ap (λ (es : History). sweep_count es) is
submits_sweep_none submitted.QueueFault c last old new is = ap (λ (es : History). sweep_count es) is
submits_sweep_none submitted.Spent c last old new is = ap (λ (es : History). sweep_count es) is
submits_sweep_none submitted.Down c last old new is = ap (λ (es : History). sweep_count es) is
submits_sweep_none submitted.Memory c last old new is = ap (λ (es : History). sweep_count es) is

pub sweeps_apply_none : (came : Swept) (kinds : Kinds) (m : ℤ) (old new : History) → SweepAdds came kinds m old new → applied_count new ≡ applied_count old
sweeps_apply_none swept.Ok kinds m old new is = ap (λ (es : History). applied_count es) is
sweeps_apply_none swept.StoreFault kinds m old new is = ap (λ (es : History). applied_count es) is
sweeps_apply_none swept.StoreDown kinds m old new is = ap (λ (es : History). applied_count es) is
sweeps_apply_none swept.Spent kinds m old new is = ap (λ (es : History). applied_count es) is
sweeps_apply_none swept.Down kinds m old new is = ap (λ (es : History). applied_count es) is
sweeps_apply_none swept.Memory kinds m old new is = ap (λ (es : History). applied_count es) is

pub sweeps_counted : (came : Swept) (kinds : Kinds) (m : ℤ) (old new : History) → SweepAdds came kinds m old new → sweep_count new ≡ sweep_count old + swept_number came
sweeps_counted swept.Ok kinds m old new is = let e : sweep_count new ≡ suc (sweep_count old) = ap (λ (es : History). sweep_count es) is in omega arith
sweeps_counted swept.StoreFault kinds m old new is = let e : sweep_count new ≡ sweep_count old = ap (λ (es : History). sweep_count es) is in omega arith
sweeps_counted swept.StoreDown kinds m old new is = let e : sweep_count new ≡ sweep_count old = ap (λ (es : History). sweep_count es) is in omega arith
sweeps_counted swept.Spent kinds m old new is = let e : sweep_count new ≡ sweep_count old = ap (λ (es : History). sweep_count es) is in omega arith
sweeps_counted swept.Down kinds m old new is = let e : sweep_count new ≡ sweep_count old = ap (λ (es : History). sweep_count es) is in omega arith
sweeps_counted swept.Memory kinds m old new is = let e : sweep_count new ≡ sweep_count old = ap (λ (es : History). sweep_count es) is in omega arith

-- a word that counts, after some more
pub word_more : (word count later more : ℕ) → word ≡ count % 2 ^ 64 → later ≡ count + more → (word + more) % 2 ^ 64 ≡ later % 2 ^ 64
word_more word count later more is adds = omega arith

pub word_same : (word count later : ℕ) → word ≡ count % 2 ^ 64 → later ≡ count → word ≡ later % 2 ^ 64
word_same word count later is same = is ∙ ap (λ n. n % 2 ^ 64) (sym same)

-- a word for two counts
pub word_sum : (a b m n all : ℕ) → a ≡ m % 2 ^ 64 → b ≡ n % 2 ^ 64 → all ≡ m + n → (a + b) % 2 ^ 64 ≡ all % 2 ^ 64
word_sum a b m n all is other adds = omega arith
