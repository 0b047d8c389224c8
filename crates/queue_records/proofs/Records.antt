-- What is read of a record is spelled so, what is spelled so is read, and so the spelling tells records apart.
use Rattle.std.proofs.Common.{◌≡◌, ℕ, zero, suc, ◌^◌, ◌<◌, cond, ltb, List, [], ◌∷◌, ◌++◌, Option, Some, None, refl, sym, ap, subst, ◌∙◌, arith}
use Rattle.std.specs.Prelude.{MatchOption, Result, IfOk, Ok, Err}
use Rattle.std.specs.Option.{option_map}
use Rattle.std.specs.Int.{w32, w64}
use Rattle.std.proofs.lemmas.Bool.{ltb-true, lt-ltb}
use Rattle.record_fields.specs.record_spec.declared.queue.QueueRecord.{QueueRecord}
use Rattle.record_fields.specs.record_spec.declared.queue.QueueRecord.TheVariants as queue
use Rattle.record_fields.specs.record_spec.Parts.{short_text, long_text, command_text}
use Rattle.record_fields.specs.record_spec.Refusals.{refusal_bytes, cause_bytes, IsRefusal, IsCause}
use Rattle.record_fields.specs.record_spec.Queue.{queue_text, IsCommand, IsQueueRecord}
use Rattle.record_fields.specs.Reading.{◌>>=◌, number_at, ended}
use Rattle.record_fields.proofs.Fields.{IsBytes, IsBytes-rest, bind_some, test_some, mapped_some, ended_some, Takes-then, all_taken, IsField, alone}
use Rattle.record_fields.proofs.Parts.{IsLong, number32, number64, wide64}
use Rattle.queue_records.specs.Reading.{command_at, refusal_at, cause_at, alone_at, held_at, dead_at, submit_at, superseded_at, refused_at, fail_at, queue_at}
use Rattle.queue_records.proofs.Commands.{commands}
use Rattle.queue_records.proofs.Refusals.{refusals, causes}

abbrev Reads : List ℕ → QueueRecord → Type 0
Reads bytes r = IsQueueRecord r × (bytes ≡ queue_text r)

-- ---- two fields behind a tag, and no more

two_take : {A B : Type 0} (ta : A → List ℕ) (ra : List ℕ → Option (A × List ℕ)) (FA : A → Type 0) (fa : IsField ta ra FA) (tb : B → List ℕ) (rb : List ℕ → Option (B × List ℕ)) (FB : B → Type 0) (fb : IsField tb rb FB)
    (tag : ℕ) (make : A → B → QueueRecord) → ((x : A) (y : B) → queue_text (make x y) ≡ tag ∷ ta x ++ tb y) → ((x : A) (y : B) → FA x → FB y → IsQueueRecord (make x y))
    → (bytes : List ℕ) (r : QueueRecord) → IsBytes bytes → (ra bytes >>= λ x. rb x.1 >>= λ y. ended (make x.0 y.0) y.1) ≡ Some r → Reads (tag ∷ bytes) r
two_take ta ra FA fa tb rb FB fb tag make text_is fits bytes r are e =
    let a = bind_some (ra bytes) (λ x. rb x.1 >>= λ y. ended (make x.0 y.0) y.1) r e in
    let b = bind_some (rb a.0.1) (λ y. ended (make a.0.0 y.0) y.1) r a.2 in
    let z = ended_some (make a.0.0 b.0.0) r b.0.1 b.2 in
    let s = fa.takes bytes a.0.0 a.0.1 are a.1 in
    let t = fb.takes a.0.1 b.0.0 b.0.1 s.0.rest_fits b.1 in
    let both = Takes-then bytes (ta a.0.0) a.0.1 (tb b.0.0) b.0.1 s.0 t.0 in
    subst (λ q. Reads (tag ∷ bytes) q) z.1 (fits a.0.0 b.0.0 s.1 t.1, ap (λ (x : List ℕ). tag ∷ x) (all_taken bytes (ta a.0.0 ++ tb b.0.0) b.0.1 both z.0) ∙ sym (text_is a.0.0 b.0.0))

-- ---- each record

alone_takes : (make : ℕ → QueueRecord) (bytes : List ℕ) (r : QueueRecord) → IsBytes bytes → option_map make (alone_at bytes) ≡ Some r → (n : ℕ) × (n < 2 ^ 64) × (bytes ≡ long_text n) × (make n ≡ r)
unfolding alone_at
alone_takes make bytes r fits e =
    let m = mapped_some make (alone_at bytes) r e in
    let a = bind_some (number_at w64 bytes) (λ n. ended n.0 n.1) m.0 m.1 in
    let z = ended_some a.0.0 m.0 a.0.1 a.2 in
    let t = number64.takes bytes a.0.0 a.0.1 fits a.1 in
    (a.0.0, t.1, all_taken bytes (long_text a.0.0) a.0.1 t.0 z.0, ap make z.1 ∙ m.2)

held_takes : (bytes : List ℕ) (r : QueueRecord) → IsBytes bytes → held_at bytes ≡ Some r → Reads (1 ∷ bytes) r
unfolding held_at
held_takes bytes r are e =
    let a = bind_some (number_at w64 bytes) (λ receipt. number_at w32 receipt.1 >>= λ attempts. cond (ltb attempts.0 16) (command_at attempts.1 >>= λ c. ended (queue.Held receipt.0 attempts.0 c.0) c.1) None) r e in
    let b = bind_some (number_at w32 a.0.1) (λ attempts. cond (ltb attempts.0 16) (command_at attempts.1 >>= λ c. ended (queue.Held a.0.0 attempts.0 c.0) c.1) None) r a.2 in
    let g = test_some (ltb b.0.0 16) (command_at b.0.1 >>= λ c. ended (queue.Held a.0.0 b.0.0 c.0) c.1) r b.2 in
    let d = bind_some (command_at b.0.1) (λ c. ended (queue.Held a.0.0 b.0.0 c.0) c.1) r g.1 in
    let z = ended_some (queue.Held a.0.0 b.0.0 d.0.0) r d.0.1 d.2 in
    let s = number64.takes bytes a.0.0 a.0.1 are a.1 in
    let t = number32.takes a.0.1 b.0.0 b.0.1 s.0.rest_fits b.1 in
    let u = commands.takes b.0.1 d.0.0 d.0.1 t.0.rest_fits d.1 in
    let tu = Takes-then a.0.1 (short_text b.0.0) b.0.1 (command_text d.0.0) d.0.1 t.0 u.0 in
    let all = Takes-then bytes (long_text a.0.0) a.0.1 (short_text b.0.0 ++ command_text d.0.0) d.0.1 s.0 tu in
    subst (λ q. Reads (1 ∷ bytes) q) z.1 ((s.1, ltb-true _ _ g.0, u.1), ap (λ (x : List ℕ). 1 ∷ x) (all_taken bytes (long_text a.0.0 ++ (short_text b.0.0 ++ command_text d.0.0)) d.0.1 all z.0))

dead_takes : (bytes : List ℕ) (r : QueueRecord) → IsBytes bytes → dead_at bytes ≡ Some r → Reads (2 ∷ bytes) r
unfolding dead_at
dead_takes bytes r are e =
    let a = bind_some (number_at w64 bytes) (λ receipt. command_at receipt.1 >>= λ c. cause_at c.1 >>= λ why. ended (queue.Dead receipt.0 c.0 why.0) why.1) r e in
    let b = bind_some (command_at a.0.1) (λ c. cause_at c.1 >>= λ why. ended (queue.Dead a.0.0 c.0 why.0) why.1) r a.2 in
    let d = bind_some (cause_at b.0.1) (λ why. ended (queue.Dead a.0.0 b.0.0 why.0) why.1) r b.2 in
    let z = ended_some (queue.Dead a.0.0 b.0.0 d.0.0) r d.0.1 d.2 in
    let s = number64.takes bytes a.0.0 a.0.1 are a.1 in
    let t = commands.takes a.0.1 b.0.0 b.0.1 s.0.rest_fits b.1 in
    let u = causes.takes b.0.1 d.0.0 d.0.1 t.0.rest_fits d.1 in
    let tu = Takes-then a.0.1 (command_text b.0.0) b.0.1 (cause_bytes d.0.0) d.0.1 t.0 u.0 in
    let all = Takes-then bytes (long_text a.0.0) a.0.1 (command_text b.0.0 ++ cause_bytes d.0.0) d.0.1 s.0 tu in
    subst (λ q. Reads (2 ∷ bytes) q) z.1 ((s.1, t.1, u.1), ap (λ (x : List ℕ). 2 ∷ x) (all_taken bytes (long_text a.0.0 ++ (command_text b.0.0 ++ cause_bytes d.0.0)) d.0.1 all z.0))

submit_takes : (bytes : List ℕ) (r : QueueRecord) → IsBytes bytes → submit_at bytes ≡ Some r → Reads (3 ∷ bytes) r
unfolding submit_at
submit_takes bytes r are e = two_take long_text (number_at w64) IsLong number64 command_text command_at IsCommand commands 3 queue.Submit (λ x y. refl) (λ x y p q. (p, q)) bytes r are e

superseded_takes : (bytes : List ℕ) (r : QueueRecord) → IsBytes bytes → superseded_at bytes ≡ Some r → Reads (5 ∷ bytes) r
unfolding superseded_at
superseded_takes bytes r are e = two_take long_text (number_at w64) IsLong number64 long_text (number_at w64) IsLong number64 5 queue.Superseded (λ x y. refl) (λ x y p q. (p, q)) bytes r are e

refused_takes : (bytes : List ℕ) (r : QueueRecord) → IsBytes bytes → refused_at bytes ≡ Some r → Reads (6 ∷ bytes) r
unfolding refused_at
refused_takes bytes r are e = two_take long_text (number_at w64) IsLong number64 refusal_bytes refusal_at IsRefusal refusals 6 queue.Refused (λ x y. refl) (λ x y p q. (p, q)) bytes r are e

fail_takes : (bytes : List ℕ) (r : QueueRecord) → IsBytes bytes → fail_at bytes ≡ Some r → Reads (7 ∷ bytes) r
unfolding fail_at
fail_takes bytes r are e =
    let a = bind_some (number_at w64 bytes) (λ receipt. number_at w64 receipt.1 >>= λ before. number_at w64 before.1 >>= λ after. ended (queue.Fail receipt.0 before.0 after.0) after.1) r e in
    let b = bind_some (number_at w64 a.0.1) (λ before. number_at w64 before.1 >>= λ after. ended (queue.Fail a.0.0 before.0 after.0) after.1) r a.2 in
    let d = bind_some (number_at w64 b.0.1) (λ after. ended (queue.Fail a.0.0 b.0.0 after.0) after.1) r b.2 in
    let z = ended_some (queue.Fail a.0.0 b.0.0 d.0.0) r d.0.1 d.2 in
    let s = number64.takes bytes a.0.0 a.0.1 are a.1 in
    let t = number64.takes a.0.1 b.0.0 b.0.1 s.0.rest_fits b.1 in
    let u = number64.takes b.0.1 d.0.0 d.0.1 t.0.rest_fits d.1 in
    let tu = Takes-then a.0.1 (long_text b.0.0) b.0.1 (long_text d.0.0) d.0.1 t.0 u.0 in
    let all = Takes-then bytes (long_text a.0.0) a.0.1 (long_text b.0.0 ++ long_text d.0.0) d.0.1 s.0 tu in
    subst (λ q. Reads (7 ∷ bytes) q) z.1 ((s.1, t.1, u.1), ap (λ (x : List ℕ). 7 ∷ x) (all_taken bytes (long_text a.0.0 ++ (long_text b.0.0 ++ long_text d.0.0)) d.0.1 all z.0))

pub queue_takes : (bytes : List ℕ) (r : QueueRecord) → IsBytes bytes → queue_at bytes ≡ Some r → Reads bytes r
unfolding queue_at
queue_takes [] r are e = absurd cc
queue_takes (zero ∷ rest) r are e =
    let o = alone_takes queue.Base rest r (IsBytes-rest 0 rest are) e in
    subst (λ q. Reads (0 ∷ rest) q) o.3 (o.1, ap (λ (x : List ℕ). 0 ∷ x) o.2)
queue_takes (suc zero ∷ rest) r are e = held_takes rest r (IsBytes-rest 1 rest are) e
queue_takes (suc (suc zero) ∷ rest) r are e = dead_takes rest r (IsBytes-rest 2 rest are) e
queue_takes (suc (suc (suc zero)) ∷ rest) r are e = submit_takes rest r (IsBytes-rest 3 rest are) e
queue_takes (suc (suc (suc (suc zero))) ∷ rest) r are e =
    let o = alone_takes queue.Done rest r (IsBytes-rest 4 rest are) e in
    subst (λ q. Reads (4 ∷ rest) q) o.3 (o.1, ap (λ (x : List ℕ). 4 ∷ x) o.2)
queue_takes (suc (suc (suc (suc (suc zero)))) ∷ rest) r are e = superseded_takes rest r (IsBytes-rest 5 rest are) e
queue_takes (suc (suc (suc (suc (suc (suc zero))))) ∷ rest) r are e = refused_takes rest r (IsBytes-rest 6 rest are) e
queue_takes (suc (suc (suc (suc (suc (suc (suc zero)))))) ∷ rest) r are e = fail_takes rest r (IsBytes-rest 7 rest are) e
queue_takes (suc (suc (suc (suc (suc (suc (suc (suc tag))))))) ∷ rest) r are e = absurd cc

pub queue_again : (r : QueueRecord) → IsQueueRecord r → queue_at (queue_text r) ≡ Some r
unfolding queue_at alone_at held_at dead_at submit_at superseded_at refused_at fail_at
queue_again (queue.Base last) fits = λ i. Some (queue.Base (wide64.again last fits i))
queue_again (queue.Held receipt attempts c) fits =
    rw (number64.again receipt (short_text attempts ++ command_text c) fits.0, number32.again attempts (command_text c) (omega (arith, fits.1)), lt-ltb attempts 16 fits.1, alone command_text command_at IsCommand commands c fits.2) refl
queue_again (queue.Dead receipt c why) fits =
    rw (number64.again receipt (command_text c ++ cause_bytes why) fits.0, commands.again c (cause_bytes why) fits.1, alone cause_bytes cause_at IsCause causes why fits.2) refl
queue_again (queue.Submit receipt c) fits =
    rw (number64.again receipt (command_text c) fits.0, alone command_text command_at IsCommand commands c fits.1) refl
queue_again (queue.Done receipt) fits = λ i. Some (queue.Done (wide64.again receipt fits i))
queue_again (queue.Superseded receipt by) fits = λ i. Some (queue.Superseded (wide64.again receipt fits.0 i) (wide64.again by fits.1 i))
queue_again (queue.Refused receipt r) fits =
    rw (number64.again receipt (refusal_bytes r) fits.0, alone refusal_bytes refusal_at IsRefusal refusals r fits.1) refl
queue_again (queue.Fail receipt before after) fits = λ i. Some (queue.Fail (wide64.again receipt fits.0 i) (wide64.again before fits.1 i) (wide64.again after fits.2 i))

-- no record has the spelling of another
pub queue_told : (r q : QueueRecord) → IsQueueRecord r → IsQueueRecord q → queue_text r ≡ queue_text q → r ≡ q
queue_told r q fits too same =
    let e : Some r ≡ Some q = sym (queue_again r fits) ∙ ap queue_at same ∙ queue_again q too in cc

-- and bytes off which nothing is read are no record's
pub queue_not : (bytes : List ℕ) → queue_at bytes ≡ None → (r : QueueRecord) → IsQueueRecord r → bytes ≡ queue_text r → ⊥
queue_not bytes is r fit text =
    let e : None ≡ Some r = sym is ∙ ap queue_at text ∙ queue_again r fit in cc

queue_found : (bytes : List ℕ) (o : Option QueueRecord) → IsBytes bytes → o ≡ queue_at bytes
    → MatchOption o ((r : QueueRecord) → IsQueueRecord r → bytes ≡ queue_text r → ⊥) (λ r. IsQueueRecord r × (bytes ≡ queue_text r))
queue_found bytes None fits is = queue_not bytes (sym is)
queue_found bytes (Some r) fits is = queue_takes bytes r fits (sym is)

pub queue_read : {E : Type 0} (bytes : List ℕ) (r : Result (Option QueueRecord) E) → IsBytes bytes → IfOk r (λ o. o ≡ queue_at bytes)
    → IfOk r (λ o. MatchOption o ((r : QueueRecord) → IsQueueRecord r → bytes ≡ queue_text r → ⊥) (λ r. IsQueueRecord r × (bytes ≡ queue_text r)))
queue_read bytes (Ok o) fits is = queue_found bytes o fits is
queue_read bytes (Err e) fits is = tt
