-- What a run that is told in two parts leaves in the logs.
use Rattle.std.proofs.Common.{◌≡◌, ◌∙◌, List, [], ◌∷◌, ◌++◌, None, Some, sym, ap, append_assoc}
use Rattle.std.proofs.lemmas.List.{append-nil}
use Rattle.core_state.specs.record_spec.declared.queue.QueueRecord.{QueueRecord}
use Rattle.core_state.specs.record_spec.declared.store.StoreRecord.{StoreRecord}
use Rattle.core_state.specs.core_spec.declared.event.Event.TheVariants.{Submit, Claim, Release, Apply, Supersede, Fail, Discard, Sweep, Restart}
use Rattle.core_state.specs.core_spec.History.{History}
use Rattle.core_state.specs.core_spec.Stands.{queue_part, queue_trace, store_part, store_trace}
use Rattle.core_state.specs.core_laws.Threads.{received, MomentsAreKept}
use Rattle.core_course.specs.Work.{IsWork}

pub queue_trace-append : (later earlier : History) → queue_trace (later ++ earlier) ≡ queue_trace earlier ++ queue_trace later
queue_trace-append [] earlier = sym (append-nil (queue_trace earlier))
queue_trace-append (e ∷ later) earlier =
    ap (λ (records : List QueueRecord). records ++ queue_part e) (queue_trace-append later earlier) ∙ append_assoc (queue_trace earlier) (queue_trace later) (queue_part e)

pub store_trace-append : (upto later earlier : History) → store_trace upto (later ++ earlier) ≡ store_trace upto earlier ++ store_trace (earlier ++ upto) later
store_trace-append upto [] earlier = sym (append-nil (store_trace upto earlier))
store_trace-append upto (e ∷ later) earlier =
    ap (λ (records : List StoreRecord). records ++ store_part e ((later ++ earlier) ++ upto)) (store_trace-append upto later earlier)
    ∙ (append_assoc (store_trace upto earlier) (store_trace (earlier ++ upto) later) (store_part e ((later ++ earlier) ++ upto))
    ∙ ap (λ (h : History). store_trace upto earlier ++ (store_trace (earlier ++ upto) later ++ store_part e h)) (append_assoc later earlier upto))

pub work_joined : (later earlier : History) → IsWork later → IsWork earlier → IsWork (later ++ earlier)
work_joined [] earlier l e = e
work_joined (Submit r c ∷ later) earlier l e = absurd l
work_joined (Claim r ∷ later) earlier l e = work_joined later earlier l e
work_joined (Release r ∷ later) earlier l e = work_joined later earlier l e
work_joined (Apply r None ∷ later) earlier l e = absurd l
work_joined (Apply r (Some t) ∷ later) earlier l e = work_joined later earlier l e
work_joined (Supersede q p ∷ later) earlier l e = work_joined later earlier l e
work_joined (Fail r before after ∷ later) earlier l e = work_joined later earlier l e
work_joined (Discard r why ∷ later) earlier l e = work_joined later earlier l e
work_joined (Sweep kinds m ∷ later) earlier l e = absurd l
work_joined (Restart ∷ later) earlier l e = absurd l

pub moments_joined : (start later earlier : History) → MomentsAreKept start earlier → MomentsAreKept (earlier ++ start) later → MomentsAreKept start (later ++ earlier)
moments_joined start [] earlier e l = e
moments_joined start (Submit r c ∷ later) earlier e l = moments_joined start later earlier e l
moments_joined start (Claim r ∷ later) earlier e l = moments_joined start later earlier e l
moments_joined start (Release r ∷ later) earlier e l = moments_joined start later earlier e l
moments_joined start (Apply r t ∷ later) earlier e l = (l.0 ∙ ap (received r) (sym (append_assoc later earlier start)), moments_joined start later earlier e l.1)
moments_joined start (Supersede q p ∷ later) earlier e l = moments_joined start later earlier e l
moments_joined start (Fail r before after ∷ later) earlier e l = moments_joined start later earlier e l
moments_joined start (Discard r why ∷ later) earlier e l = moments_joined start later earlier e l
moments_joined start (Sweep kinds m ∷ later) earlier e l = moments_joined start later earlier e l
moments_joined start (Restart ∷ later) earlier e l = moments_joined start later earlier e l
