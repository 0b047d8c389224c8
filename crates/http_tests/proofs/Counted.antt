-- One command more in the inbox of the tests.
use Rattle.std.proofs.Common.{◌≡◌, ◌∙◌, inl, inr, ℕ, ◌+◌, ◌-◌, ◌*◌, ◌≤◌, ◌<◌, List, [], ◌∷◌, ◌++◌, length, refl, sym, ap, subst, arith, false, lit≤}
use Rattle.std.proofs.Math.Nat.{lt_of_not-le, not-le_of_lt}
use Rattle.std.proofs.lemmas.List.{length-append}
use Rattle.http_routes.specs.fleet_rows.declared.command.Command.{Command}
use Rattle.fleet_rows.specs.declared.submitted.Submitted.TheVariants.{Receipt, QueueFault}
use Rattle.http_routes.specs.Inbox.{Held, next_record, IsFull, IsSpent, IsSubmit}
use Rattle.record_spec.specs.Parts.{moment_text, bytes_text}
use Rattle.http_tests.specs.Outside.{bare, numbered, bytes_in, size_behind, taken_in}

-- ---- the lists with one command more

numbered_more : (n : ℕ) (cs : List Command) (c : Command) → numbered n (cs ++ c ∷ []) ≡ numbered n cs ++ (n + length cs + 1, c) ∷ []
numbered_more n [] c =
    let e : n + 1 ≡ n + 0 + 1 = omega arith in
    ap (λ (k : ℕ). (k, c) ∷ []) e
numbered_more n (d ∷ cs) c =
    let e : n + 1 + length cs + 1 ≡ n + length (d ∷ cs) + 1 = omega arith in
    ap (λ xs. (n + 1, d) ∷ xs) (numbered_more (n + 1) cs c ∙ ap (λ (k : ℕ). numbered (n + 1) cs ++ (k, c) ∷ []) e)

bytes_more : (cs : List Command) (c : Command) → bytes_in (cs ++ c ∷ []) ≡ bytes_in cs + length c.payload
bytes_more [] c = omega arith
bytes_more (d ∷ cs) c = omega (arith, bytes_more cs c)

size_more : (n : ℕ) (cs : List Command) (c : Command) → size_behind n (cs ++ c ∷ []) ≡ size_behind n cs + (5 + length (next_record c (bare (n + length cs) 0 false)))
size_more n [] c =
    let e : n ≡ n + 0 = omega arith in
    let same = ap (λ k. length (next_record c (bare k 0 false))) e in
    omega (arith, same)
size_more n (d ∷ cs) c =
    let e : n + 1 + length cs ≡ n + length (d ∷ cs) = omega arith in
    let same = ap (λ k. length (next_record c (bare k 0 false))) e in
    omega (arith, size_more (n + 1) cs c, same)

-- ---- how long records are

moment_length : (c : Command) → length (moment_text c.received) ≡ 16
unfolding moment_text
moment_length c = refl

record_length : (c : Command) (held : Held) → length (next_record c held) ≡ 34 + length c.payload
record_length c held =
    let m = moment_length c in
    let at_moment = length-append (moment_text c.received) (bytes_text c.payload) in
    omega (arith, m, at_moment)

size_is : (n : ℕ) (cs : List Command) → size_behind n cs ≡ 39 * length cs + bytes_in cs
size_is n [] = omega arith
size_is n (c ∷ cs) = omega (arith, record_length c (bare n 0 false), size_is (n + 1) cs)

-- where there is room, the log has some too
unspent : (cs : List Command) (c : Command) → length c.payload ≤ 16_777_216 → (IsFull c (taken_in cs) → ⊥) → IsSpent c (taken_in cs) → ⊥
unspent cs c fits room (inl h) = room (inl (omega (arith, h)))
unspent cs c fits room (inr (inl h)) = room (inr (omega (arith, h, fits, record_length c (taken_in cs))))
unspent cs c fits room (inr (inr h)) =
    let few : length cs < 262_144 = lt_of_not-le (λ h. room (inl h)) in
    room (inr (omega (arith, h, few, record_length c (taken_in cs), size_is 0 cs)))

takes_in : (cs : List Command) (c : Command) → length c.payload ≤ 16_777_216 → (IsFull c (taken_in cs) → ⊥) → IsSubmit c (Receipt (length cs + 1)) (taken_in cs) (taken_in (cs ++ c ∷ []))
takes_in cs c fits room =
    let many : length (cs ++ c ∷ []) ≡ length cs + 1 = omega (arith, length-append cs (c ∷ [])) in
    let start : 0 + length cs ≡ length cs = omega arith in
    let size : size_behind 0 (cs ++ c ∷ []) ≡ size_behind 0 cs + (5 + length (next_record c (taken_in cs))) =
    size_more 0 cs c ∙ ap (λ k. size_behind 0 cs + (5 + length (next_record c (bare k 0 false)))) start in (
      record { up = refl; room = room },
      unspent cs c fits room,
      record {
        next = refl;
        taken = numbered_more 0 cs c ∙ ap (λ (k : ℕ). numbered 0 cs ++ (k + 1, c) ∷ []) start;
        last = many;
        pending = many;
        pending_bytes = bytes_more cs c;
        size = omega (arith, size);
        up = refl;
        calm = refl;
      },
    )

pub taken_so : (cs new : List Command) (c : Command) (r : ℕ) → new ≡ cs ++ c ∷ [] → r ≡ length new → length c.payload ≤ 16_777_216 → (IsFull c (taken_in cs) → ⊥) → IsSubmit c (Receipt r) (taken_in cs) (taken_in new)
taken_so cs new c r is number fits room =
    let many : r ≡ length cs + 1 = number ∙ ap length is ∙ omega (arith, length-append cs (c ∷ [])) in
    let here : IsSubmit c (Receipt (length cs + 1)) (taken_in cs) (taken_in (cs ++ c ∷ [])) = takes_in cs c fits room in
    subst (λ xs. IsSubmit c (Receipt r) (taken_in cs) (taken_in xs)) (sym is)
    (subst (λ k. IsSubmit c (Receipt k) (taken_in cs) (taken_in (cs ++ c ∷ []))) (sym many) here)

-- and its bytes stay few
pub still_light : (cs : List Command) (c : Command) → (IsFull c (taken_in cs) → ⊥) → bytes_in cs + length c.payload ≤ 1_073_741_824
still_light cs c room =
    let less : bytes_in cs + length c.payload < 1_073_741_825 = lt_of_not-le (λ h. room (inr (omega (arith, h)))) in
    omega (arith, less)

pub bytes_of : (cs new : List Command) (c : Command) → new ≡ cs ++ c ∷ [] → bytes_in new ≡ bytes_in cs + length c.payload
bytes_of cs new c is = ap bytes_in is ∙ bytes_more cs c

-- an inbox with nothing in it is neither full nor spent, and may count a fault
no_full : (c : Command) → length c.payload ≤ 16_777_216 → IsFull c (taken_in []) → ⊥
no_full c fits (inl h) = not-le_of_lt (lit≤ tt) h
no_full c fits (inr h) = not-le_of_lt h (omega (arith, fits))

pub faults_so : (c : Command) → length c.payload ≤ 16_777_216 → IsSubmit c QueueFault (taken_in []) (taken_in [])
faults_so c fits = (
  record { up = refl; room = no_full c fits },
  unspent [] c fits (no_full c fits),
  record { taken = refl; last = refl; pending = refl; pending_bytes = refl; size = refl; rose = lit≤ tt; later = lit≤ tt },
)
