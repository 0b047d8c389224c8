-- What has been read of a spool, with one item more and at its end.
use Rattle.std.proofs.Common.{◌≡◌, ◌≢◌, ◌∙◌, refl, sym, ap, subst, ℕ, ◌+◌, ◌≤◌, suc, ℤ, List, [], ◌∷◌, ◌++◌, length, length-append, append_assoc, arith, Option, Some, None, IfSome}
use Rattle.std.specs.Io.KnownBytes.{IsAtEnd, prepend_known}
use Rattle.fleet_hub.specs.history_spec.Thread.{Item}
use Rattle.program_words.specs.spool_spec.Spool.{End, whole, bad_at, IsItemText, BeginsWithItem, ItemsFrom, SpoolOf}
use Rattle.spool_text.specs.Next as next
use Rattle.spool_text.proofs.of_history_laws.FirstLines.{first_lines_are_short}
use Rattle.spool_text.proofs.of_history_laws.Spools.{item_texts_are_one, bytes_have_some_reading}
use Rattle.spool_run.specs.Fronts.{AreInFront, WereRead, StandFrom, IsReadTo}
use Rattle.program_words.specs.spool_spec.Limits.{most_spool}

-- ---- one item more

stand_more : (now : ℤ) (item : Item) (text behind : List ℕ) → IsItemText now item text → (items : List Item) (p : ℕ) (bytes : List ℕ) (q : ℕ) (rest : List ℕ)
    → StandFrom now p bytes items q rest → rest ≡ text ++ behind → q + length text ≤ most_spool → StandFrom now p bytes (items ++ item ∷ []) (q + length text) behind
stand_more now item text behind is [] p bytes q rest h e within =
    (text, behind, is, h.1 ∙ e, subst (λ n. n + length text ≤ most_spool) (sym h.0) within, (ap (λ n. n + length text) h.0, refl))
stand_more now item text behind is (first ∷ items) p bytes q rest h e within =
    (h.0, h.1, h.2, h.3, h.4, stand_more now item text behind is items (p + length h.0) h.1 q rest h.5 e within)

pub one_more : (now : ℤ) (item : Item) (items : List Item) (bytes old new : Option (List ℕ)) (p q : ℕ) → IsReadTo now bytes items p old → next.Gives now item p q old new → q ≤ most_spool → IsReadTo now bytes (items ++ item ∷ []) q new
one_more now item items None old new p q h g within = tt
one_more now item items (Some bytes) None new p q h g within = absurd h
one_more now item items (Some bytes) (Some rest) None p q h g within = absurd g.taken
one_more now item items (Some bytes) (Some rest) (Some behind) p q h g within =
    subst (λ n. StandFrom now 0 bytes (items ++ item ∷ []) n behind) (sym g.counted)
    (stand_more now item g.text behind g.is_item items 0 bytes p rest h g.taken (subst (λ n. n ≤ most_spool) g.counted within))

-- ---- at the start

pub nothing_read : (now : ℤ) (bytes : Option (List ℕ)) → IsReadTo now bytes [] 0 bytes
nothing_read now None = tt
nothing_read now (Some bytes) = (refl, refl)

pub nothing_ahead : (ahead : List ℕ) (left : Option (List ℕ)) → ahead ≡ [] → prepend_known ahead left ≡ left
nothing_ahead ahead None h = refl
nothing_ahead ahead (Some bytes) h = ap (λ xs. Some (xs ++ bytes)) h

pub at_start : (now : ℤ) (ahead : List ℕ) (p : ℕ) (bytes : Option (List ℕ)) → ahead ≡ [] → p ≡ 0 → IsReadTo now bytes [] p (prepend_known ahead bytes)
at_start now ahead p bytes e z =
    subst (λ o. IsReadTo now bytes [] p o) (sym (nothing_ahead ahead bytes e)) (subst (λ n. IsReadTo now bytes [] n bytes) (sym z) (nothing_read now bytes))

-- ---- at the end

ends_whole : (now : ℤ) (items : List Item) (p : ℕ) (bytes : List ℕ) (q : ℕ) (rest : List ℕ) → StandFrom now p bytes items q rest → rest ≡ [] → ItemsFrom now p bytes items whole
ends_whole now [] p bytes q rest h e = h.1 ∙ e
ends_whole now (item ∷ items) p bytes q rest h e = (h.0, h.1, h.2, h.3, h.4, ends_whole now items (p + length h.0) h.1 q rest h.5 e)

pub whole_spool : (now : ℤ) (items : List Item) (bytes rest : Option (List ℕ)) (q : ℕ) → IsReadTo now bytes items q rest → IsAtEnd rest → IfSome bytes (λ b. SpoolOf now b items whole)
whole_spool now items None rest q h e = tt
whole_spool now items (Some bytes) None q h e = absurd h
whole_spool now items (Some bytes) (Some rest) q h e = ends_whole now items 0 bytes q rest h e

ends_bad : (now : ℤ) (items : List Item) (p : ℕ) (bytes : List ℕ) (q : ℕ) (rest : List ℕ) → StandFrom now p bytes items q rest → next.IsBad now q rest → ItemsFrom now p bytes items (bad_at q)
ends_bad now [] p bytes q rest h b =
    (sym h.0, subst (λ l. l ≢ []) (sym h.1) b.some, subst (λ l. BeginsWithItem now p l → ⊥) (sym h.1) (subst (λ n. BeginsWithItem now n rest → ⊥) (sym h.0) b.no_item))
ends_bad now (item ∷ items) p bytes q rest h b = (h.0, h.1, h.2, h.3, h.4, ends_bad now items (p + length h.0) h.1 q rest h.5 b)

pub bad_spool : (now : ℤ) (items : List Item) (bytes rest : Option (List ℕ)) (q at : ℕ) → IsReadTo now bytes items q rest → at ≡ q → IfSome rest (next.IsBad now at) → IfSome bytes (λ b. SpoolOf now b items (bad_at at))
bad_spool now items None rest q at h e b = tt
bad_spool now items (Some bytes) None q at h e b = absurd h
bad_spool now items (Some bytes) (Some rest) q at h e b =
    subst (λ n. SpoolOf now bytes items (bad_at n)) (sym e) (ends_bad now items 0 bytes q rest h (subst (λ n. next.IsBad now n rest) e b))

-- ---- where reading failed

-- the items stand in what was taken
read_front : (now : ℤ) (taken rest : List ℕ) (items : List Item) (p : ℕ) (bytes : List ℕ) (q : ℕ) → StandFrom now p bytes items q (taken ++ rest)
    → (front : List ℕ) × (bytes ≡ front ++ rest) × StandFrom now p front items q taken
read_front now taken rest [] p bytes q h = (taken, h.1, (h.0, refl))
read_front now taken rest (item ∷ items) p bytes q h =
    let behind = read_front now taken rest items (p + length h.0) h.1 q h.5 in (
      h.0 ++ behind.0,
      h.3 ∙ ap (λ xs. h.0 ++ xs) behind.1 ∙ sym (append_assoc h.0 behind.0 rest),
      (h.0, behind.0, h.2, refl, h.4, behind.2),
    )

pub were_read : (now : ℤ) (items : List Item) (bytes old rest : Option (List ℕ)) (q : ℕ) → IsReadTo now bytes items q old → next.StopsIn now q old rest → WereRead now bytes rest items
were_read now items None old rest q h s = tt
were_read now items (Some bytes) None rest q h s = absurd h
were_read now items (Some bytes) (Some left) None q h s = absurd s.is_taken
were_read now items (Some bytes) (Some left) (Some rest) q h s =
    let front = read_front now s.taken rest items 0 bytes q (subst (StandFrom now 0 bytes items q) s.is_taken h) in
    (front.0, front.1, q, s.taken, front.2, s.no_item, s.is_open)

-- ---- a front

-- a text that isn't empty is no empty one
some_bytes : (now : ℤ) (item : Item) (text behind : List ℕ) → IsItemText now item text → text ++ behind ≢ []
some_bytes now item text behind is e =
    let line = first_lines_are_short now item text is in
    let longer : length (text ++ behind) ≡ length text + length behind = length-append text behind in
    let long : length text ≡ length line.line + suc (length line.rest) = ap length line.text_is ∙ length-append line.line (10 ∷ line.rest) in
    let none : length (text ++ behind) ≡ 0 = ap length e in
    omega (arith, longer, long, none)

in_front : (now : ℤ) (items : List Item) (p : ℕ) (bytes : List ℕ) (q : ℕ) (rest : List ℕ) → StandFrom now p bytes items q rest → (all : List Item) (end : End) → ItemsFrom now p bytes all end
    → (more : List Item) × (all ≡ items ++ more)
in_front now [] p bytes q rest h all end from = (all, refl)
in_front now (item ∷ items) p bytes q rest h [] whole from = absurd (some_bytes now item h.0 h.1 h.2 (sym h.3 ∙ from))
in_front now (item ∷ items) p bytes q rest h [] (bad_at at) from =
    absurd (from.2 (record { item = item; text = h.0; rest = h.1; is_item = h.2; bytes_are = h.3; ends = h.4 }))
in_front now (item ∷ items) p bytes q rest h (other ∷ all) end from =
    let same = item_texts_are_one now item other h.0 from.0 h.1 from.1 h.2 from.2 (sym h.3 ∙ from.3) in
    let moved : ItemsFrom now (p + length h.0) h.1 all end = subst (λ (t : List ℕ × List ℕ). ItemsFrom now (p + length t.0) t.1 all end) (λ j. (sym same.text j, sym same.rest j)) from.5 in
    let rest = in_front now items (p + length h.0) h.1 q rest h.5 all end moved in
    (rest.0, λ j. sym same.item j ∷ rest.1 j)

pub a_front : (now : ℤ) (items : List Item) (bytes rest : Option (List ℕ)) (q : ℕ) → IsReadTo now bytes items q rest → IfSome bytes (AreInFront now items)
a_front now items None rest q h = tt
a_front now items (Some bytes) None q h = absurd h
a_front now items (Some bytes) (Some rest) q h =
    let all = bytes_have_some_reading now bytes in
    let front = in_front now items 0 bytes q rest h all.0 all.1 all.2 in
    (front.0, all.1, subst (λ its. SpoolOf now bytes its all.1) front.1 all.2)
