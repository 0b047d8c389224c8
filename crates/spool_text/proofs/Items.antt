-- What the bytes begin with, by their first line and what stands behind it.
use Rattle.std.proofs.Common.{◌≡◌, ◌≢◌, ◌∙◌, ℕ, zero, suc, ◌+◌, ◌-◌, ◌≤◌, ◌<◌, ℤ, List, [], ◌∷◌, ◌++◌, length, take, drop, replicate, arith, refl, sym, ap, subst, Option, Some, None, IfSome, append_assoc, append-nil, length-append}
use Rattle.std.proofs.lemmas.List.{take-append-drop, take_all, drop_more, length-take-le, length-replicate}
use Rattle.std.specs.Io.KnownBytes.{Keeps, Consumes, IsAtEnd, prepend_known}
use Rattle.std.proofs.KnownBytes.{Consumes-trans}
use Rattle.text_spec.specs.StampReader.{◌>>=◌, one_of}
use Rattle.spool_maker.specs.fleet_rows.declared.command.Kind.{Kind}
use Rattle.spool_maker.specs.fleet_rows.declared.settings.Kinds.{Kinds}
use Rattle.spool_maker.specs.history_spec.Thread.{Item, command, sweep}
use Rattle.history_laws.specs.spool_spec.Spool.{IsItemText, BeginsWithItem}
use Rattle.history_laws.specs.Reading.{bytes_at, item_at}
use Rattle.history_laws.proofs.Feeds.{NoFeed}
use Rattle.history_laws.proofs.FirstLines.{first_lines_are_short}
use Rattle.text_spec.proofs.of_plain_laws.Options.{none_some}
use Rattle.text_spec.proofs.Fronts.{bound, one_of-is}
use Rattle.history_laws.proofs.ReadingFronts.{bytes_at-append, bytes_at-is, one_of-byte}
use Rattle.history_laws.proofs.ReadingItems.{item_texts_are_read}
use Rattle.history_laws.proofs.ReadingStands.{what_is_read_is_an_item_text}
use Rattle.spool_text.specs.declared.first_line.FirstLine.{FirstLine}
use Rattle.spool_text.specs.declared.first_line.FirstLine.TheVariants as first
use Rattle.spool_text.specs.FirstLine.{first_line_at, item_after}
use Rattle.spool_text.specs.Unread.{HasLine, HasNoLine, IsShort}
use Rattle.spool_text.specs.declared.item.NextItem.{NextItem}
use Rattle.spool_text.specs.declared.item.NextItem.TheVariants as next
use Rattle.spool_text.specs.Next.{Gives, IsBad, IsOpen, in_line, in_item, StopsIn, IfItem, IfBad}
use Rattle.spool_text.proofs.Pieces.{no_byte}
use Rattle.spool_text.proofs.LinesJoined.{item_at-line}
use Rattle.history_laws.specs.spool_spec.Limits.{most_spool}

-- ---- bytes with a line

pub line_split : (n : ℕ) (bytes : List ℕ) → HasLine n bytes → bytes ≡ take n bytes ++ 10 ∷ drop (n + 1) bytes
line_split n bytes h =
    sym (take-append-drop n bytes) ∙ ap (λ xs. take n bytes ++ xs) (drop_more bytes n 0 h.inside ∙ ap (λ c. c ∷ drop (n + 1) bytes) h.feed)

line_then : (n : ℕ) (bytes more : List ℕ) → HasLine n bytes → bytes ++ more ≡ take n bytes ++ 10 ∷ (drop (n + 1) bytes ++ more)
line_then n bytes more h = ap (λ xs. xs ++ more) (line_split n bytes h) ∙ append_assoc (take n bytes) (10 ∷ drop (n + 1) bytes) more

pub takes_line : (n : ℕ) (bytes : List ℕ) (left : Option (List ℕ)) → HasLine n bytes → Consumes (prepend_known bytes left) (prepend_known (drop (n + 1) bytes) left) (take n bytes ++ 10 ∷ [])
takes_line n bytes None h = tt
takes_line n bytes (Some more) h =
    line_then n bytes more h ∙ sym (append_assoc (take n bytes) (10 ∷ []) (drop (n + 1) bytes ++ more))

some_bytes : (xs ys : List ℕ) → xs ≡ ys → 0 < length ys → xs ≢ []
some_bytes xs ys e h empty = let none : length ys ≡ 0 = ap length (sym e ∙ empty) in omega (arith, none)

-- ---- a whole item

whole_text : (received : ℤ) (item : Item) (text : List ℕ) → item_at received text ≡ Some (item, []) → IsItemText received item text
whole_text received item text h =
    let w = what_is_read_is_an_item_text received text item [] h in
    subst (IsItemText received item) (sym (append-nil w.0) ∙ sym w.2) w.1

-- ---- no item

-- what is read as no item begins with none
pub unread_is_bad : (received : ℤ) (p : ℕ) (bytes : List ℕ) → item_at received bytes ≡ None → ¬ BeginsWithItem received p bytes
unread_is_bad received p bytes h b =
    none_some (b.item, b.rest) (sym h ∙ ap (item_at received) b.bytes_are ∙ item_texts_are_read received b.item b.text b.rest b.is_item)

no_feed-front : (a b : List ℕ) (n : ℕ) → NoFeed (take n (a ++ 10 ∷ b)) → length a < n → ⊥
no_feed-front [] b zero h k = omega arith
no_feed-front [] b (suc n) h k = h.0 refl
no_feed-front (x ∷ a) b zero h k = omega arith
no_feed-front (x ∷ a) b (suc n) h k = no_feed-front a b n h.1 (omega arith)

-- bytes whose first line is too long, or has no end, begin with no item
pub no_line_is_bad : (received : ℤ) (p : ℕ) (bytes : List ℕ) → HasNoLine bytes → ¬ BeginsWithItem received p bytes
no_line_is_bad received p bytes h b =
    let line = first_lines_are_short received b.item b.text b.is_item in
    let same : bytes ≡ line.line ++ 10 ∷ (line.rest ++ b.rest) = b.bytes_are ∙ ap (λ t. t ++ b.rest) line.text_is ∙ append_assoc line.line (10 ∷ line.rest) b.rest in
    no_feed-front line.line (line.rest ++ b.rest) 201 (subst (λ xs. NoFeed (take 201 xs)) same h) (omega (arith, line.short))

-- an item at the front is the one that the first line begins
module _ (received : ℤ) (line behind : List ℕ) (no_feed : NoFeed line) where
  no_first_line : first_line_at line ≡ None → item_at received (line ++ 10 ∷ behind) ≡ None
  no_first_line h = item_at-line received line behind no_feed ∙ ap (λ o. o >>= (λ f. item_after received f behind)) h

  by_first_line : (f : FirstLine) → first_line_at line ≡ Some f → item_at received (line ++ 10 ∷ behind) ≡ item_after received f behind
  by_first_line f h = item_at-line received line behind no_feed ∙ ap (λ o. o >>= (λ f. item_after received f behind)) h

too_few : (n : ℕ) (xs : List ℕ) → length xs < n → bytes_at n xs ≡ None
too_few n xs h = grind arith

cut_short : (received : ℤ) (kind : Kind) (version size : ℕ) (behind : List ℕ) → length behind < size → item_after received (first.Command kind version size) behind ≡ None
cut_short received kind version size behind h =
    ap (λ o. o >>= (λ (payload : List ℕ × List ℕ). one_of 10 10 payload.1 >>= (λ (rest : List ℕ). Some (command (record { kind = kind; version = version; received = received; payload = payload.0 }), rest)))) (too_few size behind h)

payload_then : (received : ℤ) (kind : Kind) (version size : ℕ) (payload rest : List ℕ) → length payload ≡ size → item_after received (first.Command kind version size) (payload ++ rest) ≡ (one_of 10 10 rest >>= (λ (r : List ℕ). Some (command (record { kind = kind; version = version; received = received; payload = payload }), r)))
payload_then received kind version size payload rest h =
    ap (λ n. item_after received (first.Command kind version n) (payload ++ rest)) (sym h)
    ∙ ap (λ o. o >>= (λ (p : List ℕ × List ℕ). one_of 10 10 p.1 >>= (λ (r : List ℕ). Some (command (record { kind = kind; version = version; received = received; payload = p.0 }), r)))) (bytes_at-append payload rest)
    ∙ ap (λ v. one_of 10 10 rest >>= (λ (r : List ℕ). Some (command (record { kind = kind; version = version; received = received; payload = payload }), r))) h

some_rest : (a b : Item) (xs ys : List ℕ) → ◌≡◌ {A = Option (Item × List ℕ)} (Some (a, xs)) (Some (b, ys)) → xs ≡ ys
some_rest a b xs ys h = let pair : ◌≡◌ {A = Item × List ℕ} (a, xs) (b, ys) = cc in ap (λ p. p.1) pair

-- how many bytes an item has that is read
abbrev text_length : FirstLine → ℕ
text_length (first.Command kind version size) = size + 1
text_length (first.Sweep kinds moment) = 0

item_after-length : (received : ℤ) (f : FirstLine) (behind : List ℕ) (item : Item) (rest : List ℕ) → item_after received f behind ≡ Some (item, rest) → length behind ≡ text_length f + length rest
item_after-length received (first.Command kind version size) behind item rest h =
    let a = bound (bytes_at size behind) _ (item, rest) h in
    let b = bound (one_of 10 10 a.0.1) _ (item, rest) a.2 in
    let taken = bytes_at-is size behind a.0 a.1 in
    let feed = one_of-is 10 a.0.1 b.0 b.1 in
    let same : b.0 ≡ rest = some_rest _ item b.0 rest b.2 in
    let size_is : length a.0.0 ≡ size = taken.0 in
    let all : length behind ≡ length a.0.0 + length a.0.1 = ap length taken.1 ∙ length-append a.0.0 a.0.1 in
    let last : length a.0.1 ≡ suc (length b.0) = ap length feed in
    omega (arith, size_is, all, last, ap length same)
item_after-length received (first.Sweep kinds moment) behind item rest h =
    let same : behind ≡ rest = some_rest (sweep kinds moment) item behind rest h in
    omega (arith, ap length same)

-- an item that would end past byte 2^62
too_far : (received : ℤ) (p : ℕ) (line behind : List ℕ) (f : FirstLine) → NoFeed line → first_line_at line ≡ Some f → most_spool < p + (length line + 1 + text_length f) → ¬ BeginsWithItem received p (line ++ 10 ∷ behind)
too_far received p line behind f no_feed h far b =
    let read : item_after received f behind ≡ Some (b.item, b.rest) = sym (by_first_line received line behind no_feed f h) ∙ ap (item_at received) b.bytes_are ∙ item_texts_are_read received b.item b.text b.rest b.is_item in
    let behind_length = item_after-length received f behind b.item b.rest read in
    let all : length line + suc (length behind) ≡ length b.text + length b.rest = sym (length-append line (10 ∷ behind)) ∙ ap length b.bytes_are ∙ length-append b.text b.rest in
    omega (arith, behind_length, all, b.ends, far)

-- ---- in terms of the bytes left

keeps_bad : (old new : Option (List ℕ)) (P : List ℕ → Type 0) → Keeps old new → IfSome new P → IfSome old P
keeps_bad None new P h k = tt
keeps_bad (Some x) None P h k = absurd h
keeps_bad (Some x) (Some y) P h k = subst P h k

pub kept_bad : (received : ℤ) (p : ℕ) (old new : Option (List ℕ)) → Keeps old new → IfSome new (IsBad received p) → IfSome old (IsBad received p)
kept_bad received p old new h k = keeps_bad old new (IsBad received p) h k

pub kept_gives : (received : ℤ) (item : Item) (p q : ℕ) (old mid new : Option (List ℕ)) → Keeps old mid → Gives received item p q mid new → Gives received item p q old new
kept_gives received item p q old mid new h g = record { text = g.text; is_item = g.is_item; taken = step old mid new h g.taken; counted = g.counted }
  where
    step : (old mid new : Option (List ℕ)) → Keeps old mid → Consumes mid new g.text → Consumes old new g.text
    step None mid new h k = tt
    step (Some x) None new h k = absurd h
    step (Some x) (Some y) None h k = k
    step (Some x) (Some y) (Some z) h k = sym h ∙ k

pub kept_end : (old new : Option (List ℕ)) → Keeps old new → IsAtEnd new → IsAtEnd old
kept_end None new h k = tt
kept_end (Some x) None h k = absurd h
kept_end (Some x) (Some y) h k = sym h ∙ k

pub no_line_bad : (received : ℤ) (p : ℕ) (left : Option (List ℕ)) → IfSome left (λ all. (all ≢ []) × HasNoLine all) → IfSome left (IsBad received p)
no_line_bad received p None h = tt
no_line_bad received p (Some all) h = record { some = h.0; no_item = no_line_is_bad received p all h.1 }

-- the bytes buffered have a line, and behind it come these
module _ (received : ℤ) (p n : ℕ) (bytes : List ℕ) (h : HasLine n bytes) where
  line_is_bad : (more : List ℕ) → ¬ BeginsWithItem received p (take n bytes ++ 10 ∷ (drop (n + 1) bytes ++ more)) → IsBad received p (bytes ++ more)
  line_is_bad more no_item = record {
    some =
        some_bytes (bytes ++ more) (take n bytes ++ 10 ∷ (drop (n + 1) bytes ++ more)) (line_then n bytes more h) (omega (arith, length-append (take n bytes) (10 ∷ (drop (n + 1) bytes ++ more))));
    no_item = (λ b. no_item (subst (BeginsWithItem received p) (line_then n bytes more h) b));
  }

  pub bad_line : (left : Option (List ℕ)) → first_line_at (take n bytes) ≡ None → IfSome (prepend_known bytes left) (IsBad received p)
  bad_line None none = tt
  bad_line (Some more) none =
      line_is_bad more (unread_is_bad received p _ (no_first_line received (take n bytes) (drop (n + 1) bytes ++ more) h.no_feed none))

  pub far_line : (left : Option (List ℕ)) (f : FirstLine) → first_line_at (take n bytes) ≡ Some f → most_spool < p + (n + 1 + text_length f) → IfSome (prepend_known bytes left) (IsBad received p)
  far_line None f is_first far = tt
  far_line (Some more) f is_first far =
      let line_length : length (take n bytes) ≡ n = length-take-le n bytes (omega (arith, h.inside)) in
      line_is_bad more (too_far received p (take n bytes) (drop (n + 1) bytes ++ more) f h.no_feed is_first (omega (arith, far, line_length)))

  module _ (kind : Kind) (version size : ℕ) (is_first : first_line_at (take n bytes) ≡ Some (first.Command kind version size)) where
    cut : (left : Option (List ℕ)) → IfSome (prepend_known (drop (n + 1) bytes) left) (λ all. length all < size) → IfSome (prepend_known bytes left) (IsBad received p)
    cut None k = tt
    cut (Some more) k =
        line_is_bad more (unread_is_bad received p _ (by_first_line received (take n bytes) (drop (n + 1) bytes ++ more) h.no_feed (first.Command kind version size) is_first ∙ cut_short received kind version size (drop (n + 1) bytes ++ more) k))

    pub cut_payload : (after : List ℕ) (left : Option (List ℕ)) → after ≡ drop (n + 1) bytes → IfSome (prepend_known after left) (λ all. length all < size) → IfSome (prepend_known bytes left) (IsBad received p)
    cut_payload after left e k = cut left (subst (λ xs. IfSome (prepend_known xs left) (λ all. length all < size)) e k)

    no_feed_behind : (left behind : Option (List ℕ)) (payload : List ℕ) → length payload ≡ size → Consumes (prepend_known (drop (n + 1) bytes) left) behind payload → IfSome behind (λ all. one_of 10 10 all ≡ None) → IfSome (prepend_known bytes left) (IsBad received p)
    no_feed_behind None behind payload s t k = tt
    no_feed_behind (Some more) None payload s t k = absurd t
    no_feed_behind (Some more) (Some rest) payload s t k =
        let none : item_after received (first.Command kind version size) (drop (n + 1) bytes ++ more) ≡ None = ap (item_after received (first.Command kind version size)) t ∙ payload_then received kind version size payload rest s ∙ ap (λ o. o >>= (λ (r : List ℕ). Some (command (record { kind = kind; version = version; received = received; payload = payload }), r))) k in
        line_is_bad more (unread_is_bad received p _ (by_first_line received (take n bytes) (drop (n + 1) bytes ++ more) h.no_feed (first.Command kind version size) is_first ∙ none))

    pub no_feed_after : (after : List ℕ) (left behind : Option (List ℕ)) (payload : List ℕ) → after ≡ drop (n + 1) bytes → length payload ≡ size → Consumes (prepend_known after left) behind payload → IfSome behind (λ all. one_of 10 10 all ≡ None) → IfSome (prepend_known bytes left) (IsBad received p)
    no_feed_after after left behind payload e s t k = no_feed_behind left behind payload s (subst (λ xs. Consumes (prepend_known xs left) behind payload) e t) k

    -- a part of its payload, or a payload without a line feed, ends no item
    payload_cut : (part : List ℕ) → length part < size → ¬ BeginsWithItem received p ((take n bytes ++ 10 ∷ []) ++ part)
    payload_cut part short =
        subst (λ xs. BeginsWithItem received p xs → ⊥) (sym (append_assoc (take n bytes) (10 ∷ []) part))
        (unread_is_bad received p (take n bytes ++ 10 ∷ part) (by_first_line received (take n bytes) part h.no_feed (first.Command kind version size) is_first ∙ cut_short received kind version size part short))

    feed_lacks : (payload : List ℕ) → length payload ≡ size → ¬ BeginsWithItem received p ((take n bytes ++ 10 ∷ []) ++ payload)
    feed_lacks payload s =
        let none : item_after received (first.Command kind version size) payload ≡ None =
        ap (item_after received (first.Command kind version size)) (sym (append-nil payload)) ∙ payload_then received kind version size payload [] s
        ∙ ap (λ o. o >>= (λ (r : List ℕ). Some (command (record { kind = kind; version = version; received = received; payload = payload }), r))) (no_byte (Some []) (Some []) refl refl) in
        subst (λ xs. BeginsWithItem received p xs → ⊥) (sym (append_assoc (take n bytes) (10 ∷ []) payload))
        (unread_is_bad received p (take n bytes ++ 10 ∷ payload) (by_first_line received (take n bytes) payload h.no_feed (first.Command kind version size) is_first ∙ none))

    -- with further bytes it is an item, if that ends at byte 2^62 or before
    payload_open : (part : List ℕ) → length part ≤ size → p + (n + size + 2) ≤ most_spool → IsOpen received p ((take n bytes ++ 10 ∷ []) ++ part)
    payload_open part short fits =
        let line = take n bytes in
        let fill : List ℕ = replicate (size - length part) 0 in
        let payload = part ++ fill in
        let item = command (record { kind = kind; version = version; received = received; payload = payload }) in
        let text = line ++ 10 ∷ (payload ++ 10 ∷ []) in
        let s : length payload ≡ size = omega (arith, length-append part fill, length-replicate {A = ℕ} (size - length part) 0, short) in
        let line_length : length line ≡ n = length-take-le n bytes (omega (arith, h.inside)) in
        let read : item_at received text ≡ Some (item, []) =
        by_first_line received line (payload ++ 10 ∷ []) h.no_feed (first.Command kind version size) is_first ∙ payload_then received kind version size payload (10 ∷ []) s
        ∙ ap (λ o. o >>= (λ (r : List ℕ). Some (item, r))) (one_of-byte 10 []) in
        in_item (fill ++ 10 ∷ [])
        (record {
          item = item;
          text = text;
          rest = [];
          is_item = whole_text received item text read;
          bytes_are =
              append_assoc (line ++ 10 ∷ []) part (fill ++ 10 ∷ [])
              ∙ (append_assoc line (10 ∷ []) (part ++ (fill ++ 10 ∷ []))
              ∙ (ap (λ xs. line ++ 10 ∷ xs) (sym (append_assoc part fill (10 ∷ []))) ∙ sym (append-nil text)));
          ends = omega (arith, fits, s, line_length, length-append line (10 ∷ (payload ++ 10 ∷ [])), length-append payload (10 ∷ []));
        })

    pub stops_in_payload : (after : List ℕ) (left rest : Option (List ℕ)) → p + (n + size + 2) ≤ most_spool → after ≡ drop (n + 1) bytes → IsShort size (prepend_known after left) rest → StopsIn received p (prepend_known bytes left) rest
    stops_in_payload after left rest fits e s = record {
      taken = (take n bytes ++ 10 ∷ []) ++ s.part;
      is_taken =
          Consumes-trans (prepend_known bytes left) (prepend_known (drop (n + 1) bytes) left) rest (take n bytes ++ 10 ∷ []) s.part (takes_line n bytes left h)
          (subst (λ xs. Consumes (prepend_known xs left) rest s.part) e s.is_taken);
      no_item = payload_cut s.part s.short;
      is_open = payload_open s.part (omega (arith, s.short)) fits;
    }

    pub stops_at_feed : (after payload : List ℕ) (left behind rest : Option (List ℕ)) → p + (n + size + 2) ≤ most_spool → after ≡ drop (n + 1) bytes → length payload ≡ size → Consumes (prepend_known after left) behind payload → Consumes behind rest []
        → StopsIn received p (prepend_known bytes left) rest
    stops_at_feed after payload left behind rest fits e s taken none = record {
      taken = (take n bytes ++ 10 ∷ []) ++ payload;
      is_taken =
          Consumes-trans (prepend_known bytes left) (prepend_known (drop (n + 1) bytes) left) rest (take n bytes ++ 10 ∷ []) payload (takes_line n bytes left h)
          (subst (Consumes (prepend_known (drop (n + 1) bytes) left) rest) (append-nil payload)
          (Consumes-trans (prepend_known (drop (n + 1) bytes) left) behind rest payload [] (subst (λ xs. Consumes (prepend_known xs left) behind payload) e taken) none));
      no_item = feed_lacks payload s;
      is_open = payload_open payload (omega (arith, s)) fits;
    }

-- ---- a read failed before a first line was there

pub stops_in_line : (received : ℤ) (p : ℕ) (bytes : List ℕ) (old rest : Option (List ℕ)) → Keeps old (prepend_known bytes rest) → HasNoLine bytes × (length bytes < 201) → StopsIn received p old rest
stops_in_line received p bytes old rest kept none = record {
  taken = bytes;
  is_taken = all_taken old rest kept;
  no_item = no_line_is_bad received p bytes none.0;
  is_open = in_line (subst NoFeed (take_all 201 bytes (omega (arith, none.1))) none.0) none.1;
}
  where
    all_taken : (old rest : Option (List ℕ)) → Keeps old (prepend_known bytes rest) → Consumes old rest bytes
    all_taken None rest kept = tt
    all_taken (Some xs) None kept = absurd kept
    all_taken (Some xs) (Some ys) kept = sym kept

pub kept_stops : (received : ℤ) (p : ℕ) (old mid rest : Option (List ℕ)) → Keeps old mid → StopsIn received p mid rest → StopsIn received p old rest
kept_stops received p old mid rest kept s = record { taken = s.taken; is_taken = step old mid rest kept s.is_taken; no_item = s.no_item; is_open = s.is_open }
  where
    step : (old mid rest : Option (List ℕ)) → Keeps old mid → Consumes mid rest s.taken → Consumes old rest s.taken
    step None mid rest h k = tt
    step (Some x) None rest h k = absurd h
    step (Some x) (Some y) None h k = k
    step (Some x) (Some y) (Some z) h k = sym h ∙ k

-- ---- an item is given

gives_payload : (received : ℤ) (p q n : ℕ) (bytes : List ℕ) (kind : Kind) (version size : ℕ) (payload rest : List ℕ) (left behind after : Option (List ℕ)) → HasLine n bytes → first_line_at (take n bytes) ≡ Some (first.Command kind version size) → length payload ≡ size → rest ≡ drop (n + 1) bytes → Consumes (prepend_known rest left) behind payload → Consumes behind after (10 ∷ []) → q ≡ p + (n + size + 2) → Gives received (command (record { kind = kind; version = version; received = received; payload = payload })) p q (prepend_known bytes left) after
gives_payload received p q n bytes kind version size payload rest left behind after h is_first s e taken feed count =
    let line = take n bytes in
    let text = line ++ 10 ∷ (payload ++ 10 ∷ []) in
    let item = command (record { kind = kind; version = version; received = received; payload = payload }) in
    let read : item_at received text ≡ Some (item, []) = by_first_line received line (payload ++ 10 ∷ []) h.no_feed (first.Command kind version size) is_first ∙ payload_then received kind version size payload (10 ∷ []) s ∙ ap (λ o. o >>= (λ (r : List ℕ). Some (item, r))) (one_of-byte 10 []) in
    let joined : (line ++ 10 ∷ []) ++ (payload ++ 10 ∷ []) ≡ text = append_assoc line (10 ∷ []) (payload ++ 10 ∷ []) in
    let all = Consumes-trans (prepend_known bytes left) (prepend_known (drop (n + 1) bytes) left) after (line ++ 10 ∷ []) (payload ++ 10 ∷ []) (takes_line n bytes left h) (Consumes-trans (prepend_known (drop (n + 1) bytes) left) behind after payload (10 ∷ []) (subst (λ xs. Consumes (prepend_known xs left) behind payload) e taken) feed) in
    let line_length : length line ≡ n = length-take-le n bytes (omega (arith, h.inside)) in
    record {
      text = text;
      is_item = whole_text received item text read;
      taken = subst (Consumes (prepend_known bytes left) after) joined all;
      counted = omega (arith, count, s, line_length, length-append line (10 ∷ (payload ++ 10 ∷ [])), length-append payload (10 ∷ []));
    }

pub gives_command : (received : ℤ) (p q n : ℕ) (bytes : List ℕ) (kind : Kind) (version size : ℕ) (payload sent rest : List ℕ) (left behind after : Option (List ℕ)) → HasLine n bytes → first_line_at (take n bytes) ≡ Some (first.Command kind version size) → length payload ≡ size → rest ≡ drop (n + 1) bytes → Consumes (prepend_known rest left) behind payload → Consumes behind after (10 ∷ []) → q ≡ p + (n + size + 2) → sent ≡ payload → Gives received (command (record { kind = kind; version = version; received = received; payload = sent })) p q (prepend_known bytes left) after
gives_command received p q n bytes kind version size payload sent rest left behind after h is_first s e taken feed count is_sent =
    subst (λ xs. Gives received (command (record { kind = kind; version = version; received = received; payload = xs })) p q (prepend_known bytes left) after) (sym is_sent) (gives_payload received p q n bytes kind version size payload rest left behind after h is_first s e taken feed count)

pub gives_sweep : (received : ℤ) (p q n : ℕ) (bytes rest : List ℕ) (kinds : Kinds) (moment : ℤ) (left : Option (List ℕ)) → HasLine n bytes → first_line_at (take n bytes) ≡ Some (first.Sweep kinds moment) → rest ≡ drop (n + 1) bytes → q ≡ p + n + 1 → Gives received (sweep kinds moment) p q (prepend_known bytes left) (prepend_known rest left)
gives_sweep received p q n bytes rest kinds moment left h is_first e count =
    let line = take n bytes in
    let read : item_at received (line ++ 10 ∷ []) ≡ Some (sweep kinds moment, []) = by_first_line received line [] h.no_feed (first.Sweep kinds moment) is_first in
    let line_length : length line ≡ n = length-take-le n bytes (omega (arith, h.inside)) in
    record {
      text = line ++ 10 ∷ [];
      is_item = whole_text received (sweep kinds moment) (line ++ 10 ∷ []) read;
      taken = subst (λ xs. Consumes (prepend_known bytes left) (prepend_known xs left) (line ++ 10 ∷ [])) (sym e) (takes_line n bytes left h);
      counted = omega (arith, count, line_length, length-append line (10 ∷ []));
    }

-- ---- at the end

pub end_of_source : (bytes : List ℕ) (left : Option (List ℕ)) → IsAtEnd (prepend_known bytes left) → IsAtEnd left
end_of_source bytes None h = tt
end_of_source bytes (Some []) h = refl
end_of_source bytes (Some (x ∷ xs)) h =
    let none : length bytes + suc (length xs) ≡ 0 = sym (length-append bytes (x ∷ xs)) ∙ ap length h in absurd (omega (arith, none))

-- ---- answers

if_item : (answer : NextItem) (P Q : Item → Type 0) → ((item : Item) → P item → Q item) → IfItem answer P → IfItem answer Q
if_item (next.Command c) P Q f h = f (command c) h
if_item (next.Sweep kinds m) P Q f h = f (sweep kinds m) h
if_item next.End P Q f h = tt
if_item (next.SpoolBad at) P Q f h = tt
if_item next.ReadFault P Q f h = tt
if_item next.Memory P Q f h = tt

if_bad : (answer : NextItem) (P Q : ℕ → Type 0) → ((at : ℕ) → P at → Q at) → IfBad answer P → IfBad answer Q
if_bad (next.Command c) P Q f h = tt
if_bad (next.Sweep kinds m) P Q f h = tt
if_bad next.End P Q f h = tt
if_bad (next.SpoolBad at) P Q f h = f at h
if_bad next.ReadFault P Q f h = tt
if_bad next.Memory P Q f h = tt

module _ (answer : NextItem) (received : ℤ) (p q n : ℕ) (bytes rest : List ℕ) (kinds : Kinds) (moment : ℤ) (left : Option (List ℕ)) (h : HasLine n bytes) (is_first : first_line_at (take n bytes) ≡ Some (first.Sweep kinds moment)) where
  pub swept : IfItem answer (λ item. (item ≡ sweep kinds moment) × (q ≡ p + n + 1) × (rest ≡ drop (n + 1) bytes)) → IfItem answer (λ item. Gives received item p q (prepend_known bytes left) (prepend_known rest left))
  swept given =
      if_item answer (λ item. (item ≡ sweep kinds moment) × (q ≡ p + n + 1) × (rest ≡ drop (n + 1) bytes)) (λ item. Gives received item p q (prepend_known bytes left) (prepend_known rest left))
      (λ item k. subst (λ i. Gives received i p q (prepend_known bytes left) (prepend_known rest left)) (sym k.0) (gives_sweep received p q n bytes rest kinds moment left h is_first k.2 k.1)) given

  pub swept_too_far : IfBad answer (λ at. (at ≡ p) × (most_spool < p + n + 1)) → IfBad answer (λ at. (at ≡ p) × IfSome (prepend_known bytes left) (IsBad received at))
  swept_too_far bad =
      if_bad answer (λ at. (at ≡ p) × (most_spool < p + n + 1)) (λ at. (at ≡ p) × IfSome (prepend_known bytes left) (IsBad received at))
      (λ at k. (k.0, subst (λ b. IfSome (prepend_known bytes left) (IsBad received b)) (sym k.0) (far_line received p n bytes h left (first.Sweep kinds moment) is_first (let far : most_spool < p + n + 1 = k.1 in omega (arith, far)))))
      bad
