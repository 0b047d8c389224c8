-- An item is read by its first line, and then by what stands behind the line feed.
use Rattle.std.proofs.Common.{◌≡◌, ◌≢◌, ◌∙◌, ℕ, zero, suc, ◌≤◌, ◌^◌, ℤ, List, [], ◌∷◌, ◌++◌, length, take, drop, arith, refl, sym, ap, Bool, true, false, not, ◌&&◌, ◌||◌, ◌==◌, eqb, nat_le, nat_lt, if◌then◌else◌, Option, Some, None, codes}
use Rattle.std.specs.Prelude.{option_map, slice_index}
use Rattle.std.specs.Char.{is_ascii_digit}
use Rattle.std.specs.Str.Parse.{digits_value}
use Rattle.std.specs.List.{list_all}
use Rattle.text_spec.specs.StampReader.{◌>>=◌, one_of, digit_run, stamp_of}
use Rattle.spool_maker.specs.fleet_rows.declared.command.Kind.{Kind}
use Rattle.spool_maker.specs.fleet_rows.declared.command.Kind.TheVariants.{Facts, Catalog, Report, Deactivate, Expiration}
use Rattle.spool_maker.specs.fleet_rows.declared.settings.Kinds.{Kinds}
use Rattle.spool_maker.specs.history_spec.Thread.{Item, command, sweep}
use Rattle.history_laws.specs.Reading.{or_else, after_word, number_of_digits, number_at, bytes_at, line_at, kind_if, kind_at, command_at, is_there, comma_if, word_if, kinds_at, sweep_at, item_at}
use Rattle.history_laws.proofs.Feeds.{NoFeed}
use Rattle.std.proofs.lemmas.List.{take-append-le, drop-append-le}
use Rattle.text_spec.proofs.of_plain_laws.Options.{none_some}
use Rattle.text_spec.proofs.Fronts.{bound}
use Rattle.history_laws.proofs.ReadingFronts.{after_word-is, one_of-byte, line_at-append}
use Rattle.spool_text.specs.declared.first_line.FirstLine.{FirstLine}
use Rattle.spool_text.specs.declared.first_line.FirstLine.TheVariants as first
use Rattle.spool_text.specs.FirstLine.{command_line_at, sweep_line_at, first_line_at, item_after}
use Rattle.spool_maker.specs.fleet_rows.json_tree.Limits.{most_payload}

-- the text, a line feed and what stands behind it
abbrev joined : List ℕ → List ℕ → List ℕ
joined behind xs = xs ++ 10 ∷ behind

abbrev rest_joined : {A : Type 0} → List ℕ → A × List ℕ → A × List ℕ
rest_joined behind p = (p.0, joined behind p.1)

-- ---- words

abbrev IsWord : List ℕ → Type 0
IsWord word = list_all (λ c. not (c == 10)) word ≡ true

word_more : (b : Bool) (w xs behind : List ℕ) → after_word w (joined behind xs) ≡ option_map (joined behind) (after_word w xs) → (if b then after_word w (joined behind xs) else None) ≡ option_map (joined behind) (if b then after_word w xs else None)
word_more true w xs behind h = h
word_more false w xs behind h = refl

word_ends : (b : Bool) (a : ℕ) (w behind : List ℕ) → eqb a 10 ≡ b → (not b && list_all (λ c. not (c == 10)) w) ≡ true → (if b then after_word w behind else None) ≡ None
word_ends true a w behind e h = absurd (let apart : false ≡ true = h in cc)
word_ends false a w behind e h = refl

word_tail : (b : Bool) (w : List ℕ) → (b && list_all (λ c. not (c == 10)) w) ≡ true → IsWord w
word_tail true w h = h
word_tail false w h = absurd (let apart : false ≡ true = h in cc)

after_word-joined : (w xs behind : List ℕ) → IsWord w → after_word w (joined behind xs) ≡ option_map (joined behind) (after_word w xs)
after_word-joined [] xs behind h = refl
after_word-joined (a ∷ w) [] behind h = word_ends (eqb a 10) a w behind refl h
after_word-joined (a ∷ w) (x ∷ xs) behind h = word_more (eqb a x) w xs behind (after_word-joined w xs behind (word_tail (not (a == 10)) w h))

-- ---- what is left of a line without line feed has none

no_feed-drop : (n : ℕ) (xs : List ℕ) → NoFeed xs → NoFeed (drop n xs)
no_feed-drop zero xs h = h
no_feed-drop (suc n) [] h = tt
no_feed-drop (suc n) (x ∷ xs) h = no_feed-drop n xs h.1

abbrev LeavesNoFeed : Option (List ℕ) → Type 0
LeavesNoFeed None = Unit {0}
LeavesNoFeed (Some r) = NoFeed r

leaves_if : (b : Bool) (o : Option (List ℕ)) → LeavesNoFeed o → LeavesNoFeed (if b then o else None)
leaves_if true o h = h
leaves_if false o h = tt

after_word-leaves : (w xs : List ℕ) → NoFeed xs → LeavesNoFeed (after_word w xs)
after_word-leaves [] xs h = h
after_word-leaves (a ∷ w) [] h = tt
after_word-leaves (a ∷ w) (x ∷ xs) h = leaves_if (eqb a x) (after_word w xs) (after_word-leaves w xs h.1)

one_of-leaves : (c : ℕ) (xs : List ℕ) → NoFeed xs → LeavesNoFeed (one_of c c xs)
unfolding one_of
one_of-leaves c [] h = tt
one_of-leaves c (x ∷ xs) h = leaves_if ((x == c) || (x == c)) (Some xs) h.1

abbrev LeavesPairNoFeed : {A : Type 0} → Option (A × List ℕ) → Type 0
LeavesPairNoFeed None = Unit {0}
LeavesPairNoFeed (Some p) = NoFeed p.1

leaves_pair_if : {A : Type 0} (b : Bool) (p : A × List ℕ) → NoFeed p.1 → LeavesPairNoFeed (if b then Some p else None)
leaves_pair_if true p h = h
leaves_pair_if false p h = tt

number_at-leaves : (xs : List ℕ) → NoFeed xs → LeavesPairNoFeed (number_at xs)
number_at-leaves xs h = leaves_pair_if _ (digits_value 10 (take (digit_run xs) xs), drop (digit_run xs) xs) (no_feed-drop (digit_run xs) xs h)

kind_if-leaves : (kind : Kind) (o : Option (List ℕ)) → LeavesNoFeed o → LeavesPairNoFeed (kind_if kind o)
kind_if-leaves kind None h = tt
kind_if-leaves kind (Some r) h = h

or_else-leaves : {A : Type 0} (a b : Option (A × List ℕ)) → LeavesPairNoFeed a → LeavesPairNoFeed b → LeavesPairNoFeed (or_else a b)
or_else-leaves None b h k = k
or_else-leaves (Some p) b h k = h

kind_at-leaves : (xs : List ℕ) → NoFeed xs → LeavesPairNoFeed (kind_at xs)
unfolding kind_at
kind_at-leaves xs h =
    or_else-leaves _ _ (kind_if-leaves Facts _ (after_word-leaves (codes "replace_facts ") xs h))
    (or_else-leaves _ _ (kind_if-leaves Catalog _ (after_word-leaves (codes "replace_catalog ") xs h))
    (or_else-leaves _ _ (kind_if-leaves Report _ (after_word-leaves (codes "store_report ") xs h))
    (or_else-leaves _ _ (kind_if-leaves Deactivate _ (after_word-leaves (codes "deactivate_node ") xs h))
    (kind_if-leaves Expiration _ (after_word-leaves (codes "configure_expiration ") xs h)))))

-- ---- kinds, bytes and numbers

kind_if-joined : (kind : Kind) (o : Option (List ℕ)) (behind : List ℕ) → kind_if kind (option_map (joined behind) o) ≡ option_map (rest_joined behind) (kind_if kind o)
kind_if-joined kind None behind = refl
kind_if-joined kind (Some r) behind = refl

or_else-joined : {A B : Type 0} (f : A → B) (a b : Option A) → or_else (option_map f a) (option_map f b) ≡ option_map f (or_else a b)
or_else-joined f None b = refl
or_else-joined f (Some a) b = refl

kind_word-joined : (kind : Kind) (w xs behind : List ℕ) → IsWord w → kind_if kind (after_word w (joined behind xs)) ≡ option_map (rest_joined behind) (kind_if kind (after_word w xs))
kind_word-joined kind w xs behind h = ap (kind_if kind) (after_word-joined w xs behind h) ∙ kind_if-joined kind (after_word w xs) behind

both : {A B : Type 0} (f : A → B) (a : Option A) (b : Option A) (c d : Option B) → c ≡ option_map f a → d ≡ option_map f b → or_else c d ≡ option_map f (or_else a b)
both f a b c d h k = (λ i. or_else (h i) (k i)) ∙ or_else-joined f a b

kind_at-joined : (xs behind : List ℕ) → kind_at (joined behind xs) ≡ option_map (rest_joined behind) (kind_at xs)
unfolding kind_at
kind_at-joined xs behind =
    both (rest_joined behind) _ _ _ _ (kind_word-joined Facts (codes "replace_facts ") xs behind refl)
    (both (rest_joined behind) _ _ _ _ (kind_word-joined Catalog (codes "replace_catalog ") xs behind refl)
    (both (rest_joined behind) _ _ _ _ (kind_word-joined Report (codes "store_report ") xs behind refl)
    (both (rest_joined behind) _ _ _ _ (kind_word-joined Deactivate (codes "deactivate_node ") xs behind refl)
    (kind_word-joined Expiration (codes "configure_expiration ") xs behind refl))))

space-joined : (xs behind : List ℕ) → one_of 32 32 (joined behind xs) ≡ option_map (joined behind) (one_of 32 32 xs)
unfolding one_of
space-joined [] behind = refl
space-joined (x ∷ xs) behind = step (eqb x 32)
  where
    step : (b : Bool) → (if b || b then Some (joined behind xs) else None) ≡ option_map (joined behind) (if b || b then Some xs else None)
    step true = refl
    step false = refl

run-joined : (xs behind : List ℕ) → digit_run (joined behind xs) ≡ digit_run xs
run-joined [] behind = refl
run-joined (x ∷ xs) behind = ap (λ n. if is_ascii_digit x then suc n else 0) (run-joined xs behind)

run_within : (xs : List ℕ) → digit_run xs ≤ length xs
run_within [] = omega arith
run_within (x ∷ xs) = step (is_ascii_digit x) (run_within xs)
  where
    step : (b : Bool) → digit_run xs ≤ length xs → (if b then suc (digit_run xs) else 0) ≤ suc (length xs)
    step true h = omega (arith, h)
    step false h = omega arith

digits-joined : (ds rest behind : List ℕ) → number_of_digits ds (joined behind rest) ≡ option_map (rest_joined behind) (number_of_digits ds rest)
digits-joined ds rest behind = step (nat_le 1 (length ds) && nat_le (length ds) 10 && (not (slice_index ds 0 == 48) || (length ds == 1)))
  where
    step : (b : Bool) → (if b then Some (digits_value 10 ds, joined behind rest) else None) ≡ option_map (rest_joined behind) (if b then Some (digits_value 10 ds, rest) else None)
    step true = refl
    step false = refl

number_at-joined : (xs behind : List ℕ) → number_at (joined behind xs) ≡ option_map (rest_joined behind) (number_at xs)
number_at-joined xs behind =
    let n = digit_run xs in
    ap (λ k. number_of_digits (take k (joined behind xs)) (drop k (joined behind xs))) (run-joined xs behind)
    ∙ (λ i. number_of_digits (take-append-le n xs (10 ∷ behind) (run_within xs) i) (drop-append-le n xs (10 ∷ behind) (run_within xs) i))
    ∙ digits-joined (take n xs) (drop n xs) behind

-- ---- what a sweep is for

is_there-joined : (xs : List ℕ) (o : Option (List ℕ)) (behind : List ℕ) → is_there (joined behind xs) (option_map (joined behind) o) ≡ rest_joined behind (is_there xs o)
is_there-joined xs None behind = refl
is_there-joined xs (Some r) behind = refl

comma_word : (later : Bool) (word : List ℕ) → IsWord word → IsWord (comma_if later ++ word)
comma_word true word h = h
comma_word false word h = h

word_if-joined : (later : Bool) (word xs behind : List ℕ) → IsWord word → word_if later word (joined behind xs) ≡ rest_joined behind (word_if later word xs)
word_if-joined later word xs behind h =
    ap (is_there (joined behind xs)) (after_word-joined (comma_if later ++ word) xs behind (comma_word later word h))
    ∙ is_there-joined xs (after_word (comma_if later ++ word) xs) behind

is_there-leaves : (xs : List ℕ) (o : Option (List ℕ)) → NoFeed xs → LeavesNoFeed o → NoFeed (is_there xs o).1
is_there-leaves xs None h k = h
is_there-leaves xs (Some r) h k = k

word_if-leaves : (later : Bool) (word xs : List ℕ) → NoFeed xs → NoFeed (word_if later word xs).1
word_if-leaves later word xs h = is_there-leaves xs (after_word (comma_if later ++ word) xs) h (after_word-leaves (comma_if later ++ word) xs h)

-- the three words, one after the other, and then the space
abbrev after_three : Bool × List ℕ → Bool × List ℕ → Bool × List ℕ → Option (Kinds × List ℕ)
after_three expire purge reports =
    if expire.0 || purge.0 || reports.0
    then (one_of 32 32 reports.1 >>= (λ rest. Some (record { expire = expire.0; purge = purge.0; reports = reports.0 }, rest)))
    else None

abbrev from_second : Bool × List ℕ → Option (Kinds × List ℕ)
from_second expire =
    let purge = word_if expire.0 (codes "purge") expire.1 in
    after_three expire purge (word_if (expire.0 || purge.0) (codes "reports") purge.1)

space_then : (kinds : Kinds) (o : Option (List ℕ)) (behind : List ℕ) → (option_map (joined behind) o >>= (λ rest. Some (kinds, rest))) ≡ option_map (rest_joined behind) (o >>= (λ rest. Some (kinds, rest)))
space_then kinds None behind = refl
space_then kinds (Some r) behind = refl

abbrev kinds_of : Bool → Bool → Bool → Kinds
kinds_of a b c = record { expire = a; purge = b; reports = c }

abbrev with_kinds : Kinds → Option (List ℕ) → Option (Kinds × List ℕ)
with_kinds kinds o = o >>= (λ rest. Some (kinds, rest))

flag_step : (t : Bool) (kinds : Kinds) (new old : Option (List ℕ)) (behind : List ℕ) → new ≡ option_map (joined behind) old → (if t then with_kinds kinds new else None) ≡ option_map (rest_joined {A = Kinds} behind) (if t then with_kinds kinds old else None)
flag_step true kinds new old behind h = ap (with_kinds kinds) h ∙ space_then kinds old behind
flag_step false kinds new old behind h = refl

three-joined : (a b c : Bool) (xs behind : List ℕ) → after_three (a, []) (b, []) (c, joined behind xs) ≡ option_map (rest_joined {A = Kinds} behind) (after_three (a, []) (b, []) (c, xs))
three-joined a b c xs behind =
    flag_step (a || b || c) (kinds_of a b c) (one_of 32 32 (joined behind xs)) (one_of 32 32 xs) behind (space-joined xs behind)

third-joined : (a b : Bool) (xs behind : List ℕ) → after_three (a, []) (b, []) (word_if (a || b) (codes "reports") (joined behind xs)) ≡ option_map (rest_joined behind) (after_three (a, []) (b, []) (word_if (a || b) (codes "reports") xs))
third-joined a b xs behind =
    let w = word_if (a || b) (codes "reports") xs in
    ap (after_three (a, []) (b, [])) (word_if-joined (a || b) (codes "reports") xs behind refl) ∙ three-joined a b w.0 w.1 behind

second-joined : (a : Bool) (xs behind : List ℕ) → from_second (a, joined behind xs) ≡ option_map (rest_joined behind) (from_second (a, xs))
second-joined a xs behind =
    let w = word_if a (codes "purge") xs in
    ap (λ (p : Bool × List ℕ). after_three (a, []) (p.0, []) (word_if (a || p.0) (codes "reports") p.1)) (word_if-joined a (codes "purge") xs behind refl) ∙ third-joined a w.0 w.1 behind

kinds_at-joined : (xs behind : List ℕ) → kinds_at (joined behind xs) ≡ option_map (rest_joined behind) (kinds_at xs)
unfolding kinds_at
kinds_at-joined xs behind =
    let w = word_if false (codes "expire") xs in
    ap from_second (word_if-joined false (codes "expire") xs behind refl) ∙ second-joined w.0 w.1 behind

space_pair_leaves : (kinds : Kinds) (o : Option (List ℕ)) → LeavesNoFeed o → LeavesPairNoFeed (o >>= (λ rest. Some (kinds, rest)))
space_pair_leaves kinds None h = tt
space_pair_leaves kinds (Some r) h = h

three_leaves : (t : Bool) (o : Option (Kinds × List ℕ)) → LeavesPairNoFeed o → LeavesPairNoFeed (if t then o else None)
three_leaves true o h = h
three_leaves false o h = tt

kinds_at-leaves : (xs : List ℕ) → NoFeed xs → LeavesPairNoFeed (kinds_at xs)
unfolding kinds_at
kinds_at-leaves xs h =
    let expire = word_if false (codes "expire") xs in
    let purge = word_if expire.0 (codes "purge") expire.1 in
    let reports = word_if (expire.0 || purge.0) (codes "reports") purge.1 in
    let left : NoFeed reports.1 = word_if-leaves (expire.0 || purge.0) (codes "reports") purge.1 (word_if-leaves expire.0 (codes "purge") expire.1 (word_if-leaves false (codes "expire") xs h)) in
    three_leaves (expire.0 || purge.0 || reports.0) _ (space_pair_leaves (record { expire = expire.0; purge = purge.0; reports = reports.0 }) (one_of 32 32 reports.1) (one_of-leaves 32 reports.1 left))

-- ---- the first line of a command

module _ (received : ℤ) (kind : Kind) (behind : List ℕ) where
  abbrev command_of : ℕ → List ℕ → Item
  command_of version payload = command (record { kind = kind; version = version; received = received; payload = payload })

  -- the item, where the numbers are small
  abbrev made_if : Bool → ℕ → List ℕ → List ℕ → Option (Item × List ℕ)
  made_if small version payload rest = if small then Some (command_of version payload, rest) else None

  abbrev fed : Bool → ℕ → List ℕ × List ℕ → Option (Item × List ℕ)
  fed small version payload = one_of 10 10 payload.1 >>= made_if small version payload.0

  abbrev paid : Bool → ℕ → ℕ → List ℕ → Option (Item × List ℕ)
  paid small version size after_size = bytes_at size after_size >>= fed small version

  -- what stands behind the size
  abbrev payload_if : Bool → ℕ → ℕ → List ℕ → Option (Item × List ℕ)
  payload_if small version size text = one_of 10 10 text >>= paid small version size

  abbrev payload_at : ℕ → ℕ → List ℕ → Option (Item × List ℕ)
  payload_at version size text = payload_if (nat_lt version (2 ^ 32) && nat_le size most_payload) version size text

  abbrev size_at : ℕ → List ℕ → Option (Item × List ℕ)
  size_at version text = number_at text >>= (λ size. payload_at version size.0 size.1)

  abbrev line_size : ℕ → ℕ × List ℕ → Option FirstLine
  line_size version size =
      if (length size.1 == 0) && (nat_lt version (2 ^ 32) && nat_le size.0 most_payload) then Some (first.Command kind version size.0) else None

  never : (version : ℕ) (payload : List ℕ) (o : Option (List ℕ)) → (o >>= made_if false version payload) ≡ None
  never version payload None = refl
  never version payload (Some r) = refl

  nothing : (version : ℕ) (o : Option (List ℕ × List ℕ)) → (o >>= fed false version) ≡ None
  nothing version None = refl
  nothing version (Some p) = never version p.0 (one_of 10 10 p.1)

  fits : (small : Bool) (version size : ℕ) → paid small version size behind ≡ ((if small then Some (first.Command kind version size) else None) >>= (λ f. item_after received f behind))
  fits true version size = refl
  fits false version size = nothing version (bytes_at size behind)

  no_feed_byte : (b : Bool) (x : ℕ) (xs : List ℕ) → eqb x 10 ≡ b → x ≢ 10 → (if b || b then Some xs else None) ≡ None
  no_feed_byte true x xs e h = absurd (h (grind arith))
  no_feed_byte false x xs e h = refl

  not_feed : (x : ℕ) (xs : List ℕ) → x ≢ 10 → one_of 10 10 (x ∷ xs) ≡ None
  unfolding one_of
  not_feed x xs h = no_feed_byte (eqb x 10) x xs refl h

  not_whole : (n : ℕ) → eqb (suc n) 0 ≡ false
  not_whole n = grind arith

  payload-joined : (version size : ℕ) (xs : List ℕ) → NoFeed xs → payload_at version size (joined behind xs) ≡ (line_size version (size, xs) >>= (λ f. item_after received f behind))
  payload-joined version size [] h =
      ap (λ o. o >>= paid (nat_lt version (2 ^ 32) && nat_le size most_payload) version size) (one_of-byte 10 behind) ∙ fits (nat_lt version (2 ^ 32) && nat_le size most_payload) version size
  payload-joined version size (x ∷ xs) h =
      ap (λ o. o >>= paid (nat_lt version (2 ^ 32) && nat_le size most_payload) version size) (not_feed x (joined behind xs) h.0)
      ∙ sym (ap (λ t. (if t && (nat_lt version (2 ^ 32) && nat_le size most_payload) then Some (first.Command kind version size) else None) >>= (λ f. item_after received f behind)) (not_whole (length xs)))

  abbrev finish : FirstLine → Option (Item × List ℕ)
  finish f = item_after received f behind

  size_step : (version : ℕ) (o : Option (ℕ × List ℕ)) → LeavesPairNoFeed o → (option_map (rest_joined behind) o >>= (λ size. payload_at version size.0 size.1)) ≡ ((o >>= line_size version) >>= finish)
  size_step version None h = refl
  size_step version (Some p) h = payload-joined version p.0 p.1 h

  size-joined : (version : ℕ) (xs : List ℕ) → NoFeed xs → size_at version (joined behind xs) ≡ ((number_at xs >>= line_size version) >>= finish)
  size-joined version xs h =
      ap (λ o. o >>= (λ size. payload_at version size.0 size.1)) (number_at-joined xs behind) ∙ size_step version (number_at xs) (number_at-leaves xs h)

  space_step : (version : ℕ) (o : Option (List ℕ)) → LeavesNoFeed o → (option_map (joined behind) o >>= size_at version) ≡ ((o >>= (λ a. number_at a >>= line_size version)) >>= finish)
  space_step version None h = refl
  space_step version (Some r) h = size-joined version r h

  version_step : (o : Option (ℕ × List ℕ)) → LeavesPairNoFeed o → (option_map (rest_joined behind) o >>= (λ version. one_of 32 32 version.1 >>= size_at version.0)) ≡ ((o >>= (λ version. one_of 32 32 version.1 >>= (λ a. number_at a >>= line_size version.0))) >>= finish)
  version_step None h = refl
  version_step (Some p) h =
      ap (λ o. o >>= size_at p.0) (space-joined p.1 behind) ∙ space_step p.0 (one_of 32 32 p.1) (one_of-leaves 32 p.1 h)

  abbrev line_of : List ℕ → Option FirstLine
  line_of xs = number_at xs >>= (λ version. one_of 32 32 version.1 >>= (λ a. number_at a >>= line_size version.0))

  command-joined : (xs : List ℕ) → NoFeed xs → command_at received kind (joined behind xs) ≡ (line_of xs >>= finish)
  unfolding command_at
  command-joined xs h =
      ap (λ o. o >>= (λ version. one_of 32 32 version.1 >>= size_at version.0)) (number_at-joined xs behind) ∙ version_step (number_at xs) (number_at-leaves xs h)

kind_step : (received : ℤ) (behind : List ℕ) (o : Option (Kind × List ℕ)) → LeavesPairNoFeed o → (option_map (rest_joined behind) o >>= (λ kind. command_at received kind.0 kind.1)) ≡ ((o >>= (λ kind. line_of received kind.0 behind kind.1)) >>= (λ f. item_after received f behind))
kind_step received behind None h = refl
kind_step received behind (Some p) h = command-joined received p.0 behind p.1 h

commands-joined : (received : ℤ) (xs behind : List ℕ) → NoFeed xs → (kind_at (joined behind xs) >>= (λ kind. command_at received kind.0 kind.1)) ≡ (command_line_at xs >>= (λ f. item_after received f behind))
unfolding command_line_at
commands-joined received xs behind h =
    ap (λ o. o >>= (λ kind. command_at received kind.0 kind.1)) (kind_at-joined xs behind) ∙ kind_step received behind (kind_at xs) (kind_at-leaves xs h)

-- ---- the first line of a sweep

stamp_step : (received : ℤ) (behind : List ℕ) (kinds : Kinds) (o : Option ℤ) → (o >>= (λ m. Some (sweep kinds m, behind))) ≡ ((o >>= (λ m. Some (first.Sweep kinds m))) >>= (λ f. item_after received f behind))
stamp_step received behind kinds None = refl
stamp_step received behind kinds (Some m) = refl

kinds_step : (received : ℤ) (behind : List ℕ) (o : Option (Kinds × List ℕ)) → LeavesPairNoFeed o → (option_map (rest_joined behind) o >>= (λ kinds. line_at kinds.1 >>= (λ line. stamp_of line.0 >>= (λ m. Some (sweep kinds.0 m, line.1))))) ≡ ((o >>= (λ kinds. stamp_of kinds.1 >>= (λ m. Some (first.Sweep kinds.0 m)))) >>= (λ f. item_after received f behind))
kinds_step received behind None h = refl
kinds_step received behind (Some p) h =
    ap (λ o. o >>= (λ line. stamp_of line.0 >>= (λ m. Some (sweep p.0 m, line.1)))) (line_at-append p.1 behind h) ∙ stamp_step received behind p.0 (stamp_of p.1)

sweep-joined : (received : ℤ) (xs behind : List ℕ) → NoFeed xs → sweep_at (joined behind xs) ≡ ((kinds_at xs >>= (λ kinds. stamp_of kinds.1 >>= (λ m. Some (first.Sweep kinds.0 m)))) >>= (λ f. item_after received f behind))
unfolding sweep_at
sweep-joined received xs behind h =
    ap (λ o. o >>= (λ kinds. line_at kinds.1 >>= (λ line. stamp_of line.0 >>= (λ m. Some (sweep kinds.0 m, line.1))))) (kinds_at-joined xs behind) ∙ kinds_step received behind (kinds_at xs) (kinds_at-leaves xs h)

sweep_word_step : (received : ℤ) (behind : List ℕ) (o : Option (List ℕ)) → LeavesNoFeed o → (option_map (joined behind) o >>= sweep_at) ≡ ((o >>= (λ rest. kinds_at rest >>= (λ kinds. stamp_of kinds.1 >>= (λ m. Some (first.Sweep kinds.0 m))))) >>= (λ f. item_after received f behind))
sweep_word_step received behind None h = refl
sweep_word_step received behind (Some r) h = sweep-joined received r behind h

sweeps-joined : (received : ℤ) (xs behind : List ℕ) → NoFeed xs → (after_word (codes "sweep ") (joined behind xs) >>= sweep_at) ≡ (sweep_line_at xs >>= (λ f. item_after received f behind))
unfolding sweep_line_at
sweeps-joined received xs behind h =
    ap (λ o. o >>= sweep_at) (after_word-joined (codes "sweep ") xs behind refl) ∙ sweep_word_step received behind (after_word (codes "sweep ") xs) (after_word-leaves (codes "sweep ") xs h)

-- ---- a line is of one sort

no_sweep_if : (kind : Kind) (w xs : List ℕ) → ((r : List ℕ) → after_word (codes "sweep ") (w ++ r) ≡ None) → (o : Option (List ℕ)) → after_word w xs ≡ o → (p : Kind × List ℕ) → kind_if kind o ≡ Some p → after_word (codes "sweep ") xs ≡ None
no_sweep_if kind w xs apart None e p h = absurd (none_some p h)
no_sweep_if kind w xs apart (Some r) e p h = ap (after_word (codes "sweep ")) (after_word-is w xs r e) ∙ apart r

from_either : {A P : Type 0} (a b : Option A) → ((p : A) → a ≡ Some p → P) → ((p : A) → b ≡ Some p → P) → (p : A) → or_else a b ≡ Some p → P
from_either None b f g p h = g p h
from_either (Some x) b f g p h = f x refl

no_sweep : (xs : List ℕ) (p : Kind × List ℕ) → kind_at xs ≡ Some p → after_word (codes "sweep ") xs ≡ None
unfolding kind_at
no_sweep xs p h =
    from_either _ _ (no_sweep_if Facts (codes "replace_facts ") xs (λ r. refl) _ refl)
    (from_either _ _ (no_sweep_if Catalog (codes "replace_catalog ") xs (λ r. refl) _ refl)
    (from_either _ _ (no_sweep_if Report (codes "store_report ") xs (λ r. refl) _ refl)
    (from_either _ _ (no_sweep_if Deactivate (codes "deactivate_node ") xs (λ r. refl) _ refl)
    (no_sweep_if Expiration (codes "configure_expiration ") xs (λ r. refl) _ refl)))) p h

no_sweep_line : (xs : List ℕ) (f : FirstLine) → command_line_at xs ≡ Some f → sweep_line_at xs ≡ None
unfolding command_line_at sweep_line_at
no_sweep_line xs f h =
    let a = bound (kind_at xs) _ f h in
    ap (λ o. o >>= (λ rest. kinds_at rest >>= (λ kinds. stamp_of kinds.1 >>= (λ m. Some (first.Sweep kinds.0 m))))) (no_sweep xs a.0 a.1)

one_sort : {A B : Type 0} (f : A → Option B) (a b : Option A) → ((x : A) → a ≡ Some x → b ≡ None) → or_else (a >>= f) (b >>= f) ≡ (or_else a b >>= f)
one_sort f None b h = refl
one_sort f (Some x) b h = (λ i. or_else (f x) (h x refl i >>= f)) ∙ right_none (f x)
  where
    right_none : {B : Type 0} (o : Option B) → or_else o None ≡ o
    right_none None = refl
    right_none (Some y) = refl

-- an item is read by its first line
pub item_at-line : (received : ℤ) (xs behind : List ℕ) → NoFeed xs → item_at received (xs ++ 10 ∷ behind) ≡ (first_line_at xs >>= (λ f. item_after received f behind))
unfolding item_at
item_at-line received xs behind h =
    (λ i. or_else (commands-joined received xs behind h i) (sweeps-joined received xs behind h i))
    ∙ one_sort (λ f. item_after received f behind) (command_line_at xs) (sweep_line_at xs) (no_sweep_line xs)
