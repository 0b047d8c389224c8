-- Runs of puts: where one begins, how two are joined, and what they left.
use Rattle.std.proofs.Common.{◌≡◌, ℕ, List, Option, refl, sym, subst, ◌∙◌}
use Rattle.fleet_keeper.proofs.of_fleet_ports.Runs.{started, joins, weakens}
use Rattle.fleet_keeper.specs.log_spec.declared.side.Side.{Side}
use Rattle.fleet_keeper.specs.log_spec.declared.side.Side.TheVariants.{A, B}
use Rattle.fleet_keeper.specs.log_pair.declared.pair.Pair.{Pair}
use Rattle.fleet_keeper.specs.log_pair.Pair.{flipped, file_of, disk_a, disk_b, InOrder, Within}
use Rattle.fleet_keeper.specs.record_spec.declared.queue.QueueRecord.{QueueRecord}
use Rattle.fleet_keeper.specs.Pairs.{records_at}
use Rattle.fleet_keeper.proofs.Files.{within_told}
use Rattle.queue_records.specs.Reading.{queue_at}
use Rattle.queue_log.specs.declared.queue.QueueLog.{QueueLog}
use Rattle.queue_log.specs.Queued.{queue_pair, queue_moment, queue_side, QueueImages, QueueSince, QueueLeaves}

in_order : (s : Side) (P Q : List ℕ → List ℕ → Type 0) → ((a b : List ℕ) → P a b → Q a b) → (c e : List ℕ) → InOrder s P c e → InOrder s Q c e
in_order A P Q to c e p = to c e p
in_order B P Q to c e p = to e c p

module _ {D : Type 0} (may_leave : D → List ℕ → Type 0) (moment : D → ℕ) (left_since : D → ℕ → List ℕ → Type 0) where
  placed : (s : Side) (pair : Pair D) (P : List ℕ → List ℕ → Type 0) → ((a b : List ℕ) → may_leave (disk_a pair) a → may_leave (disk_b pair) b → P a b)
      → (c e : List ℕ) → may_leave (file_of s pair) c → may_leave (file_of (flipped s) pair) e → InOrder s P c e
  placed A pair P all c e is_c is_e = all c e is_c is_e
  placed B pair P all c e is_c is_e = all e c is_e is_c

  -- within a call
  pub within_less : (s : Side) (old new : Pair D) (P Q : List ℕ → List ℕ → Type 0) → ((a b : List ℕ) → P a b → Q a b) → Within may_leave moment left_since s old new P → Within may_leave moment left_since s old new Q
  within_less s old new P Q to within =
      let other = file_of (flipped s) old in
      record {
        untouched = within.untouched;
        moments = weakens moment left_since (file_of s old) (file_of s new) (λ c. (e : List ℕ) → may_leave other e → InOrder s P c e) (λ c. (e : List ℕ) → may_leave other e → InOrder s Q c e)
            (λ c p e is. in_order s P Q to c e (p e is)) within.moments;
      }

  -- a call that put nothing
  pub none_put : ((d : D) (c : List ℕ) → left_since d (moment d) c → may_leave d c) → (log : QueueLog D) (P : Option (List QueueRecord) → Type 0) → ((o : Option (List QueueRecord)) → QueueImages may_leave log o → P o)
      → QueueLeaves may_leave moment left_since log log P
  none_put only_now log P here =
      let s = queue_side log in
      let pair = queue_pair log in
      let Q : List ℕ → List ℕ → Type 0 = λ a b. P (records_at queue_at a b) in
      record {
        side = refl;
        run = record {
          untouched = refl;
          moments = started moment left_since (file_of s pair) (λ c. (e : List ℕ) → may_leave (file_of (flipped s) pair) e → InOrder s Q c e)
              (λ c left e is_e. placed s pair Q (λ a b is_a is_b. here (records_at queue_at a b) (a, b, is_a, is_b, refl)) c e (only_now (file_of s pair) c left) is_e);
        };
      }

  pub puts_less : (old new : QueueLog D) (P Q : Option (List QueueRecord) → Type 0) → ((o : Option (List QueueRecord)) → P o → Q o) → QueueLeaves may_leave moment left_since old new P → QueueLeaves may_leave moment left_since old new Q
  puts_less old new P Q to leaves = record {
    side = leaves.side;
    run = within_less (queue_side old) (queue_pair old) (queue_pair new) (λ a b. P (records_at queue_at a b)) (λ a b. Q (records_at queue_at a b)) (λ a b p. to (records_at queue_at a b) p) leaves.run;
  }

  -- one run and then another
  pub puts_joined : (old mid new : QueueLog D) (P : Option (List QueueRecord) → Type 0) → QueueLeaves may_leave moment left_since old mid P → QueueLeaves may_leave moment left_since mid new P → QueueLeaves may_leave moment left_since old new P
  puts_joined old mid new P first second =
      let s = queue_side old in
      let Q : List ℕ → List ℕ → Type 0 = λ a b. P (records_at queue_at a b) in
      let other = file_of (flipped s) (queue_pair old) in
      let still = file_of (flipped s) (queue_pair mid) in
      let run : Within may_leave moment left_since s (queue_pair mid) (queue_pair new) Q = subst (λ (t : Side). Within may_leave moment left_since t (queue_pair mid) (queue_pair new) Q) first.side second.run in
      record {
        side = second.side ∙ first.side;
        run = record {
          untouched = run.untouched ∙ first.run.untouched;
          moments = joins moment left_since (file_of s (queue_pair old)) (file_of s (queue_pair mid)) (file_of s (queue_pair new)) (λ c. (e : List ℕ) → may_leave other e → InOrder s Q c e) first.run.moments
              (weakens moment left_since (file_of s (queue_pair mid)) (file_of s (queue_pair new)) (λ c. (e : List ℕ) → may_leave still e → InOrder s Q c e) (λ c. (e : List ℕ) → may_leave other e → InOrder s Q c e)
              (λ c p e is. p e (subst (λ (d : D). may_leave d e) (sym first.run.untouched) is)) run.moments);
        };
      }

  -- what a run left at any moment
  pub left_told : ((d : D) (c : List ℕ) → left_since d (moment d) c → may_leave d c) → (old new : QueueLog D) (P : Option (List QueueRecord) → Type 0) → QueueLeaves may_leave moment left_since old new P
      → (o : Option (List QueueRecord)) → QueueSince left_since new (queue_moment moment old) o → P o
  left_told only_now old new P leaves o since =
      subst P (sym since.4) (within_told may_leave moment left_since only_now (queue_side old) (queue_pair old) (queue_pair new) (λ a b. P (records_at queue_at a b)) leaves.run since.0 since.1 since.2 since.3)
