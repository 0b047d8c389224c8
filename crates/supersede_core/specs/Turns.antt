-- What is known about each group: the ranks of its commands, and the number of claimed ones.
use Rattle.std.specs.Prelude.{◌≡◌, ◌≢◌, ℕ, ℤ, List, Bool, true, false, Option, Some, None}
use Rattle.std.specs.Option.{MatchOption}
use Rattle.std.specs.Ordering.{int_cmp, nat_cmp, ordering_then, is_lt}
use Rattle.std.specs.declared.cmp.Ordering.{Ordering}
use Rattle.std.specs.BTreeMap.{get_by_text}
use Rattle.std.specs.BTreeSet.{contains}
use Rattle.supersede_core.specs.declared.handover.Handover.{Handover}
use Rattle.supersede_core.specs.declared.members.Members.{Members}
use Rattle.supersede_core.specs.declared.turns.Turns.{Turns}

abbrev pub rank_order : ℤ × ℕ → ℤ × ℕ → Ordering
rank_order x y = ordering_then (int_cmp x.0 y.0) (nat_cmp x.1 y.1)

-- the data of the group of this text, if there is any
abbrev pub members_at : Turns → List ℕ → Option Members
members_at t k = get_by_text t.groups k

-- a command of this rank is pending
abbrev pub has : Option Members → ℤ × ℕ → Bool
has None q = false
has (Some m) q = contains rank_order m.ranks q

-- the number of claimed commands
abbrev pub claims : Option Members → ℕ
claims None = 0
claims (Some m) = m.claimed

-- the receipt has the greatest rank of the group
pub record IsGreatest (o : Option Members) (r : ℕ) : Type 0 where
  pub stamp : ℤ
  pub there : has o (stamp, r) ≡ true
  pub greatest : (q : ℤ × ℕ) → has o q ≡ true → is_lt (rank_order (stamp, r) q) ≡ false

-- the receipt of the greatest rank, or None if a command is claimed or none is pending
pub record IsTurn (o : Option Members) (turn : Option ℕ) : Type 0 where
  pub claimed : claims o ≢ 0 → turn ≡ None
  pub unclaimed : claims o ≡ 0 → MatchOption turn ((q : ℤ × ℕ) → has o q ≡ false) (IsGreatest o)

-- the candidates of a group before and after a change
pub record IsHandover (o p : Option Members) (h : Handover) : Type 0 where
  pub before : IsTurn o h.before
  pub after : IsTurn p h.after
