-- The heights that the code keeps are those of the filters.
use Rattle.std.proofs.Common.{◌≡◌, ◌∙◌, ℕ, suc, min, max, ◌+◌, ◌≤◌, List, [], ◌∷◌, ◌++◌, Bool, not, refl, sym, ap, arith}
use Rattle.query_spec.specs.Query.{Filter, height}
use Rattle.pql_spec.specs.Grammar.{join_all, join_any}
use Rattle.pql_machine.specs.Machine.{Pending, region}
use Rattle.pql_machine.specs.Depth as deep
use Rattle.pql_machine.specs.Depth.{tall, put_height}
use Rattle.pql_machine.proofs.Heights.{tall-append, join_any-height}
use Rattle.pql_parts.specs.Heights.{capped, deeper, joined, is_empty, joined_height}

pub tallest_more : (fs : List Filter) (g : Filter) → max (capped (tall fs)) (capped (height g)) ≡ capped (tall (fs ++ g ∷ []))
tallest_more fs g = omega (arith, tall-append fs g)

pub all_height : (fs : List Filter) → joined_height fs (capped (tall fs)) ≡ capped (height (join_all fs))
all_height [] = omega arith
all_height (f ∷ []) = omega arith
all_height (f ∷ e ∷ fs) = omega arith

pub any_height : (fs : List Filter) → joined_height fs (capped (tall fs)) ≡ capped (height (join_any fs))
any_height [] = omega arith
any_height (f ∷ []) = omega arith
any_height (f ∷ e ∷ fs) = omega arith

-- behind others, or none
joined_told : (fs : List Filter) (m : ℕ) → joined (not (is_empty fs)) (capped (tall fs)) (capped m) ≡ capped (deep.joined fs m)
joined_told [] m = refl
joined_told (f ∷ fs) m = omega arith

pub region_height : (p : Pending) → joined (not (is_empty p.any)) (capped (tall p.any)) (joined_height p.all (capped (tall p.all))) ≡ capped (height (region p))
region_height p =
    ap (joined (not (is_empty p.any)) (capped (tall p.any))) (all_height p.all)
    ∙ joined_told p.any (height (join_all p.all))
    ∙ ap capped (sym (join_any-height p.any (join_all p.all)))

pub put_height_told : (p : Pending) (n m : ℕ) → joined (not (is_empty p.any)) (capped (tall p.any)) (joined (not (is_empty p.all)) (capped (tall p.all)) (min (min n 101 + min m 101) 101)) ≡ capped (put_height p n m)
put_height_told p n m =
    ap (λ x. joined (not (is_empty p.any)) (capped (tall p.any)) (joined (not (is_empty p.all)) (capped (tall p.all)) x)) sums
    ∙ ap (joined (not (is_empty p.any)) (capped (tall p.any))) (joined_told p.all (n + m))
    ∙ joined_told p.any (deep.joined p.all (n + m))
  where
    sums : min (min n 101 + min m 101) 101 ≡ capped (n + m)
    sums = omega arith

-- a height that is told is as good as the height
pub put_height_capped : (p : Pending) (n m : ℕ) → capped (put_height p n (capped m)) ≡ capped (put_height p n m)
put_height_capped p n m =
    sym (put_height_told p n (capped m))
    ∙ ap (λ x. joined (not (is_empty p.any)) (capped (tall p.any)) (joined (not (is_empty p.all)) (capped (tall p.all)) x)) same
    ∙ put_height_told p n m
  where
    same : min (min n 101 + min (capped m) 101) 101 ≡ min (min n 101 + min m 101) 101
    same = omega arith

-- ---- as the code comes to it

pub region_told : (p : Pending) (e : Bool) (a b h r : ℕ) → e ≡ is_empty p.any → a ≡ capped (tall p.any) → b ≡ capped (tall p.all) → h ≡ joined_height p.all b → r ≡ joined (not e) a h → r ≡ capped (height (region p))
region_told p e a b h r i j k f g =
    g
    ∙ (λ n. joined (not (i n)) (j n) ((f ∙ ap (joined_height p.all) k) n))
    ∙ region_height p
