-- The depth of the least query, as numbers.
use Rattle.std.proofs.Common.{◌≡◌, ◌∙◌, ℕ, zero, suc, max, ◌+◌, ◌≤◌, List, [], ◌∷◌, ◌++◌, refl, ap, arith, Some}
use Rattle.pql_spec.specs.query_spec.Query.{Filter, negation, subquery, clause, height, level_height}
use Rattle.pql_spec.specs.Grammar.{join_all, join_any, among_rows, level_with, empty}
use Rattle.pql_machine.specs.Machine.{Pending, Frame, parens, implicit, inner, Head, negate}
use Rattle.pql_machine.specs.Least.{put, wrap}
use Rattle.pql_machine.specs.Depth.{tall, joined, put_height, depth_of}

pub tall-append : (fs : List Filter) (g : Filter) → tall (fs ++ g ∷ []) ≡ max (tall fs) (height g)
tall-append [] g = omega arith
tall-append (f ∷ fs) g = omega (arith, tall-append fs g)

pub join_all-height : (fs : List Filter) (g : Filter) → height (join_all (fs ++ g ∷ [])) ≡ joined fs (height g)
join_all-height [] g = refl
join_all-height (f ∷ []) g = omega arith
join_all-height (f ∷ e ∷ fs) g = omega (arith, tall-append fs g)

pub join_any-height : (fs : List Filter) (g : Filter) → height (join_any (fs ++ g ∷ [])) ≡ joined fs (height g)
join_any-height [] g = refl
join_any-height (f ∷ []) g = omega arith
join_any-height (f ∷ e ∷ fs) g = omega (arith, tall-append fs g)

pub negate-height : (n : ℕ) (f : Filter) → height (negate n f) ≡ n + height f
negate-height zero f = omega arith
negate-height (suc n) f = omega (arith, negate-height n (negation f))

pub put-height : (p : Pending) (n : ℕ) (f : Filter) → height (put p n f) ≡ put_height p n (height f)
put-height p n f =
    join_any-height p.any (join_all (p.all ++ negate n f ∷ []))
    ∙ ap (joined p.any) (join_all-height p.all (negate n f) ∙ ap (joined p.all) (negate-height n f))

pub wrap-height : (h : Head) (fs : List Frame) (f : Filter) → level_height (wrap h fs f) ≡ depth_of fs (height f)
wrap-height h [] f = refl
wrap-height h (parens p n ∷ fs) f = wrap-height h fs (put p n f) ∙ ap (depth_of fs) (put-height p n f)
wrap-height h (implicit e p n ∷ fs) f = wrap-height h fs (put p n (subquery e (clause f))) ∙ ap (depth_of fs) (put-height p n (subquery e (clause f)))
wrap-height h (inner ls e cs p n ∷ fs) f =
    let g = among_rows ls e (level_with e (Some cs) (clause f) empty) in
    wrap-height h fs (put p n g) ∙ ap (depth_of fs) (put-height p n g)

-- ---- a higher filter makes a deeper query

pub joined-mono : (fs : List Filter) (a b : ℕ) → a ≤ b → joined fs a ≤ joined fs b
joined-mono [] a b h = h
joined-mono (f ∷ fs) a b h = omega (arith, h)

pub put-mono : (p : Pending) (n a b : ℕ) → a ≤ b → put_height p n a ≤ put_height p n b
put-mono p n a b h = joined-mono p.any _ _ (joined-mono p.all _ _ (omega (arith, h)))

pub depth-mono : (fs : List Frame) (a b : ℕ) → a ≤ b → depth_of fs a ≤ depth_of fs b
depth-mono [] a b h = h
depth-mono (parens p n ∷ fs) a b h = depth-mono fs _ _ (put-mono p n a b h)
depth-mono (implicit e p n ∷ fs) a b h = depth-mono fs _ _ (put-mono p n (suc a) (suc b) (omega (arith, h)))
depth-mono (inner ls e cs p n ∷ fs) a b h = depth-mono fs _ _ (put-mono p n (suc a) (suc b) (omega (arith, h)))
