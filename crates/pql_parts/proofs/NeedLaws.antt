-- How deep the least query of each state is, by what is open.
use Rattle.std.proofs.Common.{◌≡◌, ◌∙◌, ℕ, suc, ◌+◌, ◌≤◌, List, [], ◌∷◌, true, refl, sym, ap, subst, arith, Some}
use Rattle.query_spec.specs.declared.parts.Name.{Name}
use Rattle.query_spec.specs.declared.parts.Selected.{Selected}
use Rattle.query_spec.specs.Parts.{field_named}
use Rattle.query_spec.specs.Query.{Filter, Clause, no_clause, clause, is_null, subquery, height, clause_height, level_height}
use Rattle.pql_spec.specs.Grammar.{Tail, among_rows, level_with, empty}
use Rattle.pql_machine.specs.Machine.{Pending, Frame, parens, implicit, inner, Head, outermost, right_of, Mode, PagingStage, State, body, within, done, paged, region}
use Rattle.pql_machine.specs.Depth.{joined, put_height, depth_of}
use Rattle.pql_machine.specs.Least.{some_name, put, wrap, least, need}
use Rattle.pql_machine.proofs.Heights.{put-height, wrap-height}
use Rattle.pql_parts.specs.Heights.{capped, deeper}
use Rattle.pql_parts.specs.Levels.{bare}
use Rattle.pql_parts.specs.Parts.{pending_of}
use Rattle.pql_parts.specs.States.{head_of, owner_of, tail_of, stage_of, mode_of, paged_of, state_of}
use Rattle.pql_parts.specs.declared.build.Pending.{Pending as Operands}
use Rattle.pql_parts.specs.declared.state.Head.{Head as TheHead}
use Rattle.pql_parts.specs.declared.state.Mode.{Mode as TheMode}
use Rattle.pql_parts.specs.declared.state.Spot.{Spot}
use Rattle.pql_parts.specs.declared.state.PagingStage.{PagingStage as TheStage}
use Rattle.pql_parts.specs.declared.state.State.{State as TheState}
use Rattle.pql_parts.specs.declared.state.State.TheVariants as state
use Rattle.pql_parts.specs.declared.frames.Right.{Right}
use Rattle.pql_parts.specs.declared.state.Owner.TheVariants.{Right as RightOf}
use Rattle.pql_parts.specs.declared.state.Paged.{Paged}
use Rattle.pql_parts.proofs.Heights.{put_height_capped}
use Rattle.pql_parts.proofs.DepthLaws.{depth_capped}
use Rattle.query_spec.specs.Limits.{most_depth}

put-need : (h : Head) (fs : List Frame) (p : Pending) (n : ℕ) (f : Filter) → level_height (wrap h fs (put p n f)) ≡ depth_of fs (put_height p n (height f))
put-need h fs p n f = wrap-height h fs (put p n f) ∙ ap (depth_of fs) (put-height p n f)

pub body-need : (h : Head) (fs : List Frame) → need (body h fs) ≡ depth_of fs (bare fs)
body-need h [] = refl
body-need h (parens p n ∷ fs) = put-need h fs p n (is_null (field_named some_name) true)
body-need h (implicit e p n ∷ fs) = put-need h fs p n (subquery e no_clause)
body-need h (inner ls e cs p n ∷ fs) = put-need h fs p n (among_rows ls e (level_with e (Some cs) no_clause empty))

pub within-need : (h : Head) (fs : List Frame) (p : Pending) (n : ℕ) (m : Mode) → need (within h fs p n m) ≡ depth_of fs (put_height p n (height (least m)))
within-need h fs p n m = put-need h fs p n (least m)

pub done-need : (h : Head) (fs : List Frame) (p : Pending) → need (done h fs p) ≡ depth_of fs (height (region p))
done-need h fs p = wrap-height h fs (region p)

pub right-need : (h : Head) (fs : List Frame) (ls : List Name) (e : Name) (cs : List Selected) (p : Pending) (n : ℕ) (k : Clause) (g : Tail) (x : PagingStage) → need (paged h (right_of fs ls e cs p n) k g x) ≡ depth_of fs (put_height p n (suc (clause_height k)))
right-need h fs ls e cs p n k g x = put-need h fs p n (among_rows ls e (level_with e (Some cs) k empty))

-- ---- as the code tells it

pub body_told : (h : Head) (fs : List Frame) (b r : ℕ) → b ≡ bare fs → r ≡ capped (depth_of fs b) → r ≡ capped (need (body h fs))
body_told h fs b r e f = f ∙ ap (λ x. capped (depth_of fs x)) e ∙ ap capped (sym (body-need h fs))

pub within_told : (h : Head) (fs : List Frame) (p : Pending) (n : ℕ) (m : Mode) (l k r : ℕ) → l ≡ height (least m) → k ≡ capped (put_height p n l) → r ≡ capped (depth_of fs k) → r ≡ capped (need (within h fs p n m))
within_told h fs p n m l k r e f g =
    g
    ∙ ap (λ x. capped (depth_of fs x)) (f ∙ ap (λ x. capped (put_height p n x)) e)
    ∙ depth_capped fs (put_height p n (height (least m)))
    ∙ ap capped (sym (within-need h fs p n m))

pub done_told : (h : Head) (fs : List Frame) (p : Pending) (k r : ℕ) → k ≡ capped (height (region p)) → r ≡ capped (depth_of fs k) → r ≡ capped (need (done h fs p))
done_told h fs p k r e f =
    f
    ∙ ap (λ x. capped (depth_of fs x)) e
    ∙ depth_capped fs (height (region p))
    ∙ ap capped (sym (done-need h fs p))

pub right_told : (h : Head) (fs : List Frame) (ls : List Name) (e : Name) (cs : List Selected) (p : Pending) (n : ℕ) (k : Clause) (g : Tail) (x : PagingStage) (c d l r : ℕ) → c ≡ capped (clause_height k) → d ≡ deeper c → l ≡ capped (put_height p n d) → r ≡ capped (depth_of fs l) → r ≡ capped (need (paged h (right_of fs ls e cs p n) k g x))
right_told h fs ls e cs p n k g x c d l r i j a b =
    b
    ∙ ap (λ y. capped (depth_of fs y)) (a ∙ ap (λ y. capped (put_height p n y)) (j ∙ ap deeper i ∙ deeper_told) ∙ put_height_capped p n (suc (clause_height k)))
    ∙ depth_capped fs (put_height p n (suc (clause_height k)))
    ∙ ap capped (sym (right-need h fs ls e cs p n k g x))
  where
    deeper_told : deeper (capped (clause_height k)) ≡ capped (suc (clause_height k))
    deeper_told = omega arith

pub paged_told : (fs : List Frame) (q : Paged) (s : Right) (x : PagingStage) (d l r : ℕ) → q.owner ≡ RightOf s → d ≡ deeper q.closed.height → l ≡ capped (put_height (pending_of s.pending) s.nots d) → r ≡ capped (depth_of fs l) → r ≡ capped (need (paged_of fs q x))
paged_told fs q s x d l r e j a b =
    subst (λ o. r ≡ capped (need (paged (head_of q.head) (owner_of fs o) q.closed.clause (tail_of q.tail) x))) (sym e)
    (right_told (head_of q.head) fs s.left.items s.entity s.shown (pending_of s.pending) s.nots q.closed.clause (tail_of q.tail) x q.closed.height d l r q.closed.exact j a b)

pub body_is : (fs : List Frame) (s : TheState) (h : TheHead) (b r : ℕ) → s ≡ state.Body h → b ≡ bare fs → r ≡ capped (depth_of fs b) → r ≡ capped (need (state_of fs s))
body_is fs s h b r e i j = subst (λ x. r ≡ capped (need (state_of fs x))) (sym e) (body_told (head_of h) fs b r i j)

pub within_is : (fs : List Frame) (s : TheState) (p : Spot) (m : TheMode) (l k r : ℕ) → s ≡ state.Within p m → l ≡ height (least (mode_of m)) → k ≡ capped (put_height (pending_of p.pending) p.nots l) → r ≡ capped (depth_of fs k) → r ≡ capped (need (state_of fs s))
within_is fs s p m l k r e i j a = subst (λ x. r ≡ capped (need (state_of fs x))) (sym e) (within_told (head_of p.head) fs (pending_of p.pending) p.nots (mode_of m) l k r i j a)

pub done_is : (fs : List Frame) (s : TheState) (h : TheHead) (p : Operands) (k r : ℕ) → s ≡ state.Done h p → k ≡ capped (height (region (pending_of p))) → r ≡ capped (depth_of fs k) → r ≡ capped (need (state_of fs s))
done_is fs s h p k r e i j = subst (λ x. r ≡ capped (need (state_of fs x))) (sym e) (done_told (head_of h) fs (pending_of p) k r i j)

pub paged_is : (fs : List Frame) (s : TheState) (p : Paged) (x : TheStage) (r : ℕ) → s ≡ state.Paged p x → ((y : PagingStage) → r ≡ capped (need (paged_of fs p y))) → r ≡ capped (need (state_of fs s))
paged_is fs s p x r e h = subst (λ t. r ≡ capped (need (state_of fs t))) (sym e) (h (stage_of x))

-- ---- so many `!`

joined-over : (fs : List Filter) (m : ℕ) → m ≤ joined fs m
joined-over [] m = omega arith
joined-over (f ∷ fs) m = omega arith

put-over : (p : Pending) (n m : ℕ) → n + m ≤ put_height p n m
put-over p n m = omega (arith, joined-over p.all (n + m), joined-over p.any (joined p.all (n + m)))

depth-over : (fs : List Frame) (m : ℕ) → m ≤ depth_of fs m
depth-over [] m = omega arith
depth-over (parens p n ∷ fs) m = omega (arith, depth-over fs (put_height p n m), put-over p n m)
depth-over (implicit e p n ∷ fs) m = omega (arith, depth-over fs (put_height p n (suc m)), put-over p n (suc m))
depth-over (inner ls e cs p n ∷ fs) m = omega (arith, depth-over fs (put_height p n (suc m)), put-over p n (suc m))

pub few_nots : (h : Head) (fs : List Frame) (p : Pending) (n : ℕ) (m : Mode) → need (within h fs p n m) ≤ most_depth → n ≤ most_depth
few_nots h fs p n m d = omega (arith, within-need h fs p n m, depth-over fs (put_height p n (height (least m))), put-over p n (height (least m)), d)

pub few_in : (fs : List Frame) (s : TheState) (p : Spot) (m : TheMode) → s ≡ state.Within p m → need (state_of fs s) ≤ most_depth → p.nots ≤ most_depth
few_in fs s p m e d = few_nots (head_of p.head) fs (pending_of p.pending) p.nots (mode_of m) (subst (λ x. need (state_of fs x) ≤ most_depth) e d)
