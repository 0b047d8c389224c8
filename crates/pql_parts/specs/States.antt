-- The machine's states that the code's states represent, and the results of the code's steps.
use Rattle.std.specs.Prelude.{◌≡◌, ℕ, List, Result, Ok, Err, Option, Some, None}
use Rattle.query_spec.specs.declared.parts.Selected.{Selected}
use Rattle.pql_machine.specs.Machine as machine
use Rattle.pql_spec.specs.declared.token.Token.{Token}
use Rattle.pql_spec.specs.Grammar as grammar
use Rattle.pql_parts.specs.Parts.{pending_of}
use Rattle.pql_parts.specs.declared.column.Column.{Column}
use Rattle.pql_parts.specs.declared.column.Column.TheVariants as column
use Rattle.pql_parts.specs.declared.column.Gone.{Gone}
use Rattle.pql_parts.specs.declared.column.Gone.TheVariants.{Goes, Ends}
use Rattle.pql_parts.specs.declared.fault.Fault.{Fault}
use Rattle.pql_parts.specs.declared.fault.Fault.TheVariants.{Bad, Memory}
use Rattle.pql_parts.specs.declared.state.Head.{Head}
use Rattle.pql_parts.specs.declared.state.Tail.{Tail}
use Rattle.pql_parts.specs.declared.state.Owner.{Owner}
use Rattle.pql_parts.specs.declared.state.Owner.TheVariants.{Outermost, Right as RightOf}
use Rattle.pql_parts.specs.declared.state.Paged.{Paged}
use Rattle.pql_parts.specs.declared.state.Spot.{Spot}
use Rattle.pql_parts.specs.declared.state.PagingStage.{PagingStage}
use Rattle.pql_parts.specs.declared.state.PagingStage.TheVariants as stage
use Rattle.pql_parts.specs.declared.state.Mode.{Mode}
use Rattle.pql_parts.specs.declared.state.Mode.TheVariants as mode
use Rattle.pql_parts.specs.declared.state.State.{State}
use Rattle.pql_parts.specs.declared.state.State.TheVariants as state

abbrev pub column_of : Column → machine.Column
column_of column.Next = machine.column_next
column_of (column.Behind c) = machine.column_behind c
column_of (column.InFunction c g) = machine.in_function c g
column_of (column.InArgument c g d) = machine.in_argument c g d
column_of (column.Closed c x) = machine.column_closed c x

abbrev pub head_of : Head → machine.Head
head_of h = record { entity = h.entity; columns = h.shown }

abbrev pub owner_of : List machine.Frame → Owner → machine.Owner
owner_of fs Outermost = machine.outermost
owner_of fs (RightOf r) = machine.right_of fs r.left.items r.entity r.shown (pending_of r.pending) r.nots

abbrev pub tail_of : Tail → grammar.Tail
tail_of t = record { group = t.group; paging = t.paging }

abbrev pub stage_of : PagingStage → machine.PagingStage
stage_of stage.GroupBy = machine.group_by
stage_of (stage.GroupNext cs) = machine.group_next cs
stage_of (stage.GroupBehind cs c) = machine.group_behind cs c
stage_of stage.OrderBy = machine.order_by
stage_of (stage.OrderNext os) = machine.order_next os
stage_of (stage.OrderBehind os c) = machine.order_behind os c
stage_of (stage.OrderDirected os c b) = machine.order_directed os c b
stage_of stage.LimitCount = machine.limit_count
stage_of stage.BehindLimit = machine.behind_limit
stage_of stage.OffsetCount = machine.offset_count
stage_of stage.BehindOffset = machine.behind_offset

abbrev pub mode_of : Mode → machine.Mode
mode_of mode.Operand = machine.operand
mode_of (mode.Named c) = machine.named c
mode_of (mode.CompareTo c op) = machine.compare_to c op
mode_of (mode.DifferFrom c) = machine.differ_from c
mode_of (mode.MatchWith c) = machine.match_with c
mode_of (mode.NullOrNot c) = machine.null_or_not c
mode_of (mode.NotNull c) = machine.not_null c
mode_of (mode.LeftNext cs) = machine.left_next cs.items
mode_of (mode.LeftBehind cs c) = machine.left_behind cs.items c
mode_of (mode.InExpected cs) = machine.in_expected cs.items
mode_of (mode.Right cs) = machine.right cs.items
mode_of (mode.LiteralNext cs p ls) = machine.literal_next cs.items p ls
mode_of (mode.LiteralBehind cs p ls l) = machine.literal_behind cs.items p ls l
mode_of (mode.InnerBracket ls e) = machine.inner_bracket ls.items e
mode_of (mode.InnerColumns ls e s k) = machine.inner_columns ls.items e s.list (column_of k)
mode_of (mode.InnerBrace ls e cs) = machine.inner_brace ls.items e cs

abbrev pub within_of : List machine.Frame → Spot → machine.Mode → machine.State
within_of fs s m = machine.within (head_of s.head) fs (pending_of s.pending) s.nots m

abbrev pub paged_of : List machine.Frame → Paged → machine.PagingStage → machine.State
paged_of fs p x = machine.paged (head_of p.head) (owner_of fs p.owner) p.closed.clause (tail_of p.tail) x

abbrev pub state_of : List machine.Frame → State → machine.State
state_of fs state.Start = machine.start
state_of fs (state.Headed e) = machine.headed e
state_of fs (state.HeadColumns e s k) = machine.head_columns e s.list (column_of k)
state_of fs (state.HeadBrace e cs) = machine.head_brace e cs
state_of fs (state.Body h) = machine.body (head_of h) fs
state_of fs (state.Within s m) = within_of fs s (mode_of m)
state_of fs (state.Done h p) = machine.done (head_of h) fs (pending_of p)
state_of fs (state.Paged p x) = paged_of fs p (stage_of x)
state_of fs (state.Complete f) = machine.complete f.level

-- the result of a step, with the frames that it leaves, agrees with the machine's step
abbrev pub Took : List machine.Frame → Result State Fault → Option machine.State → Type 0
Took fs (Ok s) o = o ≡ Some (state_of fs s)
Took fs (Err Bad) o = o ≡ None
Took fs (Err Memory) o = Unit {0}

abbrev pub TookColumn : Result Gone Fault → Option machine.Gone → Type 0
TookColumn (Ok (Goes s k)) o = o ≡ Some (machine.goes s.list (column_of k))
TookColumn (Ok (Ends cs)) o = o ≡ Some (machine.ends cs)
TookColumn (Err Bad) o = o ≡ None
TookColumn (Err Memory) o = Unit {0}

abbrev pub spot_step : List machine.Frame → Spot → machine.Mode → Token → Option machine.State
spot_step fs s m t = machine.mode_step (head_of s.head) fs (pending_of s.pending) s.nots m t

abbrev pub paged_step : List machine.Frame → Paged → machine.PagingStage → Token → Option machine.State
paged_step fs p x t = machine.stage_step (head_of p.head) (owner_of fs p.owner) p.closed.clause (tail_of p.tail) x t
