-- The list that a shared front stands for: the front as it came, and then what passed.
use Rattle.std.specs.Prelude.{ℕ, nat_le, Bool, true, false, ◌||◌, List, [], ◌∷◌, map, length, Option, Some, None}
use Rattle.std.specs.List.{flat_map}
use Rattle.live_front.specs.declared.entry.Passing.{Passing}
use Rattle.live_front.specs.declared.entry.Passing.TheVariants.{Opened, Out, Back, Ended, Failed}
use Rattle.live_front.specs.declared.entry.Taken.{Taken}
use Rattle.live_front.specs.declared.entry.Taken.TheVariants as taken
use Rattle.live_front.specs.declared.entry.End.{End}
use Rattle.live_front.specs.declared.entry.End.TheVariants as end

-- what contracts see of a shared front: the front as it came, how many links it hands out at most, what passed, oldest first, and the
-- front as it is
pub record SharedView (F L : Type 0) : Type 0 where
  pub start : F
  pub limit : ℕ
  pub passed : List (Passing F L)
  pub front : F

module _ {F L : Type 0} where
  -- its list
  abbrev pub list_of : SharedView F L → List (Passing F L)
  list_of g = Opened g.start g.limit ∷ g.passed

  -- the entries of a log, which has a number beside each
  abbrev pub entries_of : List (Passing F L × ℕ) → List (Passing F L)
  entries_of noted = map (λ note. note.0) noted

  abbrev pub link_out : Passing F L → List L
  link_out (Opened front limit) = []
  link_out (Out link) = link ∷ []
  link_out (Back link) = []
  link_out Ended = []
  link_out Failed = []

  abbrev pub link_back : Passing F L → List L
  link_back (Opened front limit) = []
  link_back (Out link) = []
  link_back (Back link) = link ∷ []
  link_back Ended = []
  link_back Failed = []

  abbrev pub end_in : Passing F L → List End
  end_in (Opened front limit) = []
  end_in (Out link) = []
  end_in (Back link) = []
  end_in Ended = end.Ended ∷ []
  end_in Failed = end.Failed ∷ []

  -- the links that were handed out, those that were given back, and the ends that the front told, each in their order
  abbrev pub links_out : List (Passing F L) → List L
  links_out passed = flat_map link_out passed

  abbrev pub links_back : List (Passing F L) → List L
  links_back passed = flat_map link_back passed

  abbrev pub ends : List (Passing F L) → List End
  ends passed = flat_map end_in passed

-- the end as a list of at most one
abbrev pub listed : Option End → List End
listed None = []
listed (Some e) = e ∷ []

abbrev pub is_some_end : List End → Bool
is_some_end [] = false
is_some_end (e ∷ es) = true

module _ {F L : Type 0} where
  -- no further link is handed out: the front told its end, or the limit was reached
  abbrev pub is_over : ℕ → List (Passing F L) → Bool
  is_over limit passed = is_some_end (ends passed) || nat_le limit (length (links_out passed))

  -- the same of the whole list
  abbrev pub list_over : List (Passing F L) → Bool
  list_over [] = false
  list_over (Opened front limit ∷ passed) = is_over limit passed
  list_over (Out link ∷ passed) = false
  list_over (Back link ∷ passed) = false
  list_over (Ended ∷ passed) = false
  list_over (Failed ∷ passed) = false

  -- what a call of `take` with this answer appends
  abbrev pub taken_entries : Taken L → List (Passing F L)
  taken_entries (taken.Link link) = Out link ∷ []
  taken_entries taken.Ended = Ended ∷ []
  taken_entries taken.Failed = Failed ∷ []
  taken_entries taken.Over = []

  -- the link of an entry
  abbrev pub link_in : Passing F L → Option L
  link_in (Opened front limit) = None
  link_in (Out link) = Some link
  link_in (Back link) = Some link
  link_in Ended = None
  link_in Failed = None

  abbrev pub HasLink : Passing F L → Type 0
  HasLink (Opened front limit) = ⊥
  HasLink (Out link) = Unit {0}
  HasLink (Back link) = Unit {0}
  HasLink Ended = ⊥
  HasLink Failed = ⊥
