-- How what passed leads from one front to another.
use Rattle.std.specs.Prelude.{◌≡◌, ◌+◌, ℕ, List, [], ◌∷◌, ◌++◌, map, length, Option}
use Rattle.fleet_ports.specs.Counts.{Counts}
use Rattle.fleet_ports.specs.declared.source.Source as source
use Rattle.fleet_ports.specs.declared.sink.Sink as sink
use Rattle.front_port.specs.declared.front.Front as front
use Rattle.front_port.specs.declared.front.Link.{Link}
use Rattle.front_port.specs.Links.{Given, HandsOut, IsLast}
use Rattle.live_front.specs.declared.entry.Passing.{Passing}
use Rattle.live_front.specs.declared.entry.Passing.TheVariants.{Opened, Out, Back, Ended, Failed}
use Rattle.live_front.specs.declared.entry.Taken.{Taken}
use Rattle.live_front.specs.declared.entry.Taken.TheVariants as taken
use Rattle.live_front.specs.declared.entry.End.TheVariants as end
use Rattle.live_front.specs.Entries.{links_out, links_back, ends}

-- what contracts see of a front and of its links, as one value
pub record FrontSight (F L : Type 0) : Type 0 where
  pub listens : F → Option ℕ
  pub left : F → Option (List (List ℕ))
  pub handed_out : F → ℕ
  pub given_back : F → List Given
  pub faults : F → ℕ
  pub link : L → Given

-- a link as it is: the bytes left to come, the bytes sent, and its fault counts
abbrev pub link_seen : {S K : Type 0} → source.Ghosts S → sink.Ghosts K → Link S K → Given
link_seen s k link = record {
  left = s.left link.incoming;
  held = k.held link.outgoing;
  read_faults = s.fault_count link.incoming;
  write_faults = k.fault_count link.outgoing;
}

abbrev pub sight_of : {F S K : Type 0} → front.Ghosts F S K → source.Ghosts S → sink.Ghosts K → FrontSight F (Link S K)
sight_of f s k = record {
  listens = f.listens;
  left = f.left;
  handed_out = f.handed_out;
  given_back = f.given_back;
  faults = f.fault_count;
  link = link_seen s k;
}

-- no fault was counted on the link
abbrev pub IsCalm : Given → Type 0
IsCalm link = (link.read_faults ≡ 0) × (link.write_faults ≡ 0)

-- P holds of the link, if the answer is one
abbrev pub IfTaken : {L : Type 0} → Taken L → (L → Type 0) → Type 0
IfTaken (taken.Link link) P = P link
IfTaken taken.Ended P = Unit {0}
IfTaken taken.Failed P = Unit {0}
IfTaken taken.Over P = Unit {0}

module _ {F L : Type 0} where
  -- links only come back
  abbrev pub OnlyBack : List (Passing F L) → Type 0
  OnlyBack passed = (links_out passed ≡ []) × (ends passed ≡ [])

  abbrev pub IsEnd : Passing F L → Type 0
  IsEnd (Opened f limit) = ⊥
  IsEnd (Out link) = ⊥
  IsEnd (Back link) = ⊥
  IsEnd Ended = Unit {0}
  IsEnd Failed = Unit {0}

  -- behind an end, links only come back
  abbrev pub EndsOnce : List (Passing F L) → Type 0
  EndsOnce [] = Unit {0}
  EndsOnce (e ∷ later) = (IsEnd e → OnlyBack later) × EndsOnce later

module _ {F L : Type 0} (w : FrontSight F L) where
  -- The links were handed out one after the other: each the first that was left, with no fault counted on it
  abbrev pub AreHandedOut : Option (List (List ℕ)) → List L → Option (List (List ℕ)) → Type 0
  AreHandedOut left [] rest = rest ≡ left
  AreHandedOut left (link ∷ links) rest =
      (then : Option (List (List ℕ))) × HandsOut left then (w.link link).left (w.link link).held × IsCalm (w.link link) × AreHandedOut then links rest

  -- What passed leads from the front as it came to the front as it is.
  pub record FrontCourse (start : F) (passed : List (Passing F L)) (front : F) : Type 0 where
    pub listens : w.listens front ≡ w.listens start
    pub are_out : AreHandedOut (w.left start) (links_out passed) (w.left front)
    pub handed_out : w.handed_out front ≡ w.handed_out start + length (links_out passed)
    pub given_back : w.given_back front ≡ w.given_back start ++ map w.link (links_back passed)
    pub failed : Counts (w.faults start) (w.faults front) (ends passed ≡ end.Failed ∷ [])
    pub ended : ends passed ≡ end.Ended ∷ [] → IsLast (w.left front)
    pub once : EndsOnce passed
