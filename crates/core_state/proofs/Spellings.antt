-- What can be written can be written afterwards, where the tables and what was given up stay.
use Rattle.std.proofs.Common.{◌≡◌, nat_lt, List, [], ◌∷◌, Bool, true, false, if◌then◌else◌, sym, subst}
use Rattle.std.specs.List.{AllByRecursion}
use Rattle.retry_discard.specs.core_spec.declared.dead.Dead.{Dead}
use Rattle.retry_discard.specs.core_spec.Discards.{put_dead}
use Rattle.fleet_tables.specs.table_machine.Table.{Table}
use Rattle.compact_laws.specs.Lawful.{IsLawfulTable}
use Rattle.core_state.specs.declared.state.CoreState.{CoreState}
use Rattle.core_state.specs.Changes.{OthersStay}
use Rattle.core_state.specs.Seen.{IsFit}
use Rattle.core_state.specs.Spelling.{HasSpelling}

module _ {D K : Type 0} (old new : CoreState D K) where
  -- the tables with what was given up
  pub spelling_of : IsLawfulTable new.tables → new.discards.list ≡ old.discards.list → HasSpelling old → HasSpelling new
  spelling_of tables same spelling = record {
    tables = tables;
    dead = subst (λ (ds : List Dead). AllByRecursion (λ (d : Dead). IsFit d.command) ds) (sym same) spelling.dead;
  }

  pub spelling_stays : OthersStay old new → HasSpelling old → HasSpelling new
  spelling_stays others spelling = spelling_of (subst (λ (t : Table). IsLawfulTable t) (sym others.tables) spelling.tables) others.dead spelling

-- ---- one more that was given up

abbrev pub IsFitDead : Dead → Type 0
IsFitDead d = IsFit d.command

one_more : (b : Bool) (x y : Dead) (ys : List Dead) → IsFitDead x → IsFitDead y → AllByRecursion IsFitDead ys → AllByRecursion IsFitDead (put_dead x ys)
    → AllByRecursion IsFitDead (if b then x ∷ y ∷ ys else y ∷ put_dead x ys)
one_more true x y ys here first rest put = (here, (first, rest))
one_more false x y ys here first rest put = (first, put)

pub put_fit : (x : Dead) (ys : List Dead) → IsFitDead x → AllByRecursion IsFitDead ys → AllByRecursion IsFitDead (put_dead x ys)
put_fit x [] here all = (here, tt)
put_fit x (y ∷ ys) here all = one_more (nat_lt x.receipt y.receipt) x y ys here all.0 all.1 (put_fit x ys here all.1)
