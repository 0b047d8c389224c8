-- What freeing all claims does.
use Rattle.std.specs.Prelude.{◌≡◌, [], ◌∷◌, ◌++◌}
use Rattle.core_state.specs.core_spec.declared.event.Event.TheVariants.{Release}
use Rattle.core_state.specs.core_spec.History.{History}

-- only releases
abbrev pub AreReleases : History → Type 0
AreReleases [] = Unit {0}
AreReleases (Release r ∷ events) = AreReleases events
AreReleases (_ ∷ events) = ⊥

-- the second history is the first, followed by releases
pub record Releases (old new : History) : Type 0 where
  pub more : History
  pub only : AreReleases more
  pub new_is : new ≡ more ++ old
