-- Which words are no command of the calm call, by what is answered.
use Rattle.std.proofs.Common.{◌≡◌, ◌∙◌, ℕ, List, inl, inr, refl, sym, subst}
use Rattle.busy_commands.specs.fleet_ports.declared.disk.Disks.{Disks}
use Rattle.busy_commands.specs.calm_commands.declared.status.Status.{Status}
use Rattle.busy_commands.specs.calm_commands.declared.status.Status.TheVariants as status
use Rattle.busy_commands.specs.program_words.declared.request.Request.{Request}
use Rattle.busy_commands.specs.program_words.Words.{IsRequest}
use Rattle.busy_commands.specs.calm_commands.Openings.{DiskSight}
use Rattle.fleet_app.specs.Words.{IsCalm, IsCalmCommand}
use Rattle.fleet_app.specs.Runs.{Outside, CalmRun, IsCalmRun}

-- a request that was run
pub ran : {D : Type 0} (w : DiskSight D) (words : List (List ℕ)) (before now : Outside) (disks after : Disks D) (s : Status) (asked : Request)
    → IsRequest words asked → ((q : Request) → IsRequest words q → q ≡ asked) → IsCalm asked → CalmRun w words asked before now disks after s → (s ≡ status.Usage → ⊥) → IsCalmRun w words before now disks after s
ran w words before now disks after s asked is one calm run useful = record {
  usage = λ usage. absurd (useful usage);
  refused = λ none. absurd (none (asked, is, calm));
  stays = λ none. absurd (none (asked, is, calm));
  run = λ q also also_calm. inl (subst (λ (r : Request). CalmRun w words r before now disks after s) (sym (one q also)) run);
}

-- the request is none that the calm call runs
pub none_calm : (words : List (List ℕ)) (asked : Request) → ((q : Request) → IsRequest words q → q ≡ asked) → (IsCalm asked → ⊥) → IsCalmCommand words → ⊥
none_calm words asked one not command = not (subst IsCalm (one command.0 command.1) command.2)

-- nothing was run
pub unasked : {D : Type 0} (w : DiskSight D) (words : List (List ℕ)) (before : Outside) (disks after : Disks D) (s : Status)
    → s ≡ status.Usage → after ≡ disks → (IsCalmCommand words → ⊥) → IsCalmRun w words before before disks after s
unasked w words before disks after s is same none = record {
  usage = λ usage. none;
  refused = λ _. inl is;
  stays = λ _. (refl, same);
  run = λ q asked calm. absurd (none (q, asked, calm));
}

memory_is : (s : Status) → s ≡ status.Memory → s ≡ status.Usage → ⊥
memory_is s is usage = (let apart : status.Memory ≡ status.Usage = sym is ∙ usage in cc)

-- the arguments weren't read
pub unread : {D : Type 0} (w : DiskSight D) (words : List (List ℕ)) (before : Outside) (disks after : Disks D) (s : Status)
    → s ≡ status.Memory → after ≡ disks → IsCalmRun w words before before disks after s
unread w words before disks after s is same = record {
  usage = λ usage. absurd (memory_is s is usage);
  refused = λ _. inr is;
  stays = λ _. (refl, same);
  run = λ q asked calm. inr (is, refl, same);
}
