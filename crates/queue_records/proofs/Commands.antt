-- Commands.
use Rattle.std.proofs.Common.{◌≡◌, ℕ, List, ◌∷◌, ◌++◌, Some, refl, ap, subst, ◌∙◌, append_assoc}
use Rattle.std.specs.Int.{w32}
use Rattle.record_fields.specs.fleet_rows.Change.{kind_number}
use Rattle.record_fields.specs.fleet_rows.declared.command.Command.{Command}
use Rattle.record_fields.specs.record_spec.Parts.{bytes_text, short_text, moment_text, command_text}
use Rattle.record_fields.specs.record_spec.Queue.{IsCommand}
use Rattle.record_fields.specs.Reading.{◌>>=◌, number_at, bytes_at, kind_at, moment_at}
use Rattle.record_fields.proofs.Fields.{IsBytes, bind_some, some_is, Takes, Takes-then, IsField}
use Rattle.record_fields.proofs.Parts.{number32, counted, kind_text, kinds}
use Rattle.record_fields.proofs.Moments.{moments}
use Rattle.queue_records.specs.Reading.{command_at}

command_takes : (bytes : List ℕ) (x : Command) (rest : List ℕ) → IsBytes bytes → command_at bytes ≡ Some (x, rest) → Takes bytes (command_text x) rest × IsCommand x
unfolding command_at
command_takes bytes x rest are e =
    let a = bind_some (kind_at bytes) (λ k. number_at w32 k.1 >>= λ version. moment_at version.1 >>= λ received. bytes_at received.1 >>= λ payload. Some (record { kind = k.0; version = version.0; received = received.0; payload = payload.0 }, payload.1)) (x, rest) e in
    let b = bind_some (number_at w32 a.0.1) (λ version. moment_at version.1 >>= λ received. bytes_at received.1 >>= λ payload. Some (record { kind = a.0.0; version = version.0; received = received.0; payload = payload.0 }, payload.1)) (x, rest) a.2 in
    let d = bind_some (moment_at b.0.1) (λ received. bytes_at received.1 >>= λ payload. Some (record { kind = a.0.0; version = b.0.0; received = received.0; payload = payload.0 }, payload.1)) (x, rest) b.2 in
    let f = bind_some (bytes_at d.0.1) (λ payload. Some (record { kind = a.0.0; version = b.0.0; received = d.0.0; payload = payload.0 }, payload.1)) (x, rest) d.2 in
    let s = kinds.takes bytes a.0.0 a.0.1 are a.1 in
    let t = number32.takes a.0.1 b.0.0 b.0.1 s.0.rest_fits b.1 in
    let u = moments.takes b.0.1 d.0.0 d.0.1 t.0.rest_fits d.1 in
    let v = counted.takes d.0.1 f.0.0 f.0.1 u.0.rest_fits f.1 in
    let uv = Takes-then b.0.1 (moment_text d.0.0) d.0.1 (bytes_text f.0.0) f.0.1 u.0 v.0 in
    let tuv = Takes-then a.0.1 (short_text b.0.0) b.0.1 (moment_text d.0.0 ++ bytes_text f.0.0) f.0.1 t.0 uv in
    let all = Takes-then bytes (kind_text a.0.0) a.0.1 (short_text b.0.0 ++ (moment_text d.0.0 ++ bytes_text f.0.0)) f.0.1 s.0 tuv in
    let made : Command = record { kind = a.0.0; version = b.0.0; received = d.0.0; payload = f.0.0 } in
    let fits : IsCommand made = record { version = t.1; received = u.1; payload = v.1 } in
    subst (λ (p : Command × List ℕ). Takes bytes (command_text p.0) p.1 × IsCommand p.0) (some_is (made, f.0.1) (x, rest) f.2) (all, fits)

command_again : (x : Command) (rest : List ℕ) → IsCommand x → command_at (command_text x ++ rest) ≡ Some (x, rest)
unfolding command_at
command_again x rest fits =
    let behind = moment_text x.received ++ bytes_text x.payload in
    let regrouped : command_text x ++ rest ≡ kind_text x.kind ++ (short_text x.version ++ (moment_text x.received ++ (bytes_text x.payload ++ rest))) =
    ap (λ (l : List ℕ). kind_number x.kind ∷ l) (append_assoc (short_text x.version) behind rest ∙ ap (λ (l : List ℕ). short_text x.version ++ l) (append_assoc (moment_text x.received) (bytes_text x.payload) rest)) in
    ap command_at regrouped ∙
    rw (kinds.again x.kind (short_text x.version ++ (moment_text x.received ++ (bytes_text x.payload ++ rest))) tt, number32.again x.version (moment_text x.received ++ (bytes_text x.payload ++ rest)) fits.version, moments.again x.received (bytes_text x.payload ++ rest) fits.received, counted.again x.payload rest fits.payload) refl

pub commands : IsField command_text command_at IsCommand
commands = record { takes = command_takes; again = command_again }
