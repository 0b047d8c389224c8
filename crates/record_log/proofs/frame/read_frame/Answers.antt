use Rattle.std.proofs.Common.{◌≡◌, ◌+◌, ◌<◌, ℕ, List, length, take, drop, sym, ◌∙◌, ap, arith, length-drop}
use Rattle.log_spec.specs.ImageOf.{stated}
use Rattle.log_spec.proofs.Found.{found_shut, found_cut, found_whole}
use Rattle.record_log.proofs.frame.read_frame.Goals as goal

pub returns-then-gate-ne1-clause-told : goal.returns-then-gate-ne1-clause-told
returns-then-gate-ne1-clause-told g c told =
    let file = g.D.Disk.seen c.args.disk.now in
    let inside : c.args.at < length file = omega (arith, c.requires.length told, c.requires.inside) in
    found_shut file c.args.at inside (λ e. c.if-gate-ne1.true (c.in-Ok.ensures.byte told ∙ e))

pub returns-then-len-at-lt6-clause-told : goal.returns-then-len-at-lt6-clause-told
returns-then-len-at-lt6-clause-told g c told =
    let file = g.D.Disk.seen c.args.disk.now in
    let inside : c.args.at < length file = omega (arith, c.requires.length told, c.requires.inside) in
    found_cut file c.args.at inside (sym (c.in-Ok.ensures.byte told) ∙ c.if-gate-ne1.false) (omega (arith, c.requires.length told, c.if-len-at-lt6.true, length-drop (c.args.at + 1) file))

pub returns-then-len-at-clause-told : goal.returns-then-len-at-clause-told
returns-then-len-at-clause-told g c told =
    let file = g.D.Disk.seen c.args.disk.now in
    let inside : c.args.at < length file = omega (arith, c.requires.length told, c.requires.inside) in
    let size : c.in-Ok-length_behind.size ≡ stated (drop (c.args.at + 1) file) = c.in-Ok-length_behind.ensures.length told ∙ ap (λ (l : List ℕ). stated (drop (c.args.at + 1) l)) c.gate_at.ensures.untouched.same in
    found_cut file c.args.at inside (sym (c.in-Ok.ensures.byte told) ∙ c.if-gate-ne1.false) (omega (arith, c.requires.length told, size, c.from.ensures, c.if-len-at.true, c.if-len-at-lt6.false, length-drop (c.args.at + 1) file))

pub returns-clause-told : goal.returns-clause-told
returns-clause-told g c told =
    let file = g.D.Disk.seen c.args.disk.now in
    let at = c.args.at in
    let frame = c.in_ok-frame.frame in
    let inside : at < length file = omega (arith, c.requires.length told, c.requires.inside) in
    let same = c.length_behind.ensures.untouched.same ∙ c.gate_at.ensures.untouched.same in
    let size : c.in-Ok-length_behind.size ≡ stated (drop (at + 1) file) = c.in-Ok-length_behind.ensures.length told ∙ ap (λ (l : List ℕ). stated (drop (at + 1) l)) c.gate_at.ensures.untouched.same in
    let long : length frame ≡ c.in-Ok-length_behind.size = c.in_ok-frame.ensures.size in
    let body : frame ≡ take (length frame) (drop (at + 5) file) =
    c.in_ok-frame.ensures.bytes told ∙ ap (λ (l : List ℕ). take c.in-Ok-length_behind.size (drop (at + 5) l)) same ∙ ap (λ (n : ℕ). take n (drop (at + 5) file)) (sym long) in
    found_whole file at inside (length frame) frame (sym (c.in-Ok.ensures.byte told) ∙ c.if-gate-ne1.false) (long ∙ size)
    (omega (arith, c.requires.length told, long, c.from.ensures, c.if-len-at.false, c.if-len-at-lt6.false, length-drop (at + 1) file)) body
