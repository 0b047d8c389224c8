-- A look at the count keeps the rule.
use Rattle.std.proofs.Common.{◌≡◌, ℕ, List, get_or, sym, refl, ap, ◌∙◌, subst, arith}
use mathlib.Core.Option.{none}
use Rattle.std.specs.declared.option.Option.{Option}
use Rattle.atomic_table.specs.Table.{State, Me, step, keeps, Allows}
use Rattle.turn_lock.specs.declared.view.Stage.{Stage}
use Rattle.turn_lock.specs.declared.view.Stage.TheVariants.{Idle}
use Rattle.turn_lock.specs.declared.view.View.{View}
use Rattle.turn_lock.specs.Rule.{places, busy, turn, weighed, Stands, Knows, Kept}
use Rattle.turn_lock.specs.Steps.{looking, Looked}
use Rattle.turn_lock.proofs.Totals.{total_set}
use Rattle.turn_lock.proofs.Prefixes.{prefix_refl}
use Rattle.turn_lock.proofs.Seats.{each_set, same_word}

module _ {T E : Type 0} (list : T → List E) (opening : List E) (seats : ℕ) where
  abbrev V : Type 0
  V = View E

  abbrev S : Type 0
  S = State (Option T) V

  abbrev M : Type 0
  M = Me (Option T) V

  abbrev Rule : S → Type 0
  Rule = Kept list opening seats

  abbrev Says : (s : S) → Rule s → ℕ → V → Type 0
  Says s r = Knows r.history r.drawn r.served r.owner r.phase

  pub looks : (slots id : ℕ) (me : M) → me.0.stage ≡ Idle → Allows Rule slots id me 2 (λ n. n) (Looked list (step slots 2 0 0 none) me)
  looks slots id me idle s r len at bound =
      let v : V = me.0 in let mine = r.each id v at in
      let w : V = looking r.history v in
      let a = total_set places s.views id v w at in let b = total_set busy s.views id v w at in let t = total_set turn s.views id v w at in
      let p = r.all_places in let q = r.all_busy in let z = r.all_turns in (
        w,
        keeps,
        tt,
        record {
          history = r.history;
          line = r.line;
          drawn = r.drawn;
          served = r.served;
          owner = r.owner;
          phase = r.phase;
          few = r.few;
          words = same_word list opening seats s 2 s.words ∙ r.words;
          all_places = omega arith;
          all_busy = omega arith;
          all_turns = omega arith;
          all_holds = λ f. let h = total_set (weighed f) s.views id v w at in let k = r.all_holds f in omega arith;
          all_posted = r.all_posted;
          in_turn = r.in_turn;
          begins = r.begins;
          slot = r.slot;
          each = each_set (Says s r) s.views id w (prefix_refl r.history, mine.1, subst (λ (st : Stage). Stands r.history r.drawn r.served r.owner r.phase id r.history v.holds v.theirs st) (sym idle) tt) (λ j x _. r.each j x);
        },
        (r.history, refl, mine.0, sym (ap (λ (ws : List ℕ). get_or ws 2 0) r.words)),
      )
