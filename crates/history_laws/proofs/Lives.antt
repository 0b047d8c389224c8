-- What a life of a node has: commands of that node, out of the history.
use Rattle.std.proofs.Common.{◌≡◌, ◌∙◌, ℕ, ℤ, List, [], ◌∷◌, refl, sym, ap, subst, Bool, true, false, not, ◌&&◌, if◌then◌else◌, inl, inr}
use Rattle.std.specs.Str.{bytes_eq}
use Rattle.std.proofs.lemmas.Slice.Eq.{bytes_eq-Decides}
use Rattle.spool_spec.specs.fleet_rows.declared.settings.Kinds.{Kinds}
use Rattle.spool_spec.specs.fleet_rows.declared.settings.Ttls.{Ttls}
use Rattle.spool_spec.specs.fleet_rows.Texts.{sorted_texts}
use Rattle.spool_spec.specs.fleet_rows.Change.{change_certname}
use Rattle.spool_spec.specs.fleet_rows.declared.applied.Applied.{Applied}
use Rattle.spool_spec.specs.history_spec.Trace.{applied, swept, Trace}
use Rattle.spool_spec.specs.history_spec.Node.{is_purged}
use Rattle.spool_spec.specs.history_spec.Life.{life, greatest_expiry, is_empty, certnames, nodes}
use Rattle.history_laws.specs.RowLaws.{HasDistinctNames, HaveDistinctNames}
use Rattle.history_laws.proofs.Members.{Among, Among-filter}
use Rattle.history_laws.proofs.SortedTexts.{Among-sorted_texts}

-- a command of the node's life, which is one of the history's
pub record ComesFrom (node : List ℕ) (history : Trace) (x : Applied) : Type 0 where
  pub certname : node ≡ change_certname x.change
  pub among : Among node (certnames history)
  pub names : HaveDistinctNames history → HasDistinctNames x.change

module _ (ttls : Ttls) (node : List ℕ) where
  later_command : (x y : Applied) (earlier : Trace) → ComesFrom node earlier y → ComesFrom node (applied x ∷ earlier) y
  later_command x y earlier h = record { certname = h.certname; among = inr h.among; names = λ d. h.names d.1 }

  of_command : (b : Bool) (x y : Applied) (earlier : Trace) → bytes_eq node (change_certname x.change) ≡ b → Among y (if b then x ∷ life ttls node earlier else life ttls node earlier) → (Among y (life ttls node earlier) → ComesFrom node earlier y) → ComesFrom node (applied x ∷ earlier) y
  of_command true x y earlier e (inl same) h =
      let certname : node ≡ change_certname x.change = (bytes_eq-Decides node (change_certname x.change)).0 e in
      record { certname = certname ∙ ap (λ (z : Applied). change_certname z.change) (sym same); among = inl certname; names = λ d. subst (λ (z : Applied). HasDistinctNames z.change) (sym same) d.0 }
  of_command true x y earlier e (inr a) h = later_command x y earlier (h a)
  of_command false x y earlier e a h = later_command x y earlier (h a)

  of_sweep : (b : Bool) (kinds : Kinds) (m : ℤ) (y : Applied) (earlier : Trace) → Among y (if b then [] else life ttls node earlier) → (Among y (life ttls node earlier) → ComesFrom node earlier y) → ComesFrom node (swept kinds m ∷ earlier) y
  of_sweep true kinds m y earlier a h = absurd a
  of_sweep false kinds m y earlier a h = let from = h a in record { certname = from.certname; among = from.among; names = from.names }

  pub comes_from : (history : Trace) (x : Applied) → Among x (life ttls node history) → ComesFrom node history x
  comes_from [] x a = absurd a
  comes_from (applied y ∷ earlier) x a = of_command (bytes_eq node (change_certname y.change)) y x earlier refl a (comes_from earlier x)
  comes_from (swept kinds m ∷ earlier) x a =
      of_sweep (kinds.purge && is_purged ttls m (greatest_expiry (swept kinds m ∷ earlier)) (life ttls node earlier)) kinds m x earlier a (comes_from earlier x)

  is_some : (xs : List Applied) (x : Applied) → Among x xs → not (is_empty xs) ≡ true
  is_some [] x a = absurd a
  is_some (y ∷ xs) x a = refl

  -- a node with a command in its life is one of the nodes
  pub is_node : (history : Trace) (x : Applied) → Among x (life ttls node history) → Among node (nodes ttls history)
  is_node history x a =
      Among-filter (λ n. not (is_empty (life ttls n history))) (sorted_texts (certnames history)) node (Among-sorted_texts node (certnames history) (comes_from history x a).among) (is_some (life ttls node history) x a)
