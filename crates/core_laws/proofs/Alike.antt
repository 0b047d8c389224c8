-- Histories of one table have the same newest commands, and a command that a newer one outranks changes no table.
use Rattle.std.proofs.Common.{◌≡◌, ◌≢◌, ◌∙◌, ℕ, List, [], ◌∷◌, ◌++◌, refl, sym, ap, subst, Bool, true, false, if◌then◌else◌, Some, None}
use Rattle.core_machine.proofs.of_plain_laws.Booleans.{no_truth}
use Rattle.core_machine.proofs.of_plain_laws.Options.{none_some, some_none, some_same}
use Rattle.core_machine.specs.fleet_rows.Change.{change_certname, change_kind}
use Rattle.core_machine.specs.fleet_rows.declared.applied.Applied.{Applied}
use Rattle.core_machine.specs.fleet_rows.declared.command.Kind.{Kind}
use Rattle.core_machine.specs.fleet_rows.declared.command.Kind.TheVariants as kind
use Rattle.core_machine.specs.fleet_rows.declared.settings.Ttls.{Ttls}
use Rattle.core_machine.specs.history_spec.Life.{life, is_empty}
use Rattle.core_machine.specs.history_spec.Node.{newest}
use Rattle.core_machine.specs.history_spec.Report.{is_below}
use Rattle.core_machine.specs.history_spec.Trace.{applied, Trace, IsTrace}
use Rattle.checkpoint_spec.proofs.of_history_laws.Members.{Contains-from_Among}
use Rattle.checkpoint_spec.proofs.of_history_laws.NewestIsGreatest.{newest_is_greatest}
use Rattle.checkpoint_spec.proofs.of_history_laws.Ranks.{kind_from_is_kind}
use Rattle.checkpoint_spec.specs.table_machine.Laws.{HasTheNewest}
use Rattle.checkpoint_spec.specs.table_machine.Steps.{find_node}
use Rattle.checkpoint_spec.specs.table_machine.Table.{Node, Table, node_of, table_of}
use Rattle.checkpoint_spec.proofs.of_table_machine.Outranked.{superseded_commands_say_nothing}
use Rattle.checkpoint_spec.proofs.of_table_machine.TableLaws.{nodes_are_found, nodes_have_the_newest}

-- ---- nodes of one table

-- of the kinds that a node keeps one command of
kept_newest : (node : Node) (k : Kind) (xs ys : List Applied) → k ≢ kind.Report → HasTheNewest node xs → HasTheNewest node ys → newest k xs ≡ newest k ys
kept_newest node kind.Facts xs ys no_report h g = sym h.facts ∙ g.facts
kept_newest node kind.Catalog xs ys no_report h g = sym h.catalog ∙ g.catalog
kept_newest node kind.Report xs ys no_report h g = absurd (no_report refl)
kept_newest node kind.Deactivate xs ys no_report h g = sym h.deactivate ∙ g.deactivate
kept_newest node kind.Expiration xs ys no_report h g = sym h.expiration ∙ g.expiration

of_none : (k : Kind) (xs ys : List Applied) → is_empty xs ≡ true → is_empty ys ≡ true → newest k xs ≡ newest k ys
of_none k [] [] h g = refl
of_none k [] (y ∷ ys) h g = no_truth g
of_none k (x ∷ xs) ys h g = no_truth h

found_alike : (b c : Bool) (node other : Node) (k : Kind) (xs ys : List Applied) → is_empty xs ≡ b → is_empty ys ≡ c → (if b then None else Some node) ≡ (if c then None else Some other)
    → k ≢ kind.Report → HasTheNewest node xs → HasTheNewest other ys → newest k xs ≡ newest k ys
found_alike true true node other k xs ys e f same no_report h g = of_none k xs ys e f
found_alike true false node other k xs ys e f same no_report h g = none_some other same
found_alike false true node other k xs ys e f same no_report h g = some_none node same
found_alike false false node other k xs ys e f same no_report h g =
    kept_newest node k xs ys no_report h (subst (λ (n : Node). HasTheNewest n ys) (some_same node other same) g)

pub newest_alike : (ttls : Ttls) (history other : Trace) (k : Kind) (certname : List ℕ) → table_of ttls history ≡ table_of ttls other → k ≢ kind.Report
    → newest k (life ttls certname history) ≡ newest k (life ttls certname other)
newest_alike ttls history other k certname same no_report =
    found_alike (is_empty (life ttls certname history)) (is_empty (life ttls certname other)) (node_of ttls history certname) (node_of ttls other certname)
    k (life ttls certname history) (life ttls certname other) refl refl
    (sym (nodes_are_found ttls history certname) ∙ ap (λ (t : Table). find_node certname t.nodes) same ∙ nodes_are_found ttls other certname)
    no_report (nodes_have_the_newest ttls history certname) (nodes_have_the_newest ttls other certname)

-- ---- a command that a newer one outranks

-- a newer command of x's kind was applied in the present life of its node, and x is no report
pub record IsOutranked (ttls : Ttls) (x : Applied) (history : Trace) : Type 0 where
  pub newer : Applied
  pub newest : newest (change_kind x.change) (life ttls (change_certname x.change) history) ≡ Some newer
  pub below : is_below x newer ≡ true
  pub no_report : change_kind x.change ≢ kind.Report

-- it leaves the table as it is, now and after any further events
pub outranked_leaves_later_tables : (ttls : Ttls) (x : Applied) (later history : Trace) → IsOutranked ttls x history → IsTrace (later ++ applied x ∷ history)
    → table_of ttls (later ++ applied x ∷ history) ≡ table_of ttls (later ++ history)
outranked_leaves_later_tables ttls x later history o trace =
    let xs = life ttls (change_certname x.change) history in
    let greatest = newest_is_greatest (change_kind x.change) xs o.newer o.newest in
    superseded_commands_say_nothing ttls later history x o.newer trace o.no_report (kind_from_is_kind (change_kind x.change) o.newer greatest.kind)
    (Contains-from_Among xs o.newer greatest.among) o.below

pub outranked_leaves_the_table : (ttls : Ttls) (x : Applied) (history : Trace) → IsOutranked ttls x history → IsTrace (applied x ∷ history) → table_of ttls (applied x ∷ history) ≡ table_of ttls history
outranked_leaves_the_table ttls x history o trace = outranked_leaves_later_tables ttls x [] history o trace
