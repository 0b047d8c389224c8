-- What the tables are asked for is what the pins of a stage demand.
use Rattle.std.proofs.Common.{◌≡◌, ◌∙◌, ℕ, List, [], ◌∷◌, Bool, true, false, ◌&&◌, Option, Some, None, refl, sym, ap}
use Rattle.std.specs.Prelude.{codes}
use Rattle.std.specs.Borrow.{Bor}
use Rattle.fleet_tables.proofs.of_plain_laws.Members.{all_as}
use Rattle.fleet_tables.specs.Wanted.{has_own, is_wanted, texts_of, text_in}
use Rattle.fleet_tables.specs.kept_nodes.declared.wanted.Wanted.{Wanted}
use Rattle.fleet_tables.specs.kept_nodes.declared.wanted.WantedResource.{WantedResource}
use Rattle.fleet_tables.specs.fleet_rows.Cell.{plain}
use Rattle.fleet_tables.specs.fleet_rows.declared.row.Entity.{Entity}
use Rattle.fleet_tables.specs.fleet_rows.declared.row.Entity.TheVariants.{Facts, Resources}
use Rattle.fleet_tables.specs.table_machine.Rows.{table_rows}
use Rattle.same_text.specs.text_spec.Json.{null}
use Rattle.query_plan.specs.table_spec.Cells.{text_cell}
use Rattle.query_plan.specs.table_spec.Columns.{columns}
use Rattle.query_plan.specs.table_spec.Named.{cell_under, text_equals}
use Rattle.query_plan.specs.table_spec.Rows.{Cells}
use Rattle.query_reach.specs.Demands.{is_each, IsOnly}
use Rattle.query_reach.specs.Reach.{Pin, demanded, shows, beside, shows_own, is_found}
use Rattle.query_reading.specs.Wanted.{IsOwnBy, IsWantedBy}
use Rattle.query_reading.proofs.TextCells.{IsTextIn, certnames_are_texts, names_are_texts, types_are_texts, titles_are_texts}

and-true : (a : Bool) → (a && true) ≡ a
and-true true = refl
and-true false = refl

and-false : (a : Bool) → (a && false) ≡ false
and-false true = refl
and-false false = refl

-- ---- no row shows different texts

abbrev pub AreDifferent : List (List ℕ) → Type 0
AreDifferent texts = (s : List ℕ) → is_each texts (text_cell s) ≡ false

none_shows : (e : Entity) (column : List ℕ) (texts : List (List ℕ)) → AreDifferent texts → (row : Cells) → IsTextIn e column row → shows (Some e) column texts row ≡ false
none_shows e column texts h row there = ap (is_each texts) there.1 ∙ h there.0

-- ---- what is demanded besides the certname

pub no_fact : (ps : List Pin) → AreDifferent (demanded (codes "name") ps) → IsOwnBy Facts ps None
no_fact ps h = λ table.
    all_as (IsTextIn Facts (codes "name")) (λ row. shows_own (Some Facts) ps row ≡ false) (table_rows Facts table) (none_shows Facts (codes "name") (demanded (codes "name") ps) h) (names_are_texts table)

pub any_fact : (ps : List Pin) (w : Wanted) → demanded (codes "name") ps ≡ [] → w.name ≡ None → IsOwnBy Facts ps (Some w)
any_fact ps w none name = λ row.
    ap (λ n. has_own Facts (record { certname = text_in w.certname; name = text_in n; rtype = (texts_of w).rtype; title = (texts_of w).title }) row) name
    ∙ sym (ap (λ texts. shows (Some Facts) (codes "name") texts row) none)

pub one_fact : (ps : List Pin) (w : Wanted) (name : Bor (List ℕ)) → IsOnly name.now (demanded (codes "name") ps) → w.name ≡ Some name → IsOwnBy Facts ps (Some w)
one_fact ps w name only is = λ row.
    ap (λ n. has_own Facts (record { certname = text_in w.certname; name = text_in n; rtype = (texts_of w).rtype; title = (texts_of w).title }) row) is
    ∙ sym (only (cell_under (columns Facts) (codes "name") row))

abbrev types : List Pin → List (List ℕ)
types ps = demanded (codes "type") ps

abbrev titles : List Pin → List (List ℕ)
titles ps = demanded (codes "title") ps

pub no_type : (ps : List Pin) → AreDifferent (types ps) → IsOwnBy Resources ps None
no_type ps h = λ table.
    all_as (IsTextIn Resources (codes "type")) (λ row. shows_own (Some Resources) ps row ≡ false) (table_rows Resources table)
    (λ row there. ap (λ b. b && shows (Some Resources) (codes "title") (beside (types ps) (titles ps)) row) (none_shows Resources (codes "type") (types ps) h row there))
    (types_are_texts table)

-- a type is demanded, so titles lead to rows
beside_is : (rtype : List ℕ) (ts us : List (List ℕ)) → IsOnly rtype ts → beside ts us ≡ us
beside_is rtype [] us only = absurd (let apart : true ≡ false = only (plain null) in cc)
beside_is rtype (t ∷ ts) us only = refl

pub no_title : (ps : List Pin) (rtype : List ℕ) → IsOnly rtype (types ps) → AreDifferent (titles ps) → IsOwnBy Resources ps None
no_title ps rtype only h = λ table.
    all_as (IsTextIn Resources (codes "title")) (λ row. shows_own (Some Resources) ps row ≡ false) (table_rows Resources table)
    (λ row there.
    ap (λ us. shows (Some Resources) (codes "type") (types ps) row && shows (Some Resources) (codes "title") us row) (beside_is rtype (types ps) (titles ps) only)
    ∙ ap (λ b. shows (Some Resources) (codes "type") (types ps) row && b) (none_shows Resources (codes "title") (titles ps) h row there)
    ∙ and-false (shows (Some Resources) (codes "type") (types ps) row))
    (titles_are_texts table)

abbrev with_resource : Wanted → Option WantedResource → Wanted
with_resource w o = record { certname = w.certname; name = w.name; resource = o }

pub any_resource : (ps : List Pin) (w : Wanted) → types ps ≡ [] → w.resource ≡ None → IsOwnBy Resources ps (Some w)
any_resource ps w none is = λ row.
    ap (λ o. has_own Resources (texts_of (with_resource w o)) row) is
    ∙ sym (ap (λ ts. shows (Some Resources) (codes "type") ts row && shows (Some Resources) (codes "title") (beside ts (titles ps)) row) none)

pub typed_resource : (ps : List Pin) (w : Wanted) (rtype : Bor (List ℕ)) (o : WantedResource) → IsOnly rtype.now (types ps) → titles ps ≡ [] → w.resource ≡ Some o → o.rtype ≡ rtype → o.title ≡ None → IsOwnBy Resources ps (Some w)
typed_resource ps w rtype o only none is t u = λ row.
    ap (λ r. has_own Resources (texts_of (with_resource w r)) row) is
    ∙ (λ i. has_own Resources (texts_of (with_resource w (Some (record { rtype = t i; title = u i })))) row)
    ∙ (λ i. sym (only (cell_under (columns Resources) (codes "type") row)) i && shows (Some Resources) (codes "title") (sym none i) row)
    ∙ ap (λ us. shows (Some Resources) (codes "type") (types ps) row && shows (Some Resources) (codes "title") us row) (sym (beside_is rtype.now (types ps) (titles ps) only))

pub titled_resource : (ps : List Pin) (w : Wanted) (rtype title : Bor (List ℕ)) (o : WantedResource) → IsOnly rtype.now (types ps) → IsOnly title.now (titles ps) → w.resource ≡ Some o → o.rtype ≡ rtype → o.title ≡ Some title
    → IsOwnBy Resources ps (Some w)
titled_resource ps w rtype title o only same is t u = λ row.
    ap (λ r. has_own Resources (texts_of (with_resource w r)) row) is
    ∙ (λ i. has_own Resources (texts_of (with_resource w (Some (record { rtype = t i; title = u i })))) row)
    ∙ (λ i. sym (only (cell_under (columns Resources) (codes "type") row)) i && sym (same (cell_under (columns Resources) (codes "title") row)) i)
    ∙ ap (λ us. shows (Some Resources) (codes "type") (types ps) row && shows (Some Resources) (codes "title") us row) (sym (beside_is rtype.now (types ps) (titles ps) only))

-- ---- the certname

pub none_wanted : (e : Entity) (ps : List Pin) → IsOwnBy e ps None → IsWantedBy e ps None
none_wanted e ps h = λ table.
    all_as (λ row. shows_own (Some e) ps row ≡ false) (λ row. is_found (Some e) ps row ≡ false) (table_rows e table)
    (λ row own. ap (λ b. shows (Some e) (codes "certname") (demanded (codes "certname") ps) row && b) own ∙ and-false (shows (Some e) (codes "certname") (demanded (codes "certname") ps) row))
    (h table)

pub no_certname : (e : Entity) (ps : List Pin) → AreDifferent (demanded (codes "certname") ps) → IsWantedBy e ps None
no_certname e ps h = λ table.
    all_as (IsTextIn e (codes "certname")) (λ row. is_found (Some e) ps row ≡ false) (table_rows e table)
    (λ row there. ap (λ b. b && shows_own (Some e) ps row) (none_shows e (codes "certname") (demanded (codes "certname") ps) h row there))
    (certnames_are_texts e table)

-- what is asked besides the certname depends on the rest alone
pub own_same : (e : Entity) (c d : Option (Bor (List ℕ))) (name : Option (Bor (List ℕ))) (resource : Option WantedResource) (row : Cells)
    → has_own e (texts_of (record { certname = c; name = name; resource = resource })) row ≡ has_own e (texts_of (record { certname = d; name = name; resource = resource })) row
own_same Facts c d name resource row = refl
own_same Resources c d name resource row = refl
own_same _ c d name resource row = refl

pub own_alike : (e : Entity) (v w : Wanted) (row : Cells) → v.name ≡ w.name → v.resource ≡ w.resource → has_own e (texts_of v) row ≡ has_own e (texts_of w) row
own_alike e v w row n r =
    (λ i. has_own e (texts_of (record { certname = v.certname; name = n i; resource = r i })) row) ∙ own_same e v.certname w.certname w.name w.resource row

pub any_certname : (e : Entity) (ps : List Pin) (own w : Wanted) → IsOwnBy e ps (Some own) → demanded (codes "certname") ps ≡ [] → w.certname ≡ None → w.name ≡ own.name → w.resource ≡ own.resource → IsWantedBy e ps (Some w)
any_certname e ps own w h none c n r = λ row.
    ap (λ o. is_wanted e (texts_of (record { certname = o; name = w.name; resource = w.resource })) row) c
    ∙ own_same e None w.certname w.name w.resource row
    ∙ own_alike e w own row n r
    ∙ h row
    ∙ sym (ap (λ texts. shows (Some e) (codes "certname") texts row && shows_own (Some e) ps row) none)

pub one_certname : (e : Entity) (ps : List Pin) (own w : Wanted) (text found : Bor (List ℕ)) → IsOwnBy e ps (Some own) → IsOnly text.now (demanded (codes "certname") ps) → found.now ≡ text.now → w.certname ≡ Some found
    → w.name ≡ own.name → w.resource ≡ own.resource → IsWantedBy e ps (Some w)
one_certname e ps own w text found h only is c n r = λ row.
    let cell = cell_under (columns e) (codes "certname") row in
    let whole : Option (Bor (List ℕ)) → Wanted = λ o. record { certname = o; name = w.name; resource = w.resource } in
    let own_is : has_own e (texts_of (whole (Some found))) row ≡ shows_own (Some e) ps row = own_same e (Some found) w.certname w.name w.resource row ∙ own_alike e w own row n r ∙ h row in
    ap (λ o. is_wanted e (texts_of (whole o)) row) c
    ∙ ap (λ s. text_equals s cell && has_own e (texts_of (whole (Some found))) row) is
    ∙ (λ i. sym (only cell) i && own_is i)

-- ---- entities whose rows are found by certname alone

pub other_rows : (e : Entity) (ps : List Pin) (w : Wanted) → (e ≡ Facts → ⊥) → (e ≡ Resources → ⊥) → IsOwnBy e ps (Some w)
other_rows Facts ps w f r = absurd (f refl)
other_rows Resources ps w f r = absurd (r refl)
other_rows _ ps w f r = λ row. refl
