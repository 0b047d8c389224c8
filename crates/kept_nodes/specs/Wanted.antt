-- What is sought among rows.
use Rattle.std.specs.Prelude.{ℕ, List, Bool, true, ◌&&◌, Option, Some, None, codes}
use Rattle.std.specs.Borrow.{Bor}
use Rattle.std.specs.Option.{option_and_then, option_map}
use Rattle.checkpoint_spec.specs.fleet_rows.declared.row.Entity.{Entity}
use Rattle.checkpoint_spec.specs.fleet_rows.declared.row.Entity.TheVariants.{Facts, Resources}
use Rattle.checkpoint_spec.specs.table_spec.Columns.{columns}
use Rattle.checkpoint_spec.specs.table_spec.Named.{cell_under, text_equals}
use Rattle.checkpoint_spec.specs.table_spec.Rows.{Cells}
use Rattle.kept_nodes.specs.declared.wanted.Wanted.{Wanted}
use Rattle.kept_nodes.specs.declared.wanted.WantedResource.{WantedResource}

-- ---- what is sought

-- the texts that rows must show; none asks for nothing
pub record WantedTexts : Type 0 where
  pub certname : Option (List ℕ)
  pub name : Option (List ℕ)  -- of a fact
  pub rtype : Option (List ℕ)  -- of a resource
  pub title : Option (List ℕ)

abbrev pub text_in : Option (Bor (List ℕ)) → Option (List ℕ)
text_in = option_map (λ text. text.now)

abbrev pub type_in : Option WantedResource → Option (List ℕ)
type_in = option_map (λ resource. resource.rtype.now)

abbrev pub title_in : Option WantedResource → Option (List ℕ)
title_in = option_and_then (λ resource. text_in resource.title)

abbrev pub texts_of : Wanted → WantedTexts
texts_of w = record { certname = text_in w.certname; name = text_in w.name; rtype = type_in w.resource; title = title_in w.resource }

-- nothing but a certname is sought
abbrev pub of_certname : List ℕ → WantedTexts
of_certname certname = record { certname = Some certname; name = None; rtype = None; title = None }

abbrev pub of_name : List ℕ → WantedTexts
of_name name = record { certname = None; name = Some name; rtype = None; title = None }

abbrev pub of_resource : List ℕ → List ℕ → WantedTexts
of_resource rtype title = record { certname = None; name = None; rtype = Some rtype; title = Some title }

-- the row has the text in this column, if one is sought
abbrev pub has_text_in : Entity → List ℕ → Option (List ℕ) → Cells → Bool
has_text_in entity column None row = true
has_text_in entity column (Some text) row = text_equals text (cell_under (columns entity) column row)

-- a fact has the name, if one is sought
abbrev pub has_name : Option (List ℕ) → Cells → Bool
has_name name row = has_text_in Facts (codes "name") name row

-- a resource has the type and the title, as far as they are sought
abbrev pub has_resource : Option (List ℕ) → Option (List ℕ) → Cells → Bool
has_resource rtype title row = has_text_in Resources (codes "type") rtype row && has_text_in Resources (codes "title") title row

-- what is sought besides the certname
abbrev pub has_own : Entity → WantedTexts → Cells → Bool
has_own Facts texts row = has_name texts.name row
has_own Resources texts row = has_resource texts.rtype texts.title row
has_own _ texts row = true

abbrev pub is_wanted : Entity → WantedTexts → Cells → Bool
is_wanted entity texts row = has_text_in entity (codes "certname") texts.certname row && has_own entity texts row

-- the same with this certname
abbrev pub is_of_node : Entity → List ℕ → WantedTexts → Cells → Bool
is_of_node entity certname texts row = has_text_in entity (codes "certname") (Some certname) row && has_own entity texts row

-- a fact of this node with this name
abbrev pub is_fact : List ℕ → List ℕ → Cells → Bool
is_fact certname name = is_of_node Facts certname (of_name name)
