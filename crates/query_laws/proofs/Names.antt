-- Entities by their names.
use Rattle.std.proofs.Common.{◌≡◌, ℕ, List, Option, Some, None, refl, subst, if◌then◌else◌}
use Rattle.std.specs.Prelude.{IsTrue}
use Rattle.std.specs.Str.{bytes_eq}
use Rattle.json_machine.proofs.of_plain_laws.Lists.{one_text}
use Rattle.query_spec.specs.fleet_rows.declared.row.Entity.{Entity}
use Rattle.query_spec.specs.fleet_rows.declared.row.Entity.TheVariants.{Nodes, Factsets, Facts, Catalogs, Resources, Edges, Reports, FactContents, Inventory, Events, EventCounts}
use Rattle.query_spec.specs.Answer.{entity_name, is_queryable}
use Rattle.query_spec.specs.Check.{entity_named}
use Rattle.query_laws.proofs.Told.{under}
use Rattle.query_laws.specs.Laws.{EntitiesHaveNames, OnlyNamesNameEntities}

pub entities_have_names : EntitiesHaveNames
unfolding entity_named
entities_have_names Nodes = refl
entities_have_names Factsets = refl
entities_have_names Facts = refl
entities_have_names Catalogs = refl
entities_have_names Resources = refl
entities_have_names Edges = refl
entities_have_names Reports = refl
entities_have_names FactContents = refl
entities_have_names Inventory = refl
entities_have_names Events = refl
entities_have_names EventCounts = refl

abbrev EntitySays : List ℕ → Option Entity → Type 0
EntitySays s (Some e) = (s ≡ entity_name e) × IsTrue (is_queryable e)
EntitySays s None = Unit {0}

-- one step along the chain of tests: what is found under an entity's test is that entity
named_or : (s : List ℕ) (e : Entity) (rest : Option Entity) → IsTrue (is_queryable e) → EntitySays s rest → EntitySays s (if bytes_eq s (entity_name e) then Some e else rest)
named_or s e rest can there = under (EntitySays s) (bytes_eq s (entity_name e)) (Some e) rest (λ same. (one_text s (entity_name e) same, can)) there

entity_says : (s : List ℕ) → EntitySays s (entity_named s)
unfolding entity_named
entity_says s =
    named_or s Nodes _ refl
    (named_or s Factsets _ refl
    (named_or s Facts _ refl
    (named_or s Catalogs _ refl
    (named_or s Resources _ refl
    (named_or s Edges _ refl
    (named_or s Reports _ refl tt))))))

pub only_names_name_entities : OnlyNamesNameEntities
only_names_name_entities s e h = subst (EntitySays s) h (entity_says s)
