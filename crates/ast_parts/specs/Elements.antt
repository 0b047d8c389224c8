-- What contracts say of a list by its number of elements.
use Rattle.std.specs.Prelude.{◌≡◌, ◌≤◌, ℕ}
use Rattle.json_tree.specs.text_spec.Json.{Items, no_items, item, items_of, levels}
use Rattle.json_tree.specs.Tree.{json_of, jsons}
use Rattle.ast_parts.specs.declared.elements.Elements.{Elements}
use Rattle.ast_parts.specs.declared.elements.Elements.TheVariants.{None, One, Two, Three, More}

abbrev pub AreElements : Elements → Items → Type 0
AreElements None vs = vs ≡ no_items
AreElements (One a) vs = vs ≡ item (json_of a.now) no_items
AreElements (Two a b) vs = vs ≡ item (json_of a.now) (item (json_of b.now) no_items)
AreElements (Three a b c) vs = vs ≡ item (json_of a.now) (item (json_of b.now) (item (json_of c.now) no_items))
AreElements (More a b c d rest) vs =
    vs ≡ item (json_of a.now) (item (json_of b.now) (item (json_of c.now) (item (json_of d.now) (items_of (jsons rest.now)))))

-- each element nests at most n levels deep
abbrev pub NestWithin : Elements → ℕ → Type 0
NestWithin None n = Unit {0}
NestWithin (One a) n = levels (json_of a.now) ≤ n
NestWithin (Two a b) n = (levels (json_of a.now) ≤ n) × (levels (json_of b.now) ≤ n)
NestWithin (Three a b c) n =
    (levels (json_of a.now) ≤ n) × (levels (json_of b.now) ≤ n) × (levels (json_of c.now) ≤ n)
NestWithin (More a b c d rest) n = Unit {0}
