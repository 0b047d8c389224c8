-- A command of the table as clap builds it, with the options that it takes.
use Rattle.std.proofs.Common.{◌≡◌, ◌∙◌, ℕ, List, [], map, ◌∷◌, ◌||◌, Bool, true, false, cond, Some, None, codes, refl, sym, ap, subst, true≢false}
use Rattle.std.specs.Prelude.{option_map, fold}
use Rattle.std.specs.Str.{bytes_eq}
use Rattle.clap.specs.Walk.{Text, Row, Rule, Held, arg_by_id, arg_by_index, arg_by_long, arg_by_short, finished, has_row, nothing_held, settled, walk, walk_from, with_default, idle}
use Rattle.clap.specs.Simple.{Shape, built, built_leaf, inherited, label_of}
use Rattle.clap.specs.Faults.{check_fault, default_fault, defaults_fault, given_default_fault, level_fault, settle_fault, walk_fault}
use Rattle.clap.specs.Kinds.{Kinds, or_else}
use Rattle.program_words.specs.Words.{Word, Name, serve_option, links_option, alone}
use Rattle.program_words.specs.Scanning.{Takes, takes_at, name_id, option_named, value_of}
use Rattle.program_words.specs.Made.{plain_id, command_with, all, verbs}
use Rattle.program_words.specs.Splitting.{one, RowsAre}
use Rattle.program_words.proofs.Turns.{IsReader, option_rule, plain_rule, at}
use Rattle.program_words.proofs.Walks.{faults}

-- ---- arguments without a default

abbrev pub All_none : List Rule → Type 0
All_none [] = Unit {0}
All_none (a ∷ rules) = (a.defaults ≡ []) × All_none rules

no_default : (rows : List Row) (a : Rule) → a.defaults ≡ [] → with_default rows a ≡ rows
no_default rows a none = rw none (go (has_row a.id rows))
  where
    go : (b : Bool) → cond b rows rows ≡ rows
    go true = refl
    go false = refl

none_added : (rules : List Rule) (rows : List Row) → All_none rules → fold with_default rows rules ≡ rows
none_added [] rows none = refl
none_added (a ∷ rules) rows none = ap (λ (rs : List Row). fold with_default rs rules) (no_default rows a none.0) ∙ none_added rules rows none.1

pub or_none : (a : Kinds) → or_else a [] ≡ a
or_none [] = refl
or_none (k ∷ a) = refl

no_default_fault : (rows : List Row) (a : Rule) → a.defaults ≡ [] → default_fault rows a ≡ []
no_default_fault rows a none = rw none (go (has_row a.id rows))
  where
    go : (b : Bool) → cond (b || true) [] (given_default_fault a []) ≡ []
    go true = refl
    go false = refl

no_defaults : (rules : List Rule) (rows : List Row) → All_none rules → defaults_fault rows rules ≡ []
unfolding defaults_fault
no_defaults [] rows none = refl
no_defaults (a ∷ rules) rows none = rw (no_default_fault rows a none.0) (no_defaults rules (with_default rows a) none.1)

-- ---- a command without subcommands

pub record IsLeaf (t : Takes) (s : Shape) : Type 0 where
  pub reads : IsReader t s
  pub defaults : All_none s.rules
  pub checks : (rows : List Row) → check_fault s rows false ≡ []

module _ (t : Takes) (s : Shape) (l : IsLeaf t s) where
  pub leaf_finished : (h : Held) → finished s.rules h ≡ (settled s.rules h).rows
  leaf_finished h = none_added s.rules (settled s.rules h).rows l.defaults

  -- what is wrong with the words is wrong in the walk
  pub leaf_fault : (words : List Word) → level_fault s [] nothing_held words false [] ≡ faults t s l.reads (at [] None idle false) words
  leaf_fault words =
      let end = (walk s.rules [] nothing_held words).held in
      ap (λ (k : Kinds). or_else (walk_fault s [] (walk_from nothing_held) words) (or_else (settle_fault s.rules s.args_override_self end) (or_else k (check_fault s (finished s.rules end) false))))
      (no_defaults s.rules (settled s.rules end).rows l.defaults)
      ∙ ap (λ (k : Kinds). or_else (walk_fault s [] (walk_from nothing_held) words) (or_else (settle_fault s.rules s.args_override_self end) k)) (l.checks (finished s.rules end))
      ∙ ap (or_else (walk_fault s [] (walk_from nothing_held) words)) (or_none (settle_fault s.rules s.args_override_self end))

-- ---- the commands

abbrev pub top : Shape
top = (built all).top

abbrev taking : Bool → Bool → Takes
taking b c serve_option = b
taking b c links_option = c

taken_so : (t : Takes) → taking (t serve_option) (t links_option) ≡ t
taken_so t = λ i name. same name i
  where
    same : (name : Name) → taking (t serve_option) (t links_option) name ≡ t name
    same serve_option = refl
    same links_option = refl

abbrev leaf_with : Takes → Text → Shape
leaf_with t name = built_leaf (inherited top (command_with t name))

by_name : (b c : Bool) (name text : Text) (x y : Bool) → bytes_eq (codes "serve") text ≡ x → bytes_eq (codes "links") text ≡ y
    → arg_by_long (leaf_with (taking b c) name).rules text ≡ option_map option_rule (option_named (taking b c) text)
by_name true true name text true y first second = rw first refl
by_name true true name text false true first second = rw (first, second) refl
by_name true true name text false false first second = rw (first, second) refl
by_name true false name text true y first second = rw first refl
by_name true false name text false true first second = rw (first, second) refl
by_name true false name text false false first second = rw (first, second) refl
by_name false true name text true true first second = rw (first, second) refl
by_name false true name text true false first second = rw (first, second) refl
by_name false true name text false true first second = rw (first, second) refl
by_name false true name text false false first second = rw (first, second) refl
by_name false false name text true true first second = rw (first, second) refl
by_name false false name text true false first second = rw (first, second) refl
by_name false false name text false true first second = rw (first, second) refl
by_name false false name text false false first second = rw (first, second) refl

by_option : (b c : Bool) (name : Text) (n : Name) → taking b c n ≡ true → arg_by_id (leaf_with (taking b c) name).rules (name_id n) ≡ Some (option_rule n)
by_option true true name serve_option taken = refl
by_option true true name links_option taken = refl
by_option true false name serve_option taken = refl
by_option true false name links_option taken = absurd (true≢false (sym taken))
by_option false true name serve_option taken = absurd (true≢false (sym taken))
by_option false true name links_option taken = refl
by_option false false name serve_option taken = absurd (true≢false (sym taken))
by_option false false name links_option taken = absurd (true≢false (sym taken))

record IsRead (s : Shape) : Type 0 where
  again : s.args_override_self ≡ false
  by_index : arg_by_index s.rules 1 ≡ Some plain_rule
  by_plain_id : arg_by_id s.rules plain_id ≡ Some plain_rule
  defaults : All_none s.rules

facts : (b c : Bool) (name : Text) → IsRead (leaf_with (taking b c) name)
facts true true name = record { again = refl; by_index = refl; by_plain_id = refl; defaults = (refl, (refl, (refl, tt))) }
facts true false name = record { again = refl; by_index = refl; by_plain_id = refl; defaults = (refl, (refl, tt)) }
facts false true name = record { again = refl; by_index = refl; by_plain_id = refl; defaults = (refl, (refl, tt)) }
facts false false name = record { again = refl; by_index = refl; by_plain_id = refl; defaults = (refl, tt) }

by_short : (b c : Bool) (name : Text) (x : ℕ) → arg_by_short (leaf_with (taking b c) name).rules x ≡ None
by_short true true name x = refl
by_short true false name x = refl
by_short false true name x = refl
by_short false false name x = refl

checked : (b c : Bool) (name : Text) (rows : List Row) → check_fault (leaf_with (taking b c) name) rows false ≡ []
checked true true name rows = refl
checked true false name rows = refl
checked false true name rows = refl
checked false false name rows = refl

is_leaf : (b c : Bool) (name : Text) → IsLeaf (taking b c) (leaf_with (taking b c) name)
is_leaf b c name = record {
  reads = record {
    again = (facts b c name).again;
    by_long = λ text. by_name b c name text (bytes_eq (codes "serve") text) (bytes_eq (codes "links") text) refl refl;
    by_short = by_short b c name;
    by_index = (facts b c name).by_index;
    by_id = by_option b c name;
    by_plain_id = (facts b c name).by_plain_id;
  };
  defaults = (facts b c name).defaults;
  checks = checked b c name;
}

label_with : (b c : Bool) (name : Text) → label_of (leaf_with (taking b c) name) ≡ (name, [])
label_with true true name = refl
label_with true false name = refl
label_with false true name = refl
label_with false false name = refl

unfoldable pub leaf : Text → Shape
leaf name = leaf_with (takes_at name) name

pub leaf_is : (name : Text) → IsLeaf (takes_at name) (leaf name)
unfolding leaf
leaf_is name =
    let t = takes_at name in
    subst (λ (u : Takes). IsLeaf u (leaf_with u name)) (taken_so t) (is_leaf (t serve_option) (t links_option) name)

leaf_label : (name : Text) → label_of (leaf name) ≡ (name, [])
unfolding leaf
leaf_label name =
    let t = takes_at name in
    subst (λ (u : Takes). label_of (leaf_with u name) ≡ (name, [])) (taken_so t) (label_with (t serve_option) (t links_option) name)

pub leaf_name : (name : Text) → (leaf name).name ≡ name
leaf_name name = ap (λ (p : Text × List Text). p.0) (leaf_label name)

pub leaf_aliases : (name : Text) → (leaf name).aliases ≡ []
leaf_aliases name = ap (λ (p : Text × List Text). p.1) (leaf_label name)

pub subs_are : (built all).subs ≡ map leaf verbs
unfolding leaf
subs_are = refl

-- ---- nothing is told yet

pub nothing_told : RowsAre [] (alone [])
nothing_told = record { values = none; plain = refl }
  where
    none : (name : Name) → None ≡ option_map one (value_of name (alone []))
    none serve_option = refl
    none links_option = refl
