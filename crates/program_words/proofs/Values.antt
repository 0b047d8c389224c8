-- The options of a request are ones that its command takes, and numbers, so none of their values begins with `-`.
use Rattle.std.proofs.Common.{◌≡◌, ◌∙◌, ◌<◌, ◌^◌, ℕ, List, [], ◌∷◌, false, true, true≢false, Option, Some, None, codes, arith, refl, sym, ap, subst, ne_eqb}
use Rattle.std.specs.Prelude.{decimal}
use Rattle.std.specs.Str.Parse.{IsNumeral}
use Rattle.std.proofs.lemmas.Fmt.{decimal_is_IsNumeral}
use Rattle.std.proofs.lemmas.Str.Parse.{digit_from_value}
use Rattle.program_words.specs.Words.{Word, Name, serve_option, links_option, is_dashed, Split, alone, IsPort, AreLinks, Asks}
use Rattle.program_words.specs.Scanning.{Takes, takes_at, value_of, IsUndashed, HasValues}
use Rattle.program_words.specs.declared.request.Request.{Request}
use Rattle.program_words.specs.declared.request.Request.TheVariants as request

numeral_undashed : (ds : List ℕ) → IsNumeral 10 ds → is_dashed ds ≡ false
numeral_undashed [] h = refl
numeral_undashed (d ∷ ds) h = ne_eqb _ _ (λ e. omega (arith, digit_from_value d h.1.0))

decimal_undashed : (word : Word) (n : ℕ) → word ≡ decimal n → n < 2 ^ 64 → is_dashed word ≡ false
decimal_undashed word n is small = ap is_dashed is ∙ numeral_undashed (decimal n) (decimal_is_IsNumeral n small).0

none_undashed : (o : Option Word) → o ≡ None → IsUndashed o
none_undashed o none = subst IsUndashed (sym none) tt

links_undashed : (links : Option Word) (count : ℕ) → AreLinks links count → IsUndashed links
links_undashed None count are = tt
links_undashed (Some word) count are = decimal_undashed word count are.0 (omega arith)

port_undashed : (serve : Option Word) (word : Word) (port : ℕ) → serve ≡ Some word → IsPort word port → IsUndashed serve
port_undashed serve word port some is = subst IsUndashed (sym some) (decimal_undashed word port is.0 (omega arith))

both : (t : Takes) (split : Split) → IsUndashed split.serve → IsUndashed split.links → (t serve_option ≡ false → split.serve ≡ None) → (t links_option ≡ false → split.links ≡ None)
    → HasValues t split
both t split serve links no_serve no_links = record { undashed = undashed; taken = taken }
  where
    undashed : (name : Name) → IsUndashed (value_of name split)
    undashed serve_option = serve
    undashed links_option = links

    taken : (name : Name) → t name ≡ false → value_of name split ≡ None
    taken serve_option = no_serve
    taken links_option = no_links

without : (t : Takes) (split : Split) → split.serve ≡ None → split.links ≡ None → HasValues t split
without t split serve links = both t split (none_undashed split.serve serve) (none_undashed split.links links) (λ _. serve) (λ _. links)

pub none_valued : (t : Takes) (plain : List Word) → HasValues t (alone plain)
none_valued t plain = without t (alone plain) refl refl

first_word : (w v : Word) (a b : List Word) → w ∷ a ≡ v ∷ b → w ≡ v
first_word w v a b same = cc

-- the command takes the option
takes_so : (command word : Word) (name : Name) (o : Option Word) → command ≡ word → takes_at word name ≡ true → takes_at command name ≡ false → o ≡ None
takes_so command word name o same takes none = absurd (true≢false (sym takes ∙ ap (λ (w : Word). takes_at w name) (sym same) ∙ none))

pub has_values : (command : Word) (split : Split) (r : Request) → Asks command split r → HasValues (takes_at command) split
has_values command split (request.Run workers now None) asks = without (takes_at command) split asks.0.0 asks.0.1
has_values command split (request.Run workers now (Some serving)) asks =
    let run = first_word command (codes "run") split.plain (decimal workers ∷ asks.1.0 ∷ []) asks.1.1 in
    both (takes_at command) split (port_undashed split.serve asks.0.0.0 serving.port asks.0.0.1 asks.0.0.2) (links_undashed split.links serving.links asks.0.1)
    (takes_so command (codes "run") serve_option split.serve run refl) (takes_so command (codes "run") links_option split.links run refl)
has_values command split (request.Serve serving now) asks =
    let serve = first_word command (codes "serve") split.plain (asks.1.0 ∷ asks.1.1 ∷ []) asks.1.2 in
    both (takes_at command) split (none_undashed split.serve asks.0.0) (links_undashed split.links serving.links asks.0.1)
    (λ _. asks.0.0) (takes_so command (codes "serve") links_option split.links serve refl)
has_values command split request.Show asks = without (takes_at command) split asks.0.0 asks.0.1
has_values command split (request.Init ttls) asks = without (takes_at command) split asks.0.0 asks.0.1
has_values command split (request.Sweep kinds now) asks = without (takes_at command) split asks.0.0 asks.0.1
has_values command split request.Compact asks = without (takes_at command) split asks.0.0 asks.0.1
has_values command split request.Discards asks = without (takes_at command) split asks.0.0 asks.0.1
has_values command split (request.Payload receipt) asks = without (takes_at command) split asks.0.0 asks.0.1
has_values command split request.Query asks = without (takes_at command) split asks.0.0 asks.0.1
has_values command split (request.Make seed count) asks = without (takes_at command) split asks.0.0 asks.0.1
