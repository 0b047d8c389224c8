-- What an answer that is no item lets go of.
use Rattle.std.proofs.Common.{◌≡◌, ℕ, ◌+◌, ◌≤◌, ◌<◌, List, [], ◌∷◌, ◌++◌, take, drop, arith, refl, sym, subst, Option, Some, None, length-append}
use Rattle.std.proofs.lemmas.List.{length-take-le}
use Rattle.std.specs.Io.KnownBytes.{Keeps, Consumes, prepend_known}
use Rattle.std.proofs.KnownBytes.{Consumes-trans}
use Rattle.spool_text.specs.declared.item.NextItem.{NextItem}
use Rattle.spool_text.specs.declared.item.NextItem.TheVariants as next
use Rattle.spool_text.specs.Next.{IfNoItem}
use Rattle.spool_text.specs.Lost.{LosesUpTo}
use Rattle.spool_text.specs.Unread.{HasLine}
use Rattle.spool_text.proofs.Items.{takes_line}
use Rattle.spool_maker.specs.fleet_rows.json_tree.Limits.{most_payload}

kept_consumes : (a b : Option (List ℕ)) → Keeps a b → Consumes a b []
kept_consumes None b h = tt
kept_consumes (Some xs) None h = h
kept_consumes (Some xs) (Some ys) h = sym h

pub loses_nothing : (n : ℕ) (a b : Option (List ℕ)) → Keeps a b → LosesUpTo n a b
loses_nothing n a b h = ([], kept_consumes a b h, omega arith)

same_keeps : (a : Option (List ℕ)) → Keeps a a
same_keeps None = tt
same_keeps (Some xs) = refl

pub loses_then : (m n k : ℕ) (a b c : Option (List ℕ)) → m + n ≤ k → LosesUpTo m a b → LosesUpTo n b c → LosesUpTo k a c
loses_then m n k a b c h first second =
    (first.0 ++ second.0, Consumes-trans a b c first.0 second.0 first.1 second.1, omega (arith, h, first.2, second.2, length-append first.0 second.0))

-- a line is let go of with its line feed
pub loses_line : (n : ℕ) (bytes rest : List ℕ) (left : Option (List ℕ)) → HasLine n bytes → n < 201 → rest ≡ drop (n + 1) bytes → LosesUpTo 201 (prepend_known bytes left) (prepend_known rest left)
loses_line n bytes rest left h short e =
    let line_length = length-take-le n bytes (omega (arith, h.inside)) in
    subst (λ xs. LosesUpTo 201 (prepend_known bytes left) (prepend_known xs left)) (sym e)
    (take n bytes ++ 10 ∷ [], takes_line n bytes left h, omega (arith, short, line_length, length-append (take n bytes) (10 ∷ [])))

-- a line, part of a payload and perhaps a line feed
pub loses_part : (n size : ℕ) (bytes rest : List ℕ) (left b c : Option (List ℕ)) → HasLine n bytes → n < 201 → rest ≡ drop (n + 1) bytes → size ≤ most_payload → LosesUpTo size (prepend_known rest left) b → LosesUpTo 1 b c → LosesUpTo 16_777_418 (prepend_known bytes left) c
loses_part n size bytes rest left b c h short e small payload feed =
    loses_then 201 16_777_217 16_777_418 (prepend_known bytes left) (prepend_known rest left) c (omega arith) (loses_line n bytes rest left h short e)
    (loses_then size 1 16_777_217 (prepend_known rest left) b c (omega (arith, small)) payload feed)

pub loses_payload : (n size : ℕ) (bytes rest : List ℕ) (left b : Option (List ℕ)) → HasLine n bytes → n < 201 → rest ≡ drop (n + 1) bytes → size ≤ most_payload → LosesUpTo size (prepend_known rest left) b → LosesUpTo 16_777_418 (prepend_known bytes left) b
loses_payload n size bytes rest left b h short e small payload =
    loses_part n size bytes rest left b b h short e small payload (loses_nothing 1 b b (same_keeps b))

-- ---- answers

kept_loses : (n : ℕ) (a b c : Option (List ℕ)) → Keeps a b → LosesUpTo n b c → LosesUpTo n a c
kept_loses n a b c kept h = loses_then 0 n n a b c (omega arith) (loses_nothing 0 a b kept) h

pub read_ahead : (answer : NextItem) (n : ℕ) (a b c : Option (List ℕ)) → Keeps a b → IfNoItem answer (LosesUpTo n b c) → IfNoItem answer (LosesUpTo n a c)
read_ahead (next.Command command) n a b c kept h = tt
read_ahead (next.Sweep kinds m) n a b c kept h = tt
read_ahead next.End n a b c kept h = kept_loses n a b c kept h
read_ahead (next.SpoolBad at) n a b c kept h = kept_loses n a b c kept h
read_ahead next.ReadFault n a b c kept h = kept_loses n a b c kept h
read_ahead next.Memory n a b c kept h = kept_loses n a b c kept h
