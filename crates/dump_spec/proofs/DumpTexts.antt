-- The bytes of a dump.
use Rattle.std.proofs.Common.{◌≡◌, ◌∙◌, ℤ, pos, List, [], ◌∷◌, ◌++◌, map, refl, sym, ap, append_assoc}
use Rattle.std.specs.List.{flat_map}
use Rattle.list_again.specs.history_spec.Thread.{Item, command}
use Rattle.list_again.specs.fleet_rows.declared.change.Change.{Change}
use Rattle.list_again.specs.spool_spec.Spool.{command_text}
use Rattle.dump_spec.specs.Dumps.{node_changes, sweep_if, item_text, dump_text}
use Rattle.dump_spec.specs.Laws.{EmptyTablesHaveEmptyDumps, DumpsDoNotTellReceipts}
use Rattle.dump_spec.specs.Payloads.{command_of}
use Rattle.list_again.specs.Told.{expire_alone, reports_alone}

pub empty_tables_have_empty_dumps : EmptyTablesHaveEmptyDumps
unfolding dump_text
empty_tables_have_empty_dumps ttls = refl

pub texts_both : (xs ys : List Item) → flat_map item_text (xs ++ ys) ≡ flat_map item_text xs ++ flat_map item_text ys
texts_both [] ys = refl
texts_both (x ∷ xs) ys = ap (λ l. item_text x ++ l) (texts_both xs ys) ∙ sym (append_assoc (item_text x) (flat_map item_text xs) (flat_map item_text ys))

-- the text of a command has no moment
commands_alike : (received other : ℤ) (cs : List Change) → flat_map item_text (map (λ c. command (command_of received c)) cs) ≡ flat_map item_text (map (λ c. command (command_of other c)) cs)
commands_alike received other [] = refl
commands_alike received other (c ∷ cs) = ap (λ l. command_text (command_of received c) ++ l) (commands_alike received other cs)

pub dumps_do_not_tell_receipts : DumpsDoNotTellReceipts
unfolding dump_text
dumps_do_not_tell_receipts table received =
    let cs = flat_map node_changes table.nodes in
    let sweeps = sweep_if expire_alone table.expiry ++ sweep_if reports_alone table.retention in
    texts_both (map (λ c. command (command_of received c)) cs) sweeps
    ∙ ap (λ l. l ++ flat_map item_text sweeps) (commands_alike received (pos 0) cs)
    ∙ sym (texts_both (map (λ c. command (command_of (pos 0) c)) cs) sweeps)
