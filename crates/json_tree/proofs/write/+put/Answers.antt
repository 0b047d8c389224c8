use Rattle.std.proofs.Common.{◌∷◌, [], arith}
use Rattle.std.specs.Io.{StartsWith}
use Rattle.std.proofs.Transfers.{starts_with_trans, starts_with_of_append}
use Rattle.std.proofs.lemmas.Grind.{common_steps}
use Rattle.json_tree.proofs.write.+put.Goals as goal

pub put_items-returns-in_err-put-clause-appends : goal.put_items-returns-in_err-put-clause-appends
put_items-returns-in_err-put-clause-appends t c =
    let before : StartsWith c.if-later.out.items c.args.out.now.items = grind (arith, common_steps) in
    starts_with_trans c.put.new.out.items c.if-later.out.items c.args.out.now.items c.put.ensures.appends before

pub put_members-returns-in_err-put_quoted-clause-appends : goal.put_members-returns-in_err-put_quoted-clause-appends
put_members-returns-in_err-put_quoted-clause-appends t c =
    let before : StartsWith c.if-later.out.items c.args.out.now.items = grind (arith, common_steps) in
    starts_with_trans c.put_quoted.new.out.items c.if-later.out.items c.args.out.now.items c.put_quoted.ensures.appends before

pub put_members-returns-in_err-put-clause-appends : goal.put_members-returns-in_err-put-clause-appends
put_members-returns-in_err-put-clause-appends t c =
    let quoted = c.put_quoted.new.out.items in
    let colon = c.push-in-loop-member.new.self.items in
    let before : StartsWith quoted c.args.out.now.items = grind (arith, common_steps) in
    starts_with_trans c.put.new.out.items colon c.args.out.now.items c.put.ensures.appends
    (starts_with_trans colon quoted c.args.out.now.items (starts_with_of_append colon quoted (58 ∷ []) c.in_ok-push-2.ensures.items) before)
