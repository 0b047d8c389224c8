use Rattle.std.proofs.Common.{◌≡◌, ◌+◌, ◌∙◌, ◌++◌, ◌∷◌, [], List, ℕ, true, drop, ap}
use Rattle.dump_laws.specs.dump_spec.json_tree.Tree.{json_of}
use Rattle.dump_laws.specs.dump_spec.text_spec.Json.{members_of}
use Rattle.dump_laws.specs.dump_spec.text_spec.Compact.{compact, compact_members, comma_if, quoted}
use Rattle.dump_writer.proofs.Texts.{member_written}
use Rattle.dump_writer.proofs.shown.put_members.Goals as goal

pub loop-at-preserved : goal.loop-at-preserved
loop-at-preserved c =
    let out = c.loop-at.out.items in
    let later = c.loop-at.later in
    let at = c.loop-at.at in
    let ms = c.args.map.now in
    let key = c.pair.result.0.now in
    let value = json_of c.pair.result.1.now in
    let text : c.append_compact.new.out.items ≡ (((out ++ comma_if later) ++ quoted key) ++ 58 ∷ []) ++ compact value =
    c.in_ok-append_compact.ensures.text
    ∙ ap (λ (l : List ℕ). l ++ compact value)
    (c.in_ok-push-2.ensures.items ∙ ap (λ (l : List ℕ). l ++ 58 ∷ []) (c.in_ok-append_quoted.ensures.text ∙ (λ i. c.in_ok-put_comma.ensures i ++ quoted (c.as_str.ensures i)))) in
    ap (λ (l : List ℕ). l ++ compact_members true (members_of (drop (at + 1) ms))) text ∙ member_written out later ms at key value c.pair.ensures.pair ∙ c.loop-at.invariant
