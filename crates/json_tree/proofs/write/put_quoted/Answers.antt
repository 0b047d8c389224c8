use Rattle.std.proofs.Common.{◌≡◌, ◌∙◌, ◌++◌, ◌+◌, ◌<◌, length, drop, get_or, flat_map, ap, arith}
use Rattle.std.specs.Prelude.{slice_range}
use Rattle.std.proofs.Transfers.{starts_with_trans, starts_with_of_append}
use Rattle.text_spec.specs.Compact.{escaped}
use Rattle.json_tree.proofs.EscapeLaws.{runs-more}
use Rattle.json_tree.proofs.write.put_quoted.Goals as goal

pub runs-preserved : goal.runs-preserved
runs-preserved c =
    let bytes = c.as_bytes-bytes.result.now in
    let end = c.plain_end-end.result in
    let within : end < length bytes = omega (arith, c.plain_end-end.ensures.within, c.if-end-bytes.false) in
    let out : c.put_escaped.new.out.items ≡ c.runs.out.items ++ slice_range bytes c.runs.at end ++ escaped (get_or bytes end 0) = c.in_ok-put_escaped.ensures.text ∙ ap (λ x. x ++ escaped (get_or bytes end 0)) c.in_ok-extend_from_slice.ensures.items in
    record {
      within = omega (arith, within);
      so_far = ap (λ x. x ++ flat_map escaped (drop (end + 1) bytes)) out ∙ runs-more c.runs.out.items bytes c.runs.at end c.plain_end-end.ensures.from within c.plain_end-end.ensures.plain ∙ c.runs.invariant.so_far;
      appends = starts_with_trans c.put_escaped.new.out.items c.extend_from_slice.new.self.items c.args.out.now.items c.put_escaped.ensures.appends
          (starts_with_trans c.extend_from_slice.new.self.items c.runs.out.items c.args.out.now.items (starts_with_of_append c.extend_from_slice.new.self.items c.runs.out.items (slice_range bytes c.runs.at end) c.in_ok-extend_from_slice.ensures.items) c.runs.invariant.appends);
    }
