use Rattle.std.proofs.Common.{◌∙◌, ◌++◌, ◌∷◌, [], sym, ap, append_assoc, List, ℕ}
use Rattle.record_fields.specs.record_spec.Parts.{short_text}
use Rattle.record_fields.specs.record_spec.Store.{days_text, store_text}
use Rattle.store_records.proofs.write.put_record.Goals as goal

pub returns-in_ok-put_days-in-Settings : goal.returns-in_ok-put_days-in-Settings
returns-in_ok-put_days-in-Settings c =
    let v = c.in-Settings in
    let out = c.args.out.now.items in
    c.in_ok-put_days-in-Settings.ensures
    ∙ ap (λ (l : List ℕ). l ++ days_text v.node v.purge v.report) c.in_ok-push-in-Settings.ensures.items
    ∙ append_assoc out (0 ∷ []) (days_text v.node v.purge v.report)
    ∙ ap (λ r. out ++ store_text r) (sym v.is)

pub returns-in_ok-put_u32-in-Limits : goal.returns-in_ok-put_u32-in-Limits
returns-in_ok-put_u32-in-Limits c =
    let v = c.in-Limits in
    let out = c.args.out.now.items in
    let days = days_text v.node v.purge v.report in
    c.in_ok-put_u32-in-Limits.ensures
    ∙ ap (λ (l : List ℕ). l ++ short_text v.count) (c.in_ok-put_days-in-Limits.ensures ∙ ap (λ (l : List ℕ). l ++ days) c.in_ok-push-in-Limits.ensures.items ∙ append_assoc out (6 ∷ []) days)
    ∙ append_assoc out (6 ∷ days) (short_text v.count)
    ∙ ap (λ r. out ++ store_text r) (sym v.is)
