use Rattle.std.proofs.Common.{◌≡◌, ◌∙◌, ◌++◌, List, ℕ, ap}
use Rattle.record_fields.specs.record_spec.Parts.{bytes_text, optional, moment_text, list_text}
use Rattle.record_fields.specs.record_spec.Changes.{edge_text, resource_text}
use Rattle.store_records.specs.Written.{catalog_head, catalog_marks}
use Rattle.store_records.proofs.Writing.{eleven_fields}
use Rattle.store_records.proofs.write.put_catalog.Goals as goal

pub returns : goal.returns
returns c =
    let ch = c.args.change.now in
    let out = c.args.out.now.items in
    let marks : c.put_catalog_marks.new.out.items ≡ (out ++ catalog_head ch) ++ catalog_marks ch =
    c.in_ok-put_catalog_marks.ensures ∙ ap (λ (l : List ℕ). l ++ catalog_marks ch) c.in_ok-put_catalog_head.ensures in
    let moment : c.put_moment.new.out.items ≡ ((out ++ catalog_head ch) ++ catalog_marks ch) ++ moment_text ch.stamp =
    c.in_ok-put_moment.ensures ∙ ap (λ (l : List ℕ). l ++ moment_text ch.stamp) marks in
    let producer : c.put_optional_text.new.out.items ≡ (((out ++ catalog_head ch) ++ catalog_marks ch) ++ moment_text ch.stamp) ++ optional bytes_text ch.producer =
    c.in_ok-put_optional_text.ensures ∙ ap (λ (l : List ℕ). l ++ optional bytes_text ch.producer) moment in
    c.in_ok-put_resources.ensures
    ∙ (λ i. (c.in_ok-put_edges.ensures ∙ (λ j. producer j ++ list_text edge_text (c.as_slice.ensures j))) i ++ list_text resource_text (c.as_slice-2.ensures i))
    ∙ eleven_fields out (bytes_text ch.certname) (bytes_text ch.version) (optional bytes_text ch.environment)
    (optional bytes_text ch.transaction_uuid) (optional bytes_text ch.catalog_uuid) (optional bytes_text ch.code_id) (optional bytes_text ch.job_id)
    (moment_text ch.stamp) (optional bytes_text ch.producer) (list_text edge_text ch.edges) (list_text resource_text ch.resources)
