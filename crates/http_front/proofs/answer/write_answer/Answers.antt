use Rattle.std.proofs.Common.{◌≡◌, ◌∙◌, ℕ, List, [], ◌++◌, sym, ap, append_assoc}
use Rattle.std.specs.Prelude.{codes, length}
use Rattle.httparse.specs.Ascii.{crlf_bytes}
use Rattle.http_spec.specs.Answers.{number_text}
use Rattle.http_front.proofs.answer.write_answer.Goals as goal

-- the parts that were added to nothing, one after the other
joined : (t0 t1 t2 t3 t4 t5 t6 t7 t8 status kind line size records seen close empty body : List ℕ) → t0 ≡ [] → t1 ≡ t0 ++ status → t2 ≡ t1 ++ (kind ++ line) → t3 ≡ t2 ++ size → t4 ≡ t3 ++ records → t5 ≡ t4 ++ seen
    → t6 ≡ t5 ++ close → t7 ≡ t6 ++ empty → t8 ≡ t7 ++ body → t8 ≡ ((((((((status ++ kind) ++ line) ++ size) ++ records) ++ seen) ++ close) ++ empty) ++ body)
joined t0 t1 t2 t3 t4 t5 t6 t7 t8 status kind line size records seen close empty body e0 e1 e2 e3 e4 e5 e6 e7 e8 =
    let r1 : t1 ≡ status = e1 ∙ ap (λ t. t ++ status) e0 in
    let r2 : t2 ≡ (status ++ kind) ++ line = e2 ∙ ap (λ t. t ++ (kind ++ line)) r1 ∙ sym (append_assoc status kind line) in
    let r3 : t3 ≡ ((status ++ kind) ++ line) ++ size = e3 ∙ ap (λ t. t ++ size) r2 in
    let r4 : t4 ≡ (((status ++ kind) ++ line) ++ size) ++ records = e4 ∙ ap (λ t. t ++ records) r3 in
    let r5 : t5 ≡ ((((status ++ kind) ++ line) ++ size) ++ records) ++ seen = e5 ∙ ap (λ t. t ++ seen) r4 in
    let r6 : t6 ≡ (((((status ++ kind) ++ line) ++ size) ++ records) ++ seen) ++ close = e6 ∙ ap (λ t. t ++ close) r5 in
    let r7 : t7 ≡ ((((((status ++ kind) ++ line) ++ size) ++ records) ++ seen) ++ close) ++ empty = e7 ∙ ap (λ t. t ++ empty) r6 in
    e8 ∙ ap (λ t. t ++ body) r7

pub returns : goal.returns
returns c =
    let body = c.as_slice-body.ensures in
    let size = c.in_ok-write_number.ensures ∙ ap (λ (xs : List ℕ). c.extend_from_slice.new.self.items ++ number_text (codes "Content-Length: ") (length xs)) body in
    let last = c.in_ok-extend_from_slice-3.ensures.items ∙ ap (λ (xs : List ℕ). c.extend_from_slice-2.new.self.items ++ xs) body in
    c.from_vec.ensures
    ∙ joined _ _ _ _ _ _ _ _ _ _ (codes "Content-Type: application/json") crlf_bytes _ _ _ _ _ _ (c.in_ok-reserve.ensures.items ∙ c.new-text.ensures.items) c.in_ok-write_status.ensures c.in_ok-extend_from_slice.ensures.items size c.in_ok-write_records.ensures c.in_ok-write_seen.ensures c.in_ok-write_close.ensures c.in_ok-extend_from_slice-2.ensures.items last
