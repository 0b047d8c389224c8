use Rattle.std.proofs.Common.{◌≡◌, ◌∙◌, ℕ, List, take, subst, sym, ap}
use Rattle.std.specs.Io.KnownBytes.{prepend_known}
use Rattle.http_spec.specs.declared.request.Head.{Head}
use Rattle.http_spec.specs.Framing.{framing}
use Rattle.http_front.specs.Inside.{buffered}
use Rattle.http_front.specs.Link.{limited}
use Rattle.http_front.specs.declared.head.ReadHead.TheVariants as read
use Rattle.http_front.specs.Heads.{ArePartsOf, IsReadHead}
use Rattle.http_front.proofs.Requests.{bad_head, refused_head, body_next, asks_body, stops_in_body}
use Rattle.http_front.proofs.reader.Reader.read_request.Goals as goal

framed_by : (m n : List ℕ) (xs ys : List Head) → m ≡ n → xs ≡ ys → framing n ys ≡ framing m xs
framed_by m n xs ys p q = λ i. framing (sym p i) (sym q i)

pub returns-in-Sized-clause-next : goal.returns-in-Sized-clause-next
returns-in-Sized-clause-next g c =
    let buffer = c.args.self.now.buffer in
    let left = limited c.args.self.now.taken (g.L.Source.left c.args.link.now) in
    let parts = subst (λ xs. ArePartsOf c.in-Head.parts (take c.args.len xs)) c.as_slice.ensures c.in-Head.ensures in
    let same = framed_by _ _ _ _ c.as_slice-in-Head.ensures c.as_slice-in-Head-2.ensures in
    body_next c.args.len c.args.lines c.in-Sized.size (buffered buffer) left _ _ c.in-Head.parts c.requires.head c.requires.few parts (same ∙ sym c.in-Sized.ensures) (ap (λ xs. prepend_known xs left) c.advance.ensures.rest) c.read_body.result c.read_body.ensures.body

pub returns-in-Sized-clause-asks : goal.returns-in-Sized-clause-asks
returns-in-Sized-clause-asks g c =
    let parts = subst (λ xs. ArePartsOf c.in-Head.parts (take c.args.len xs)) c.as_slice.ensures c.in-Head.ensures in
    let same = framed_by _ _ _ _ c.as_slice-in-Head.ensures c.as_slice-in-Head-2.ensures in
    asks_body _ c.args.len c.args.lines c.in-Sized.size (buffered c.args.self.now.buffer) (buffered c.advance.new.self) c.in-Head.parts c.requires.head c.requires.few parts (same ∙ sym c.in-Sized.ensures) c.advance.ensures.rest c.read_body.ensures.asks

pub returns-in-Refused-clause-next : goal.returns-in-Refused-clause-next
returns-in-Refused-clause-next g c =
    let parts = subst (λ xs. ArePartsOf c.in-Head.parts (take c.args.len xs)) c.as_slice.ensures c.in-Head.ensures in
    let same = framed_by _ _ _ _ c.as_slice-in-Head.ensures c.as_slice-in-Head-2.ensures in
    refused_head c.args.len c.args.lines (buffered c.args.self.now.buffer) _ c.in-Head.parts c.in-Refused.fault c.requires.head c.requires.few parts (same ∙ sym c.in-Refused.ensures)

pub returns-in-Bad-clause-next : goal.returns-in-Bad-clause-next
returns-in-Bad-clause-next g c =
    let none = subst (λ xs. IsReadHead read.Bad (take c.args.len xs)) c.as_slice.ensures c.in-Bad.ensures in
    bad_head c.args.len c.args.lines (buffered c.args.self.now.buffer) _ c.requires.head c.requires.few none

pub returns-in-Sized-clause-fault : goal.returns-in-Sized-clause-fault
returns-in-Sized-clause-fault g c = λ h.
    let buffer = c.args.self.now.buffer in
    let left = limited c.args.self.now.taken (g.L.Source.left c.args.link.now) in
    let parts = subst (λ xs. ArePartsOf c.in-Head.parts (take c.args.len xs)) c.as_slice.ensures c.in-Head.ensures in
    let same = framed_by _ _ _ _ c.as_slice-in-Head.ensures c.as_slice-in-Head-2.ensures in
    stops_in_body c.args.len c.args.lines c.in-Sized.size (buffered buffer) left _ _ c.in-Head.parts c.requires.head c.requires.few parts (same ∙ sym c.in-Sized.ensures) (ap (λ xs. prepend_known xs left) c.advance.ensures.rest) (c.read_body.ensures.fault h)
