use Rattle.std.proofs.Common.{◌∙◌, take, sym, ap, subst}
use Rattle.std.specs.Str.{IsUtf8}
use Rattle.pql_lexer.proofs.WordFronts.{word_utf8, word_found}
use Rattle.pql_lexer.proofs.word.word.Goals as goal

pub from_bytes-requires : goal.from_bytes-requires
from_bytes-requires c =
    subst IsUtf8 (sym (c.front.ensures ∙ ap (λ n. take n c.args.bytes.now) c.word_length-length.ensures.value)) (word_utf8 c.args.bytes.now)

pub returns : goal.returns
returns c = word_found _ _ _ _ _ _ c.requires c.word_length-length.ensures.value (c.in_ok-text.ensures ∙ c.front.ensures) c.in_ok-place.ensures c.word_token-token.ensures
