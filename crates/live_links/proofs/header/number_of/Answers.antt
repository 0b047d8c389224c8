use Rattle.std.proofs.Common.{sym, subst}
use Rattle.std.specs.Str.{IsUtf8}
use Rattle.live_links.proofs.Numbers.{decimal_is_text}
use Rattle.live_links.proofs.header.number_of.Goals as goal

pub returns-in-Err : goal.returns-in-Err
returns-in-Err c m small is = c.in-Err.ensures.cases.0 (subst IsUtf8 (sym is) (decimal_is_text m small))
