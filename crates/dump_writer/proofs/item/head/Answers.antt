use Rattle.std.proofs.Common.{refl, lit<}
use Rattle.std.proofs.lemmas.Fmt.{decimal_digit}
use Rattle.dump_writer.proofs.item.head.Goals as goal

pub returns-in-Facts : goal.returns-in-Facts
returns-in-Facts c = rw (c.in-Facts.is, decimal_digit 5 (lit< tt)) refl

pub returns-in-Catalog : goal.returns-in-Catalog
returns-in-Catalog c = rw (c.in-Catalog.is, decimal_digit 9 (lit< tt)) refl

pub returns-in-Report : goal.returns-in-Report
returns-in-Report c = rw (c.in-Report.is, decimal_digit 8 (lit< tt)) refl

pub returns-in-Deactivate : goal.returns-in-Deactivate
returns-in-Deactivate c = rw (c.in-Deactivate.is, decimal_digit 3 (lit< tt)) refl

pub returns-in-Expiration : goal.returns-in-Expiration
returns-in-Expiration c = rw (c.in-Expiration.is, decimal_digit 1 (lit< tt)) refl
