-- The parts of a spelling, and numbers beside others.
use Rattle.std.proofs.Common.{◌≡◌, refl, true, false, Some, None, codes}
use Rattle.std.specs.declared.cmp.Ordering.TheVariants.{Less, Equal, Greater}
use Rattle.json_machine.specs.text_spec.Json.{number}
use Rattle.json_machine.specs.text_spec.Number.{number_in, scaled, compare}
use Rattle.json_machine.specs.text_spec.Order.{order, same}

parts : number_in (codes "-12.50e+3") ≡ record { minus = true; whole = codes "12"; fraction = Some (codes "50"); exponent = Some (record { letter = 101; sign = codes "+"; digits = codes "3" }) }
parts = refl

whole_alone : number_in (codes "7") ≡ record { minus = false; whole = codes "7"; fraction = None; exponent = None }
whole_alone = refl

-- zero has no sign
minus_zero_is_zero : compare (codes "-0.0") (codes "0E7") ≡ Some Equal
unfolding scaled
minus_zero_is_zero = refl

above : compare (codes "12.5") (codes "1.2e1") ≡ Some Greater
unfolding scaled
above = refl

-- a scaled number has no order with one that isn't, though it is far below
no_order_with_unscaled : compare (codes "1") (codes "1e400") ≡ None
unfolding scaled
no_order_with_unscaled = refl

too_large_by_value : same (number (codes "1e400")) (number (codes "10e399")) ≡ false
unfolding scaled
too_large_by_value = refl

-- where one value is spelt in two ways, the bytes decide
by_value_first : order (number (codes "2")) (number (codes "1.5e1")) ≡ Less
unfolding scaled
by_value_first = refl

then_by_spelling : order (number (codes "1e1")) (number (codes "10")) ≡ Greater
unfolding scaled
then_by_spelling = refl

unscaled_by_spelling : order (number (codes "2e400")) (number (codes "1e500")) ≡ Greater
unfolding scaled
unscaled_by_spelling = refl
