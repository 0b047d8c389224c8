-- Reports that are one have one timestamp, and commands of a trace are told by their receipts.
use Rattle.std.proofs.Common.{◌≡◌, ◌≢◌, ◌∙◌, ℕ, ℤ, List, [], ◌∷◌, refl, sym, ap, Bool, true, false, ◌&&◌, Option, Some, None, if◌then◌else◌, codes, inl, inr}
use Rattle.std.specs.List.{AllByRecursion}
use Rattle.std.specs.Str.{bytes_eq}
use Rattle.std.proofs.lemmas.Slice.Eq.{bytes_eq-Decides}
use Rattle.table_spec.specs.text_spec.Json.{Json, string, object, members_list, find_member}
use Rattle.table_spec.specs.text_spec.Compact.{arranged}
use Rattle.history_laws.proofs.of_text_laws.ValueLaws.{canonical_tells}
use Rattle.table_spec.specs.fleet_rows.Printed.{full_text}
use Rattle.table_spec.specs.fleet_rows.declared.change.Change.{Change}
use Rattle.table_spec.specs.fleet_rows.declared.change.Change.TheVariants.{Facts, Catalog, Report, Deactivate, Expiration}
use Rattle.table_spec.specs.fleet_rows.declared.change.ReportChange.{ReportChange}
use Rattle.table_spec.specs.fleet_rows.declared.settings.Ttls.{Ttls}
use Rattle.table_spec.specs.fleet_rows.Change.{change_certname, change_stamp}
use Rattle.table_spec.specs.history_spec.Lawful.{IsChange, HasStamp}
use Rattle.table_spec.proofs.of_stamp_time.RangeLaws.{stamp_in_range, stamp_is_printable}
use Rattle.table_spec.specs.fleet_rows.declared.applied.Applied.{Applied}
use Rattle.table_spec.specs.history_spec.Trace.{applied, swept, Trace, IsTrace, receipts}
use Rattle.table_spec.specs.history_spec.Node.{is_purged}
use Rattle.table_spec.specs.history_spec.Life.{life, greatest_expiry}
use Rattle.table_spec.specs.history_spec.Report.{report_object, report_text, is_same_report}
use Rattle.history_laws.specs.PrintedLaws.{IsInFourDigitYear}
use Rattle.table_spec.proofs.of_plain_laws.Members.{Among, All-Among}
use Rattle.history_laws.proofs.PrintedTexts.{printed_in_four_digit_year, printable_is_printed, full_texts_tell_the_moment}
use Rattle.table_machine.proofs.ReportColumns.{reports_have_json_columns}
use Rattle.table_machine.proofs.KeptReports.{HaveDistinctReceipts, ReceiptsTell, SameStamps, receipts_tell}

-- ---- two reports

under : List ℕ → Json → Option Json
under k (object ms) = find_member k (members_list ms)
under k _ = None

text_in : Option Json → List ℕ
text_in (Some (string s)) = s
text_in _ = []

printed_stamp : (r : ReportChange) → text_in (under (codes "producer_timestamp") (arranged (report_object r))) ≡ full_text r.stamp
unfolding under text_in
printed_stamp r = refl

-- moments that stamps name are told by their full text
in_four_digit_year : (m : ℤ) → HasStamp m → IsInFourDigitYear m
in_four_digit_year m h = printed_in_four_digit_year (full_text m) m (printable_is_printed m (stamp_is_printable m (stamp_in_range h.0 m h.1)))

one_moment : (m n : ℤ) → HasStamp m → HasStamp n → full_text m ≡ full_text n → m ≡ n
one_moment m n h k e = full_texts_tell_the_moment m n (in_four_digit_year m h) (in_four_digit_year n k) e

stamps_of_text : (r q : ReportChange) → IsChange (Report r) → IsChange (Report q) → report_text r ≡ report_text q → r.stamp ≡ q.stamp
stamps_of_text r q h k e =
    one_moment r.stamp q.stamp h.stamp k.stamp
    (sym (printed_stamp r) ∙ ap (λ j. text_in (under (codes "producer_timestamp") j)) (canonical_tells (report_object r) (report_object q) (reports_have_json_columns r h) (reports_have_json_columns q k) e) ∙ printed_stamp q)

one_stamp : (a b : Change) → IsChange a → IsChange b → is_same_report a b ≡ true → change_stamp a ≡ change_stamp b
one_stamp (Report r) (Report q) h k e = stamps_of_text r q h k ((bytes_eq-Decides (report_text r) (report_text q)).0 e)
one_stamp (Report r) (Facts d) h k e = absurd (let apart : false ≡ true = e in cc)
one_stamp (Report r) (Catalog d) h k e = absurd (let apart : false ≡ true = e in cc)
one_stamp (Report r) (Deactivate d) h k e = absurd (let apart : false ≡ true = e in cc)
one_stamp (Report r) (Expiration d) h k e = absurd (let apart : false ≡ true = e in cc)
one_stamp (Facts c) b h k e = absurd (let apart : false ≡ true = e in cc)
one_stamp (Catalog c) b h k e = absurd (let apart : false ≡ true = e in cc)
one_stamp (Deactivate c) b h k e = absurd (let apart : false ≡ true = e in cc)
one_stamp (Expiration c) b h k e = absurd (let apart : false ≡ true = e in cc)

-- ---- the commands of a trace

pub commands : Trace → List Applied
commands [] = []
commands (applied x ∷ earlier) = x ∷ commands earlier
commands (swept kinds m ∷ earlier) = commands earlier

lawful : (history : Trace) → IsTrace history → (x : Applied) → Among x (commands history) → IsChange x.change
unfolding commands
lawful [] h x a = absurd a
lawful (applied y ∷ earlier) h x (inl e) = rw e h.0
lawful (applied y ∷ earlier) h x (inr a) = lawful earlier h.4 x a
lawful (swept kinds m ∷ earlier) h x a = lawful earlier h.1 x a

commands_have_one_stamp : (history : Trace) → IsTrace history → SameStamps (commands history)
commands_have_one_stamp history h x y a d e = one_stamp x.change y.change (lawful history h x a) (lawful history h y d) e

receipt_among : (history : Trace) (x : Applied) → Among x (commands history) → Among x.receipt (receipts history)
unfolding commands
receipt_among [] x a = a
receipt_among (applied y ∷ earlier) x (inl e) = inl (ap (λ (z : Applied). z.receipt) e)
receipt_among (applied y ∷ earlier) x (inr a) = inr (receipt_among earlier x a)
receipt_among (swept kinds m ∷ earlier) x a = receipt_among earlier x a

pub not_again : (x y : Applied) (earlier : Trace) → AllByRecursion (λ r. r ≢ x.receipt) (receipts earlier) → Among y (commands earlier) → y.receipt ≡ x.receipt → ⊥
not_again x y earlier h a e = All-Among (λ r. r ≢ x.receipt) (receipts earlier) y.receipt h (receipt_among earlier y a) e

commands_are_distinct : (history : Trace) → IsTrace history → HaveDistinctReceipts (commands history)
unfolding commands
commands_are_distinct [] h = tt
commands_are_distinct (applied x ∷ earlier) h = (λ y a. not_again x y earlier h.3 a, commands_are_distinct earlier h.4)
commands_are_distinct (swept kinds m ∷ earlier) h = commands_are_distinct earlier h.1

pub commands_are_told : (history : Trace) → IsTrace history → ReceiptsTell (commands history)
commands_are_told history h = receipts_tell (commands history) (commands_are_distinct history h)

-- ---- the commands of a life

module _ (ttls : Ttls) (node : List ℕ) where
  of_command : (b : Bool) (x y : Applied) (earlier : Trace) → Among y (if b then x ∷ life ttls node earlier else life ttls node earlier) → (Among y (life ttls node earlier) → Among y (commands earlier)) → Among y (commands (applied x ∷ earlier))
  unfolding commands
  of_command true x y earlier (inl e) next = inl e
  of_command true x y earlier (inr a) next = inr (next a)
  of_command false x y earlier a next = inr (next a)

  of_sweep : (b : Bool) (y : Applied) (earlier : Trace) → Among y (if b then [] else life ttls node earlier) → (Among y (life ttls node earlier) → Among y (commands earlier)) → Among y (commands earlier)
  of_sweep true y earlier a next = absurd a
  of_sweep false y earlier a next = next a

  pub life_among : (history : Trace) (x : Applied) → Among x (life ttls node history) → Among x (commands history)
  unfolding commands
  life_among [] x a = a
  life_among (applied y ∷ earlier) x a = of_command (bytes_eq node (change_certname y.change)) y x earlier a (life_among earlier x)
  life_among (swept kinds m ∷ earlier) x a =
      of_sweep (kinds.purge && is_purged ttls m (greatest_expiry (swept kinds m ∷ earlier)) (life ttls node earlier)) x earlier a (life_among earlier x)

  life_and_command : (y x : Applied) (history : Trace) → Among y (x ∷ life ttls node history) → Among y (commands (applied x ∷ history))
  unfolding commands
  life_and_command y x history (inl e) = inl e
  life_and_command y x history (inr a) = inr (life_among history y a)

  command_step : (b : Bool) (x : Applied) (earlier : Trace) → IsTrace (applied x ∷ earlier) → HaveDistinctReceipts (life ttls node earlier) → HaveDistinctReceipts (if b then x ∷ life ttls node earlier else life ttls node earlier)
  command_step true x earlier h next = ((λ y a. not_again x y earlier h.3 (life_among earlier y a)), next)
  command_step false x earlier h next = next

  sweep_step : (b : Bool) (xs : List Applied) → HaveDistinctReceipts xs → HaveDistinctReceipts (if b then [] else xs)
  sweep_step true xs h = tt
  sweep_step false xs h = h

  pub life_is_distinct : (history : Trace) → IsTrace history → HaveDistinctReceipts (life ttls node history)
  life_is_distinct [] h = tt
  life_is_distinct (applied x ∷ earlier) h = command_step (bytes_eq node (change_certname x.change)) x earlier h (life_is_distinct earlier h.4)
  life_is_distinct (swept kinds m ∷ earlier) h =
      sweep_step (kinds.purge && is_purged ttls m (greatest_expiry (swept kinds m ∷ earlier)) (life ttls node earlier)) (life ttls node earlier) (life_is_distinct earlier h.1)

  pub command_is_distinct : (x : Applied) (history : Trace) → IsTrace (applied x ∷ history) → HaveDistinctReceipts (x ∷ life ttls node history)
  command_is_distinct x history h = (λ y a. not_again x y history h.3 (life_among history y a), life_is_distinct history h.4)

  pub life_has_one_stamp : (x : Applied) (history : Trace) → IsTrace (applied x ∷ history) → SameStamps (x ∷ life ttls node history)
  life_has_one_stamp x history h y z a d e = commands_have_one_stamp (applied x ∷ history) h y z (life_and_command y x history a) (life_and_command z x history d) e
