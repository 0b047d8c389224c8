-- The columns of a report are a JSON value where its texts are UTF-8 and its lists hold values.
use Rattle.std.proofs.Common.{◌≡◌, ℕ, zero, suc, ◌+◌, ◌%◌, ◌/◌, ◌<◌, ◌^◌, ℤ, List, [], ◌∷◌, ◌++◌, take, arith, refl, sym, ◌∙◌, Bool, true, false, ◌&&◌, Option, Some, None, codes}
use Rattle.std.specs.Prelude.{decimal, nat_lt}
use Rattle.std.specs.List.{AllByRecursion, list_all}
use Rattle.std.specs.Str.{IsUtf8, IsAscii}
use Rattle.std.proofs.lemmas.Str.{IsUtf8-from_ascii, IsAscii-append, IsAscii-take}
use Rattle.std.proofs.lemmas.Fmt.{decimal_is_IsNumeral, decimal_digit, first_decimal}
use Rattle.std.proofs.lemmas.List.{append-nil}
use Rattle.table_spec.specs.text_spec.Json.{Json, items_of}
use Rattle.table_spec.specs.text_spec.Number.{IsNumber, IsWhole}
use Rattle.table_spec.proofs.of_text_spec.NumberParts.{whole_numeral}
use Rattle.table_spec.specs.text_spec.Stamp.{Clock, digits_text, date_text, hour_text, clock_text}
use Rattle.table_spec.specs.json_machine.Values.{IsValue, AreValues}
use Rattle.table_spec.specs.fleet_rows.Printed.{clock_at, full_text}
use Rattle.table_spec.specs.fleet_rows.declared.change.ReportChange.{ReportChange}
use Rattle.table_spec.specs.history_spec.Lawful.{IfWhole, IfText, IsJson, IsReportChange}
use Rattle.table_machine.specs.Laws as laws
use Rattle.table_spec.specs.history_spec.Report.{text_or_null, bool_or_null, number_or_null, stamp_or_null, report_object}

-- ---- the text of a moment

ascii-cons : (x : ℕ) (xs : List ℕ) → x < 128 → IsAscii xs → IsAscii (x ∷ xs)
ascii-cons x xs h k zero = h
ascii-cons x xs h k (suc i) = k i

ascii-nil : IsAscii []
ascii-nil i = omega arith

ascii-digits : (width n : ℕ) → IsAscii (digits_text width n)
ascii-digits zero n = ascii-nil
ascii-digits (suc width) n = IsAscii-append (digits_text width (n / 10)) ((48 + n % 10) ∷ []) (ascii-digits width (n / 10)) (ascii-cons (48 + n % 10) [] (omega arith) ascii-nil)

-- a text, a byte, and what stands behind it
ascii-joined : (xs : List ℕ) (b : ℕ) (ys : List ℕ) → b < 128 → IsAscii xs → IsAscii ys → IsAscii (xs ++ b ∷ ys)
ascii-joined xs b ys h k l = IsAscii-append xs (b ∷ ys) k (ascii-cons b ys h l)

ascii-date : (year month day : ℕ) → IsAscii (date_text year month day)
ascii-date year month day =
    ascii-joined (digits_text 4 year) 45 (digits_text 2 month ++ 45 ∷ digits_text 2 day) (omega arith) (ascii-digits 4 year)
    (ascii-joined (digits_text 2 month) 45 (digits_text 2 day) (omega arith) (ascii-digits 2 month) (ascii-digits 2 day))

ascii-hour : (hour minute : ℕ) → IsAscii (hour_text hour minute)
ascii-hour hour minute = ascii-joined (digits_text 2 hour) 58 (digits_text 2 minute) (omega arith) (ascii-digits 2 hour) (ascii-digits 2 minute)

pub ascii-clock : (n : ℕ) (c : Clock) → IsAscii (clock_text n c)
ascii-clock n c =
    let fraction = take n (digits_text 9 c.nanos) ++ 90 ∷ [] in
    ascii-joined (date_text c.year c.month c.day) 84 (hour_text c.hour c.minute ++ 58 ∷ (digits_text 2 c.second ++ 46 ∷ fraction)) (omega arith) (ascii-date c.year c.month c.day)
    (ascii-joined (hour_text c.hour c.minute) 58 (digits_text 2 c.second ++ 46 ∷ fraction) (omega arith) (ascii-hour c.hour c.minute)
    (ascii-joined (digits_text 2 c.second) 46 fraction (omega arith) (ascii-digits 2 c.second)
    (ascii-joined (take n (digits_text 9 c.nanos)) 90 [] (omega arith) (IsAscii-take (digits_text 9 c.nanos) n (ascii-digits 9 c.nanos)) ascii-nil)))

full_text_is_utf8 : (m : ℤ) → IsUtf8 (full_text m)
unfolding full_text
full_text_is_utf8 m = IsUtf8-from_ascii (clock_text 9 (clock_at m)) (ascii-clock 9 (clock_at m))

stamp_is_value : (o : Option ℤ) → IsValue (stamp_or_null o)
stamp_is_value None = tt
stamp_is_value (Some m) = full_text_is_utf8 m

-- ---- the spelling of a number

decimal_is_whole : (n : ℕ) → n < 10 ^ 18 → IsWhole (decimal n)
decimal_is_whole zero h = rw (decimal_digit 0 (omega arith)) ((omega arith, tt), λ e. refl)
decimal_is_whole (suc n) h = whole_numeral (decimal (suc n)) (decimal_is_IsNumeral (suc n) (omega arith)).0 (first_decimal (suc n) (omega arith) (omega arith))

decimal_is_number : (n : ℕ) → n < 10 ^ 18 → IsNumber (decimal n)
decimal_is_number n h = (record { minus = false; whole = decimal n; fraction = None; exponent = None }, (decimal_is_whole n h, tt, tt), sym (append-nil (decimal n ++ []) ∙ append-nil (decimal n)))

pub number_is_value : (o : Option ℕ) → IfWhole o → IsValue (number_or_null o)
number_is_value None h = tt
number_is_value (Some n) h = decimal_is_number n h

-- ---- the columns

pub are_values : (most : ℕ) (js : List Json) → AllByRecursion (IsJson most) js → AreValues (items_of js)
are_values most [] h = tt
are_values most (j ∷ js) h = (h.0.value, are_values most js h.1)

pub bool_is_value : (o : Option Bool) → IsValue (bool_or_null o)
bool_is_value None = tt
bool_is_value (Some b) = tt

pub text_is_value : (o : Option (List ℕ)) → IfText o → IsValue (text_or_null o)
text_is_value None h = tt
text_is_value (Some s) h = h.utf8

-- ---- the keys

ascii_step : (b : Bool) (x : ℕ) (xs : List ℕ) → nat_lt x 128 ≡ b → (b && list_all (λ y. nat_lt y 128) xs) ≡ true → (list_all (λ y. nat_lt y 128) xs ≡ true → IsAscii xs) → IsAscii (x ∷ xs)
ascii_step true x xs e h next = ascii-cons x xs (grind arith) (next h)
ascii_step false x xs e h next = absurd (let apart : false ≡ true = h in cc)

pub ascii_from_all : (xs : List ℕ) → list_all (λ x. nat_lt x 128) xs ≡ true → IsAscii xs
ascii_from_all [] h = ascii-nil
ascii_from_all (x ∷ xs) h = ascii_step (nat_lt x 128) x xs refl h (ascii_from_all xs)

pub key : (k : List ℕ) → list_all (λ x. nat_lt x 128) k ≡ true → IsUtf8 k
key k h = IsUtf8-from_ascii k (ascii_from_all k h)

object_is_value : (r : ReportChange) → IsReportChange r → IsValue (report_object r)
object_is_value r h = (
  (
    key (codes "certname") refl,
    h.certname.1.utf8,
    (
      key (codes "configuration_version") refl,
      text_is_value r.configuration_version h.configuration_version,
      (
        key (codes "end_time") refl,
        stamp_is_value r.end_time,
        (
          key (codes "environment") refl,
          text_is_value r.environment h.environment,
          (
            key (codes "logs") refl,
            are_values 125 r.logs h.logs.elements,
            (
              key (codes "metrics") refl,
              are_values 125 r.metrics h.metrics.elements,
              (
                key (codes "noop") refl,
                bool_is_value r.noop,
                (
                  key (codes "producer") refl,
                  text_is_value r.producer h.producer,
                  (
                    key (codes "producer_timestamp") refl,
                    full_text_is_utf8 r.stamp,
                    (
                      key (codes "puppet_version") refl,
                      text_is_value r.puppet_version h.puppet_version,
                      (
                        key (codes "report_format") refl,
                        number_is_value r.report_format h.report_format,
                        (
                          key (codes "resources") refl,
                          are_values 125 r.resources h.resources.elements,
                          (
                            key (codes "start_time") refl,
                            stamp_is_value r.start_time,
                            (
                              key (codes "status") refl,
                              text_is_value r.status h.status,
                              (key (codes "transaction_uuid") refl, text_is_value r.transaction_uuid h.transaction_uuid, tt),
                            ),
                          ),
                        ),
                      ),
                    ),
                  ),
                ),
              ),
            ),
          ),
        ),
      ),
    ),
  ),
  (refl, (refl, (refl, (refl, (refl, (refl, (refl, (refl, (refl, (refl, (refl, (refl, (refl, (refl, (refl, tt))))))))))))))),
)

pub reports_have_json_columns : laws.ReportsHaveJsonColumns
reports_have_json_columns r h = object_is_value r h
