-- Texts, and what is said of them: the machine comes to a verdict, and its verdict is true.
use Rattle.std.proofs.Common.{◌≡◌, ℕ, zero, suc, List, [], ◌∷◌, refl, subst, false, codes}
use Rattle.std.specs.Char.{encode_utf8}
use Rattle.text_spec.specs.Json.{Json, boolean, number, string, array, object, no_items, item, items_of, members_of}
use Rattle.text_spec.specs.JsonText.{Spells, NotJsonAt, TooDeepAt}
use Rattle.json_machine.specs.Verdict.{Verdict, spelled, not_json, too_deep, Means}
use Rattle.json_machine.specs.Machine.{value, verdict}
use Rattle.json_machine.proofs.Law.{verdict_means}

told : (bytes : List ℕ) (v : Verdict) → verdict 127 [] value 0 bytes ≡ v → Means bytes v
told bytes v e = subst (Means bytes) e (verdict_means bytes)

-- ---- the texts of RFC 8259, section 13

image : List ℕ
image = codes "{\n  \"Image\": {\n      \"Width\":  800,\n      \"Height\": 600,\n      \"Title\":  \"View from 15th Floor\",\n      \"Thumbnail\": {\n          \"Url\":    \"http://www.example.com/image/481989943\",\n          \"Height\": 125,\n          \"Width\":  100\n      },\n      \"Animated\" : false,\n      \"IDs\": [116, 943, 234, 38793]\n    }\n}"

thumbnail : Json
thumbnail = object (members_of (
    (codes "Url", string (codes "http://www.example.com/image/481989943"))
    ∷ (codes "Height", number (codes "125"))
    ∷ (codes "Width", number (codes "100"))
    ∷ []))

image_value : Json
image_value = object (members_of ((
  codes "Image",
  object (members_of (
      (codes "Width", number (codes "800"))
      ∷ (codes "Height", number (codes "600"))
      ∷ (codes "Title", string (codes "View from 15th Floor"))
      ∷ (codes "Thumbnail", thumbnail)
      ∷ (codes "Animated", boolean false)
      ∷ (codes "IDs", array (items_of (number (codes "116") ∷ number (codes "943") ∷ number (codes "234") ∷ number (codes "38793") ∷ [])))
      ∷ [])),
) ∷ []))

the_image : Spells image image_value
unfolding image image_value thumbnail
the_image = told image (spelled _) refl

places : List ℕ
places = codes "[\n  {\n     \"precision\": \"zip\",\n     \"Latitude\":  37.7668,\n     \"Longitude\": -122.3959,\n     \"Address\":   \"\",\n     \"City\":      \"SAN FRANCISCO\",\n     \"State\":     \"CA\",\n     \"Zip\":       \"94107\",\n     \"Country\":   \"US\"\n  },\n  {\n     \"precision\": \"zip\",\n     \"Latitude\":  37.371991,\n     \"Longitude\": -122.026020,\n     \"Address\":   \"\",\n     \"City\":      \"SUNNYVALE\",\n     \"State\":     \"CA\",\n     \"Zip\":       \"94085\",\n     \"Country\":   \"US\"\n  }\n]"

place : List ℕ → List ℕ → List ℕ → List ℕ → Json
place latitude longitude city zip = object (members_of (
    (codes "precision", string (codes "zip"))
    ∷ (codes "Latitude", number latitude)
    ∷ (codes "Longitude", number longitude)
    ∷ (codes "Address", string [])
    ∷ (codes "City", string city)
    ∷ (codes "State", string (codes "CA"))
    ∷ (codes "Zip", string zip)
    ∷ (codes "Country", string (codes "US"))
    ∷ []))

places_value : Json
places_value = array (items_of (
    place (codes "37.7668") (codes "-122.3959") (codes "SAN FRANCISCO") (codes "94107")
    ∷ place (codes "37.371991") (codes "-122.026020") (codes "SUNNYVALE") (codes "94085")
    ∷ []))

the_places : Spells places places_value
unfolding places places_value place
the_places = told places (spelled _) refl

hello : Spells (codes "\"Hello world!\"") (string (codes "Hello world!"))
hello = told (codes "\"Hello world!\"") (spelled _) refl

-- ---- equal keys: the later value in the first place

later_equal_key : Spells (codes "{\"a\":1,\"b\":2,\"a\":3}") (object (members_of ((codes "a", number (codes "3")) ∷ (codes "b", number (codes "2")) ∷ [])))
later_equal_key = told (codes "{\"a\":1,\"b\":2,\"a\":3}") (spelled (object (members_of ((codes "a", number (codes "3")) ∷ (codes "b", number (codes "2")) ∷ [])))) refl

equal_keys_within : Spells (codes "[{\"a\":{\"b\":1,\"b\":2}}]") (array (items_of (object (members_of ((codes "a", object (members_of ((codes "b", number (codes "2")) ∷ []))) ∷ [])) ∷ [])))
equal_keys_within = told (codes "[{\"a\":{\"b\":1,\"b\":2}}]") (spelled (array (items_of (object (members_of ((codes "a", object (members_of ((codes "b", number (codes "2")) ∷ []))) ∷ [])) ∷ [])))) refl

-- keys are compared by what they stand for
equal_key_by_escape : Spells (codes "{\"a\":1,\"\\u0061\":2}") (object (members_of ((codes "a", number (codes "2")) ∷ [])))
unfolding encode_utf8
equal_key_by_escape = told (codes "{\"a\":1,\"\\u0061\":2}") (spelled (object (members_of ((codes "a", number (codes "2")) ∷ [])))) refl

-- ---- escapes

-- the surrogate pair of section 7
g_clef : Spells (codes "\"\\uD834\\uDD1E\"") (string (0xF0 ∷ 0x9D ∷ 0x84 ∷ 0x9E ∷ []))
unfolding encode_utf8
g_clef = told (codes "\"\\uD834\\uDD1E\"") (spelled (string (0xF0 ∷ 0x9D ∷ 0x84 ∷ 0x9E ∷ []))) refl

null_character : Spells (codes "\"\\u0000\"") (string (0 ∷ []))
unfolding encode_utf8
null_character = told (codes "\"\\u0000\"") (spelled (string (0 ∷ []))) refl

high_surrogate_alone : NotJsonAt (codes "\"\\uD834\"") 7
high_surrogate_alone = told (codes "\"\\uD834\"") (not_json 7) refl

low_surrogate_alone : NotJsonAt (codes "\"\\uDD1E\"") 4
low_surrogate_alone = told (codes "\"\\uDD1E\"") (not_json 4) refl

surrogates_swapped : NotJsonAt (codes "\"\\uDD1E\\uD834\"") 4
surrogates_swapped = told (codes "\"\\uDD1E\\uD834\"") (not_json 4) refl

unknown_escape : NotJsonAt (codes "\"\\x\"") 2
unknown_escape = told (codes "\"\\x\"") (not_json 2) refl

-- ---- bytes

raw_control_byte : NotJsonAt (34 ∷ 10 ∷ 34 ∷ []) 1
raw_control_byte = told (34 ∷ 10 ∷ 34 ∷ []) (not_json 1) refl

overlong_utf8 : NotJsonAt (34 ∷ 0xC0 ∷ 0x80 ∷ 34 ∷ []) 1
overlong_utf8 = told (34 ∷ 0xC0 ∷ 0x80 ∷ 34 ∷ []) (not_json 1) refl

surrogate_in_utf8 : NotJsonAt (34 ∷ 0xED ∷ 0xA0 ∷ 0x80 ∷ 34 ∷ []) 2
surrogate_in_utf8 = told (34 ∷ 0xED ∷ 0xA0 ∷ 0x80 ∷ 34 ∷ []) (not_json 2) refl

above_all_characters : NotJsonAt (34 ∷ 0xF4 ∷ 0x90 ∷ 0x80 ∷ 0x80 ∷ 34 ∷ []) 2
above_all_characters = told (34 ∷ 0xF4 ∷ 0x90 ∷ 0x80 ∷ 0x80 ∷ 34 ∷ []) (not_json 2) refl

byte_ff : NotJsonAt (0xFF ∷ []) 0
byte_ff = told (0xFF ∷ []) (not_json 0) refl

byte_order_mark : NotJsonAt (0xEF ∷ 0xBB ∷ 0xBF ∷ 49 ∷ []) 0
byte_order_mark = told (0xEF ∷ 0xBB ∷ 0xBF ∷ 49 ∷ []) (not_json 0) refl

form_feed_is_no_space : NotJsonAt (12 ∷ 49 ∷ []) 0
form_feed_is_no_space = told (12 ∷ 49 ∷ []) (not_json 0) refl

-- ---- numbers

leading_zero : NotJsonAt (codes "01") 1
leading_zero = told (codes "01") (not_json 1) refl

point_without_digit : NotJsonAt (codes "1.") 2
point_without_digit = told (codes "1.") (not_json 2) refl

minus_alone : NotJsonAt (codes "-") 1
minus_alone = told (codes "-") (not_json 1) refl

exponent_without_digit : NotJsonAt (codes "1e+") 3
exponent_without_digit = told (codes "1e+") (not_json 3) refl

plus_first : NotJsonAt (codes "+1") 0
plus_first = told (codes "+1") (not_json 0) refl

-- ---- structure

empty_text : NotJsonAt [] 0
empty_text = told [] (not_json 0) refl

comma_without_item : NotJsonAt (codes "[1,]") 3
comma_without_item = told (codes "[1,]") (not_json 3) refl

comma_without_member : NotJsonAt (codes "{\"a\":1,}") 7
comma_without_member = told (codes "{\"a\":1,}") (not_json 7) refl

no_end : NotJsonAt (codes "[1") 2
no_end = told (codes "[1") (not_json 2) refl

trailing_bytes : NotJsonAt (codes "{} x") 3
trailing_bytes = told (codes "{} x") (not_json 3) refl

literal_cut : NotJsonAt (codes "nul") 3
literal_cut = told (codes "nul") (not_json 3) refl

-- ---- levels

times : ℕ → ℕ → List ℕ → List ℕ
times zero b bs = bs
times (suc n) b bs = b ∷ times n b bs

-- arrays in one another, n levels of them
nested : ℕ → List ℕ
nested n = times n 91 (times n 93 [])

-- an array with no item within n arrays
nested_value : ℕ → Json
nested_value zero = array no_items
nested_value (suc n) = array (item (nested_value n) no_items)

levels_127 : Spells (nested 127) (nested_value 126)
unfolding nested times nested_value
levels_127 = told (nested 127) (spelled (nested_value 126)) refl

levels_128 : TooDeepAt (nested 128) 127
unfolding nested times
levels_128 = told (nested 128) (too_deep 127) refl

-- the level counts, and not the number of brackets
side_by_side : Spells (codes "[[],[]]") (array (items_of (array no_items ∷ array no_items ∷ [])))
side_by_side = told (codes "[[],[]]") (spelled _) refl
