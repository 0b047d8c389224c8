-- The text of a spool that is made from a seed. Facts, facts, a catalog and a report take turns, over fifty nodes and one day.
use Rattle.std.specs.Prelude.{ℕ, zero, suc, ◌+◌, ◌*◌, ◌/◌, ◌%◌, ◌^◌, ◌==◌, ℤ, pos, List, [], ◌∷◌, ◌++◌, if◌then◌else◌, codes, decimal, length}
use Rattle.spool_spec.specs.text_spec.Stamp.{hour_text, digits_text}
use Rattle.spool_spec.specs.fleet_rows.declared.command.Command.{Command}
use Rattle.spool_spec.specs.fleet_rows.declared.command.Kind.{Kind}
use Rattle.spool_spec.specs.fleet_rows.declared.command.Kind.TheVariants.{Facts, Catalog, Report}
use Rattle.spool_spec.specs.Spool.{command_text}

-- ---- numbers

abbrev pub next_number : ℕ → ℕ
next_number x = (x * 6_364_136_223_846_793_005 + 1_442_695_040_888_963_407) % (2 ^ 64)

-- the i-th number after the seed
abbrev pub number : ℕ → ℕ → ℕ
number seed zero = seed
number seed (suc i) = next_number (number seed i)

-- ---- the node and the stamp of a number

abbrev pub node_name : ℕ → List ℕ
node_name x = codes "node" ++ decimal (x / 2 ^ 33 % 50)

-- the stamp of second s of 2024-05-01, in UTC
unfoldable pub second_text : ℕ → List ℕ
second_text s = codes "2024-05-01T" ++ (hour_text (s / 3600) (s / 60 % 60) ++ 58 ∷ (digits_text 2 (s % 60) ++ codes "Z"))

abbrev pub stamp : ℕ → List ℕ
stamp x = second_text (x / 2 ^ 40 % 86_400)

-- ---- payloads, of a node, a number and a stamp

-- a payload with one fact, whose value is n
unfoldable pub facts_payload : List ℕ → ℕ → List ℕ → List ℕ
facts_payload node n stamp =
    codes "{\"certname\":\"" ++ (node ++ (codes "\",\"environment\":\"production\",\"values\":{\"k\":" ++ (decimal n
    ++ (codes "},\"producer_timestamp\":\"" ++ (stamp ++ codes "\",\"producer\":\"m\"}")))))

-- a payload with one resource, whose title ends with n
unfoldable pub catalog_payload : List ℕ → ℕ → List ℕ → List ℕ
catalog_payload node n stamp =
    codes "{\"certname\":\"" ++ (node ++ (codes "\",\"version\":\"1\",\"environment\":\"production\",\"transaction_uuid\":null,\"catalog_uuid\":null,\"code_id\":null,\"job_id\":null,\"producer_timestamp\":\"" ++ (stamp
    ++ (codes "\",\"producer\":\"m\",\"edges\":[],\"resources\":[{\"type\":\"Class\",\"title\":\"c" ++ (decimal n
    ++ codes "\",\"exported\":false,\"file\":null,\"line\":null,\"tags\":[\"class\"],\"parameters\":{}}]}")))))

-- a payload of a report, whose configuration version is n
unfoldable pub report_payload : List ℕ → ℕ → List ℕ → List ℕ
report_payload node n stamp =
    codes "{\"certname\":\"" ++ (node ++ (codes "\",\"environment\":\"production\",\"puppet_version\":\"8.0.0\",\"report_format\":12,\"configuration_version\":\"" ++ (decimal n
    ++ (codes "\",\"start_time\":\"" ++ (stamp ++ (codes "\",\"end_time\":\"" ++ (stamp ++ (codes "\",\"producer_timestamp\":\"" ++ (stamp
    ++ codes "\",\"producer\":\"m\",\"noop\":false,\"status\":\"changed\",\"transaction_uuid\":null,\"resources\":[],\"logs\":[],\"metrics\":[]}")))))))))

-- ---- items

-- Item i is a catalog if i % 4 is 2, a report if it is 3, and facts otherwise.
abbrev pub made_kind : ℕ → Kind
made_kind i = if i % 4 == 2 then Catalog else (if i % 4 == 3 then Report else Facts)

abbrev pub made_version : ℕ → ℕ
made_version i = if i % 4 == 2 then 9 else (if i % 4 == 3 then 8 else 5)

-- the payload of item i, made from the number x
unfoldable pub made_payload : ℕ → ℕ → List ℕ
made_payload i x =
    if i % 4 == 2 then catalog_payload (node_name x) (i % 7) (stamp x)
    else (if i % 4 == 3 then report_payload (node_name x) i (stamp x) else facts_payload (node_name x) i (stamp x))

-- the command of item i, received at the given moment, which its text doesn't contain
abbrev pub made_command : ℤ → ℕ → ℕ → Command
made_command received i x = record { kind = made_kind i; version = made_version i; received = received; payload = made_payload i x }

abbrev pub item_text : ℕ → ℕ → List ℕ
item_text i x = command_text (made_command (pos 0) i x)

-- the text of the first `count` items; item i is made from number i + 1 after the seed
unfoldable pub made_text : ℕ → ℕ → List ℕ
made_text seed zero = []
made_text seed (suc i) = made_text seed i ++ item_text i (number seed (suc i))
