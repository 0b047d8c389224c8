-- Examples: a valid and an invalid request on one connection, with their answers; answers with numbers; repeated fields.
use Rattle.std.specs.Prelude.{ℕ, true, false, List, [], ◌∷◌, ◌++◌, codes, Some, None}
use Rattle.httparse.specs.Ascii.{crlf_bytes}
use Rattle.http_spec.specs.declared.answer.Answer.{Answer}
use Rattle.http_spec.specs.declared.request.Head.{Head}
use Rattle.http_spec.specs.declared.request.Request.{Request}

abbrev pub two_requests : List ℕ
two_requests = codes "GET /pdb/query/v4/nodes HTTP/1.1" ++ crlf_bytes ++ crlf_bytes ++ codes "BAD" ++ crlf_bytes ++ crlf_bytes

abbrev pub nodes_request : Request
nodes_request = record { method = codes "GET"; target = codes "/pdb/query/v4/nodes"; headers = []; body = []; ends = false }

abbrev pub no_rows : Answer
no_rows = record { code = 200; records = None; seen = None; close = false; body = codes "[]" }

abbrev pub two_answers : List ℕ
two_answers =
    codes "HTTP/1.1 200 OK" ++ crlf_bytes ++ codes "Content-Type: application/json" ++ crlf_bytes ++ codes "Content-Length: 2" ++ crlf_bytes
    ++ crlf_bytes ++ codes "[]"
    ++ codes "HTTP/1.1 400 Bad Request" ++ crlf_bytes ++ codes "Content-Type: application/json" ++ crlf_bytes ++ codes "Content-Length: 20" ++ crlf_bytes
    ++ codes "Connection: close" ++ crlf_bytes ++ crlf_bytes ++ codes "{\"error\":\"bad head\"}"

-- a field with this name and value
abbrev pub field : List ℕ → List ℕ → Head
field name value = record { name = name; value = value }

-- an answer with both numbers, and one with only how much was seen
abbrev pub counted_rows : Answer
counted_rows = record { code = 200; records = Some 5; seen = Some 12; close = true; body = codes "[]" }

abbrev pub counted_answer : List ℕ
counted_answer =
    codes "HTTP/1.1 200 OK" ++ crlf_bytes ++ codes "Content-Type: application/json" ++ crlf_bytes ++ codes "Content-Length: 2" ++ crlf_bytes
    ++ codes "X-Records: 5" ++ crlf_bytes ++ codes "X-Fleet-Seen: 12" ++ crlf_bytes ++ codes "Connection: close" ++ crlf_bytes ++ crlf_bytes ++ codes "[]"

abbrev pub seen_rows : Answer
seen_rows = record { code = 503; records = None; seen = Some 0; close = false; body = codes "{}" }

abbrev pub seen_answer : List ℕ
seen_answer =
    codes "HTTP/1.1 503 Service Unavailable" ++ crlf_bytes ++ codes "Content-Type: application/json" ++ crlf_bytes ++ codes "Content-Length: 2" ++ crlf_bytes
    ++ codes "X-Fleet-Seen: 0" ++ crlf_bytes ++ crlf_bytes ++ codes "{}"

-- a field of another name, then two fields of one name in different case
abbrev pub seen_twice : List Head
seen_twice = field (codes "X-Fleet") (codes "6") ∷ field (codes "x-FLEET-seen") (codes "7") ∷ field (codes "X-Fleet-Seen") (codes "8") ∷ []
