-- The bytes of an answer (RFC 9112, section 4), its reasons (RFC 9110, section 15), and the answers to faults.
use Rattle.std.specs.Prelude.{ℕ, Bool, true, ◌==◌, if◌then◌else◌, List, [], ◌∷◌, ◌++◌, length, codes, decimal, Option, Some, None}
use Rattle.httparse.specs.Ascii.{crlf_bytes}
use Rattle.http_spec.specs.declared.answer.Answer.{Answer}
use Rattle.http_spec.specs.declared.request.HttpFault.{HttpFault}
use Rattle.http_spec.specs.declared.request.HttpFault.TheVariants.{BadHead, BadLength, HeadTooLarge, NoLength, BodyTooLarge}

-- the reason phrase of a status code; empty for a code that is never answered
unfoldable pub reason_of : ℕ → List ℕ
reason_of code =
    if code == 200 then codes "OK" else
    (if code == 400 then codes "Bad Request" else
    (if code == 404 then codes "Not Found" else
    (if code == 405 then codes "Method Not Allowed" else
    (if code == 411 then codes "Length Required" else
    (if code == 413 then codes "Content Too Large" else
    (if code == 431 then codes "Request Header Fields Too Large" else
    (if code == 500 then codes "Internal Server Error" else
    (if code == 503 then codes "Service Unavailable" else []))))))))

-- a header field whose value is a number
abbrev pub number_text : List ℕ → ℕ → List ℕ
number_text name n = name ++ decimal n ++ crlf_bytes

-- the number of rows before paging, if the request asked for it
abbrev pub records_text : Option ℕ → List ℕ
records_text None = []
records_text (Some n) = number_text (codes "X-Records: ") n

-- how much was seen, if the answer includes it
abbrev pub seen_text : Option ℕ → List ℕ
seen_text None = []
seen_text (Some n) = number_text (codes "X-Fleet-Seen: ") n

abbrev pub close_text : Bool → List ℕ
close_text close = if close then codes "Connection: close" ++ crlf_bytes else []

-- the status line
abbrev pub status_text : ℕ → List ℕ
status_text code = codes "HTTP/1.1 " ++ decimal code ++ 32 ∷ reason_of code ++ crlf_bytes

-- the status line, the fields, an empty line and the body
abbrev pub answer_text : Answer → List ℕ
answer_text a =
    status_text a.code
    ++ codes "Content-Type: application/json" ++ crlf_bytes
    ++ number_text (codes "Content-Length: ") (length a.body)
    ++ records_text a.records ++ seen_text a.seen ++ close_text a.close ++ crlf_bytes
    ++ a.body

-- the body of an error
abbrev pub error_body : List ℕ → List ℕ
error_body text = codes "{\"error\":\"" ++ text ++ codes "\"}"

abbrev pub fault_code : HttpFault → ℕ
fault_code BadHead = 400
fault_code BadLength = 400
fault_code HeadTooLarge = 431
fault_code NoLength = 411
fault_code BodyTooLarge = 413

abbrev pub fault_text : HttpFault → List ℕ
fault_text BadHead = codes "bad head"
fault_text BadLength = codes "bad length"
fault_text HeadTooLarge = codes "head too large"
fault_text NoLength = codes "length required"
fault_text BodyTooLarge = codes "body too large"

-- the answer to a fault, which closes the connection
abbrev pub fault_answer : HttpFault → Answer
fault_answer f = record { code = fault_code f; records = None; seen = None; close = true; body = error_body (fault_text f) }

-- the answer when memory runs out
abbrev pub memory_answer : Answer
memory_answer = record { code = 500; records = None; seen = None; close = true; body = error_body (codes "out of memory") }
