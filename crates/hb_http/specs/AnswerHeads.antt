-- The text of an answer's head: its status line (RFC 9112, section 4), its headers (section 5) in
-- ascending order of their names, and the empty line.
use Rattle.std.specs.Prelude.{◌==◌, ◌++◌, ℕ, Bool, List, [], ◌∷◌, codes, decimal, Option, Some, None, IsTrue, if◌then◌else◌}
use Rattle.std.specs.List.{list_any}
use Rattle.hb_text.specs.Digests.{digest_text}
use Rattle.hb_text.specs.declared.digests.Digest.{Digest}
use Rattle.hb_http.specs.declared.answers.AnswerHead.{AnswerHead}

-- the statuses that a registry answers with
abbrev pub statuses : List ℕ
statuses = 200 ∷ 201 ∷ 202 ∷ 204 ∷ 400 ∷ 403 ∷ 404 ∷ 405 ∷ 412 ∷ 413 ∷ 416 ∷ 431 ∷ 500 ∷ 503 ∷ 507 ∷ []

abbrev pub has_phrase : ℕ → Bool
has_phrase status = list_any (λ s. s == status) statuses

-- the status is one of those, so it has a phrase
abbrev pub HasPhrase : ℕ → Type 0
HasPhrase status = IsTrue (has_phrase status)

-- the phrase of such a status (RFC 9110, section 15; of 413 the older one of RFC 7231, and of 431 and 507
-- that of RFC 6585 and RFC 4918)
abbrev pub phrase : ℕ → List ℕ
phrase status =
    if status == 200 then codes "OK" else (
    if status == 201 then codes "Created" else (
    if status == 202 then codes "Accepted" else (
    if status == 204 then codes "No Content" else (
    if status == 400 then codes "Bad Request" else (
    if status == 403 then codes "Forbidden" else (
    if status == 404 then codes "Not Found" else (
    if status == 405 then codes "Method Not Allowed" else (
    if status == 412 then codes "Precondition Failed" else (
    if status == 413 then codes "Payload Too Large" else (
    if status == 416 then codes "Range Not Satisfiable" else (
    if status == 431 then codes "Request Header Fields Too Large" else (
    if status == 500 then codes "Internal Server Error" else (
    if status == 503 then codes "Service Unavailable" else (
    if status == 507 then codes "Insufficient Storage" else []))))))))))))))

-- `HTTP/1.1`, the status and its phrase
abbrev pub status_line : ℕ → List ℕ
status_line status = codes "HTTP/1.1 " ++ decimal status ++ codes " " ++ phrase status ++ codes "\r\n"

abbrev pub header_line : List ℕ → List ℕ → List ℕ
header_line name value = name ++ codes ": " ++ value ++ codes "\r\n"

-- a header that stands where the answer has a value for it
abbrev pub text_line : List ℕ → Option (List ℕ) → List ℕ
text_line name None = []
text_line name (Some value) = header_line name value

abbrev pub number_line : List ℕ → Option ℕ → List ℕ
number_line name None = []
number_line name (Some value) = header_line name (decimal value)

abbrev pub digest_line : List ℕ → Option Digest → List ℕ
digest_line name None = []
digest_line name (Some value) = header_line name (digest_text value)

-- `Connection: close` where the connection closes behind the answer (RFC 9112, section 9.6)
abbrev pub connection_line : Bool → List ℕ
connection_line close = if close then header_line (codes "Connection") (codes "close") else []

-- how long the body is, which an answer 204 never says (RFC 9110, section 8.6)
abbrev pub length_line : ℕ → Option ℕ → List ℕ
length_line status length = if status == 204 then [] else number_line (codes "Content-Length") length

abbrev pub head_text : AnswerHead → List ℕ
head_text a =
    status_line a.status
    ++ connection_line a.close
    ++ length_line a.status a.length
    ++ text_line (codes "Content-Type") a.media
    ++ digest_line (codes "Docker-Content-Digest") a.digest
    ++ text_line (codes "Link") a.link
    ++ text_line (codes "Location") a.location
    ++ text_line (codes "Range") a.range
    ++ number_line (codes "Retry-After") a.retry
    ++ codes "\r\n"
