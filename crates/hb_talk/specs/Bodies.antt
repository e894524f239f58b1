-- How much of a body is read: all of it, where its data is short. Of a body whose length is told and isn't short, nothing;
-- and of one in chunks as much as has more data than that. Such a request is too long.
use Rattle.std.specs.Prelude.{◌≡◌, ◌<◌, ◌≤◌, ◌⊎◌, ℕ, true, List, [], length}
use Rattle.httparse.specs.Grammar.{RequestHead}
use Rattle.hb_http.specs.ChunkPlaces.{body_start, data_after}
use Rattle.hb_http.specs.Framing.{HasLength, IsChunked, asks_to_close}
use Rattle.hb_http.specs.Headers.{headers_of}
use Rattle.hb_http.specs.Readings.{AreRequests, Given, IsBodyOf}
use Rattle.hb_http.specs.Requests.{Request}
use Rattle.hb_talk.specs.declared.wanted.TheConstants.{MAX_BODY}

-- the head tells a length above the limit
abbrev pub TellsTooLong : RequestHead → Type 0
TellsTooLong h = (n : ℕ) × HasLength (headers_of h) n × (MAX_BODY < n)

-- these bytes of a body in chunks have this data, which is above the limit
abbrev pub Overruns : RequestHead → List ℕ → List ℕ → Type 0
Overruns h body content = IsChunked (headers_of h) × (data_after body_start body ≡ content) × (MAX_BODY < length content)

-- a whole body that is short
abbrev pub IsShortBody : RequestHead → List ℕ → List ℕ → Type 0
IsShortBody h body content = IsBodyOf h body content × (length content ≤ MAX_BODY)

-- these bytes behind the head are read, and this is their data
abbrev pub IsReadOf : RequestHead → List ℕ → List ℕ → Type 0
IsReadOf h body content = IsShortBody h body content ⊎ ((TellsTooLong h × (body ≡ []) × (content ≡ [])) ⊎ Overruns h body content)

-- the request ends with these bytes behind its head
abbrev pub IsReadText : RequestHead → List ℕ → Type 0
IsReadText h body = (content : List ℕ) × IsReadOf h body content

-- the length that its head tells, or the data that has come, is above the limit
abbrev pub IsTooLong : RequestHead → List ℕ → Type 0
IsTooLong h content = TellsTooLong h ⊎ (MAX_BODY < length content)

-- The connection closes behind a request whose head asks for it (RFC 9112, section 9.6), and behind one that is too long.
abbrev pub IsLast : RequestHead → List ℕ → Type 0
IsLast h content = (asks_to_close h ≡ true) ⊎ IsTooLong h content

abbrev pub Closes : RequestHead → List ℕ → Type 0
Closes h body = (content : List ℕ) × IsReadOf h body content × IsLast h content

-- one by one, these are requests of which so much was read, each with the head and the data that were given
abbrev pub AreRead : List Given → List Request → Type 0
AreRead = AreRequests IsReadOf
