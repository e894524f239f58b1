-- The text of an answer: its head, and its body where it has one.
use Rattle.std.specs.Prelude.{ℕ, Bool, true, false, List, [], ◌++◌, length, Option, Some, None, unwrap_or}
use Rattle.hb_http.specs.AnswerHeads.{head_text}
use Rattle.hb_http.specs.declared.answers.AnswerHead.{AnswerHead}
use Rattle.hb_desk.specs.declared.answers.Answer.{Answer}

-- the length of the body, or the one that is said of bytes that aren't in it
abbrev pub length_of : Option (List ℕ) → Option ℕ → Option ℕ
length_of None said = said
length_of (Some body) said = Some (length body)

abbrev pub head_of : Bool → Answer → AnswerHead
head_of closes a = record { status = a.status; close = closes; length = length_of a.body a.length; media = a.media; digest = a.digest; link = a.link; location = a.location; range = a.range; retry = a.retry }

abbrev pub answer_text : Bool → Answer → List ℕ
answer_text closes a = head_text (head_of closes a) ++ unwrap_or a.body []

-- the same without its body, whose length is told
abbrev pub without_body : Answer → Answer
without_body a = record { status = a.status; code = a.code; detail = a.detail; length = length_of a.body a.length; media = a.media; digest = a.digest; link = a.link; location = a.location; range = a.range; retry = a.retry; body = None }

abbrev pub as_asked : Bool → Answer → Answer
as_asked true a = without_body a
as_asked false a = a
