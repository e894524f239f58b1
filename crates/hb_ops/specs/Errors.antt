-- What each refusal of a desk is answered over HTTP: the status, the error with its detail, and when to try again.
use Rattle.std.specs.Prelude.{ℕ, ◌-◌, ℤ, unsigned_abs, List, [], ◌∷◌, ◌++◌, map, Option, Some, None, codes, nat_eq, if◌then◌else◌}
use Rattle.std.specs.Char.{to_ascii_lowercase}
use Rattle.std.specs.Fmt.{decimal}
use Rattle.std.specs.List.{join_by}
use Rattle.hb_text.specs.Digests.{digest_text}
use Rattle.hb_text.specs.declared.digests.Digest.{Digest}
use Rattle.hb_desk.specs.declared.answers.Answer.{Answer}
use Rattle.hb_desk.specs.declared.answers.DetailItem.{DetailItem}
use Rattle.hb_desk.specs.declared.answers.DetailValue.{DetailValue}
use Rattle.hb_desk.specs.declared.answers.DetailValue.TheVariants as value
use Rattle.hb_desk.specs.declared.refusals.Refusal.{Refusal}
use Rattle.hb_desk.specs.declared.refusals.Refusal.TheVariants.{Memory, Keeper, Storage, Spent, NoProject, NoRepo, BlobUnknown, UploadUnknown, Busy, OutOfOrder, MissingRef, MissingChild, Immutable, HasParent, OverLimit, Collecting, Raced, ManifestUnknown, Stale, Referenced, Young, JobUnknown, JobHeld, NotSent, NotPlaced, Tagged, Unfinished, JobDone, Late, Sent}

-- The status code, the error's code, its detail in the order in which it is written, and the seconds after which to try
-- again.
pub record ErrorForm : Type 0 where
  pub status : ℕ
  pub code : List ℕ
  pub detail : List DetailItem
  pub retry : Option ℕ

-- ---- the members of a detail
abbrev pub number_item : List ℕ → ℕ → DetailItem
number_item name n = record { name = name; value = value.Number n }

abbrev pub digest_item : List ℕ → Digest → DetailItem
digest_item name d = record { name = name; value = value.Digest d }

-- ---- forms of errors
abbrev pub plain : ℕ → List ℕ → ErrorForm
plain status code = record { status = status; code = code; detail = []; retry = None }

abbrev pub detailed : ℕ → List ℕ → List DetailItem → ErrorForm
detailed status code detail = record { status = status; code = code; detail = detail; retry = None }

abbrev pub passing : List ℕ → List DetailItem → ℕ → ErrorForm
passing code detail seconds = record { status = 503; code = code; detail = detail; retry = Some seconds }

-- A refusal over a limit has a limit that isn't negative, for a negative one stands for none: the absolute value, which
-- is written here, is the limit.
abbrev pub over_limit_detail : ℕ → ℕ → ℤ → List DetailItem
over_limit_detail used adds limit = number_item (codes "adds") adds ∷ number_item (codes "limit") (unsigned_abs limit) ∷ number_item (codes "used") used ∷ []

-- What a refusal is answered, where the event was at the moment t. The members of each detail stand in ascending order
-- of their names.
abbrev pub error_of : ℕ → Refusal → ErrorForm
error_of t Memory = plain 507 (codes "MEMORY")
error_of t Keeper = plain 500 (codes "KEEPER")
error_of t Storage = plain 500 (codes "STORAGE")
error_of t Spent = plain 500 (codes "SPENT")
error_of t NoProject = plain 404 (codes "NAME_UNKNOWN")
error_of t NoRepo = plain 404 (codes "NAME_UNKNOWN")
error_of t BlobUnknown = plain 404 (codes "BLOB_UNKNOWN")
error_of t UploadUnknown = plain 404 (codes "BLOB_UPLOAD_UNKNOWN")
error_of t (Busy upload) = passing (codes "BUSY") (number_item (codes "upload") upload ∷ []) 1
error_of t (OutOfOrder offset) = detailed 416 (codes "BLOB_UPLOAD_INVALID") (number_item (codes "offset") offset ∷ [])
error_of t (MissingRef d) = detailed 404 (codes "MANIFEST_BLOB_UNKNOWN") (digest_item (codes "digest") d ∷ [])
error_of t (MissingChild d) = detailed 404 (codes "MANIFEST_BLOB_UNKNOWN") (digest_item (codes "digest") d ∷ [])
error_of t (Immutable rule) = detailed 412 (codes "PRECONDITION") (number_item (codes "rule") rule ∷ [])
error_of t (HasParent d) = detailed 412 (codes "PRECONDITION") (digest_item (codes "parent") d ∷ [])
error_of t (OverLimit used adds limit) = detailed 403 (codes "DENIED") (over_limit_detail used adds limit)
error_of t (Collecting until) = passing (codes "COLLECTING") (number_item (codes "until") until ∷ []) (until - t)
error_of t (Raced placed gone) = passing (codes "RACED") (number_item (codes "gone") gone ∷ number_item (codes "placed") placed ∷ []) 1
error_of t ManifestUnknown = plain 404 (codes "MANIFEST_UNKNOWN")
error_of t (Stale version) = detailed 412 (codes "PRECONDITION") (number_item (codes "version") version ∷ [])
error_of t JobUnknown = plain 404 (codes "UNSUPPORTED")
error_of t (JobHeld job) = passing (codes "BUSY") (number_item (codes "job") job ∷ []) 1
error_of t NotPlaced = plain 404 (codes "BLOB_UPLOAD_UNKNOWN")
-- Only jobs meet these: no client's ask is refused by them.
error_of t (Referenced name d) = plain 404 (codes "UNSUPPORTED")
error_of t (Young touched) = plain 404 (codes "UNSUPPORTED")
error_of t NotSent = plain 404 (codes "UNSUPPORTED")
error_of t Tagged = plain 404 (codes "UNSUPPORTED")
error_of t Unfinished = plain 404 (codes "UNSUPPORTED")
error_of t JobDone = plain 404 (codes "UNSUPPORTED")
error_of t (Late until) = plain 404 (codes "UNSUPPORTED")
error_of t Sent = plain 404 (codes "UNSUPPORTED")

-- ---- bodies
-- a letter of a code as a message has it: 95 is the underscore, and 32 the space
abbrev pub message_letter : ℕ → ℕ
message_letter letter = if nat_eq letter 95 then 32 else to_ascii_lowercase letter

-- the code in lower case, with spaces for underscores
abbrev pub message_of : List ℕ → List ℕ
message_of code = map message_letter code

abbrev pub value_text : DetailValue → List ℕ
value_text (value.Number n) = decimal n
value_text (value.Digest d) = codes "\"" ++ digest_text d ++ codes "\""

abbrev pub item_text : DetailItem → List ℕ
item_text item = codes "\"" ++ item.name ++ codes "\":" ++ value_text item.value

-- the members in their order, with commas between them
abbrev pub detail_text : List DetailItem → List ℕ
detail_text detail = codes "{" ++ join_by item_text (codes ",") detail ++ codes "}"

-- the code, its detail and its message (OCI Distribution Specification 1.1, "Error Codes")
abbrev pub error_body : ErrorForm → List ℕ
error_body e = codes "{\"errors\":[{\"code\":\"" ++ e.code ++ codes "\",\"detail\":" ++ detail_text e.detail ++ codes ",\"message\":\"" ++ message_of e.code ++ codes "\"}]}"

-- ---- answers
abbrev pub error_answer : ErrorForm → Answer
error_answer e = record {
  status = e.status;
  code = Some e.code;
  detail = e.detail;
  length = None;
  media = Some (codes "application/json");
  digest = None;
  link = None;
  location = None;
  range = None;
  retry = e.retry;
  body = Some (error_body e);
}
