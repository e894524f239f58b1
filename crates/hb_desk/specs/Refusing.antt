-- The causes of the refusals, each read from the audit and the notes: the refusal where it is to come, else None.
use Rattle.std.specs.Prelude.{ℕ, ◌+◌, ◌^◌, suc, Bool, not, ◌||◌, List, length, Option, Some, None, is_some, nat_eq, nat_lt, option_map, option_and_then, if◌then◌else◌}
use Rattle.std.specs.List.{find, position}
use Rattle.hb_text.specs.declared.digests.Digest.{Digest}
use Rattle.hb_text.specs.Names.{project_of}
use Rattle.hb_records.specs.Entries.{AuditEntry}
use Rattle.hb_records.specs.Selectors.{takes_tag}
use Rattle.hb_records.specs.declared.notes.Notes.{Notes}
use Rattle.hb_records.specs.declared.notes.Placement.{Placement}
use Rattle.hb_model.specs.Words.{WINDOW, same_text, same_digest, some_and}
use Rattle.hb_model.specs.Registry.{ProjectItem, TagItem, project_in, pair_in, artifact_in, tag_in, upload_in}
use Rattle.hb_model.specs.Replay.{replay}
use Rattle.hb_model.specs.Presence.{present, last_taking, usage}
use Rattle.hb_model.specs.LegalBlobs.{fits_limit}
use Rattle.hb_desk.specs.Notes.{is_out}
use Rattle.hb_desk.specs.declared.refusals.Refusal.{Refusal}
use Rattle.hb_desk.specs.declared.refusals.Refusal.TheVariants.{Spent, NoProject, UploadUnknown, Busy, OutOfOrder, MissingRef, MissingChild, Immutable, OverLimit, Collecting, Raced}

-- the refusal, unless it holds
abbrev pub unless : Bool → Refusal → Option Refusal
unless holds refusal = if holds then None else Some refusal

-- a commit would pass the most entries of an audit
abbrev pub spent : List AuditEntry → Option Refusal
spent j = unless (nat_lt (length j) (2 ^ 62)) Spent

abbrev pub no_project : List AuditEntry → List ℕ → Option Refusal
no_project j p = unless (is_some (project_in (replay j) p)) NoProject

abbrev pub no_upload : List AuditEntry → ℕ → Option Refusal
no_upload j upload = unless (is_some (upload_in (replay j) upload)) UploadUnknown

-- the repository has no such upload
abbrev pub no_upload_of : List AuditEntry → List ℕ → ℕ → Option Refusal
no_upload_of j name upload = unless (some_and (λ x. same_text name x.name) (upload_in (replay j) upload)) UploadUnknown

abbrev pub busy : Notes → ℕ → Option Refusal
busy n upload = unless (not (is_out n upload)) (Busy upload)

-- a start that is sent has to be the offset
abbrev pub out_of_order : Option ℕ → ℕ → Option Refusal
out_of_order None offset = None
out_of_order (Some start) offset = unless (nat_eq start offset) (OutOfOrder offset)

-- the first reference that the project hasn't
abbrev pub missing_ref : List AuditEntry → List ℕ → List Digest → Option Refusal
missing_ref j p refs = option_map (λ d. MissingRef d) (find (λ d. not (is_some (pair_in (replay j) p d))) refs)

-- the first child that the repository hasn't
abbrev pub missing_child : List AuditEntry → List ℕ → List Digest → Option Refusal
missing_child j name children = option_map (λ d. MissingChild d) (find (λ d. not (is_some (artifact_in (replay j) name d))) children)

-- the first rule that takes the tag, counted from 1
abbrev pub rule_refusal : List ℕ → List ℕ → ProjectItem → Option Refusal
rule_refusal name tag project = option_map (λ before. Immutable (suc before)) (position (λ rule. takes_tag rule name tag) project.rules.immutes)

-- a tag that names another digest would move
abbrev pub moved_tag : List AuditEntry → List ℕ → Digest → List ℕ → Option TagItem → Option Refusal
moved_tag j name d tag None = None
moved_tag j name d tag (Some x) = if same_digest d x.digest then None else option_and_then (rule_refusal name tag) (project_in (replay j) (project_of name))

abbrev pub immutable_tag : List AuditEntry → List ℕ → Digest → Option (List ℕ) → Option Refusal
immutable_tag j name d None = None
immutable_tag j name d (Some tag) = moved_tag j name d tag (tag_in (replay j) name tag)

-- the project would use more than its limit
abbrev pub over_limit : List AuditEntry → List ℕ → Digest → ℕ → Option Refusal
over_limit j p d size = if fits_limit j p d size then None else option_map (λ (project : ProjectItem). OverLimit (usage (replay j) p) size project.limit) (project_in (replay j) p)

-- a removal of the digest may still take effect at t
abbrev pub still_collecting : List AuditEntry → Digest → ℕ → Option Refusal
still_collecting j d t = option_and_then (λ taking. unless (not (nat_lt t (taking.moment + WINDOW))) (Collecting (taking.moment + WINDOW))) (last_taking j d)

-- it isn't present, and it was taken or collected since it was placed
abbrev pub raced : List AuditEntry → Digest → Placement → Option Refusal
raced j d x = unless (present j d || nat_eq x.gone 0) (Raced x.placed x.gone)
