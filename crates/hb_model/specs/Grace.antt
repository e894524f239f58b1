-- The window of grace: when a pair or a digest may go.
use Rattle.std.specs.Prelude.{ℕ, Bool, not, ◌&&◌, ◌||◌, List, is_some}
use Rattle.std.specs.List.{list_all, list_any}
use Rattle.hb_text.specs.declared.digests.Digest.{Digest}
use Rattle.hb_records.specs.Entries.{AuditEntry}
use Rattle.hb_model.specs.Words.{same_digest, is_over}
use Rattle.hb_model.specs.Registry.{Registry, stored_in}
use Rattle.hb_model.specs.Replay.{replay}
use Rattle.hb_model.specs.Moves.{names, names_somewhere}
use Rattle.hb_model.specs.Presence.{collecting}

-- each entry that names the digest in the project is older than the window
abbrev pub idle_pair : List AuditEntry → List ℕ → Digest → ℕ → Bool
idle_pair j p d t = list_all (λ e. not (names p d e.kind) || is_over e.moment t) j

-- each entry that names the digest anywhere is older than the window
abbrev pub idle : List AuditEntry → Digest → ℕ → Bool
idle j d t = list_all (λ e. not (names_somewhere d e.kind) || is_over e.moment t) j

-- some project has the digest
abbrev pub is_owned : Registry → Digest → Bool
is_owned m d = list_any (λ x. same_digest d x.digest) m.pairs

-- stored, of no project, and idle
abbrev pub eligible_but_collecting : List AuditEntry → Digest → ℕ → Bool
eligible_but_collecting j d t = is_some (stored_in (replay j) d) && not (is_owned (replay j) d) && idle j d t

-- a mark takes it: and no removal of it may still take effect
abbrev pub eligible : List AuditEntry → Digest → ℕ → Bool
eligible j d t = eligible_but_collecting j d t && not (collecting j d t)
