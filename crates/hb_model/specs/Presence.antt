-- Whether the store holds a digest, and whether a removal of it may still take effect; what a project uses,
-- and what it needs.
use Rattle.std.specs.Prelude.{ℕ, ◌+◌, Bool, not, ◌&&◌, List, ◌∷◌, Option, is_some, nat_lt, sum_by}
use Rattle.std.specs.List.{filter, flat_map}
use Rattle.hb_text.specs.declared.digests.Digest.{Digest}
use Rattle.hb_records.specs.Entries.{AuditEntry}
use Rattle.hb_text.specs.Names.{project_of}
use Rattle.hb_model.specs.Words.{WINDOW, same_text, some_and, has_kind, last_kind, since_kind}
use Rattle.hb_model.specs.Registry.{Registry, stored_in}
use Rattle.hb_model.specs.Replay.{replay}
use Rattle.hb_model.specs.Moves.{stores, takes_digest, collects}

-- it is stored, and no collection took it since it was last stored: then the store holds it
abbrev pub present : List AuditEntry → Digest → Bool
present j d = is_some (stored_in (replay j) d) && not (has_kind (takes_digest d) (since_kind (stores d) j))

-- the last Taking since the last Collected
abbrev pub last_taking : List AuditEntry → Digest → Option AuditEntry
last_taking j d = last_kind (takes_digest d) (since_kind (collects d) j)

-- a removal of the digest may still take effect at t
abbrev pub collecting : List AuditEntry → Digest → ℕ → Bool
collecting j d t = some_and (λ taking. nat_lt t (taking.moment + WINDOW)) (last_taking j d)

-- the sum of the sizes of the project's distinct digests
abbrev pub usage : Registry → List ℕ → ℕ
usage m p = sum_by (λ x. x.size) (filter (λ x. same_text p x.project) m.pairs)

-- the digests of the project's artifacts, and those that they refer to: none of them may go
abbrev pub needed : Registry → List ℕ → List Digest
needed m p = flat_map (λ x. x.digest ∷ x.refs) (filter (λ x. same_text p (project_of x.name)) m.artifacts)
