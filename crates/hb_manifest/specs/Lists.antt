-- Digests, each once.
use Rattle.std.specs.Prelude.{Bool, not, List, [], ◌∷◌, filter, bytes_eq}
use Rattle.hb_text.specs.declared.digests.Digest.{Digest}

abbrev pub same_digest : Digest → Digest → Bool
same_digest d e = bytes_eq d.0 e.0

-- the digests but for one
abbrev pub without : Digest → List Digest → List Digest
without d = filter (λ e. not (same_digest d e))

-- each digest at its first place alone
abbrev pub each_once : List Digest → List Digest
each_once [] = []
each_once (d ∷ ds) = d ∷ without d (each_once ds)
