-- The turns of the tags of the worked retention jobs.
use Rattle.std.proofs.Common.{◌≡◌, List, [], ◌∷◌, refl, rules}
use Rattle.hb_records.specs.Entries.{AuditEntry}
use Rattle.hb_records.specs.declared.entries.EntryKind.{EntryKind}
use Rattle.hb_records.specs.declared.jobs.TagVerdict.TheVariants as turn
use Rattle.hb_model.specs.LegalProjects.{Opens}
use Rattle.hb_model.specs.LegalRetain.{LegalRetainTurn, LegalRetainDone}
use Rattle.hb_model.specs.ExampleNames.{repo_a}
use Rattle.hb_model.specs.ExampleLogs.{after}
use Rattle.hb_model.specs.BatchExamples.{two_of_four_kept}
use Rattle.hb_model.specs.RetainExamples.{two_of_five_kept, tag_of, tag_item}

-- what stands behind an entry isn't the first
pub not-first : (kind : EntryKind) (e : AuditEntry) (j : List AuditEntry) → e ∷ j ≡ [] → Opens kind
not-first kind e j h = cc

pub immutable-turn : LegalRetainTurn (after 26 two_of_five_kept) 21 repo_a (tag_of 1) turn.Immutable
immutable-turn = record { by_job = search rules; new = refl; in_turn = (tag_item 1, refl, refl) }

pub changed-turn : LegalRetainTurn (after 27 two_of_five_kept) 21 repo_a (tag_of 2) turn.Changed
changed-turn = record { by_job = search rules; new = refl; in_turn = (tag_item 2, refl, refl) }

pub dropped-turn : LegalRetainTurn (after 29 two_of_five_kept) 21 repo_a (tag_of 3) turn.Dropped
dropped-turn = record { by_job = search rules; new = refl; in_turn = (tag_item 3, refl, refl) }

pub retained-done : LegalRetainDone (after 30 two_of_five_kept) 21
retained-done = record { by_job = search rules; begun = search rules; one_turn = search rules }

-- ---- of the short log
pub short-immutable : LegalRetainTurn (after 10 two_of_four_kept) 8 repo_a (tag_of 1) turn.Immutable
short-immutable = record { by_job = search rules; new = refl; in_turn = (record { name = repo_a; tag = tag_of 1; put = 4; pushed = 1000000; pulled = 0 }, refl, refl) }

pub short-dropped : LegalRetainTurn (after 11 two_of_four_kept) 8 repo_a (tag_of 2) turn.Dropped
short-dropped = record { by_job = search rules; new = refl; in_turn = (record { name = repo_a; tag = tag_of 2; put = 5; pushed = 1000000; pulled = 0 }, refl, refl) }
