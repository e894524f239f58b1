-- The parts of a put: its reply, and its changes.
use Rattle.std.proofs.Common.{◌≡◌, ℕ, true, List, ◌++◌, Option, Some, is_some, ap, ◌∙◌}
use Rattle.std.proofs.lemmas.List.{append_assoc}
use Rattle.hb_text.specs.Names.{project_of}
use Rattle.hb_records.specs.declared.entries.EntryKind.TheVariants as entry
use Rattle.hb_records.specs.declared.notes.Placement.{Placement}
use Rattle.hb_records.specs.declared.puts.PutAsk.{PutAsk}
use Rattle.hb_rows.specs.Tables.{Tables, project_at, blob_at}
use Rattle.hb_desk.specs.Refusing.{unless}
use Rattle.hb_desk.specs.Reply.{Reply, refuse, commits}
use Rattle.hb_desk.specs.declared.told.Told.TheVariants as told
use Rattle.hb_desk.specs.declared.refusals.Refusal.TheVariants.{NoProject}
use Rattle.hb_plan.specs.RowRefusals.{no_project_row, stored_size}
use Rattle.hb_plan.specs.RowReplies.{parts_over, put_over}

-- what a put of this size commits
abbrev pub put_commits : Tables → PutAsk → ℕ → Reply
put_commits r p size = commits r.audit told.Done (entry.ArtifactPut p.name p.digest size p.media p.refs p.children p.tag)

-- what is left of its reply where its project is there and it is placed
pub put-left : (r : Tables) (p : PutAsk) (placement : Option Placement) (x : Placement) (size : ℕ) → is_some (project_at r (project_of p.name)) ≡ true → placement ≡ Some x → stored_size (blob_at r p.digest) x ≡ size → refuse (no_project_row r (project_of p.name)) (put_over r p placement) ≡ parts_over r p size (put_commits r p size)
put-left r p placement x size known placed stored =
    ap (λ b. refuse (unless b NoProject) (put_over r p placement)) known
    ∙ ap (λ y. put_over r p y) placed
    ∙ ap (λ n. parts_over r p n (put_commits r p n)) stored

-- changes that were added in two steps
pub added-twice : {A : Type 0} (own touched last made after : List A) → made ≡ own ++ touched → after ≡ made ++ last → after ≡ own ++ (touched ++ last)
added-twice own touched last made after e f = f ∙ ap (λ x. x ++ last) e ∙ append_assoc own touched last
