-- Where all entries are of the built kinds: nothing is taken, what is stored is present, and no project has
-- rules.
use Rattle.std.proofs.Common.{◌≡◌, ℕ, ◌+◌, nat_eq, nat_lt, Bool, true, false, not, cond, ◌&&◌, ◌||◌, List, [], ◌∷◌, suc, Option, Some, None, option_map, option_and_then, is_some, find, IfSome, refl, sym, ap, subst, ◌∙◌}
use Rattle.std.specs.List.{AllByRecursion, list_any, position}
use Rattle.hb_base.proofs.TableLaws.{row_at-with}
use Rattle.hb_text.specs.declared.digests.Digest.{Digest}
use Rattle.hb_text.specs.Names.{project_of}
use Rattle.hb_text.proofs.KeyOrders.{text_cmp-order}
use Rattle.hb_records.specs.Entries.{AuditEntry}
use Rattle.hb_records.specs.Selectors.{takes_tag}
use Rattle.hb_records.specs.declared.entries.EntryKind.{EntryKind}
use Rattle.hb_records.specs.declared.entries.EntryKind.TheVariants.{Collected, ProjectMade, LimitSet, RulesSet, Taking}
use Rattle.hb_records.specs.declared.notes.Notes.{Notes}
use Rattle.hb_records.specs.declared.notes.Placement.{Placement}
use Rattle.hb_model.specs.Built.{is_built}
use Rattle.hb_model.specs.Moves.{stores, takes_digest, collects}
use Rattle.hb_model.specs.Presence.{present, last_taking}
use Rattle.hb_model.specs.ProjectEffects.{no_rules}
use Rattle.hb_model.specs.Registry.{Registry, ProjectItem, TagItem, project_name, project_in, tag_in, stored_in}
use Rattle.hb_model.specs.Replay.{replay, step}
use Rattle.hb_model.specs.Words.{WINDOW, same_text, same_digest, since_last, has_kind, since_kind}
use Rattle.hb_desk.specs.Notes.{is_placement, placement_of}
use Rattle.hb_desk.specs.Refusing.{unless, rule_refusal, moved_tag, immutable_tag, still_collecting, raced}
use Rattle.hb_desk.specs.declared.refusals.Refusal.TheVariants.{Immutable, Collecting, Raced}
use Rattle.hb_plan.specs.BuiltAudits.{AllBuilt, NoneGone}

-- ---- nothing is taken
pub untaken : (d : Digest) (kind : EntryKind) → is_built kind ≡ true → takes_digest d kind ≡ false
untaken d (Taking job digest) e = cc e
untaken d _ e = refl

pub uncollected : (d : Digest) (kind : EntryKind) → is_built kind ≡ true → collects d kind ≡ false
uncollected d (Collected job digest) e = cc e
uncollected d _ e = refl

none-since : (test : AuditEntry → Bool) (d : Digest) (j : List AuditEntry) → AllBuilt j → has_kind (takes_digest d) (since_last test j) ≡ false
none-since test d [] h = refl
none-since test d (e ∷ j) h = elim (test e) as (λ b. has_kind (takes_digest d) (cond b [] (e ∷ since_last test j)) ≡ false) [
  | true ↦ refl
  | false ↦ ap (λ b. b || has_kind (takes_digest d) (since_last test j)) (untaken d e.kind h.0) ∙ none-since test d j h.1
]

none-found : {A : Type 0} (p : A → Bool) (xs : List A) → list_any p xs ≡ false → find p xs ≡ None
none-found p [] h = refl
none-found p (x ∷ xs) h = elim (p x) as (λ b. (b || list_any p xs) ≡ false → cond b (Some x) (find p xs) ≡ None) [
  | true ↦ λ e. cc e
  | false ↦ λ e. none-found p xs e
] h

none-taken : (j : List AuditEntry) → AllBuilt j → (d : Digest) → last_taking j d ≡ None
none-taken j h d = none-found (λ e. takes_digest d e.kind) (since_kind (collects d) j) (none-since (λ e. collects d e.kind) d j h)

pub not-collecting : (j : List AuditEntry) → AllBuilt j → (d : Digest) (t : ℕ) → still_collecting j d t ≡ None
not-collecting j h d t = ap (λ x. option_and_then (λ taking. unless (not (nat_lt t (taking.moment + WINDOW))) (Collecting (taking.moment + WINDOW))) x) (none-taken j h d)

-- ---- what is stored is present
and-true : (b : Bool) → (b && true) ≡ b
and-true true = refl
and-true false = refl

pub present-stored : (j : List AuditEntry) → AllBuilt j → (d : Digest) → present j d ≡ is_some (stored_in (replay j) d)
present-stored j h d = ap (λ b. is_some (stored_in (replay j) d) && not b) (none-since (λ e. stores d e.kind) d j h) ∙ and-true _

-- ---- no project has rules
abbrev Ruleless : Option ProjectItem → Type 0
Ruleless x = IfSome x (λ project. project.rules.immutes ≡ [])

ruleless-step : (n moment : ℕ) (kind : EntryKind) (m : Registry) → is_built kind ≡ true → ((p : List ℕ) → Ruleless (project_in m p)) → (p : List ℕ) → Ruleless (project_in (step n moment kind m) p)
ruleless-step n moment (ProjectMade project limit) m e h p =
    let new : ProjectItem = record { name = project; limit = limit; rules = no_rules } in
    subst Ruleless (sym (row_at-with text_cmp-order.total project_name p new m.projects)) (elim (same_text p project) as (λ b. Ruleless (cond b (Some new) (project_in m p))) [ true ↦ refl | false ↦ h p ])
ruleless-step n moment (LimitSet project limit) m e h p = cc e
ruleless-step n moment (RulesSet project rules) m e h p = cc e
ruleless-step n moment _ m e h p = h p

ruleless : (j : List AuditEntry) → AllBuilt j → (p : List ℕ) → Ruleless (project_in (replay j) p)
ruleless [] h p = tt
ruleless (e ∷ j) h p = ruleless-step e.number e.moment e.kind (replay j) h.0 (ruleless j h.1) p

no-rule : (name tag : List ℕ) (x : Option ProjectItem) → Ruleless x → option_and_then (rule_refusal name tag) x ≡ None
no-rule name tag None h = refl
no-rule name tag (Some project) h = ap (λ rules. option_map (λ before. Immutable (suc before)) (position (λ rule. takes_tag rule name tag) rules)) h

pub not-immutable : (j : List AuditEntry) → AllBuilt j → (name : List ℕ) (d : Digest) (tag : Option (List ℕ)) → immutable_tag j name d tag ≡ None
not-immutable j h name d None = refl
not-immutable j h name d (Some tag) = go (tag_in (replay j) name tag)
  where
    go : (x : Option TagItem) → moved_tag j name d tag x ≡ None
    go None = refl
    go (Some x) = elim (same_digest d x.digest) as (λ b. cond b None (option_and_then (rule_refusal name tag) (project_in (replay j) (project_of name))) ≡ None) [ true ↦ refl | false ↦ no-rule name tag (project_in (replay j) (project_of name)) (ruleless j h (project_of name)) ]

-- ---- no placement is gone
found-all : {A : Type 0} (p : A → Bool) (P : A → Type 0) (xs : List A) → AllByRecursion P xs → IfSome (find p xs) P
found-all p P [] h = tt
found-all p P (x ∷ xs) h = elim (p x) as (λ b. IfSome (cond b (Some x) (find p xs)) P) [ true ↦ h.0 | false ↦ found-all p P xs h.1 ]

pub placed-here : (n : Notes) → NoneGone n → (upload : ℕ) (d : Digest) → IfSome (placement_of n upload d) (λ x. x.gone ≡ 0)
placed-here n h upload d = found-all (is_placement upload d) (λ x. x.gone ≡ 0) n.placements h

or-true : (b : Bool) → (b || true) ≡ true
or-true true = refl
or-true false = refl

pub not-raced : (j : List AuditEntry) (d : Digest) (x : Placement) → x.gone ≡ 0 → raced j d x ≡ None
not-raced j d x here = ap (λ b. unless b (Raced x.placed x.gone)) (ap (λ gone. present j d || nat_eq gone 0) here ∙ or-true (present j d))
