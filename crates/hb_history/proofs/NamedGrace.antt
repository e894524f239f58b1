-- What is named has its grace.
use Rattle.std.proofs.Common.{◌≡◌, ℕ, ◌+◌, ◌≤◌, Bool, true, false, List, Contains, IsTrue, not, ◌||◌, arith}
use Rattle.std.proofs.lemmas.Bool.Decides.{nat_tests}
use Rattle.std.proofs.lemmas.List.Elements.{All-contains}
use Rattle.std.proofs.lemmas.List.Sums.{AllPass-from_list_all}
use Rattle.hb_text.specs.declared.digests.Digest.{Digest}
use Rattle.hb_records.specs.Entries.{AuditEntry}
use Rattle.hb_model.specs.Words.{WINDOW, is_over}
use Rattle.hb_model.specs.Moves.{names}
use Rattle.hb_model.specs.LegalBlobs.{LegalUnassociated}

-- what holds of each entry that isn't of no account
of-account : (a b : Bool) → IsTrue a → (not a || b) ≡ true → b ≡ true
of-account true b t e = e
of-account false b t e = cc

pub named-grace : (j : List AuditEntry) (e : AuditEntry) (t job : ℕ) (p : List ℕ) (d : Digest) → Contains j e → IsTrue (names p d e.kind) → LegalUnassociated j t job p d → e.moment + WINDOW ≤ t
named-grace j e t job p d there named legal = grind (arith, nat_tests, of-account (names p d e.kind) (is_over e.moment t) named (All-contains (λ x. (not (names p d x.kind) || is_over x.moment t) ≡ true) j e (AllPass-from_list_all (λ x. not (names p d x.kind) || is_over x.moment t) j legal.idle) there))
