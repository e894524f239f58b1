-- A collection that marked one digest is done when that has a verdict; the collections of the worked logs.
use Rattle.std.proofs.Common.{◌≡◌, ℕ, Bool, true, false, ◌||◌, IsTrue, List, count_by, refl, subst, sym, rules}
use Rattle.std.specs.declared.cmp.Ordering.{Ordering}
use Rattle.std.specs.declared.cmp.Ordering.TheVariants.{Less, Equal, Greater}
use Rattle.std.specs.Ordering.{is_eq}
use Rattle.hb_text.specs.declared.digests.Digest.{Digest}
use Rattle.hb_text.specs.Orders.{digest_cmp}
use Rattle.hb_text.proofs.KeyOrders.{digest_cmp-order}
use Rattle.hb_records.specs.Entries.{AuditEntry}
use Rattle.hb_model.specs.Words.{same_digest, has_kind}
use Rattle.hb_model.specs.Jobs.{is_running, is_collect, marks_last_for, marks_digest_for, gives_verdict}
use Rattle.hb_model.specs.LegalCollect.{LegalGcDone}
use Rattle.hb_model.specs.ExampleNames.{abc}
use Rattle.hb_model.specs.ExampleLogs.{after}
use Rattle.hb_model.specs.CollectExamples.{blob_out_of_window, blob_pushed_after_mark, removal_failed, collection_stopped, push_raced}
use Rattle.hb_model.specs.UploadExamples.{content_adopted}

equal : (r : Ordering) → IsTrue (is_eq r) → r ≡ Equal
equal Less h = search rules
equal Equal h = search rules
equal Greater h = search rules

same_digest-ties : (a b : Digest) → IsTrue (same_digest a b) → a ≡ b
same_digest-ties a b h = digest_cmp-order.ties a b (equal (digest_cmp a b) h)

first : (b : Bool) → IsTrue ((b || false) || false) → IsTrue b
first true h = search rules
first false h = search rules

-- the job marked x alone, and x has one verdict
all-done : (j : List AuditEntry) (job : ℕ) (x : Digest) → IsTrue (is_running is_collect j job) → IsTrue (has_kind (marks_last_for job) j)
    → ((d : Digest) → IsTrue (has_kind (marks_digest_for job d) j) → IsTrue ((same_digest d x || false) || false))
    → count_by (λ e. gives_verdict job x e.kind) j ≡ 1
    → LegalGcDone j job
all-done j job x running all alone one = record {
  by_job = running;
  marked_all = all;
  one_verdict = λ d h. subst (λ d. count_by (λ e. gives_verdict job d e.kind) j ≡ 1) (sym (same_digest-ties d x (first (same_digest d x) (alone d h)))) one;
}

pub out_of_window-done : LegalGcDone (after 14 blob_out_of_window) 9
out_of_window-done = all-done (after 14 blob_out_of_window) 9 abc (search rules) (search rules) (λ d h. h) refl

pub after_mark-done : LegalGcDone (after 12 blob_pushed_after_mark) 5
after_mark-done = all-done (after 12 blob_pushed_after_mark) 5 abc (search rules) (search rules) (λ d h. h) refl

pub failed-done : LegalGcDone (after 10 removal_failed) 5
failed-done = all-done (after 10 removal_failed) 5 abc (search rules) (search rules) (λ d h. h) refl

pub stopped-done : LegalGcDone (after 11 collection_stopped) 5
stopped-done = all-done (after 11 collection_stopped) 5 abc (search rules) (search rules) (λ d h. h) refl

pub stopped-done_again : LegalGcDone (after 19 collection_stopped) 15
stopped-done_again = all-done (after 19 collection_stopped) 15 abc (search rules) (search rules) (λ d h. h) refl

pub raced-done : LegalGcDone (after 12 push_raced) 7
raced-done = all-done (after 12 push_raced) 7 abc (search rules) (search rules) (λ d h. h) refl

pub adopted-done : LegalGcDone (after 13 content_adopted) 9
adopted-done = all-done (after 13 content_adopted) 9 abc (search rules) (search rules) (λ d h. h) refl

none-one : ◌≡◌ {A = ℕ} 0 1 → ⊥
none-one e = search rules

-- a collection isn't done while the digest that it took has no verdict
pub undecided : ¬ (LegalGcDone (after 13 blob_out_of_window) 9)
undecided h = none-one (h.one_verdict abc (search rules))
