-- The orders of keys are total, and only equal keys tie: of numbers, and of two parts where it is so of each.
use Rattle.std.proofs.Common.{◌≡◌, ℕ, refl, rules}
use Rattle.std.specs.declared.cmp.Ordering.{Ordering}
use Rattle.std.specs.declared.cmp.Ordering.TheVariants.{Less, Equal, Greater}
use Rattle.std.specs.Ordering.{nat_cmp, ordering_then}
use Rattle.std.proofs.lemmas.Cmp.{on_total, then_total}
use Rattle.std.specs.Cmp.{nat_cmp_total}
use Rattle.hb_text.specs.Orders.{IsKeyOrder, text_cmp, digest_cmp}
use Rattle.hb_text.proofs.KeyOrders.{text_cmp-order, digest_cmp-order}
use Rattle.hb_records.specs.Orders.{parts_cmp, named_digest_cmp, named_tag_cmp, job_digest_cmp, job_tag_cmp}

-- two answers that tie together tie by themselves
both_tie : (r s : Ordering) → ordering_then r s ≡ Equal → (r ≡ Equal) × (s ≡ Equal)
both_tie Less s e = cc
both_tie Equal s e = (refl, e)
both_tie Greater s e = cc

pub parts_cmp-order : {A B : Type 0} (first : A → A → Ordering) (second : B → B → Ordering) → IsKeyOrder first → IsKeyOrder second → IsKeyOrder (parts_cmp first second)
parts_cmp-order first second f s = record {
  total = then_total (on_total (λ x. x.0) f.total) (on_total (λ x. x.1) s.total);
  ties = λ a b e.
      let tied = both_tie (first a.0 b.0) (second a.1 b.1) e in
      let x = f.ties a.0 b.0 tied.0 in
      let y = s.ties a.1 b.1 tied.1 in
      λ i. (x i, y i);
}

pub nat_cmp-order : IsKeyOrder nat_cmp
nat_cmp-order = record { total = nat_cmp_total; ties = λ a b e. ties a b e }
  where
    ties : (a b : ℕ) → nat_cmp a b ≡ Equal → a ≡ b
    ties a b e = search rules

pub named_digest_cmp-order : IsKeyOrder named_digest_cmp
named_digest_cmp-order = parts_cmp-order text_cmp digest_cmp text_cmp-order digest_cmp-order

pub named_tag_cmp-order : IsKeyOrder named_tag_cmp
named_tag_cmp-order = parts_cmp-order text_cmp text_cmp text_cmp-order text_cmp-order

pub job_digest_cmp-order : IsKeyOrder job_digest_cmp
job_digest_cmp-order = parts_cmp-order nat_cmp digest_cmp nat_cmp-order digest_cmp-order

pub job_tag_cmp-order : IsKeyOrder job_tag_cmp
job_tag_cmp-order = parts_cmp-order nat_cmp named_tag_cmp nat_cmp-order named_tag_cmp-order
