-- The orders of texts and of digests are total, and only equal keys tie.
use Rattle.std.proofs.Common.{◌≡◌, ℕ, List, ap, ◌∙◌}
use Rattle.std.specs.declared.cmp.Ordering.TheVariants.{Equal}
use Rattle.std.specs.Ordering.{is_eq}
use Rattle.std.specs.Cmp.{on_total}
use Rattle.std.specs.Cmp.Lexicographic.{nat_list_cmp_total, texts_ties, bytes_decides}
use Rattle.hb_text.specs.Orders.{text_cmp, digest_cmp, IsKeyOrder}
use Rattle.hb_text.specs.declared.digests.Digest.{Digest}

-- texts that tie are equal
text_cmp-ties : (a b : List ℕ) → text_cmp a b ≡ Equal → a ≡ b
text_cmp-ties a b e = (bytes_decides a b).0 (texts_ties a b ∙ ap is_eq e)

pub text_cmp-order : IsKeyOrder text_cmp
text_cmp-order = record { total = nat_list_cmp_total; ties = text_cmp-ties }

-- a digest is its bytes
pub digest_cmp-order : IsKeyOrder digest_cmp
digest_cmp-order = record {
  total = on_total (λ (d : Digest). d.0) nat_list_cmp_total;
  ties = λ a b e. ap (λ (bytes : List ℕ). let d : Digest = record { 0 = bytes } in d) (text_cmp-ties a.0 b.0 e);
}
