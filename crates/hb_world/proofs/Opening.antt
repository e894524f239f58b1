-- What is opened has its digest, where what the store held has it.
use Rattle.std.proofs.Common.{◌≡◌, ℕ, List, length, Option, Some, None, IfSome, IsSomeAnd, sym, subst, ◌∙◌}
use Rattle.hb_text.specs.Digests.{digest_of}
use Rattle.hb_text.specs.declared.digests.Digest.{Digest}
use Rattle.hb_store.specs.Contents.{Contents, bytes_of}
use Rattle.hb_store.specs.Calls.{Fetches}
use Rattle.hb_world.specs.StoreStands.{Stands}
use Rattle.hb_world.specs.Worlds.{IsTrueTo}

fetched : (d : Digest) (held told : Option (List ℕ)) (left size : ℕ) → IfSome held (λ b. digest_of b ≡ d) → size ≡ left → IsSomeAnd held (λ bytes. (told ≡ Some bytes) × (left ≡ length bytes)) → IsSomeAnd told (λ b. (digest_of b ≡ d) × (length b ≡ size))
fetched d None told left size same is fetch = absurd fetch
fetched d (Some bytes) told left size same is fetch = subst (λ told. IsSomeAnd told (λ b. (digest_of b ≡ d) × (length b ≡ size))) (sym fetch.0) (same, sym fetch.1 ∙ sym is)

-- what was fetched has the digest, where what the store held has it
pub opened_bytes : (old new : Option Contents) (d : Digest) (told : Option (List ℕ)) (left size : ℕ) → IfSome old (λ c. IsTrueTo c d) → Stands old new → Fetches new d told left → size ≡ left → IfSome old (λ c. IsSomeAnd told (λ b. (digest_of b ≡ d) × (length b ≡ size)))
opened_bytes None new d told left size holds stands fetch is = tt
opened_bytes (Some c) None d told left size holds stands fetch is = absurd stands
opened_bytes (Some c) (Some c') d told left size holds stands fetch is = fetched d (bytes_of c' d) told left size (stands.true_still d holds) is fetch
