-- What stands behind each step that refused nothing.
use Rattle.std.proofs.Common.{◌≡◌, ℕ, Bool, true, false, not, cond, nat_lt, nat_eq, List, length, Option, Some, None, Result, Ok, Err, refl, sym, ap, arith}
use Rattle.std.specs.Prelude.{IsSome, is_none, ok_or, option_and_then}
use Rattle.std.specs.Option.{option_map_or, option_map}
use Rattle.std.specs.Result.{result_unwrap_or}
use Rattle.std.specs.List.{All, position_or_len}
use Rattle.std.proofs.lemmas.Bool.{ltb-false, not-false, eqb-true, true≢false}
use Rattle.std.proofs.lemmas.List.Sums.{fails_before_first}
use Rattle.std.proofs.lemmas.Option.{none-some, same_Some}
use Rattle.serde_json.specs.Data.{Data, Members}
use Rattle.serde_json.specs.Find.{as_object}
use Rattle.hb_manifest.specs.declared.manifests.Manifest.{Manifest}
use Rattle.hb_manifest.specs.declared.manifests.ManifestFault.{ManifestFault}
use Rattle.hb_manifest.specs.declared.manifests.ManifestFault.TheVariants.{MediaUnknown, NotJson, NoSchema, TooMany, TooLong}
use Rattle.hb_manifest.specs.Json.{json_of, when_object}
use Rattle.hb_manifest.specs.MediaTypes.{media_type, kind_of}
use Rattle.hb_manifest.specs.Descriptors.{descriptor}
use Rattle.hb_manifest.specs.Forms.{◌>>=◌, most_bytes, most_descriptors, refused_if, refused_at, has_schema, listed, bad_place, checked, refs, children, subject, manifest_form}
use Rattle.hb_manifest.specs.Laws.{IsManifest}
use Rattle.hb_manifest.proofs.Contained.{refs-each, children-each}

bind-ok : {A B : Type 0} (r : Result A ManifestFault) (next : A → Result B ManifestFault) (y : B) → (r >>= next) ≡ Ok y → (x : A) × (r ≡ Ok x) × (next x ≡ Ok y)
bind-ok (Ok x) next y e = (x, refl, e)
bind-ok (Err fault) next y e = absurd (cc e)

some-ok : {A : Type 0} (o : Option A) (fault : ManifestFault) (x : A) → ok_or o fault ≡ Ok x → o ≡ Some x
some-ok (Some z) fault x e = grind arith
some-ok None fault x e = absurd (cc e)

test-ok : (b : Bool) (fault : ManifestFault) (u : Unit {0}) → refused_if b fault ≡ Ok u → b ≡ false
test-ok true fault u e = absurd (cc e)
test-ok false fault u e = refl

place-ok : (o : Option ℕ) (u : Unit {0}) → refused_at o ≡ Ok u → o ≡ None
place-ok (Some place) u e = absurd (cc e)
place-ok None u e = refl

same_at : (v d : Data) (ms : Option Members) → option_map (λ _. v) ms ≡ Some d → v ≡ d
same_at v d (Some ms) e = same_Some v d e
same_at v d None e = absurd (none-some d e)

object-is : (o : Option Data) (d : Data) → option_and_then when_object o ≡ Some d → o ≡ Some d
object-is (Some v) d e = ap Some (same_at v d (as_object v) e)
object-is None d e = absurd (none-some d e)

two-is : (o : Option ℕ) → not (option_map_or (nat_eq 2) o false) ≡ false → o ≡ Some 2
two-is (Some n) e = ap Some (sym (eqb-true 2 n (not-false _ e)))
two-is None e = absurd (true≢false e)

-- where no place is told, each is a descriptor
past_at : (b : Bool) (i : ℕ) → cond b (Some i) None ≡ None → b ≡ false
past_at true i e = absurd (cc e)
past_at false i e = refl

all-sound : (ds : List Data) → bad_place ds ≡ None → All (λ d. IsSome (descriptor d)) ds
all-sound ds none k d within =
    let bad : Data → Bool = λ e. is_none (descriptor e) in
    let past = ltb-false (position_or_len bad ds) (length ds) (past_at _ (position_or_len bad ds) none) in
    not-false _ (fails_before_first bad ds k d (omega (arith, past)))

same-ok : (m n : Manifest) → ◌≡◌ {A = Result Manifest ManifestFault} (Ok m) (Ok n) → m ≡ n
same-ok m n e = ap (λ (r : Result Manifest ManifestFault). result_unwrap_or r m) e

pub sound : (header : Option (List ℕ)) (bytes : List ℕ) (m : Manifest) → manifest_form header bytes ≡ Ok m → IsManifest header bytes m
sound header bytes m e =
    let short = bind-ok (refused_if (nat_lt most_bytes (length bytes)) TooLong) _ m e in
    let object = bind-ok (ok_or (option_and_then when_object (json_of bytes)) NotJson) _ m short.2 in
    let d = object.0 in
    let media = bind-ok (ok_or (media_type header d) MediaUnknown) _ m object.2 in
    let kind = bind-ok (ok_or (kind_of media.0) MediaUnknown) _ m media.2 in
    let schema = bind-ok (refused_if (not (has_schema d)) NoSchema) _ m kind.2 in
    let parts = bind-ok (ok_or (listed kind.0 d) NoSchema) _ m schema.2 in
    let sound = bind-ok (checked parts.0) _ m parts.2 in
    let few = bind-ok (refused_if (nat_lt most_descriptors (length parts.0)) TooMany) _ sound.0 sound.1 in
    let made : Manifest = record { media = media.0; refs = refs kind.0 parts.0; children = children kind.0 parts.0; subject = subject d } in
    let is : made ≡ m = same-ok made m sound.2 in
    rw (← is) (record {
      short = ltb-false most_bytes (length bytes) (test-ok (nat_lt most_bytes (length bytes)) TooLong short.0 short.1);
      value = d;
      json = object-is (json_of bytes) d (some-ok _ NotJson d object.1);
      kind = kind.0;
      media = some-ok _ MediaUnknown media.0 media.1;
      known = some-ok _ MediaUnknown kind.0 kind.1;
      schema = two-is _ (test-ok _ NoSchema schema.0 schema.1);
      descriptors = parts.0;
      lists = some-ok _ NoSchema parts.0 parts.1;
      few = ltb-false most_descriptors (length parts.0) (test-ok (nat_lt most_descriptors (length parts.0)) TooMany few.0 few.1);
      sound = all-sound parts.0 (place-ok (bad_place parts.0) sound.0 few.2);
      refs = refs-each kind.0 parts.0;
      children = children-each kind.0 parts.0;
      about = refl;
    })
