-- A refusal is never want of memory.
use Rattle.std.proofs.Common.{◌≢◌, ℕ, Bool, true, false, not, nat_lt, List, length, Option, Some, None, Result, Ok, Err}
use Rattle.std.specs.Prelude.{IfErr, ok_or, option_and_then}
use Rattle.serde_json.specs.Data.{Data}
use Rattle.hb_manifest.specs.declared.manifests.ManifestFault.{ManifestFault}
use Rattle.hb_manifest.specs.declared.manifests.ManifestFault.TheVariants.{MediaUnknown, NotJson, NoSchema, TooMany, TooLong, Memory}
use Rattle.hb_manifest.specs.Json.{json_of, when_object}
use Rattle.hb_manifest.specs.MediaTypes.{media_type, kind_of}
use Rattle.hb_manifest.specs.Forms.{◌>>=◌, most_bytes, most_descriptors, refused_if, refused_at, has_schema, listed, bad_place, checked, object_form, manifest_form}

-- the next step is told too
behind : {A B : Type 0} (r : Result A ManifestFault) (next : A → Result B ManifestFault) → IfErr r (λ e. e ≢ Memory) → ((x : A) → IfErr (next x) (λ e. e ≢ Memory)) → IfErr (r >>= next) (λ e. e ≢ Memory)
behind (Ok x) next told more = more x
behind (Err fault) next told more = told

or-told : {A : Type 0} (o : Option A) (fault : ManifestFault) → fault ≢ Memory → IfErr (ok_or o fault) (λ e. e ≢ Memory)
or-told (Some x) fault told = tt
or-told None fault told = told

test-told : (b : Bool) (fault : ManifestFault) → fault ≢ Memory → IfErr (refused_if b fault) (λ e. e ≢ Memory)
test-told true fault told = told
test-told false fault told = tt

place-told : (o : Option ℕ) → IfErr (refused_at o) (λ e. e ≢ Memory)
place-told (Some place) = λ e. cc e
place-told None = tt

object-told : (header : Option (List ℕ)) (d : Data) → IfErr (object_form header d) (λ e. e ≢ Memory)
object-told header d =
    behind (ok_or (media_type header d) MediaUnknown) _ (or-told _ MediaUnknown (λ e. cc e)) (λ media.
    behind (ok_or (kind_of media) MediaUnknown) _ (or-told _ MediaUnknown (λ e. cc e)) (λ kind.
    behind (refused_if (not (has_schema d)) NoSchema) _ (test-told _ NoSchema (λ e. cc e)) (λ schema.
    behind (ok_or (listed kind d) NoSchema) _ (or-told _ NoSchema (λ e. cc e)) (λ ds.
    behind (checked ds) _ (behind (refused_if (nat_lt most_descriptors (length ds)) TooMany) _ (test-told _ TooMany (λ e. cc e)) (λ count. place-told (bad_place ds))) (λ sound. tt)))))

pub told : (header : Option (List ℕ)) (bytes : List ℕ) → IfErr (manifest_form header bytes) (λ e. e ≢ Memory)
told header bytes =
    behind (refused_if (nat_lt most_bytes (length bytes)) TooLong) _ (test-told _ TooLong (λ e. cc e)) (λ short.
    behind (ok_or (option_and_then when_object (json_of bytes)) NotJson) _ (or-told _ NotJson (λ e. cc e)) (object-told header))
