-- What the code says of a text that it reads as a value.
use Rattle.std.specs.Prelude.{◌≡◌, ◌≢◌, ◌⊎◌, ℕ, true, false, List, Result, Ok, Err}
use Rattle.hb_text.specs.declared.references.Reference.{Reference}
use Rattle.hb_text.specs.declared.references.Reference.TheVariants.{Tag, Digest as ByDigest}
use Rattle.hb_routes.specs.Values.{StandsForTag, StandsForDigest, IsOutside, has_colon}
use Rattle.hb_routes.specs.declared.faults.RouteFault.{RouteFault}
use Rattle.hb_routes.specs.declared.faults.RouteFault.TheVariants.{TagInvalid, DigestInvalid, Memory}

-- the value that the text stands for, or the fault where it stands for none; want of memory is free
abbrev pub IsReading : {T : Type 0} → (List ℕ → T → Type 0) → RouteFault → List ℕ → Result T RouteFault → Type 0
IsReading StandsFor fault text (Ok value) = StandsFor text value
IsReading StandsFor fault text (Err found) = found ≢ Memory → IsOutside StandsFor text × (found ≡ fault)

-- the same of a reference, which is a digest where it has a colon
abbrev pub IsReferenceReading : List ℕ → Result Reference RouteFault → Type 0
IsReferenceReading text (Ok (Tag tag)) = (has_colon text ≡ false) × StandsForTag text tag
IsReferenceReading text (Ok (ByDigest digest)) = (has_colon text ≡ true) × StandsForDigest text digest
IsReferenceReading text (Err found) =
    found ≢ Memory
    → ((has_colon text ≡ false) × IsOutside StandsForTag text × (found ≡ TagInvalid))
    ⊎ ((has_colon text ≡ true) × IsOutside StandsForDigest text × (found ≡ DigestInvalid))
