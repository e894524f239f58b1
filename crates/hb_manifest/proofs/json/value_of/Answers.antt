use Rattle.std.proofs.Common.{◌≡◌, ◌∙◌, sym, ap, ℕ, List, Bool, true, false, None, refl}
use Rattle.std.specs.Prelude.{if◌then◌else◌}
use Rattle.std.specs.Str.{IsUtf8, is_utf8}
use Rattle.std.proofs.lemmas.Str.{IsUtf8-from_is_utf8, is_utf8-from_IsUtf8}
use Rattle.serde_json.specs.Read.{read}
use Rattle.hb_manifest.specs.Json.{json_of}
use Rattle.hb_manifest.proofs.json.value_of.Goals as goal

-- of text the value that it is
json_text : (b : List ℕ) → IsUtf8 b → json_of b ≡ read b
json_text b h = rw (is_utf8-from_IsUtf8 b h) refl

-- of other bytes none
json_none : (b : List ℕ) → ¬ (IsUtf8 b) → json_of b ≡ None
json_none b bad = by_test (is_utf8 b) (λ e. bad (IsUtf8-from_is_utf8 b e))
  where
    by_test : (t : Bool) → ¬ (t ≡ true) → (if t then read b else None) ≡ None
    by_test true n = absurd (n refl)
    by_test false n = refl

pub returns-in_default-clause-err : goal.returns-in_default-clause-err
returns-in_default-clause-err c = λ _. (refl, json_none c.args.bytes.now c.in_default.ensures.cases.0)

pub returns-in-Ok-from_str-clause-ok : goal.returns-in-Ok-from_str-clause-ok
returns-in-Ok-from_str-clause-ok c =
    let h = c.in-Ok.ensures.cases in
    json_text c.args.bytes.now h.1 ∙ (ap read (sym h.0) ∙ c.in-Ok-from_str.ensures.ok)
