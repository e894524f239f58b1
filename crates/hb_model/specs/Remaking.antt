-- Making the rows of an audit anew, entry by entry.
use Rattle.std.specs.Prelude.{◌≡◌, ℕ, suc, Some, None}
use Rattle.hb_rows.specs.Tables.{Tables}
use Rattle.hb_model.specs.Effects.{rows_of}
use Rattle.hb_model.specs.Fit.{unbuilt_at}
use Rattle.hb_model.specs.declared.fitting.Remade.{Remade}
use Rattle.hb_model.specs.declared.fitting.Remade.TheVariants.{Rows, Unbuilt}

-- the rows of the audit, or the place of the first entry whose kind isn't built
abbrev pub Remakes : Tables → Remade → Type 0
Remakes t (Rows made) = (unbuilt_at t ≡ None) × (made ≡ rows_of t.audit)
Remakes t (Unbuilt place) = (before : ℕ) × (place ≡ suc before) × (unbuilt_at t ≡ Some before)
