-- Where a session stands, and what it holds.
use Rattle.std.specs.Prelude.{ℕ, Bool, false, List, []}
use Rattle.hb_http.specs.declared.places.Place.{Place}
use Rattle.hb_http.specs.declared.places.Place.TheVariants.{Between}

-- where it stands, the present body piece, the bytes behind it that wait, and whether the input has ended
pub record Standing : Type 0 where
  pub place : Place
  pub body : List ℕ
  pub waiting : List ℕ
  pub closed : Bool

-- the start of a connection
abbrev pub fresh : Standing
fresh = record { place = Between; body = []; waiting = []; closed = false }

-- the same without a body piece
abbrev pub at_rest : Standing → Standing
at_rest s = record { place = s.place; body = []; waiting = s.waiting; closed = s.closed }
