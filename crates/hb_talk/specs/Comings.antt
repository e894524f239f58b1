-- A request that comes: what is kept of its head and its body.
use Rattle.std.specs.Prelude.{◌≡◌, ℕ, Bool, false, List, Option, Some, None, MatchBool, nat_lt}
use Rattle.httparse.specs.Grammar.{RequestHead}
use Rattle.hb_http.specs.Framing.{asks_to_close}
use Rattle.hb_talk.specs.Wanting.{Asks, IsBare, media_of}
use Rattle.hb_talk.specs.declared.wanted.TheConstants.{MAX_BODY}
use Rattle.hb_talk.specs.declared.wanted.Wanted.{Wanted}

-- the length that is told of a body, where one is, is above the limit
abbrev pub tells_too_long : Option ℕ → Bool
tells_too_long None = false
tells_too_long (Some n) = nat_lt MAX_BODY n

-- what it wants, its Content-Type, whether its head asks to close, and whether its answer has no body
pub record ComesOf (wanted : Wanted) (told_media : Option (List ℕ)) (last bare_ : Bool) (h : RequestHead) : Type 0 where
  pub asks : Asks h.method h.target wanted
  pub media : told_media ≡ media_of h
  pub closes : last ≡ asks_to_close h
  pub bare : MatchBool bare_ (IsBare h) (¬ (IsBare h))
