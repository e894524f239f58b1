-- The places that a session can come to, by their numbers.
use Rattle.hb_http.specs.ChunkPlaces.{IsPlace}
use Rattle.hb_http.specs.declared.places.Place.{Place}
use Rattle.hb_http.specs.declared.places.Place.TheVariants.{Between, Counted, Chunked}

abbrev pub IsSound : Place → Type 0
IsSound Between = Unit {0}
IsSound (Counted left) = Unit {0}
IsSound (Chunked place) = IsPlace place
