-- What a request wants, by its method and its target, and what its head tells beside that.
use Rattle.std.specs.Prelude.{◌≡◌, ℕ, List, Option, Result, Ok, Err, codes}
use Rattle.httparse.specs.Grammar.{RequestHead}
use Rattle.hb_http.specs.Headers.{headers_of, values_of}
use Rattle.hb_http.specs.Parts.{first_of}
use Rattle.hb_routes.specs.Routes.{IsRouted}
use Rattle.hb_routes.specs.declared.faults.RouteFault.{RouteFault}
use Rattle.hb_routes.specs.declared.routes.Route.{Route}
use Rattle.hb_routes.specs.declared.routes.Route.TheVariants as route
use Rattle.hb_talk.specs.declared.wanted.Wanted.{Wanted}
use Rattle.hb_talk.specs.declared.wanted.Wanted.TheVariants.{Base, PushBlob, GetBlob, HeadBlob, PutManifest, GetManifest, HeadManifest, Unbuilt, Unrouted}

-- what a route wants
abbrev pub wanted_of : Route → Wanted
wanted_of route.Base = Base
wanted_of (route.PushBlob name d) = PushBlob name d
wanted_of (route.GetBlob name d) = GetBlob name d
wanted_of (route.HeadBlob name d) = HeadBlob name d
wanted_of (route.PutManifest name r) = PutManifest name r
wanted_of (route.GetManifest name r) = GetManifest name r
wanted_of (route.HeadManifest name r) = HeadManifest name r
wanted_of other = Unbuilt

abbrev pub wanted_by : Result Route RouteFault → Wanted
wanted_by (Ok r) = wanted_of r
wanted_by (Err fault) = Unrouted fault

-- by method and target
abbrev pub Asks : List ℕ → List ℕ → Wanted → Type 0
Asks method target w = (r : Result Route RouteFault) × IsRouted method target r × (w ≡ wanted_by r)

-- it wants the head of an answer alone
abbrev pub IsBare : RequestHead → Type 0
IsBare h = h.method ≡ codes "HEAD"

-- the value of its first Content-Type
abbrev pub media_of : RequestHead → Option (List ℕ)
media_of h = first_of (values_of (codes "content-type") (headers_of h))
