-- Methods of requests. They compare as bytes, and case counts (RFC 9110, section 9.1).
use Rattle.std.specs.Prelude.{ℕ, List, codes, if◌then◌else◌}
use Rattle.hb_routes.specs.Cuts.{is_same}
use Rattle.hb_routes.specs.declared.methods.Method.{Method}
use Rattle.hb_routes.specs.declared.methods.Method.TheVariants.{Get, Head, Post, Put, Patch, Delete, Other}

abbrev pub method_of : List ℕ → Method
method_of text =
    if is_same text (codes "GET") then Get
    else if is_same text (codes "HEAD") then Head
    else if is_same text (codes "POST") then Post
    else if is_same text (codes "PUT") then Put
    else if is_same text (codes "PATCH") then Patch
    else if is_same text (codes "DELETE") then Delete
    else Other
