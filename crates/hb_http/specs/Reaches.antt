-- How far into a start line a text reaches.
use Rattle.std.specs.Prelude.{◌==◌, ℕ, if◌then◌else◌}
use Rattle.httparse.specs.Grammar.{is_token_byte, is_uri_byte}
use Rattle.hb_http.specs.declared.start_lines.Reach.{Reach}
use Rattle.hb_http.specs.declared.start_lines.Reach.TheVariants.{EmptyLines, AfterReturn, Method, Target, Beyond}

-- how far it reaches with one byte more
abbrev pub reach_after : Reach → ℕ → Reach
reach_after EmptyLines c = if c == 10 then EmptyLines else if c == 13 then AfterReturn else if is_token_byte c then Method else Beyond
reach_after AfterReturn c = if c == 10 then EmptyLines else Beyond
reach_after Method c = if c == 32 then Target else if is_token_byte c then Method else Beyond
reach_after Target c = if is_uri_byte c then Target else Beyond
reach_after Beyond c = Beyond
