use Rattle.std.proofs.Common.{◌≡◌, drop}
use Rattle.hb_text.specs.NameScan.{place_after}
use Rattle.hb_text.specs.declared.names.Place.TheVariants.{Before}
use Rattle.hb_text.proofs.names.ends_in_word.Given as goal

abbrev pub invariant-loop-byte : goal.invariant-loop-byte
invariant-loop-byte l = place_after l.slash l.place (drop l.byte-index l.text) ≡ place_after l.slash Before l.text
