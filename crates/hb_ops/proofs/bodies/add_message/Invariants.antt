use Rattle.std.proofs.Common.{◌≡◌, ◌++◌, map, take}
use Rattle.hb_ops.specs.Errors.{message_letter}
use Rattle.hb_ops.proofs.bodies.add_message.Given as goal

-- the letters so far are added
abbrev pub invariant-loop-letter : goal.invariant-loop-letter
invariant-loop-letter l = l.text.items ≡ l.initial.text.items ++ map message_letter (take l.letter-index l.code)
