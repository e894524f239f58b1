use Rattle.std.proofs.Common.{false, sym, subst, arith}
use Rattle.hb_text.specs.Names.{IsProjectName}
use Rattle.hb_text.proofs.NameScan.{name-read, read-name}
use Rattle.hb_text.proofs.names.ProjectName.read.Goals as goal

pub returns-then-not-ends_in_word-clause-invalid : goal.returns-then-not-ends_in_word-clause-invalid
returns-then-not-ends_in_word-clause-invalid c = λ e n. let read = read-name false c.args.text.now n.matches in let said = c.ends_in_word.ensures in let test = c.if-not-ends_in_word.true in cc

pub returns-in-Ok-clause-valid : goal.returns-in-Ok-clause-valid
returns-in-Ok-clause-valid c = record { short = omega (arith, c.if-text-gt-LONGEST_NAME.false); matches = name-read false c.args.text.now (let said = c.ends_in_word.ensures in let test = c.if-not-ends_in_word.false in cc) }

pub invariant_of-result : goal.invariant_of-result
invariant_of-result c = subst IsProjectName (sym c.in-Ok.ensures) (record { short = omega (arith, c.if-text-gt-LONGEST_NAME.false); matches = name-read false c.args.text.now (let said = c.ends_in_word.ensures in let test = c.if-not-ends_in_word.false in cc) })
