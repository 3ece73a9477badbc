use Rattle.std.proofs.Common.{arith}
use Rattle.std.proofs.lemmas.Bool.Decides.{nat_tests}
use Rattle.asm_lines.proofs.Symbols.{symbol_front}
use Rattle.asm_lines.proofs.cuts.leading_name.Goals as goal

pub returns : goal.returns
returns c = let h = symbol_front c.args.text.now c.args.end c.requires in grind (arith, nat_tests, h)
