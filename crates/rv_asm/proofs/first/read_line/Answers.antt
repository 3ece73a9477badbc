use Rattle.std.proofs.Common.{Some, ap, ◌∙◌, rules}
use Rattle.std.specs.Option.{option_map}
use Rattle.asm_lines.specs.Cuts.{line_of}
use Rattle.rv_asm.specs.First.{first_pass_place, after_said}
use Rattle.rv_asm.proofs.Lines.{empty_said}
use Rattle.rv_asm.proofs.first.read_line.Goals as goal

pub returns-then-says_nothing-clause-moved : goal.returns-then-says_nothing-clause-moved
returns-then-says_nothing-clause-moved c =
    ap (λ parsed. after_said (first_pass_place c.args.place.now) (option_map line_of parsed)) c.in-Some.is
    ∙ ap (λ said. after_said (first_pass_place c.args.place.now) (Some said)) (c.says_nothing.ensures (search rules))
    ∙ empty_said (first_pass_place c.args.place.now)
