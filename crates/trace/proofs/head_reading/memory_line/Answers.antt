-- What is read stands there, and what stands there is read.
use Rattle.std.proofs.Common.{◌++◌, ◌∷◌, sym, ap, ◌∙◌, subst}
use Rattle.std.proofs.lemmas.Option.{same_Some}
use Rattle.history.specs.Layout.{IsLayout}
use Rattle.trace.specs.Text.{memory_line}
use Rattle.trace.specs.HeadReading.{memory_numbers}
use Rattle.trace.proofs.HeadTakes.{layout_by, memory_takes, memory_again, unread}
use Rattle.trace.proofs.head_reading.memory_line.Goals as goal

pub returns-in_default-clause-none : goal.returns-in_default-clause-none
returns-in_default-clause-none c = λ layout rest is_layout is. unread (memory_numbers c.args.text.now) (layout.base, layout.size, layout.blocks, rest) c.in_default.ensures (ap memory_numbers is ∙ memory_again layout rest is_layout)

pub returns-in-Some-geometry_of-clause-found : goal.returns-in-Some-geometry_of-clause-found
returns-in-Some-geometry_of-clause-found c =
    memory_takes c.args.text.now (c.in-Some.base, c.in-Some.size, c.in-Some.blocks, c.in-Some.rest.now) (sym c.in-Some.ensures)
    ∙ ap (λ l. memory_line l ++ 10 ∷ c.in-Some.rest.now) (sym c.in-Some-geometry_of.ensures.1)

pub returns-in-None-clause-none : goal.returns-in-None-clause-none
returns-in-None-clause-none c = λ layout rest is_layout is.
    let same = same_Some (layout.base, layout.size, layout.blocks, rest) (c.in-Some.base, c.in-Some.size, c.in-Some.blocks, c.in-Some.rest.now) (sym (ap memory_numbers is ∙ memory_again layout rest is_layout) ∙ sym c.in-Some.ensures) in
    c.in-None.ensures (subst (λ p. IsLayout (layout_by p.0 p.1 p.2)) same is_layout)
