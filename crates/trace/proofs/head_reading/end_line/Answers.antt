-- What is read stands there, and what stands there is read.
use Rattle.std.proofs.Common.{◌≡◌, ◌++◌, ◌∷◌, codes, sym, ap, ◌∙◌, arith}
use Rattle.std.specs.Fmt.{decimal}
use Rattle.std.proofs.lemmas.Option.{same_Some}
use Rattle.trace.specs.HeadReading.{numbered_at}
use Rattle.trace.proofs.HeadTakes.{numbered_takes, end_again, unread}
use Rattle.trace.proofs.head_reading.end_line.Goals as goal

pub returns-in_default-clause-none : goal.returns-in_default-clause-none
returns-in_default-clause-none c = λ rest is.
    unread (numbered_at (codes "end ") c.args.text.now) (c.args.count, rest) c.in_default.ensures (ap (numbered_at (codes "end ")) is ∙ end_again c.args.count rest (omega (arith, c.ranges.count.fits)))

pub returns-then-told-count-clause-none : goal.returns-then-told-count-clause-none
returns-then-told-count-clause-none c = λ rest is.
    let same = same_Some (c.args.count, rest) (c.in-Some.told, c.in-Some.rest.now) (sym (ap (numbered_at (codes "end ")) is ∙ end_again c.args.count rest (omega (arith, c.ranges.count.fits))) ∙ sym c.in-Some.ensures) in
    let number : c.args.count ≡ c.in-Some.told = ap (λ p. p.0) same in
    absurd (c.if-told-count.true (sym number))

pub returns-clause-found : goal.returns-clause-found
returns-clause-found c =
    numbered_takes (codes "end ") c.args.text.now (c.in-Some.told, c.in-Some.rest.now) (sym c.in-Some.ensures)
    ∙ ap (λ n. (codes "end " ++ decimal n) ++ 10 ∷ c.in-Some.rest.now) c.if-told-count.false
