-- What is read stands there, and what stands there is read.
use Rattle.std.proofs.Common.{◌≡◌, codes, sym, ap, ◌∙◌, arith}
use Rattle.std.proofs.lemmas.Option.{same_Some}
use Rattle.trace.specs.HeadReading.{numbered_at}
use Rattle.trace.proofs.HeadTakes.{numbered_takes, cap_again, unread}
use Rattle.trace.proofs.head_reading.cap_line.Goals as goal

pub returns-in_default-clause-none : goal.returns-in_default-clause-none
returns-in_default-clause-none c = λ cap rest some few is.
    unread (numbered_at (codes "cap ") c.args.text.now) (cap, rest) c.in_default.ensures (ap (numbered_at (codes "cap ")) is ∙ cap_again cap rest (omega (arith, few)))

pub returns-then-cap-eq0-clause-none : goal.returns-then-cap-eq0-clause-none
returns-then-cap-eq0-clause-none c = λ cap rest some few is.
    let same = same_Some (cap, rest) (c.in-Some.cap, c.in-Some.rest.now) (sym (ap (numbered_at (codes "cap ")) is ∙ cap_again cap rest (omega (arith, few))) ∙ sym c.in-Some.ensures) in
    let number : cap ≡ c.in-Some.cap = ap (λ p. p.0) same in
    absurd (omega (arith, number, some, c.if-cap-eq0.true))

pub returns-then-cap-gt-MOST_ENTRIES-clause-none : goal.returns-then-cap-gt-MOST_ENTRIES-clause-none
returns-then-cap-gt-MOST_ENTRIES-clause-none c = λ cap rest some few is.
    let same = same_Some (cap, rest) (c.in-Some.cap, c.in-Some.rest.now) (sym (ap (numbered_at (codes "cap ")) is ∙ cap_again cap rest (omega (arith, few))) ∙ sym c.in-Some.ensures) in
    let number : cap ≡ c.in-Some.cap = ap (λ p. p.0) same in
    absurd (omega (arith, number, few, c.if-cap-gt-MOST_ENTRIES.true))

pub returns-clause-found : goal.returns-clause-found
returns-clause-found c = numbered_takes (codes "cap ") c.args.text.now (c.in-Some.cap, c.in-Some.rest.now) (sym c.in-Some.ensures)
