-- What is read stands there, and what stands there is read.
use Rattle.std.proofs.Common.{◌++◌, ◌∷◌, drop, codes, sym, ap, ◌∙◌}
use Rattle.std.specs.List.{flat_map}
use Rattle.trace.specs.Text.{range_pair}
use Rattle.trace.specs.Reading.{text_behind}
use Rattle.trace.proofs.Takes.{behind_takes}
use Rattle.trace.proofs.HeadTakes.{attest_behind, attest_found, attest_none, unread}
use Rattle.trace.proofs.head_reading.attest_line.Goals as goal

pub returns-in_default-clause-none : goal.returns-in_default-clause-none
returns-in_default-clause-none c = λ ranges rest are is.
    unread (text_behind (codes "attest ") c.args.text.now) (drop 1 (flat_map range_pair ranges ++ 10 ∷ rest)) c.in_default.ensures (ap (text_behind (codes "attest ")) is ∙ attest_behind ranges rest are.some)

pub returns-clause-found : goal.returns-clause-found
returns-clause-found c =
    attest_found c.ranges_line.result c.args.text.now c.in-Some.pairs.now (behind_takes (codes "attest ") c.args.text.now c.in-Some.pairs.now (sym c.in-Some.ensures)) c.ranges_line.ensures.found

pub returns-clause-none : goal.returns-clause-none
returns-clause-none c =
    attest_none c.ranges_line.result c.args.text.now c.in-Some.pairs.now (behind_takes (codes "attest ") c.args.text.now c.in-Some.pairs.now (sym c.in-Some.ensures)) c.ranges_line.ensures.none
