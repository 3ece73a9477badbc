use Rattle.rv_asm.specs.First.{first_pass_place}
use Rattle.rv_asm.specs.Kept.{kept_orders}
use Rattle.rv_asm.proofs.Writable.{given_is_writable}
use Rattle.rv_asm.proofs.Keeps.{given_whole}
use Rattle.rv_asm.proofs.assembling.assemble.Goals as goal

pub returns-clause-gives : goal.returns-clause-gives
returns-clause-gives c =
    given_whole c.args.text.now (first_pass_place c.in_ok-reading.reading.place) (kept_orders c.in_ok-reading.reading.kept.items) c.in_ok-reading.reading.after c.from_kept.result
    c.in_ok-reading.ensures.place c.in_ok-reading.ensures.kept c.in_ok-reading.ensures.after c.from_kept.ensures

pub returns-clause-writable : goal.returns-clause-writable
returns-clause-writable c =
    given_is_writable c.args.text.now c.from_kept.result
    (given_whole c.args.text.now (first_pass_place c.in_ok-reading.reading.place) (kept_orders c.in_ok-reading.reading.kept.items) c.in_ok-reading.reading.after c.from_kept.result
    c.in_ok-reading.ensures.place c.in_ok-reading.ensures.kept c.in_ok-reading.ensures.after c.from_kept.ensures)
