-- Others' entries keep the pass, and the own entry changes it as its act does.
use Rattle.measure.proofs.Steps.{starts, copied_next, ends_here, releases_here}
use Rattle.measure.proofs.laws.steps_of_a_pass.Goals as goal

pub returns-clause-starts : goal.returns-clause-starts
returns-clause-starts c = starts c.places_of_a_pass.ensures.step c.places_of_a_pass.ensures.bytes

pub returns-clause-copies : goal.returns-clause-copies
returns-clause-copies c =
    copied_next c.others_keep_the_order.ensures.order c.others_keep_the_pass.ensures.pass c.own_entries.ensures.none
    c.one_entry_more.ensures.less c.places_of_a_pass.ensures.step c.places_of_a_pass.ensures.bytes

pub returns-clause-ends : goal.returns-clause-ends
returns-clause-ends c =
    ends_here c.others_keep_the_order.ensures.order c.others_keep_the_pass.ensures.pass c.own_entries.ensures.none
    c.one_entry_more.ensures.less c.places_of_a_pass.ensures.step

pub returns-clause-releases : goal.returns-clause-releases
returns-clause-releases c =
    releases_here c.others_keep_the_order.ensures.order c.others_keep_the_pass.ensures.pass c.own_entries.ensures.none
    c.one_entry_more.ensures.less c.places_of_a_pass.ensures.releases
