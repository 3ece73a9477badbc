-- By the laws on others' entries, and by one entry more.
use Rattle.measure.proofs.Steps.{keeps_others, keeps_tick, keeps_join}
use Rattle.measure.proofs.laws.answers_keep.Goals as goal

pub returns-clause-others : goal.returns-clause-others
returns-clause-others c = keeps_others c.others_keep_the_order.ensures.order c.others_keep_the_pass.ensures.pass c.own_entries.ensures.none

pub returns-clause-tick : goal.returns-clause-tick
returns-clause-tick c =
    keeps_tick c.others_keep_the_order.ensures.order c.others_keep_the_pass.ensures.pass c.own_entries.ensures.none
    c.one_entry_more.ensures.less c.places_of_a_pass.ensures.step c.places_of_a_pass.ensures.bytes

pub returns-clause-more : goal.returns-clause-more
returns-clause-more c = keeps_join
