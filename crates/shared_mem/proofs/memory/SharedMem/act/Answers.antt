use Rattle.mem_core.specs.Wants.{act_wanted}
use Rattle.shared_mem.proofs.Ordered.{order_in_turn}
use Rattle.shared_mem.proofs.memory.SharedMem.act.Goals as goal

pub act-answer-requires-clause-order : goal.act-answer-requires-clause-order
act-answer-requires-clause-order g c =
    let pass = c.args.pass in
    let turn = c.enter-turn in
    order_in_turn pass.cell.world turn.result.value c.peek.result.now c.value.result.now pass.low pass.high pass.seen (act_wanted c.args.want 0) turn.ensures.world c.peek.ensures c.value.ensures.value c.length-found.ensures.legal turn.ensures.seen
    c.requires.one c.requires.actor c.requires.order c.own_entries.ensures.none c.others_keep_the_order.ensures.order
