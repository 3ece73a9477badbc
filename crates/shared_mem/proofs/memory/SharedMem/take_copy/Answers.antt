use Rattle.std.proofs.Common.{ℕ, ◌+◌, refl, sym, ap, ◌∙◌, subst}
use Rattle.std.specs.Prelude.{IsTrue}
use Rattle.history.specs.declared.events.Act.TheVariants.{Copy}
use Rattle.history.specs.Legal.{actor_fits}
use Rattle.chronicle.specs.Ports.{entry_by}
use Rattle.shared_mem.proofs.Ordered.{order_in_turn}
use Rattle.shared_mem.proofs.memory.SharedMem.take_copy.Goals as goal

pub copy-answer-requires-clause-order : goal.copy-answer-requires-clause-order
copy-answer-requires-clause-order g c =
    let pass = c.args.pass in
    let turn = c.enter-turn in
    let measurer = c.requires.measurer in
    let fits = subst (λ (n : ℕ). IsTrue (actor_fits (entry_by n (Copy c.args.block)))) (sym measurer.0) refl in
    let one = measurer.1 ∙ ap (λ (n : ℕ). n + 1) (sym measurer.0) in
    order_in_turn pass.cell.world turn.result.value c.peek.result.now c.value.result.now pass.low pass.high pass.seen (Copy c.args.block) turn.ensures.world c.peek.ensures c.value.ensures.value c.length-found.ensures.legal turn.ensures.seen
    one fits c.requires.order c.own_entries.ensures.none c.others_keep_the_order.ensures.order
