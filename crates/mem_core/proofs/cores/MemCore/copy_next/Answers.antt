-- A Copy in order is of the attested block that comes next, and the buffer has that block of memory as it is kept.
use Rattle.std.proofs.Common.{ℕ, not, Option, Some, None, ap, reverse, arith}
use Rattle.std.specs.Prelude.{◌&&◌, ◌==◌, IsTrue}
use Rattle.std.proofs.lemmas.Bool.{and_parts, false≢true}
use Rattle.std.proofs.lemmas.Grind.{common_steps}
use Rattle.history.specs.declared.events.Act.TheVariants.{Copy}
use Rattle.history.specs.Attested.{is_attested, index_of}
use Rattle.history.specs.Layout.{Setting}
use Rattle.history.specs.Pass.{Pass, pass_after, copied_of, is_ended}
use Rattle.history.specs.Legal.{in_order}
use Rattle.lock_plan.specs.Plans.{is_copy_step}
use Rattle.mem_core.proofs.cores.MemCore.copy_next.Goals as goal

is_of_attested : (w : Setting) (pass : Option Pass) (block : ℕ) → IsTrue (in_order w pass (Copy block)) → IsTrue (is_attested w.ranges block)
is_of_attested w None block order = absurd (false≢true order)
is_of_attested w (Some pass) block order =
    let parts = and_parts (not (is_ended pass) && is_attested w.ranges block) (index_of w.ranges block == copied_of pass) order in
    (and_parts (not (is_ended pass)) (is_attested w.ranges block) parts.0).1

pub copy_block-requires-clause-block : goal.copy_block-requires-clause-block
copy_block-requires-clause-block c =
    let w = c.self.inside.world in
    let kept = c.self.invariant.0 in
    let attested = is_of_attested w (pass_after (reverse c.self.inside.entries.items)) c.args.block (rw (← c.self.view_is) at c.requires.order) in
    let inside = c.blocks_in_order.ensures.inside w.ranges kept.setting.ranges.apart c.args.block attested in
    rw kept.memory.layout (omega (arith, inside, kept.setting.inside))

pub copied-requires : goal.copied-requires
copied-requires c =
    let w = c.self.inside.world in
    let kept = c.self.invariant.0 in
    ap is_copy_step (c.order_gives_next_step.ensures.copy w (reverse c.self.inside.entries.items) c.self.inside.plan c.args.block kept.setting.ranges kept.plan (rw (← c.self.view_is) at c.requires.order))

pub returns-clause-answer : goal.returns-clause-answer
returns-clause-answer c =
    let bytes = c.copy_block.ensures.history c.self.inside.world (reverse c.self.inside.entries.items) c.self.invariant.0.memory in
    rw (← c.self.view_is) record { room = rw (← c.self.view_is) at c.requires.cap; read = grind (arith, common_steps); grown = grind (arith, common_steps); at = c.append-place.ensures.place; bytes = bytes }
