-- One block more, and all of them.
use Rattle.std.proofs.Common.{◌++◌, sym, ap, ◌∙◌, arith}
use Rattle.generated.specs.Generated.{application_block}
use Rattle.generated.proofs.Lists.{bytes_more}
use Rattle.generated.proofs.Setups.{blocks_are}
use Rattle.generated.proofs.memories.append_blocks.Goals as goal

pub loop-k-preserved : goal.loop-k-preserved
loop-k-preserved c =
    let k = c.loop-k.k in
    let seed = c.args.draws.now.seed in
    let kept = c.loop-k.invariant in
    record {
      items = c.in_ok-append_block.ensures.items ∙ ap (λ s. c.loop-k.image.items ++ application_block s k) kept.seed ∙ ap (λ l. l ++ application_block seed k) kept.items ∙ sym (bytes_more (application_block seed) k);
      length = omega (arith, c.in_ok-append_block.ensures.length, kept.length);
      seed = c.in_ok-append_block.ensures.seed ∙ kept.seed;
      count = omega (arith, c.in_ok-append_block.ensures.count);
    }

pub returns-clause-items : goal.returns-clause-items
returns-clause-items c = c.loop-k.invariant.items ∙ blocks_are c.args.draws.now.seed c.loop-k.k (omega arith)
