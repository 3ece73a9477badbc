use Rattle.std.proofs.Common.{◌≡◌, ℕ, ◌<◌, ◌≤◌, ◌++◌, List, take, ap, subst, ◌∙◌, arith}
use Rattle.std.specs.List.{flat_map}
use Rattle.history.specs.declared.ranges.Range.{Range}
use Rattle.history.specs.Attested.{attested_block, attested_blocks, last_end, total}
use Rattle.history.specs.Memory.{block_bytes}
use Rattle.hmac256.specs.States.{StandsFor}
use Rattle.trace.proofs.Hashed.{hashed_all, hashed_more}
use Rattle.trace.proofs.confirm.hash_attested.Goals as goal

pub block_of-requires-clause-block : goal.block_of-requires-clause-block
block_of-requires-clause-block c =
    let ranges = c.ranges-ranges.result.now in
    let apart = c.total-index-end.ensures.ranges.apart in
    let within : c.hashing.index < total ranges = omega (arith, c.total-index-end.ensures.value, c.hashing-test.true) in
    let inside = c.blocks_in_order.ensures.inside ranges apart (attested_block ranges c.hashing.index) (c.blocks_in_order.ensures.attested ranges apart c.hashing.index within) in
    omega (arith, inside, ap last_end c.ranges-ranges.ensures.value, c.ranges-ranges.ensures.setting.inside, c.block.ensures)

pub hashing-preserved : goal.hashing-preserved
hashing-preserved c = λ key text m began is.
    let w = c.args.world.now in
    let index = c.hashing.index in
    let apart = c.ranges-ranges.ensures.setting.ranges.apart in
    let within : index < total w.ranges = omega (arith, c.total-index-end.ensures.value, ap total c.ranges-ranges.ensures.value, c.hashing-test.true) in
    let block : c.block.result ≡ attested_block w.ranges index = c.block.ensures ∙ ap (λ (ranges : List Range). attested_block ranges index) c.ranges-ranges.ensures.value in
    let bytes = c.block_of.ensures m is ∙ ap (λ b. block_bytes w m b) block in
    let before = c.hashing.invariant key text m began is in
    let after = c.update.ensures key (text ++ flat_map (block_bytes w m) (take index (attested_blocks w.ranges))) before in
    subst (λ (said : List ℕ). StandsFor c.update.new.self key said) (hashed_more w m text c.block_of.result.now index (attested_block w.ranges index) (c.blocks_in_order.ensures.next w.ranges apart index within) bytes) after

pub returns : goal.returns
returns c = λ key text m began is.
    let w = c.args.world.now in
    let all : total w.ranges ≤ c.hashing.index = omega (arith, c.total-index-end.ensures.value, ap total c.ranges-ranges.ensures.value, c.hashing-test.false) in
    subst (λ (said : List ℕ). StandsFor c.hashing.hmac key said) (hashed_all w m text c.hashing.index all) (c.hashing.invariant key text m began is)
