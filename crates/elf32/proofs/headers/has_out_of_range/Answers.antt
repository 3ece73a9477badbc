use Rattle.std.proofs.Common.{◌≡◌, ◌<◌, true, false, sym, ap, ◌∙◌, arith}
use Rattle.elf32.specs.Files.{header, e_phnum, is_out_of_range}
use Rattle.elf32.proofs.FirstHeaders.{any_of_none, any_more, any_hit}
use Rattle.elf32.proofs.headers.has_out_of_range.Goals as goal

pub loop-k-init : goal.loop-k-init
loop-k-init c = any_of_none (is_out_of_range c.args.bytes.now) c.args.bytes.now

pub returns-then-is_out_of_range : goal.returns-then-is_out_of_range
returns-then-is_out_of_range c =
    let below : c.loop-k.k < e_phnum c.args.bytes.now = omega (arith, c.header_count-k-end.ensures) in
    let hit : is_out_of_range c.args.bytes.now (header c.args.bytes.now c.loop-k.k) ≡ true = ap (is_out_of_range c.args.bytes.now) (sym c.header.ensures) ∙ sym c.is_out_of_range.ensures ∙ c.if-is_out_of_range.true in
    sym (any_hit (is_out_of_range c.args.bytes.now) c.args.bytes.now c.loop-k.k (e_phnum c.args.bytes.now) below hit)

pub loop-k-preserved : goal.loop-k-preserved
loop-k-preserved c =
    let missed : is_out_of_range c.args.bytes.now (header c.args.bytes.now c.loop-k.k) ≡ false = ap (is_out_of_range c.args.bytes.now) (sym c.header.ensures) ∙ sym c.is_out_of_range.ensures ∙ c.if-is_out_of_range.false in
    any_more (is_out_of_range c.args.bytes.now) c.args.bytes.now c.loop-k.k c.loop-k.invariant missed
