use Rattle.std.proofs.Common.{◌≡◌, ◌<◌, true, false, sym, ap, ◌∙◌, arith}
use Rattle.elf32.specs.Files.{header, e_phnum, is_dynamic}
use Rattle.elf32.proofs.FirstHeaders.{any_of_none, any_more, any_hit}
use Rattle.elf32.proofs.headers.has_dynamic.Goals as goal

pub loop-k-init : goal.loop-k-init
loop-k-init c = any_of_none is_dynamic c.args.bytes.now

pub returns-then-is_dynamic : goal.returns-then-is_dynamic
returns-then-is_dynamic c =
    let below : c.loop-k.k < e_phnum c.args.bytes.now = omega (arith, c.header_count-k-end.ensures) in
    let hit : is_dynamic (header c.args.bytes.now c.loop-k.k) ≡ true = ap is_dynamic (sym c.header.ensures) ∙ sym c.is_dynamic.ensures ∙ c.if-is_dynamic.true in
    sym (any_hit is_dynamic c.args.bytes.now c.loop-k.k (e_phnum c.args.bytes.now) below hit)

pub loop-k-preserved : goal.loop-k-preserved
loop-k-preserved c =
    let missed : is_dynamic (header c.args.bytes.now c.loop-k.k) ≡ false = ap is_dynamic (sym c.header.ensures) ∙ sym c.is_dynamic.ensures ∙ c.if-is_dynamic.false in
    any_more is_dynamic c.args.bytes.now c.loop-k.k c.loop-k.invariant missed
