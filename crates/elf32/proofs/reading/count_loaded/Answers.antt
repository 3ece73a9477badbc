use Rattle.std.proofs.Common.{◌≡◌, true, false, length, sym, ap, ◌∙◌, arith}
use Rattle.elf32.specs.Files.{header, is_loaded}
use Rattle.elf32.proofs.FirstHeaders.{kept_none, kept_no, passing_yes, passing_few}
use Rattle.elf32.proofs.reading.count_loaded.Goals as goal
use Rattle.elf32.proofs.reading.count_loaded.Goals.{then-is_loaded, else-is_loaded}

pub loop-k-init : goal.loop-k-init
loop-k-init c = sym (ap length (kept_none is_loaded c.args.bytes.now))

pub overflow_add-count : goal.overflow_add-count
overflow_add-count c = omega (arith, c.loop-k.invariant, passing_few is_loaded c.args.bytes.now c.loop-k.k, c.header_count-k-end.ensures, c.requires.few)

pub loop-k-preserved : goal.loop-k-preserved
loop-k-preserved c =
    elim c.if-is_loaded.branch [
      | then-is_loaded w ↦
          let passes : is_loaded (header c.args.bytes.now c.loop-k.k) ≡ true = ap is_loaded (sym c.header.ensures) ∙ sym c.is_loaded.ensures ∙ w.if-is_loaded.true in
          omega (arith, c.loop-k.invariant, w.count-is, passing_yes is_loaded c.args.bytes.now c.loop-k.k passes)
      | else-is_loaded w ↦
          let fails : is_loaded (header c.args.bytes.now c.loop-k.k) ≡ false = ap is_loaded (sym c.header.ensures) ∙ sym c.is_loaded.ensures ∙ w.if-is_loaded.false in
          omega (arith, c.loop-k.invariant, w.count-is, ap length (kept_no is_loaded c.args.bytes.now c.loop-k.k fails))
    ]

pub returns-clause-few : goal.returns-clause-few
returns-clause-few c = omega (arith, c.loop-k.invariant, passing_few is_loaded c.args.bytes.now c.loop-k.k, c.header_count-k-end.ensures, c.requires.few)
