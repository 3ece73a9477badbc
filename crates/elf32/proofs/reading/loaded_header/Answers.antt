use Rattle.std.proofs.Common.{◌≡◌, ◌<◌, true, false, length, slice_get, Some, sym, ap, ◌∙◌, arith, ℕ}
use Rattle.elf32.specs.Files.{header, is_loaded, is_out_of_range, loaded_headers, e_phnum}
use Rattle.elf32.proofs.FirstHeaders.{passing, kept_none, kept_no, kept_at, passing_yes, none_at}
use Rattle.elf32.proofs.reading.loaded_header.Goals as goal
use Rattle.elf32.proofs.reading.loaded_header.Goals.{then-is_loaded+else-seen-number, else-is_loaded}

pub loop-k-init : goal.loop-k-init
loop-k-init c = (sym (ap length (kept_none is_loaded c.args.bytes.now)), omega arith)

pub returns-then-seen-number-clause-value : goal.returns-then-seen-number-clause-value
returns-then-seen-number-clause-value c =
    let passes : is_loaded (header c.args.bytes.now c.loop-k.k) ≡ true = ap is_loaded (sym c.header-header.ensures) ∙ sym c.is_loaded.ensures ∙ c.if-is_loaded.true in
    let below : c.loop-k.k < e_phnum c.args.bytes.now = omega (arith, c.header_count-k-end.ensures) in
    let number : c.args.number ≡ passing is_loaded c.args.bytes.now c.loop-k.k = omega (arith, c.loop-k.invariant, c.if-seen-number.true) in
    ap (λ (n : ℕ). slice_get (loaded_headers c.args.bytes.now) n) number
    ∙ kept_at is_loaded c.args.bytes.now c.loop-k.k (e_phnum c.args.bytes.now) below passes
    ∙ ap Some (sym c.header-header.ensures)

pub returns-then-seen-number-clause-in_range : goal.returns-then-seen-number-clause-in_range
returns-then-seen-number-clause-in_range c =
    let below : c.loop-k.k < e_phnum c.args.bytes.now = omega (arith, c.header_count-k-end.ensures) in
    ap (is_out_of_range c.args.bytes.now) c.header-header.ensures
    ∙ none_at (is_out_of_range c.args.bytes.now) c.args.bytes.now c.loop-k.k (e_phnum c.args.bytes.now) below c.requires.file.in_range

pub loop-k-preserved : goal.loop-k-preserved
loop-k-preserved c =
    elim c.if-is_loaded.branch [
      | then-is_loaded+else-seen-number w ↦
          let passes : is_loaded (header c.args.bytes.now c.loop-k.k) ≡ true = ap is_loaded (sym c.header-header.ensures) ∙ sym c.is_loaded.ensures ∙ w.if-is_loaded.true in
          omega (arith, c.loop-k.invariant, w.seen-is, w.if-seen-number, passing_yes is_loaded c.args.bytes.now c.loop-k.k passes)
      | else-is_loaded w ↦
          let fails : is_loaded (header c.args.bytes.now c.loop-k.k) ≡ false = ap is_loaded (sym c.header-header.ensures) ∙ sym c.is_loaded.ensures ∙ w.if-is_loaded.false in
          omega (arith, c.loop-k.invariant, w.seen-is, ap length (kept_no is_loaded c.args.bytes.now c.loop-k.k fails))
    ]
