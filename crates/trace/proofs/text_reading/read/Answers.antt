-- A text is the trace of one chronicle at most, and a line that leaves the grammar is one of no trace.
use Rattle.std.proofs.Common.{◌≡◌}
use Rattle.trace.specs.declared.text_reading.TraceFault.TheVariants.{Memory}
use Rattle.trace.specs.Whole.{TellsLine}
use Rattle.trace.proofs.Faults.{handed, matched}
use Rattle.trace.proofs.ReadAgain.{whole_trace, same_trace, made_trace, no_line_of_trace}
use Rattle.trace.proofs.text_reading.read.Goals as goal

pub returns-in_err-world-clause-again : goal.returns-in_err-world-clause-again
returns-in_err-world-clause-again c = λ kept is.
    matched c.from_residual.result (λ found. found ≡ kept) (λ fault. fault ≡ Memory) c.in_err-world.field-0.0 c.from_residual.ensures.1
    (no_line_of_trace c.args.bytes.now c.in_err-world.field-0.0 kept c.in_err-world.ensures.fault is)

pub returns-in_err-entries-clause-fault : goal.returns-in_err-entries-clause-fault
returns-in_err-entries-clause-fault c =
    handed c.from_residual-in_err-entries.result (TellsLine c.args.bytes.now) c.in_err-entries.field-0.0 c.from_residual-in_err-entries.ensures.1
    (c.in_err-entries.ensures.fault c.args.bytes.now c.in_ok-world.ensures.found)

pub returns-in_err-entries-clause-again : goal.returns-in_err-entries-clause-again
returns-in_err-entries-clause-again c = λ kept is.
    let fault = c.in_err-entries.field-0.0 in
    matched c.from_residual-in_err-entries.result (λ found. found ≡ kept) (λ fault. fault ≡ Memory) fault c.from_residual-in_err-entries.ensures.1
    (no_line_of_trace c.args.bytes.now fault kept (c.in_err-entries.ensures.fault c.args.bytes.now c.in_ok-world.ensures.found) is)

pub returns-clause-trace : goal.returns-clause-trace
returns-clause-trace c =
    let w = c.in_ok-world.world in
    let es = c.in_ok-entries.entries.items in
    let rest = c.in_ok-entries.ensures in
    made_trace c.args.bytes.now c.new.result w es c.new.ensures.world c.new.ensures.entries (whole_trace w es c.args.bytes.now c.in_ok-world.text.now c.in_ok-world.ensures.setting rest.few rest.printable c.in_ok-world.ensures.found rest.found)

pub returns-clause-again : goal.returns-clause-again
returns-clause-again c = λ kept is.
    let w = c.in_ok-world.world in
    let es = c.in_ok-entries.entries.items in
    let rest = c.in_ok-entries.ensures in
    let made = made_trace c.args.bytes.now c.new.result w es c.new.ensures.world c.new.ensures.entries (whole_trace w es c.args.bytes.now c.in_ok-world.text.now c.in_ok-world.ensures.setting rest.few rest.printable c.in_ok-world.ensures.found rest.found) in
    same_trace c.args.bytes.now c.new.result kept made is
