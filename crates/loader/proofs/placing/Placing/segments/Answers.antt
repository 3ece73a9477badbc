use Rattle.std.proofs.Common.{List, ◌++◌, take, subst, ◌∙◌}
use Rattle.std.proofs.lemmas.Result.{err_from_is_err_and}
use Rattle.elf32.specs.Files.{FileSegment}
use Rattle.loader.specs.Placing.{Test, segment_tests}
use Rattle.loader.specs.Steps.{Passed}
use Rattle.loader.proofs.InTurn.{next_segment, fails_at_segment}
use Rattle.loader.proofs.placing.Placing.segments.Goals as goal

pub returns-in_err-segment-clause-outcome : goal.returns-in_err-segment-clause-outcome
returns-in_err-segment-clause-outcome c = λ done passed.
    let part : FileSegment = record { addr = c.segment.result.addr; size = c.segment.result.size; bytes = c.segment.result.bytes.now } in
    let p = err_from_is_err_and c.from_residual.result c.from_residual.ensures.1 in
    rw (p.1, p.2) (fails_at_segment _ c.args.geometry.now done c.args.app c.loop-k.k c.args.elf.now.segments part c.segment.ensures.value (c.in_err-segment.ensures.outcome (done ++ segment_tests c.args.app 0 (take c.loop-k.k c.args.elf.now.segments)) (c.loop-k.invariant.1 done passed)))

pub loop-k-preserved : goal.loop-k-preserved
loop-k-preserved c =
    let part : FileSegment = record { addr = c.segment.result.addr; size = c.segment.result.size; bytes = c.segment.result.bytes.now } in (
      c.segment-in-loop-k.ensures.kept ∙ c.loop-k.invariant.0,
      λ done passed. subst (λ (ts : List Test). Passed c.args.geometry.now ts c.segment-in-loop-k.new.self) (next_segment done c.args.app c.loop-k.k c.args.elf.now.segments part c.segment.ensures.value)
          (c.in_ok-segment.ensures.outcome (done ++ segment_tests c.args.app 0 (take c.loop-k.k c.args.elf.now.segments)) (c.loop-k.invariant.1 done passed)),
    )
