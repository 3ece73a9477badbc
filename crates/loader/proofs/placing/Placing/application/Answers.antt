use Rattle.std.proofs.Common.{[], ◌∷◌, ◌++◌}
use Rattle.std.proofs.lemmas.Result.{err_from_is_err_and}
use Rattle.loader.specs.Placing.{segment_tests}
use Rattle.loader.specs.Placing.Test.{TryEntry}
use Rattle.loader.proofs.InTurn.{fails_more}
use Rattle.loader.proofs.placing.Placing.application.Goals as goal

pub returns-in_err-segments-clause-outcome : goal.returns-in_err-segments-clause-outcome
returns-in_err-segments-clause-outcome c = λ done passed.
    let p = err_from_is_err_and c.from_residual.result c.from_residual.ensures.1 in
    rw (p.1, p.2) (fails_more _ c.args.geometry.now (done ++ segment_tests c.args.app 0 c.args.elf.now.segments) (TryEntry c.args.app c.args.elf.now.entry ∷ []) (c.in_err-segments.ensures.outcome done passed))
