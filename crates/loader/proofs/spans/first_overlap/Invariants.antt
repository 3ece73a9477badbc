use Rattle.std.proofs.Common.{◌≡◌, drop, find}
use Rattle.loader.specs.Placing.{overlaps}
use Rattle.loader.proofs.spans.first_overlap.Given as goal

-- the first that overlaps is the first of those that are left
abbrev pub invariant-loop-earlier : goal.invariant-loop-earlier
invariant-loop-earlier l = find (λ e. overlaps e l.span) (drop l.earlier-index l.spans) ≡ find (λ e. overlaps e l.span) l.spans
