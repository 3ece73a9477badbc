-- Both ways, by induction on the entries.
use Rattle.std.proofs.Common.{reverse}
use Rattle.chronicle.proofs.Breaks.{may_follow, unbroken_legal, legal_unbroken, found, first_found}
use Rattle.chronicle.proofs.laws.broken_is_exact.Goals as goal

pub returns : goal.returns
returns c = record {
  none = λ w history. (λ h. unbroken_legal w (reverse history) h, λ legal. legal_unbroken w (reverse history) legal);
  first = λ w history b. (found w history b, first_found w history b);
  rules = may_follow;
}
