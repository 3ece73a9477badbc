-- The table of digits against their definition, at each of the 256 bytes by computing.
use Rattle.std.proofs.Common.{◌≡◌, ◌==◌, ℕ, ◌<◌, get_or, refl}
use Rattle.std.proofs.lemmas.Bool.{eqb-true}
use Rattle.trace.specs.declared.reading.TheConstants.{LOW_DIGITS}
use Rattle.trace.specs.Reading.{low_digit}
use Rattle.trace.proofs.Again.{pass_at}

pub low_in_table : (c : ℕ) → c < 256 → get_or LOW_DIGITS c 0 ≡ low_digit c
low_in_table c small = eqb-true (get_or LOW_DIGITS c 0) (low_digit c) (pass_at (λ c. get_or LOW_DIGITS c 0 == low_digit c) 256 c refl small)
