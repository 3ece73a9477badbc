-- One step of the machine.
use Rattle.std.proofs.Common.{◌≡◌, ℕ, zero, suc, ◌+◌, ◌-◌, ◌<◌, List, [], ◌∷◌, ◌++◌, length, drop, drop-cons, add-one, sym, ap, ◌∙◌, arith}
use Rattle.history.specs.declared.events.Act.{Act}
use Rattle.std.specs.Prelude.{slice_index}
use Rattle.history.specs.declared.events.Act.TheVariants as act
use Rattle.history.specs.Attested.{attested_blocks, total}
use Rattle.challenge.specs.declared.Challenge.{Challenge}
use Rattle.chronicle.specs.declared.worlds.Shape.{Shape}
use Rattle.measure.specs.declared.machine.Stage.TheVariants.{Leading, Copying}
use Rattle.measure.specs.Program.{copies, closing_acts}
use Rattle.measure.specs.Machine.{Machine, acts_left, told_machine}

-- a machine with these acts left
abbrev with_left : List Act → ℕ → ℕ → Machine
with_left left start end = record { left = left; start = start; end = end }

pub leading_told : (c : Challenge) (shape : Shape) (left start end place : ℕ) → 0 < left → with_left (acts_left c shape (Leading (left - 1))) start end ≡ told_machine (with_left (acts_left c shape (Leading left)) start end) place
leading_told c shape zero start end place some = absurd (omega (arith, some))
leading_told c shape (suc left) start end place some =
    let n : suc left - 1 ≡ left = omega arith in ap (λ k. with_left (acts_left c shape (Leading k)) start end) n

-- the Copies that are left, one by one
pub copies_from : (blocks : List ℕ) (made : ℕ) → made < length blocks → copies (drop made blocks) ≡ act.Copy (slice_index blocks made) ∷ copies (drop (made + 1) blocks)
copies_from blocks made within = ap copies (drop-cons blocks made 0 within) ∙ ap (λ k. act.Copy (slice_index blocks made) ∷ copies (drop k blocks)) (sym (add-one made))

pub copying_told : (c : Challenge) (shape : Shape) (made start end place : ℕ) → made < total shape.ranges
    → with_left (acts_left c shape (Copying (made + 1))) start end ≡ told_machine (with_left (acts_left c shape (Copying made)) start end) place
copying_told c shape made start end place within =
    sym (ap (λ l. told_machine (with_left (l ++ (act.End ∷ []) ++ closing_acts c) start end) place) (copies_from (attested_blocks shape.ranges) made within))
