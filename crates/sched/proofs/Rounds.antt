-- Turns and rounds, one more at their end.
use Rattle.std.proofs.Common.{◌≡◌, ℕ, zero, suc, ◌+◌, ◌<◌, List, [], ◌∷◌, ◌++◌, length, take, get_or, refl, sym, ap, ◌∙◌, add-zero, add-one, append-nil, arith}
use Rattle.std.specs.Prelude.{replicate}
use Rattle.std.specs.List.{range_with_len}
use Rattle.std.proofs.lemmas.List.{take_more}
use Rattle.std.proofs.lemmas.List.Concat.{flat_map-append}
use Rattle.schedule_text.specs.declared.reading.Run.{Run}
use Rattle.device.specs.Setups.{Setup}
use Rattle.device.specs.Turns.{RunState, actors_in, turn, turns}
use Rattle.sched.specs.Scheduled.{rounds, turns_said}

pub turns-append : (s : Setup) (state : RunState) (a b : List ℕ) → turns s state (a ++ b) ≡ turns s (turns s state a) b
turns-append s state [] b = refl
turns-append s state (actor ∷ a) b = turns-append s (turn s state actor) a b

turns_once_more : (s : Setup) (state : RunState) (actor count : ℕ) → turns s state (replicate (suc count) actor) ≡ turn s (turns s state (replicate count actor)) actor
turns_once_more s state actor zero = refl
turns_once_more s state actor (suc count) = turns_once_more s (turn s state actor) actor count

-- one turn more of the same actor
pub turns_more : (s : Setup) (state : RunState) (actor count : ℕ) → turns s state (replicate (count + 1) actor) ≡ turn s (turns s state (replicate count actor)) actor
turns_more s state actor count = rw add-one (turns_once_more s state actor count)

range_once_more : (s : Setup) (state : RunState) (first count : ℕ) → turns s state (range_with_len first (suc count)) ≡ turn s (turns s state (range_with_len first count)) (first + count)
range_once_more s state first zero = ap (turn s state) (sym (add-zero first))
range_once_more s state first (suc count) =
    let next : first + 1 + count ≡ first + suc count = omega arith in
    range_once_more s (turn s state first) (first + 1) count
    ∙ ap (turn s (turns s (turn s state first) (range_with_len (first + 1) count))) next

-- the turn of the next actor
pub round_more : (s : Setup) (state : RunState) (count : ℕ) → turns s state (range_with_len 0 (count + 1)) ≡ turn s (turns s state (range_with_len 0 count)) count
round_more s state count =
    let next : 0 + count ≡ count = omega arith in
    rw add-one (range_once_more s state 0 count ∙ ap (turn s (turns s state (range_with_len 0 count))) next)

-- the turns of one run more
pub said_more : (s : Setup) (state : RunState) (schedule : List Run) (count : ℕ) (run : Run) → count < length schedule
    → turns s state (turns_said (take (count + 1) schedule)) ≡ turns s (turns s state (turns_said (take count schedule))) (replicate (get_or schedule count run).turns (get_or schedule count run).actor)
said_more s state schedule count run within =
    let last : Run = get_or schedule count run in
    let front : List Run = take count schedule in
    let more : take (count + 1) schedule ≡ front ++ last ∷ [] = take_more schedule count run within in
    let said : turns_said (front ++ last ∷ []) ≡ turns_said front ++ (replicate last.turns last.actor ++ []) = flat_map-append (λ (r : Run). replicate r.turns r.actor) front (last ∷ []) in
    ap (λ l. turns s state (turns_said l)) more ∙ ap (turns s state) said
    ∙ ap (λ l. turns s state (turns_said front ++ l)) (append-nil (replicate last.turns last.actor))
    ∙ turns-append s state (turns_said front) (replicate last.turns last.actor)

-- one round more
pub rounds_more : (s : Setup) (count : ℕ) (state : RunState) → rounds s (suc count) state ≡ turns s (rounds s count state) (actors_in s)
rounds_more s zero state = refl
rounds_more s (suc count) state = rounds_more s count (turns s state (actors_in s))

-- one round more of the device that has made so many
pub round_after : (s now : Setup) (start before after : RunState) (count : ℕ) → now ≡ s → before ≡ rounds s count start → after ≡ turns now before (actors_in now) → after ≡ rounds s (suc count) start
round_after s now start before after count same whole round =
    round ∙ ap (λ t. turns t before (actors_in t)) same ∙ ap (λ x. turns s x (actors_in s)) whole ∙ sym (rounds_more s count start)
