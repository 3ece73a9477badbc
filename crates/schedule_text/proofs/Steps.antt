-- A schedule, as far as it has been read.
use Rattle.std.proofs.Common.{◌≡◌, ◌==◌, ℕ, ◌+◌, ◌<◌, ◌≤◌, List, [], ◌∷◌, ◌++◌, length, Some, None, Err, refl, ap, ◌∙◌, arith}
use Rattle.std.proofs.lemmas.List.{length-append}
use Rattle.std.proofs.lemmas.List.Elements.{All-nil, All-cons, All-append}
use Rattle.std.proofs.lemmas.List.Splits.{length-slice_split}
use Rattle.schedule_text.specs.declared.reading.Run.{Run}
use Rattle.text_readers.specs.Lines.{parts_at}
use Rattle.schedule_text.specs.Schedules.{turns_in, next_run, on_line, runs_after, schedule_of, IsRun, IsSchedule}

-- the runs so far, how many turns they are, and the text that is left
pub record ReadSoFar (last : ℕ) (text : List ℕ) (runs : List Run) (turns : ℕ) (rest : List ℕ) : Type 0 where
  pub same : schedule_of last text ≡ runs_after last runs (parts_at 10 rest)
  pub count : turns ≡ turns_in runs
  pub read : IsSchedule last runs

turns_more : (runs : List Run) (run : Run) → turns_in (runs ++ run ∷ []) ≡ turns_in runs + run.turns
turns_more [] run = omega arith
turns_more (first ∷ runs) run = rw (turns_more runs run) (omega arith)

pub ReadSoFar-none : (last : ℕ) (text : List ℕ) → ReadSoFar last text [] 0 text
unfolding schedule_of
ReadSoFar-none last text = record {
  same = refl;
  count = refl;
  read = record { each = All-nil (IsRun last); lines = omega arith; turns = omega arith };
}

first_line : (last : ℕ) (runs : List Run) (line : List ℕ) (parts : List (List ℕ)) → 0 < length parts
    → runs_after last runs (line ∷ parts) ≡ on_line runs (next_run last (length runs) (turns_in runs) line) (λ run. runs_after last (runs ++ run ∷ []) parts)
first_line last runs line [] some = absurd (omega (arith, some))
first_line last runs line (next ∷ more) some = refl

-- where a text begins with a line, that line is read
at_line : (last : ℕ) (text : List ℕ) (runs : List Run) (turns : ℕ) (rest line more : List ℕ) → ReadSoFar last text runs turns rest → parts_at 10 rest ≡ line ∷ parts_at 10 more
    → schedule_of last text ≡ on_line runs (next_run last (length runs) turns line) (λ run. runs_after last (runs ++ run ∷ []) (parts_at 10 more))
at_line last text runs turns rest line more so_far parts =
    let some : 0 < length (parts_at 10 more) = omega (arith, length-slice_split (λ byte. byte == 10) more) in
    let step : runs_after last runs (line ∷ parts_at 10 more) ≡ on_line runs (next_run last (length runs) (turns_in runs) line) (λ run. runs_after last (runs ++ run ∷ []) (parts_at 10 more)) = first_line last runs line (parts_at 10 more) some in
    rw so_far.count (so_far.same ∙ (ap (runs_after last runs) parts ∙ step))

-- a line that says no run
pub refused_line : (last : ℕ) (text : List ℕ) (runs : List Run) (turns : ℕ) (rest line more : List ℕ) → ReadSoFar last text runs turns rest → parts_at 10 rest ≡ line ∷ parts_at 10 more
    → next_run last (length runs) turns line ≡ None → schedule_of last text ≡ Err (length runs + 1)
refused_line last text runs turns rest line more so_far parts none =
    at_line last text runs turns rest line more so_far parts ∙ ap (λ o. on_line runs o (λ run. runs_after last (runs ++ run ∷ []) (parts_at 10 more))) none

-- a line that says one
pub one_more : (last : ℕ) (text : List ℕ) (runs : List Run) (turns : ℕ) (rest line more : List ℕ) (run : Run) → ReadSoFar last text runs turns rest → parts_at 10 rest ≡ line ∷ parts_at 10 more
    → next_run last (length runs) turns line ≡ Some run → IsRun last run → length runs < 10000 → turns + run.turns ≤ 16000000 → ReadSoFar last text (runs ++ run ∷ []) (turns + run.turns) more
one_more last text runs turns rest line more run so_far parts says is room few =
    let longer : length (runs ++ run ∷ []) ≡ length runs + 1 = length-append runs (run ∷ []) in
    let all : turns_in (runs ++ run ∷ []) ≡ turns_in runs + run.turns = turns_more runs run in
    let count : turns + run.turns ≡ turns_in (runs ++ run ∷ []) = omega (arith, all, so_far.count) in
    record {
      same = at_line last text runs turns rest line more so_far parts ∙ ap (λ o. on_line runs o (λ r. runs_after last (runs ++ r ∷ []) (parts_at 10 more))) says;
      count = count;
      read = record { each = All-append (IsRun last) runs (run ∷ []) so_far.read.each (All-cons (IsRun last) run [] is (All-nil (IsRun last))); lines = omega (arith, longer, room); turns = omega (arith, count, few) };
    }
