-- What a turn makes of a begun run. The laws of the crates below come in as premises.
use Rattle.std.proofs.Common.{◌≡◌, ℕ, ◌<◌, ◌≤◌, List, [], ◌∷◌, ◌++◌, Some, sym, ap, ◌∙◌, option_and_then, arith}
use Rattle.history.specs.declared.events.Entry.{Entry}
use Rattle.history.specs.Layout.{Setting}
use Rattle.history.specs.Memory.{own}
use Rattle.rv_core.specs.declared.waits.Ending.{Ending}
use Rattle.rv_core.specs.Runs.{AppProgram, ProgramState, reads, IsBegunRun, IsWholeRun, next_access}
use Rattle.rv_core.specs.Waits.{goes_on}
use Rattle.chronicle.specs.Ports.{AddsEntry, OthersFollow, entry_by}
use Rattle.app_thread.specs.declared.turns.Turn.{Turn}
use Rattle.app_thread.specs.declared.turns.Turn.TheVariants as turn
use Rattle.app_thread.specs.Turns.{HasTurned}

abbrev pub OwnStays : Type 0
OwnStays = (low high : ℕ) (old new : List Entry) → OthersFollow low high old new → own new low high ≡ own old low high

abbrev pub OwnGrows : Type 0
OwnGrows = (low high : ℕ) (old new : List Entry) (entry : Entry) → AddsEntry low high old new entry → low ≤ entry.actor → entry.actor < high → own new low high ≡ own old low high ++ entry ∷ []

abbrev pub RunsGrow : Type 0
RunsGrow = (start : AppProgram) (entries : List Entry) (entry : Entry) → reads start (entries ++ entry ∷ []) ≡ option_and_then (λ at. goes_on at entry.act) (reads start entries)

-- the run stays where neither the own entries nor the application change
begun_stays : (start : AppProgram) (old new : List Entry) (before after : ProgramState) → new ≡ old → after ≡ before → IsBegunRun start old before → IsBegunRun start new after
begun_stays start old new before after lists states begun = record { read = ap (reads start) lists ∙ begun.read ∙ ap Some (sym states) }

-- and grows by an entry from which the application goes on
pub begun_grows : RunsGrow → (start : AppProgram) (entries new : List Entry) (entry : Entry) (before after : ProgramState) → new ≡ entries ++ entry ∷ [] → goes_on before entry.act ≡ Some after
    → IsBegunRun start entries before → IsBegunRun start new after
begun_grows grows start entries new entry before after lists goes begun = record {
  read = ap (reads start) lists ∙ grows start entries entry ∙ ap (option_and_then (λ at. goes_on at entry.act)) begun.read ∙ goes;
}

pub turn_begun : OwnStays → OwnGrows → RunsGrow → (w : Setting) (low high : ℕ) (old new : List Entry) (before after : ProgramState) (how : Turn) (start : AppProgram)
    → low < high → HasTurned w low high old new before after how → IsBegunRun start (own old low high) before → IsBegunRun start (own new low high) after
turn_begun stays adds grows w low high old new before after (turn.Over ending) start some h begun =
    begun_stays start (own old low high) (own new low high) before after (ap (λ l. own l low high) h.2) h.1 begun
turn_begun stays adds grows w low high old new before after (turn.Made kind place) start some h begun =
    begun_grows grows start (own old low high) (own new low high) (entry_by low h.0) before after (adds low high old new (entry_by low h.0) h.2.0 (omega arith) some) h.1.goes begun
turn_begun stays adds grows w low high old new before after (turn.Again place) start some h begun =
    begun_stays start (own old low high) (own new low high) before after (stays low high old new h.0.again.0) h.1 begun
turn_begun stays adds grows w low high old new before after (turn.Full place) start some h begun =
    begun_stays start (own old low high) (own new low high) before after (stays low high old new h.1.0) h.2 begun

pub turn_whole : (w : Setting) (low high : ℕ) (old new : List Entry) (before after : ProgramState) (ending : Ending) (start : AppProgram)
    → HasTurned w low high old new before after (turn.Over ending) → IsBegunRun start (own old low high) before → IsWholeRun start (own new low high) ending after
turn_whole w low high old new before after ending start h begun = record {
  begun = begun_stays start (own old low high) (own new low high) before after (ap (λ l. own l low high) h.2) h.1 begun;
  ended = ap next_access h.1 ∙ h.0;
}
