-- By cases on the turn.
use Rattle.app_thread.proofs.Turned.{turn_begun, turn_whole}
use Rattle.app_thread.proofs.laws.turns_go_on.Goals as goal

pub returns : goal.returns
returns c = record {
  begun = turn_begun c.answers_add_own_entries.ensures.others c.answers_add_own_entries.ensures.added c.runs_grow_by_one.ensures;
  whole = turn_whole;
}
