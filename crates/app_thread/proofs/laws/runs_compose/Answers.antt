-- By the laws of the crates below.
use Rattle.app_thread.proofs.Gone.{gone_none, gone_others, gone_more, gone_own, gone_turn, waits_there, waits_later, waits_earlier}
use Rattle.std.proofs.Common.{refl}
use Rattle.app_thread.proofs.laws.runs_compose.Goals as goal

pub returns : goal.returns
returns c = record {
  none = λ low high history at. gone_none low high history at at refl;
  others = λ low high old new at follow. gone_others c.answers_add_own_entries.ensures.others low high old new at at follow refl;
  more = gone_more c.own_entries.ensures.append;
  own = gone_own c.own_entries.ensures.append;
  turn = gone_turn c.answers_add_own_entries.ensures.others c.answers_add_own_entries.ensures.added c.runs_grow_by_one.ensures;
  waits = waits_there c.answers_add_own_entries.ensures.others;
  waits_later = waits_later;
  waits_earlier = waits_earlier c.own_entries.ensures.append;
}
