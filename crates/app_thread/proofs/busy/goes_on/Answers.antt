-- By the laws on others' entries.
use Rattle.app_thread.proofs.BusyPort.{read_after, stored_after}
use Rattle.app_thread.proofs.busy.goes_on.Goals as goal

pub returns-clause-read : goal.returns-clause-read
returns-clause-read c = read_after c.answers_add_own_entries.ensures.others_join c.answers_add_own_entries.ensures.added_join

pub returns-clause-stored : goal.returns-clause-stored
returns-clause-stored c = stored_after c.answers_add_own_entries.ensures.others_join c.answers_add_own_entries.ensures.added_join
