use Rattle.schedule_text.proofs.reading.run_on_line.Goals as goal

pub returns-clause-run : goal.returns-clause-run
returns-clause-run c = record { actor = rw c.from.ensures at c.in_ok-actor.ensures.high; some_turn = c.in_ok-turns.ensures.low; few_turns = c.in_ok-turns.ensures.high }
