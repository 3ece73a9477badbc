use Rattle.std.proofs.Common.{rules}
use Rattle.rv_core.proofs.RunLaws.{fetching, told_step, told_run, told_once}
use Rattle.rv_core.proofs.running.Core.told.Goals as goal

pub fetched-requires : goal.fetched-requires
fetched-requires c = fetching c.args.self.now c.in-Fetched.word (search rules)

pub returns-in-Fetched-clause-run : goal.returns-in-Fetched-clause-run
returns-in-Fetched-clause-run c = told_run c.args.self.now c.fetched.new.self c.args.reply (search rules) (search rules)

pub returns-in-Loaded-clause-run : goal.returns-in-Loaded-clause-run
returns-in-Loaded-clause-run c = told_run c.args.self.now c.loaded.new.self c.args.reply (search rules) (search rules)

pub returns-in-Stored-clause-run : goal.returns-in-Stored-clause-run
returns-in-Stored-clause-run c = told_run c.args.self.now c.stored.new.self c.args.reply (search rules) (search rules)

pub returns-in-Fetched-clause-once : goal.returns-in-Fetched-clause-once
returns-in-Fetched-clause-once c = told_once c.args.self.now c.fetched.new.self c.args.reply (search rules)

pub returns-in-Loaded-clause-once : goal.returns-in-Loaded-clause-once
returns-in-Loaded-clause-once c = told_once c.args.self.now c.loaded.new.self c.args.reply (search rules)

pub returns-in-Stored-clause-once : goal.returns-in-Stored-clause-once
returns-in-Stored-clause-once c = told_once c.args.self.now c.stored.new.self c.args.reply (search rules)

pub returns-in-Fetched-clause-step : goal.returns-in-Fetched-clause-step
returns-in-Fetched-clause-step c = told_step c.args.self.now c.fetched.new.self c.args.reply (search rules) (search rules)

pub returns-in-Loaded-clause-step : goal.returns-in-Loaded-clause-step
returns-in-Loaded-clause-step c = told_step c.args.self.now c.loaded.new.self c.args.reply (search rules) (search rules)

pub returns-in-Stored-clause-step : goal.returns-in-Stored-clause-step
returns-in-Stored-clause-step c = told_step c.args.self.now c.stored.new.self c.args.reply (search rules) (search rules)
