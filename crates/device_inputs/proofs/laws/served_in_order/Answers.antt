use Rattle.device_inputs.proofs.Rising.{served_valid, served_rising}
use Rattle.device_inputs.proofs.laws.served_in_order.Goals as goal

pub returns-clause-valid : goal.returns-clause-valid
returns-clause-valid c = served_valid

pub returns-clause-rising : goal.returns-clause-rising
returns-clause-rising c = served_rising
