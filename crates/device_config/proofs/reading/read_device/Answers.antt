use Rattle.toml.specs.View.{table_view}
use Rattle.device_config.proofs.PlanFacts.{read_plan}
use Rattle.device_config.proofs.reading.read_device.Goals as goal

pub returns-clause-plan : goal.returns-clause-plan
returns-clause-plan c =
    read_plan (table_view c.in_ok-table.table) c.in_ok-common.common c.read_rules.result c.in_ok-common.ensures.region c.in_ok-common.ensures.value c.read_rules.ensures
