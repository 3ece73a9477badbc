use Rattle.std.proofs.Math.Path.{fun_ext}
use Rattle.std.proofs.lemmas.Map.Text.{hash_map_updates_str}
use Rattle.rv_asm.proofs.labels.Labels.add.Goals as goal

pub returns-in-Ok-clause-grown : goal.returns-in-Ok-clause-grown
returns-in-Ok-clause-grown c = fun_ext (hash_map_updates_str c.args.name.now c.args.self.now.map c.insert.new.self _ c.in-Ok.ensures.updates)
