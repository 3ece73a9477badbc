use Rattle.attest_top.proofs.scripts.run_output.Goals as goal

pub returns-clause-attested : goal.returns-clause-attested
returns-clause-attested g c = (c.scripts_attest.ensures c.args.script c.is_script.ensures, c.releases_tell.ensures c.args.script c.is_script.ensures)
