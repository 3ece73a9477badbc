use Rattle.att_base.proofs.FileLemmas.{put_where_ok, begun_where_err}
use Rattle.att_base.proofs.by_name.write_whole.Goals as goal

pub returns-clause-ok : goal.returns-clause-ok
returns-clause-ok g c = put_where_ok c.append.result _ _ _ _ _ c.in_ok-clear.ensures.ok c.append.ensures.ok

pub returns-clause-err : goal.returns-clause-err
returns-clause-err g c = begun_where_err c.append.result _ _ _ _ _ c.in_ok-clear.ensures.ok c.append.ensures.err
