use Rattle.std.proofs.Common.{rules}
use Rattle.std.proofs.lemmas.List.{take_rest}
use Rattle.att_base.proofs.StreamLemmas.{put_after-more}
use Rattle.att_base.proofs.streams.put_all.Goals as goal

pub writing-preserved : goal.writing-preserved
writing-preserved g c = record {
  within = search rules;
  grown = put_after-more _ _ _ c.args.piece.now c.writing.at c.in_ok-at.field-0 c.writing.invariant.grown (rw take_rest at c.in_ok-at.ensures.bytes);
  quiet = search rules;
}
