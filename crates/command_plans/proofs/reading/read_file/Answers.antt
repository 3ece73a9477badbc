use Rattle.std.proofs.Common.{[], ◌∷◌, refl}
use Rattle.command_plans.proofs.Readings.{read_ok, read_absent, read_long}
use Rattle.command_plans.proofs.reading.read_file.Goals as goal

pub returns-in-Ok-clause-reads : goal.returns-in-Ok-clause-reads
returns-in-Ok-clause-reads g c = record {
  names = c.args.name.now ∷ [];
  comes = (refl, read_ok c.args.limit (g.F.Files.shows c.args.files.now).held c.args.name.now c.in-Ok.bytes.items c.in-Ok.ensures.reads c.in-Ok.ensures.within);
  asked = c.in-Ok.ensures.asked;
  same = c.in-Ok.ensures.same;
  counted = c.in-Ok.ensures.counted;
}

pub returns-in-Err-Missing-clause-reads : goal.returns-in-Err-Missing-clause-reads
returns-in-Err-Missing-clause-reads g c = record {
  names = c.args.name.now ∷ [];
  comes = (refl, read_absent c.args.limit (g.F.Files.shows c.args.files.now).held c.args.name.now (λ known held. rw c.in-Err-Missing.field-0-is at (c.in-Err-Missing.ensures.reads known held)));
  asked = c.in-Err-Missing.ensures.asked;
  same = c.in-Err-Missing.ensures.same;
  counted = rw c.in-Err-Missing.field-0-is at c.in-Err-Missing.ensures.counted;
}

pub returns-in_ok-line-in-Err-TooLong-clause-reads : goal.returns-in_ok-line-in-Err-TooLong-clause-reads
returns-in_ok-line-in-Err-TooLong-clause-reads g c = record {
  names = c.args.name.now ∷ [];
  comes = (refl, read_long c.args.limit (g.F.Files.shows c.args.files.now).held c.args.name.now _ (λ known held. rw c.in-Err-TooLong.field-0-is at (c.in-Err-TooLong.ensures.reads known held)) c.in_ok-line-in-Err-TooLong.ensures);
  asked = c.in-Err-TooLong.ensures.asked;
  same = c.in-Err-TooLong.ensures.same;
  counted = rw c.in-Err-TooLong.field-0-is at c.in-Err-TooLong.ensures.counted;
}
