-- By the laws on others' entries, and by what the stage keeps.
use Rattle.chronicle.specs.Worlds.{shape_of}
use Rattle.measure.proofs.Between.{made_stands, others_stand, followed_stand, over_stands, none_left, full_stands}
use Rattle.measure.proofs.standing.measuring_stands.Goals as goal

pub returns : goal.returns
returns c = record {
  made = made_stands c.reports_stand.ensures.report;
  others = others_stand c.others_keep_the_order.ensures.order c.others_keep_the_pass.ensures.pass c.own_entries.ensures.append c.reports_stand.ensures.later c.measured_stays.ensures.report c.measured_stays.ensures.note;
  followed = followed_stand c.others_keep_the_order.ensures.order c.others_keep_the_pass.ensures.pass c.own_entries.ensures.none c.own_entries.ensures.append c.reports_stand.ensures.later c.measured_stays.ensures.report c.measured_stays.ensures.note;
  over = over_stands c.programs_stay_in_order.ensures.over;
  none_left = λ w m. none_left m.challenge (shape_of w) m.progress;
  full = full_stands c.reports_stand.ensures.report;
}
