use Rattle.joints.proofs.Trips.{sheet_of_admitted, admission_of_sheet, refused_where, left_over}
use Rattle.joints.proofs.sheet_laws.Goals as goal

pub returns : goal.returns
returns c = record {
  admitted_plan_has_the_sheet = sheet_of_admitted;
  sheet_is_admitted_as_its_plan = admission_of_sheet;
  refused_at_a_word_or_the_end = refused_where;
  five_exactly_after_a_sheet = left_over;
}
