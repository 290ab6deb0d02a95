use Rattle.std.proofs.Common.{◌≡◌, sym, ap, ◌∙◌}
use Rattle.base.specs.Outcomes.{accepted, standing}
use Rattle.joints.specs.Admission.{admission}
use Rattle.joints.specs.Views.{draft_of, plan_of}
use Rattle.joints.proofs.Trips.{sheet_of_admitted}
use Rattle.joints.proofs.plan.JointPlan.admit.Goals as goal

pub replace-requires : goal.replace-requires
replace-requires c = (sheet_of_admitted c.args.words.now (draft_of c.in_ok-draft.draft) (sym c.in_ok-draft.ensures)).1

pub returns : goal.returns
returns c =
    let ws = c.args.words.now in
    let e : accepted (plan_of c.replace.new.self) ≡ admission ws = ap accepted c.replace.ensures ∙ c.in_ok-draft.ensures in
    record {
      answers_the_admission = e;
      stays_when_refused = ap (λ o. standing o (plan_of c.args.self.now)) e;
      has_the_words_as_its_sheet = (sheet_of_admitted ws (plan_of c.replace.new.self) (sym e)).0;
    }
