use Rattle.axiom_base.proofs.Views.{own_visible, own_demands, own_trial}
use Rattle.axiom_base.proofs.laws.own_level_agrees.Goals as goal

pub returns-clause-visible : goal.returns-clause-visible
returns-clause-visible c = own_visible

pub returns-clause-demands : goal.returns-clause-demands
returns-clause-demands c = own_demands

pub returns-clause-trial : goal.returns-clause-trial
returns-clause-trial c = own_trial
