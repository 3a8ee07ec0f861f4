use Rattle.order_test.proofs.search.session_breach.Goals as goal

pub returns-then-survey-clause-none : goal.returns-then-survey-clause-none
returns-then-survey-clause-none c = c.requires.survey.glance_is.keeps c.if-survey.true
