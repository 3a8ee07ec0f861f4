use Rattle.history_log.proofs.leading.leading_begin.Goals as goal

pub returns-in-One : goal.returns-in-One
returns-in-One c = rw (c.in_ok-rest.ensures, c.in-One.is) c.begin_of_head.ensures

pub returns-in-Two : goal.returns-in-Two
returns-in-Two c = rw c.in_ok-rest.ensures c.begin_of_level.ensures

pub returns-in-Three : goal.returns-in-Three
returns-in-Three c = rw c.in_ok-rest.ensures c.begin_of_level-in-Three.ensures
