use Rattle.std.proofs.Common.{List, refl, subst, arith}
use Rattle.std.specs.List.{Contains}
use Rattle.cell_base.specs.declared.key.Key.{Key}
use Rattle.history_check.proofs.keys.lists_table.Goals as goal

pub returns-in-Some : goal.returns-in-Some
returns-in-Some c = rw c.in-Some.ensures.some at c.lists_all.ensures

pub returns-in-None : goal.returns-in-None
returns-in-None c = (λ h key there is. absurd (let none = subst (λ (ks : List Key). Contains ks key) c.in-None.ensures.none there in let within = none.1 in omega arith), λ all. refl)
