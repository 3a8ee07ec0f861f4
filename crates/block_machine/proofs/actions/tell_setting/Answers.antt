use Rattle.std.proofs.Common.{◌<◌, ℕ, List, length, sym, subst}
use Rattle.block_machine.proofs.Somes.{show_some}
use Rattle.block_machine.proofs.actions.tell_setting.Goals as goal

pub returns-clause-some : goal.returns-clause-some
returns-clause-some c = λ holding. subst (λ (bytes : List ℕ). 0 < length bytes) (sym c.in_ok-built.ensures) (show_some c.args.description c.args.name.now c.args.value.now)
