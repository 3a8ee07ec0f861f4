use Rattle.std.proofs.Common.{◌≡◌, ◌∙◌, refl, sym, subst, lit≤}
use Rattle.std.specs.Prelude.{codes}
use Rattle.std.specs.Cmp.Lexicographic.{bytes_decides}
use Rattle.block_machine.specs.Settings.{IsShown}
use Rattle.block_machine.proofs.Zeros.{no_zero_by}
use Rattle.block_machine.proofs.settings.parameter_value.Goals as goal

strings : IsShown (codes "standard_conforming_strings")
strings = record { no_zero = no_zero_by (codes "standard_conforming_strings") refl; fits = lit≤ tt }

pub returns-then-is_same-7-clause-shown : goal.returns-then-is_same-7-clause-shown
returns-then-is_same-7-clause-shown c =
    let is : c.args.name.now ≡ codes "standard_conforming_strings" =
    (bytes_decides c.args.name.now (codes "standard_conforming_strings")).0 (sym c.is_same-else-is_same-6.ensures ∙ c.if-is_same-7.true) in
    (subst IsShown (sym is) strings, lit≤ tt)
