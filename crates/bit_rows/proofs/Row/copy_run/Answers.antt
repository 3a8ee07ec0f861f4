use Rattle.std.proofs.Common.{◌∙◌, ℕ, List, ap, subst}
use Rattle.bit_rows.specs.Members.{IsUnion, members}
use Rattle.bit_rows.specs.Runs.{numbers_of}
use Rattle.bit_rows.proofs.Marks.{members-empty}
use Rattle.bit_rows.proofs.Parts.{is_run}
use Rattle.bit_rows.proofs.Row.copy_run.Goals as goal

pub returns : goal.returns
returns c =
    is_run c.args.run.first c.args.run.end c.fill.new.words.items
    (subst (λ (ms : List ℕ). IsUnion ms (numbers_of c.args.run.first c.args.run.end) (members c.fill.new.words.items))
    (ap members c.truncate.ensures.items ∙ members-empty) c.fill.ensures.union)
