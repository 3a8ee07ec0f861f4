-- The typed SELECT is that of the lists of its parts.
use Rattle.std.proofs.Common.{ℕ, List, Option, ap, ◌∙◌}
use Rattle.cell_base.specs.declared.key.Key.{Key}
use Rattle.select_typing.specs.declared.select.Lists.{Lists}
use Rattle.select_typing.specs.Entries.{entries}
use Rattle.select_typing.specs.Parts.{is_group}
use Rattle.select_typing.proofs.Whole.{whole_is}
use Rattle.select_typing.proofs.select.whole.Goals as goal

abbrev Read : Type 0
Read = List (Option Key) × Lists × List (List ℕ)

pub returns : goal.returns
returns c =
    c.assembled.ensures
    ∙ whole_is (entries c.args.entries.now) c.args.select.now (is_group c.args.place) c.in_ok-parts.parts c.args.parts c.in_ok-points.lists
    c.in_ok-points-3.lists _ c.in_ok-points-3.points c.in_ok-points-3.mentioned c.in_ok-points-3.tables c.in_ok-parts.ensures.same
    (rw c.in_ok-points.ensures.taken at c.lists_of-lists.ensures)
    (ap (λ (r : Read). r.1) c.in_ok-points-3.ensures.same ∙ ap (λ (r : List (Option Key) × Lists). r.1) c.in_ok-points-2.ensures.same)
    c.as_ref.ensures.value
    (ap (λ (r : Read). r.0) c.in_ok-points-3.ensures.same ∙ ap (λ (r : List (Option Key) × Lists). r.0) c.in_ok-points-2.ensures.same
    ∙ c.in_ok-points.ensures.same ∙ (rw c.in_ok-parts.ensures.taken at c.points_of-points.ensures))
    (ap (λ (r : Read). r.2) c.in_ok-points-3.ensures.same ∙ (rw c.in_ok-points-2.ensures.taken at c.mentioned_in-mentioned.ensures))
    (rw c.in_ok-points-3.ensures.taken at c.numbers_of-tables.ensures)
