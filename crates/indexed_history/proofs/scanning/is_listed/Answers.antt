use Rattle.std.proofs.Common.{true, List, ℕ, refl, sym, ◌∙◌, subst, inl}
use Rattle.std.specs.List.{Contains}
use Rattle.std.proofs.lemmas.Bool.{false≢true}
use Rattle.cell_base.specs.declared.cell.Cell.{Cell}
use Rattle.cell_base.specs.declared.value.Value.{Value}
use Rattle.cell_base.specs.declared.value.Value.TheVariants.{Flag}
use Rattle.indexed_history.specs.Writers.{ListsWriters}
use Rattle.indexed_history.proofs.Scans.{listed_own, listed_first}
use Rattle.indexed_history.proofs.scanning.is_listed.Goals as goal

pub returns-then-any_committed : goal.returns-then-any_committed
returns-then-any_committed c = (
  λ h. listed_first c.args.parts.now.history.initial c.args.parts.now.history.events c.args.session c.args.cell.now c.numbers_of.result.now
      (subst (λ (ns : List ℕ). ListsWriters c.args.parts.now.history.events c.args.cell.now ns) (sym c.numbers_of.ensures)
      (c.requires.indexed.writers c.args.cell.now)) (c.any_committed.ensures.0 c.if-any_committed.true),
  λ listed. refl,
)

pub returns-then-is_there : goal.returns-then-is_there
returns-then-is_there c = (
  λ h. inl (subst (λ (cells : List (Cell × Value)). Contains cells (c.args.cell.now, Flag true)) c.initial.ensures (c.is_there.ensures.0 c.if-is_there.true)),
  λ listed. refl,
)

pub returns : goal.returns
returns c =
    listed_own c.args.parts.now.history.initial c.args.parts.now.history.events c.args.session c.args.cell.now c.numbers_of.result.now c.wrote_itself.result
    (subst (λ (ns : List ℕ). ListsWriters c.args.parts.now.history.events c.args.cell.now ns) (sym c.numbers_of.ensures)
    (c.requires.indexed.writers c.args.cell.now))
    (λ some. false≢true (sym c.if-any_committed.false ∙ c.any_committed.ensures.1 some))
    (λ there. false≢true (sym c.if-is_there.false ∙ c.is_there.ensures.1
    (subst (λ (cells : List (Cell × Value)). Contains cells (c.args.cell.now, Flag true)) (sym c.initial.ensures) there)))
    c.wrote_itself.ensures
