use Rattle.std.proofs.Common.{Some, sym, ◌∙◌, arith, subst, inl, inr}
use Rattle.std.proofs.lemmas.Bool.{false≢true}
use Rattle.history_core.specs.declared.event.Event.TheVariants as events
use Rattle.history_check.specs.declared.broken_rule.BrokenRule.{BrokenRule}
use Rattle.history_check.specs.Found.{IsFound}
use Rattle.history_check.proofs.CountLemmas.{candidates_unique}
use Rattle.history_check.proofs.WriteLemmas.{value_writes}
use Rattle.history_check.proofs.Verdicts.{read_right, read_own_broken, read_source_broken, read_value_broken, read_count_broken}
use Rattle.history_check.proofs.judge.of_read.Goals as goal

pub gives_value-requires-clause-begun : goal.gives_value-requires-clause-begun
gives_value-requires-clause-begun c = c.requires.shape.2

pub returns-then-wrote_itself : goal.returns-then-wrote_itself
returns-then-wrote_itself c = read_own_broken c.args.initial.now c.args.before.now c.args.session c.args.cell.now c.args.source c.args.count c.args.word c.args.value.now c.requires.shape (λ none. none (c.wrote_itself.ensures.0 c.if-wrote_itself.true))

pub returns-then-not-gives_value : goal.returns-then-not-gives_value
returns-then-not-gives_value c =
    elim c.wrong_source.ensures [
      | inl of_value ↦
          subst (λ (rule : BrokenRule). IsFound c.args.initial.now c.args.before.now (events.Read c.args.session c.args.cell.now c.args.source c.args.count c.args.word c.args.value.now) (Some rule)) (sym of_value.1)
          (read_value_broken c.args.initial.now c.args.before.now c.args.session c.args.cell.now c.args.source c.args.count c.args.word c.args.value.now c.requires.shape (λ wrote. false≢true (sym c.if-wrote_itself.false ∙ c.wrote_itself.ensures.1 wrote)) of_value.0
          (λ gives. false≢true (sym c.if-not-gives_value.true ∙ c.gives_value.ensures.1 gives)))
      | inr of_source ↦
          subst (λ (rule : BrokenRule). IsFound c.args.initial.now c.args.before.now (events.Read c.args.session c.args.cell.now c.args.source c.args.count c.args.word c.args.value.now) (Some rule)) (sym of_source.1)
          (read_source_broken c.args.initial.now c.args.before.now c.args.session c.args.cell.now c.args.source c.args.count c.args.word c.args.value.now c.requires.shape (λ wrote. false≢true (sym c.if-wrote_itself.false ∙ c.wrote_itself.ensures.1 wrote)) of_source.0)
    ]

pub returns-then-count-eq0 : goal.returns-then-count-eq0
returns-then-count-eq0 c =
    read_count_broken c.args.initial.now c.args.before.now c.args.session c.args.cell.now c.args.source c.args.count c.args.word c.args.value.now c.requires.shape (λ wrote. false≢true (sym c.if-wrote_itself.false ∙ c.wrote_itself.ensures.1 wrote)) (value_writes c.args.initial.now c.args.before.now c.args.source c.args.cell.now c.args.value.now (c.gives_value.ensures.0 c.if-not-gives_value.false)) (c.gives_value.ensures.0 c.if-not-gives_value.false) (λ has. let h = has.0 in let z = c.if-count-eq0.true in absurd (omega arith))
    c.count_writers-candidates.result c.count_writers-candidates.ensures

pub returns-then-count-candidates : goal.returns-then-count-candidates
returns-then-count-candidates c =
    read_count_broken c.args.initial.now c.args.before.now c.args.session c.args.cell.now c.args.source c.args.count c.args.word c.args.value.now c.requires.shape (λ wrote. false≢true (sym c.if-wrote_itself.false ∙ c.wrote_itself.ensures.1 wrote)) (value_writes c.args.initial.now c.args.before.now c.args.source c.args.cell.now c.args.value.now (c.gives_value.ensures.0 c.if-not-gives_value.false)) (c.gives_value.ensures.0 c.if-not-gives_value.false)
    (λ has. let same = candidates_unique c.args.before.now c.args.cell.now has.1.0 c.count_writers-candidates.result has.1.1 c.count_writers-candidates.ensures in
    let h = has.1.2 in let more = c.if-count-candidates.true in absurd (omega arith))
    c.count_writers-candidates.result c.count_writers-candidates.ensures

pub returns : goal.returns
returns c =
    let nonzero = c.if-count-eq0.false in
    let upto = c.if-count-candidates.false in
    read_right c.args.initial.now c.args.before.now c.args.session c.args.cell.now c.args.source c.args.count c.args.word c.args.value.now c.requires.shape (λ wrote. false≢true (sym c.if-wrote_itself.false ∙ c.wrote_itself.ensures.1 wrote)) (value_writes c.args.initial.now c.args.before.now c.args.source c.args.cell.now c.args.value.now (c.gives_value.ensures.0 c.if-not-gives_value.false)) (c.gives_value.ensures.0 c.if-not-gives_value.false) (omega arith, (c.count_writers-candidates.result, c.count_writers-candidates.ensures, omega arith))
