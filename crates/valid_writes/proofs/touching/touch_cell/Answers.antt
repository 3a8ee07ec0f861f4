use Rattle.std.proofs.Common.{◌↔◌, sym, ◌∙◌, subst}
use Rattle.std.specs.Bool.{IsTrue}
use Rattle.std.proofs.lemmas.Bool.{false≢true}
use Rattle.history_core.specs.Legal.{WroteItself}
use Rattle.history_core.specs.Chronicle.{Chronicle}
use Rattle.valid_writes.proofs.Told.{err_goes, reads_state}
use Rattle.valid_writes.proofs.Touched.{own_answers, read_answers, own_state, own_owns, read_owns}
use Rattle.valid_writes.proofs.touching.touch_cell.Goals as goal

pub own_cell-requires-clause-written : goal.own_cell-requires-clause-written
own_cell-requires-clause-written g c =
    (subst (λ (h : Chronicle). IsTrue c.wrote_itself.result ↔ WroteItself h.events c.args.desk.now.session c.args.cell.now)
    c.history.ensures c.wrote_itself.ensures).0 c.if-wrote_itself.true

pub read_cell-requires-clause-unwritten : goal.read_cell-requires-clause-unwritten
read_cell-requires-clause-unwritten g c = λ wrote.
    false≢true (sym c.if-wrote_itself.false
    ∙ (subst (λ (h : Chronicle). IsTrue c.wrote_itself.result ↔ WroteItself h.events c.args.desk.now.session c.args.cell.now)
    c.history.ensures c.wrote_itself.ensures).1 wrote)

pub returns-then-wrote_itself-clause-answers : goal.returns-then-wrote_itself-clause-answers
returns-then-wrote_itself-clause-answers g c =
    own_answers c.args.desk.now c.args.cell.now c.requires.kept c.requires.pending g.W.Words.gives c.own_cell.new.desk c.args.words.now c.own_cell.result
    ((subst (λ (h : Chronicle). IsTrue c.wrote_itself.result ↔ WroteItself h.events c.args.desk.now.session c.args.cell.now)
    c.history.ensures c.wrote_itself.ensures).0 c.if-wrote_itself.true) c.own_cell.ensures.ok c.own_cell.ensures.last

pub returns-then-wrote_itself-clause-state : goal.returns-then-wrote_itself-clause-state
returns-then-wrote_itself-clause-state g c =
    own_state c.args.desk.now c.args.cell.now c.requires.kept c.requires.pending c.own_cell.new.desk c.own_cell.result c.own_cell.ensures.ok c.own_cell.ensures.err

pub returns-then-wrote_itself-clause-err : goal.returns-then-wrote_itself-clause-err
returns-then-wrote_itself-clause-err g c = err_goes c.args.desk.now c.own_cell.new.desk c.own_cell.result c.own_cell.ensures.err

pub returns-then-wrote_itself-clause-owns : goal.returns-then-wrote_itself-clause-owns
returns-then-wrote_itself-clause-owns g c =
    own_owns c.args.desk.now c.args.cell.now c.requires.kept c.requires.pending c.own_cell.new.desk c.own_cell.result c.own_cell.ensures.ok c.own_cell.ensures.err

pub returns-else-wrote_itself-clause-answers : goal.returns-else-wrote_itself-clause-answers
returns-else-wrote_itself-clause-answers g c =
    read_answers c.args.desk.now c.args.cell.now c.requires.kept c.requires.pending g.W.Words.gives c.read_cell.new.desk c.args.words.now c.next-word.new.self
    c.next-word.result c.read_cell.result
    (λ wrote. false≢true (sym c.if-wrote_itself.false
    ∙ (subst (λ (h : Chronicle). IsTrue c.wrote_itself.result ↔ WroteItself h.events c.args.desk.now.session c.args.cell.now)
    c.history.ensures c.wrote_itself.ensures).1 wrote)) c.next-word.ensures c.read_cell.ensures.ok

pub returns-else-wrote_itself-clause-state : goal.returns-else-wrote_itself-clause-state
returns-else-wrote_itself-clause-state g c =
    reads_state c.args.desk.now c.read_cell.new.desk c.args.cell.now c.next-word.result c.read_cell.result c.requires.pending c.read_cell.ensures.ok
    c.read_cell.ensures.err

pub returns-else-wrote_itself-clause-err : goal.returns-else-wrote_itself-clause-err
returns-else-wrote_itself-clause-err g c = err_goes c.args.desk.now c.read_cell.new.desk c.read_cell.result c.read_cell.ensures.err

pub returns-else-wrote_itself-clause-owns : goal.returns-else-wrote_itself-clause-owns
returns-else-wrote_itself-clause-owns g c =
    read_owns c.args.desk.now c.args.cell.now c.requires.kept c.requires.pending c.read_cell.new.desk c.next-word.result c.read_cell.result
    c.read_cell.ensures.ok c.read_cell.ensures.err
