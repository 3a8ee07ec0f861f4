use Rattle.std.proofs.Common.{◌≡◌, ℕ, ◌+◌, List, [], ◌∷◌, ◌++◌, true, set, ap, sym, ◌∙◌, subst}
use Rattle.history_core.specs.Events.{begun, is_begin, session_in}
use Rattle.history_core.proofs.Prefixes.{begun-push_other}
use Rattle.order_test.specs.Glance.{HoldsLast}
use Rattle.order_test.proofs.GlanceLemmas.{last_still}
use Rattle.cycle_report.proofs.OwnerLemmas.{owners_begin, begun_begin}
use Rattle.cycle_report.proofs.owners.note_begin.Goals as goal

pub returns-then-not-is_begin-clause-last : goal.returns-then-not-is_begin-clause-last
returns-then-not-is_begin-clause-last c =
    last_still c.args.before.now c.args.event.now c.args.last.now.items (sym c.is_begin.ensures ∙ c.if-not-is_begin.true) c.requires.within c.requires.last

pub returns-then-not-is_begin-clause-count : goal.returns-then-not-is_begin-clause-count
returns-then-not-is_begin-clause-count c =
    c.requires.count ∙ sym (begun-push_other c.args.before.now c.args.event.now (sym c.is_begin.ensures ∙ c.if-not-is_begin.true))

pub returns-clause-last : goal.returns-clause-last
returns-clause-last c =
    let begins : is_begin c.args.event.now ≡ true = sym c.is_begin.ensures ∙ c.if-not-is_begin.false in
    let number : begun c.args.before.now + 1 ≡ c.next_number-number.result = ap (λ (n : ℕ). n + 1) (sym c.requires.count) ∙ sym c.next_number-number.ensures in
    let same : set c.args.last.now.items (session_in c.args.event.now) (begun c.args.before.now + 1) ≡ c.set_last.new.last.items =
    ap (λ (n : ℕ). set c.args.last.now.items (session_in c.args.event.now) n) number
    ∙ ap (λ (s : ℕ). set c.args.last.now.items s c.next_number-number.result) (sym c.session_of.ensures)
    ∙ sym c.set_last.ensures
    in
    subst (λ (xs : List ℕ). HoldsLast (c.args.before.now ++ c.args.event.now ∷ []) xs) same
    (owners_begin c.args.before.now c.args.event.now c.args.last.now.items begins c.requires.within c.requires.last)

pub returns-clause-count : goal.returns-clause-count
returns-clause-count c =
    let begins : is_begin c.args.event.now ≡ true = sym c.is_begin.ensures ∙ c.if-not-is_begin.false in
    c.next_number-number.ensures ∙ ap (λ (n : ℕ). n + 1) c.requires.count ∙ sym (begun_begin c.args.before.now c.args.event.now begins)
