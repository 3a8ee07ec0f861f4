use Rattle.std.proofs.Common.{rules, ◌≤◌, Ok, ap, ◌∙◌, length, drop, length-drop, arith}
use Rattle.sql_lexer.specs.Front.{is_joined}
use Rattle.sql_lexer.proofs.Cuts.{begun, after_gap, after_kind, failed_ahead, complete}
use Rattle.sql_lexer.proofs.cut.cut.Goals as goal
use Rattle.sql_lexer.proofs.cut.cut.Goals.{in-Gap, in-Kind+in_ok-push-in-Kind}

pub loop-at-init : goal.loop-at-init
loop-at-init c = begun c.args.text.now c.new-found.result.items c.new-found.ensures.items c.requires.utf8

pub front-requires-clause-utf8 : goal.front-requires-clause-utf8
front-requires-clause-utf8 c = rw (c.rest-ahead.ensures) c.loop-at.invariant.utf8

pub returns-in_err-piece-clause-fault : goal.returns-in_err-piece-clause-fault
returns-in_err-piece-clause-fault c =
    let why = failed_ahead c.args.text.now c.rest-ahead.result.now (is_joined c.loop-at.before) c.loop-at.at c.loop-at.found.items c.in_err-piece.field-0.0 c.rest-ahead.ensures c.loop-at.invariant
    (omega (arith, length-drop c.loop-at.at c.args.text.now)) c.in_err-piece.ensures.value in
    search (rules, why)

pub loop-at-preserved : goal.loop-at-preserved
loop-at-preserved c =
    let long = length-drop c.loop-at.at c.args.text.now in
    let ahead = ap length c.rest-ahead.ensures in
    let bounds = c.in_ok-piece.ensures.within in
    let some : 1 ≤ length (drop c.loop-at.at c.args.text.now) = omega arith in
    let value = rw c.rest-ahead.ensures at c.in_ok-piece.ensures.value in
    elim c.match-piece.branch [
      | in-Gap w ↦ after_gap c.args.text.now (is_joined c.loop-at.before) (is_joined c.match-piece.before) c.loop-at.at c.in_ok-piece.len c.loop-at.found.items c.match-piece.found.items c.loop-at.invariant some (omega arith)
          (value ∙ ap (λ p. Ok (p, c.in_ok-piece.len)) w.in-Gap.is) (ap is_joined w.before-is) (ap (λ v. v.items) w.found-is)
      | in-Kind+in_ok-push-in-Kind w ↦ after_kind c.args.text.now (is_joined c.loop-at.before) (is_joined c.match-piece.before) c.loop-at.at c.in_ok-piece.len w.in-Kind.kind c.loop-at.found.items c.match-piece.found.items c.loop-at.invariant some (omega arith)
          (value ∙ ap (λ p. Ok (p, c.in_ok-piece.len)) w.in-Kind.is) (ap is_joined w.before-is ∙ w.after-before.ensures) (ap (λ v. v.items) w.found-is ∙ w.in_ok-push-in-Kind.ensures.items)
    ]

pub returns-clause-found : goal.returns-clause-found
returns-clause-found c = complete c.args.text.now (is_joined c.loop-at.before) c.loop-at.at c.loop-at.found.items c.loop-at.invariant c.loop-at-test.false
