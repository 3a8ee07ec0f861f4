use Rattle.std.proofs.Common.{refl, arith, rules}
use Rattle.std.proofs.lemmas.Bool.{false≢true}
use Rattle.client_framing.proofs.Messages.{no_length_held, not_whole, length_is_bad, text_is_bad, message_found}
use Rattle.client_framing.proofs.main_phase.message_of.Goals as goal

pub returns-then-bytes-lt5-clause-partial : goal.returns-then-bytes-lt5-clause-partial
returns-then-bytes-lt5-clause-partial c = λ _. no_length_held c.args.bytes.now c.in-Some.kind c.in-Some.ensures.some (omega arith)

pub returns-then-not-can_have_length-clause-bad : goal.returns-then-not-can_have_length-clause-bad
returns-then-not-can_have_length-clause-bad c = λ _.
    length_is_bad c.args.bytes.now c.in-Some.kind c.number_at-len.result c.in-Some.ensures.some (omega arith) c.number_at-len.ensures (λ can. false≢true (c.if-not-can_have_length.ensures.1 can))

pub returns-then-bytes-end-clause-partial : goal.returns-then-bytes-end-clause-partial
returns-then-bytes-end-clause-partial c = λ _.
    not_whole c.args.bytes.now c.in-Some.kind c.number_at-len.result c.in-Some.ensures.some c.number_at-len.ensures (c.if-not-can_have_length.ensures.0 refl) (omega arith) (omega arith)

pub returns-in_err-message-clause-bad : goal.returns-in_err-message-clause-bad
returns-in_err-message-clause-bad c =
    let h = text_is_bad c.args.bytes.now c.number_at-len.result c.in-Some.kind c.in-Some.ensures.some c.number_at-len.ensures (c.if-not-can_have_length.ensures.0 refl) (omega arith) (omega arith)
    c.in_err-message.field-0.0 c.in_err-message.ensures.fault c.in_err-message.ensures.query c.in_err-message.ensures.no_text in
    search (rules, h)

pub returns-clause-found : goal.returns-clause-found
returns-clause-found c =
    message_found c.args.bytes.now c.in_ok-message.message c.in-Some.kind c.number_at-len.result c.in-Some.ensures.some c.number_at-len.ensures (c.if-not-can_have_length.ensures.0 refl) (omega arith) (omega arith)
    c.in_ok-message.ensures.kind c.in_ok-message.ensures.body
