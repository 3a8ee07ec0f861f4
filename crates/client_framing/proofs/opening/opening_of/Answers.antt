use Rattle.std.proofs.Common.{ℕ, List, ◌∙◌, ap, refl, subst, arith}
use Rattle.std.specs.Prelude.{Some}
use Rattle.std.proofs.lemmas.Bool.{false≢true}
use Rattle.client_framing.specs.Spelling.{IsBody}
use Rattle.client_framing.proofs.Openings.{body_in_part, body_is_bad, opening_stands}
use Rattle.client_framing.proofs.opening.opening_of.Goals as goal

pub returns-then-not-can_be_body-clause-bad : goal.returns-then-not-can_be_body-clause-bad
returns-then-not-can_be_body-clause-bad c = λ _.
    body_is_bad c.args.bytes.now c.held_after_code-held.result.now c.number_at-len.result _ (omega arith) c.number_at-len.ensures (c.opening_type-kind.ensures.code ∙ c.number_at.ensures) c.held_after_code-held.ensures
    (omega arith) (omega arith) (λ can. false≢true (c.if-not-can_be_body.ensures.1 can))

pub returns-then-bytes-len-clause-partial : goal.returns-then-bytes-len-clause-partial
returns-then-bytes-len-clause-partial c = λ _.
    body_in_part c.args.bytes.now c.held_after_code-held.result.now c.number_at-len.result _ c.number_at-len.ensures (c.opening_type-kind.ensures.code ∙ c.number_at.ensures) c.held_after_code-held.ensures
    (omega arith) (omega arith) (c.if-not-can_be_body.ensures.0 refl) (omega arith)

pub returns-clause-found : goal.returns-clause-found
returns-clause-found c =
    opening_stands c.args.bytes.now c.in_ok-message.message c.number_at-len.result c.number_at-len.ensures (omega arith) (omega arith) (omega arith)
    (c.in_ok-message.ensures.code ∙ ap (λ (i : ℕ). Some i) (c.opening_type-kind.ensures.code ∙ c.number_at.ensures))
    (let P : List ℕ → Type 0 = λ (x : List ℕ). IsBody c.in_ok-message.message x in subst P c.held_after_code-held.ensures c.in_ok-message.ensures.body)
