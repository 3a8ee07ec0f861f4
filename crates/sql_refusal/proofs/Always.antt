-- Each list has a cause.
use Rattle.std.proofs.Common.{◌≡◌, ℕ, ◌+◌, ◌*◌, Bool, true, false, List, [], ◌∷◌, length, Option, Some, None, refl, sym, ◌∙◌, inl, inr}
use Rattle.std.specs.Prelude.{IsTrue, IsFalse, ◌⊎◌}
use Rattle.sql_tree.specs.declared.token.Token.{Token}
use Rattle.sql_grammar.specs.declared.mark.Mark.{Mark}
use Rattle.sql_grammar.specs.Words.{marks}
use Rattle.sql_grammar.proofs.Taken.{none_some}
use Rattle.sql_refusal.specs.declared.cause.Cause.{Cause}
use Rattle.sql_refusal.specs.declared.cause.Cause.TheVariants.{TooMany, TooDeep, Unsupported, Syntax}
use Rattle.sql_refusal.specs.Wide.{IsUnlimited, IsWide}
use Rattle.sql_refusal.specs.Pieces.{has_too_many, has_deep_token, has_unsupported_token}
use Rattle.sql_refusal.specs.Causes.{IsCause}
use Rattle.sql_refusal.specs.Forms.{passes, at}
use Rattle.sql_refusal.specs.MessageForms.{message_form}
use Rattle.sql_refusal.proofs.Messages.{to_unlimited, from_unlimited, to_wide, from_wide}

pub record ACause (ts : List Token) : Type 0 where
  pub by : Cause
  pub is : IsCause ts by

flag : (b : Bool) → IsTrue b ⊎ IsFalse b
flag true = inl refl
flag false = inr refl

some_left : {m : Mark} {ms : List Mark} → ◌≡◌ {A = Option (List Mark)} (Some (m ∷ ms)) (Some []) → ⊥
some_left e = cc

decided : {A : Type 0} (o p : Option (List Mark)) → p ≡ o → (p ≡ Some [] → A) → (A → p ≡ Some []) → A ⊎ (¬ A)
decided None p e f g = inr (λ a. none_some (sym e ∙ g a))
decided (Some []) p e f g = inl (f e)
decided (Some (m ∷ ms)) p e f g = inr (λ a. some_left (sym e ∙ g a))

unlimited : (ms : List Mark) → IsUnlimited ms ⊎ (¬ (IsUnlimited ms))
unlimited ms = let n = 11 * length ms + 10 in let p = passes (at n) (message_form false) ms in decided p p refl (to_unlimited n ms) (from_unlimited ms)

wide : (ms : List Mark) → IsWide ms ⊎ (¬ (IsWide ms))
wide ms = let n = 11 * length ms + 10 in let p = passes (at n) (message_form true) ms in decided p p refl (to_wide n ms) (from_wide ms)

pub some_cause : (ts : List Token) → ACause ts
some_cause ts = elim (flag (has_too_many ts)) as (λ _. ACause ts) [
  | inl a ↦ record { by = TooMany; is = a }
  | inr a ↦ elim (flag (has_deep_token ts)) as (λ _. ACause ts) [
    | inl b ↦ record { by = TooDeep; is = (a, inl b) }
    | inr b ↦ elim (unlimited (marks ts)) as (λ _. ACause ts) [
      | inl c ↦ record { by = TooDeep; is = (a, inr c) }
      | inr c ↦ elim (wide (marks ts)) as (λ _. ACause ts) [
        | inl d ↦ record { by = Unsupported; is = (a, b, c, inl d) }
        | inr d ↦ elim (flag (has_unsupported_token ts)) as (λ _. ACause ts) [
          | inl e ↦ record { by = Unsupported; is = (a, b, c, inr e) }
          | inr e ↦ record { by = Syntax; is = (a, b, c, d, e) }
        ]
      ]
    ]
  ]
]
