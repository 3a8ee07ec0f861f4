-- No list has two causes.
use Rattle.std.proofs.Common.{◌≡◌, Bool, true, false, List, refl, inl, inr}
use Rattle.std.specs.Prelude.{IsTrue, IsFalse, ◌⊎◌}
use Rattle.sql_tree.specs.declared.token.Token.{Token}
use Rattle.sql_grammar.specs.Words.{marks}
use Rattle.sql_grammar.proofs.Patterns.{true_false}
use Rattle.sql_refusal.specs.declared.cause.Cause.{Cause}
use Rattle.sql_refusal.specs.declared.cause.Cause.TheVariants.{TooMany, TooDeep, Unsupported, Syntax}
use Rattle.sql_refusal.specs.Wide.{IsUnlimited, IsWide}
use Rattle.sql_refusal.specs.Pieces.{has_too_many, has_deep_token, has_unsupported_token}
use Rattle.sql_refusal.specs.Causes.{IsCause}

clash : (b : Bool) → IsTrue b → IsFalse b → ⊥
clash b e f = true_false {a = b} e f

neither : {A : Type 0} (b : Bool) → IsTrue b ⊎ A → IsFalse b → ¬ A → ⊥
neither b (inl e) f n = clash b e f
neither b (inr a) f n = n a

nor : {A : Type 0} (b : Bool) → A ⊎ IsTrue b → IsFalse b → ¬ A → ⊥
nor b (inl a) f n = n a
nor b (inr e) f n = clash b e f

pub one_cause : (ts : List Token) (a b : Cause) → IsCause ts a → IsCause ts b → a ≡ b
one_cause ts TooMany TooMany h g = refl
one_cause ts TooMany TooDeep h g = absurd (clash (has_too_many ts) h g.0)
one_cause ts TooMany Unsupported h g = absurd (clash (has_too_many ts) h g.0)
one_cause ts TooMany Syntax h g = absurd (clash (has_too_many ts) h g.0)
one_cause ts TooDeep TooMany h g = absurd (clash (has_too_many ts) g h.0)
one_cause ts TooDeep TooDeep h g = refl
one_cause ts TooDeep Unsupported h g = absurd (neither {A = IsUnlimited (marks ts)} (has_deep_token ts) h.1 g.1 g.2)
one_cause ts TooDeep Syntax h g = absurd (neither {A = IsUnlimited (marks ts)} (has_deep_token ts) h.1 g.1 g.2)
one_cause ts Unsupported TooMany h g = absurd (clash (has_too_many ts) g h.0)
one_cause ts Unsupported TooDeep h g = absurd (neither {A = IsUnlimited (marks ts)} (has_deep_token ts) g.1 h.1 h.2)
one_cause ts Unsupported Unsupported h g = refl
one_cause ts Unsupported Syntax h g = absurd (nor {A = IsWide (marks ts)} (has_unsupported_token ts) h.3 g.4 g.3)
one_cause ts Syntax TooMany h g = absurd (clash (has_too_many ts) g h.0)
one_cause ts Syntax TooDeep h g = absurd (neither {A = IsUnlimited (marks ts)} (has_deep_token ts) g.1 h.1 h.2)
one_cause ts Syntax Unsupported h g = absurd (nor {A = IsWide (marks ts)} (has_unsupported_token ts) g.3 h.4 h.3)
one_cause ts Syntax Syntax h g = refl
