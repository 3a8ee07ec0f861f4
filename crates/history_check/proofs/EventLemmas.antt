-- The first event that breaks a rule.
use Rattle.std.proofs.Common.{◌≡◌, ℕ, ◌+◌, ◌≤◌, zero, suc, List, [], ◌∷◌, ◌++◌, Some, length, take, arith, refl, ap, sym, ◌∙◌, subst, inl, inr}
use Rattle.std.specs.List.{slice_get}
use Rattle.std.proofs.lemmas.List.{length-take-le}
use Rattle.std.proofs.lemmas.Option.{slice_get_within}
use Rattle.std.proofs.lemmas.Bool.{cases_eq, cases_order}
use Rattle.cell_base.specs.declared.cell.Cell.{Cell}
use Rattle.cell_base.specs.declared.value.Value.{Value}
use Rattle.history_core.specs.declared.event.Event.{Event}
use Rattle.history_core.specs.declared.event.Event.TheVariants as events
use Rattle.history_core.specs.Legal.{Follows}
use Rattle.history_check.specs.declared.breach.Breach.{Breach}
use Rattle.history_check.specs.declared.breach.Breach.TheVariants.{Count, Number}
use Rattle.history_check.specs.declared.broken_rule.BrokenRule.{BrokenRule}
use Rattle.history_check.specs.Rules.{Rule, shape, number, keys, own, source, value, count, rank, IsRight}
use Rattle.history_check.specs.Breaches.{IsToldOf, IsBreachOf, AreRightBelow, AreRight, IsFirstEventBreach}
use Rattle.history_check.specs.Found.{breach_at, IsFound}
use Rattle.history_check.proofs.CountLemmas.{candidates_unique}
use Rattle.history_check.proofs.Rights.{right_follows}

pub right_step :
    (initial : List (Cell × Value)) (all : List Event) (n : ℕ) (e : Event) → slice_get all n ≡ Some e → IsRight initial (take n all) e →
    AreRightBelow initial all n → AreRightBelow initial all (n + 1)
right_step initial all n e at right before k f under is =
    elim (cases_eq k n) [
      | inr other ↦ before k f (omega arith) is
      | inl same ↦
          let both : Some f ≡ Some e = sym is ∙ ap (λ (i : ℕ). slice_get all i) same ∙ at in
          let event : f ≡ e = cc in
          subst (λ (i : ℕ). IsRight initial (take i all) f) (sym same) (subst (λ (g : Event). IsRight initial (take n all) g) (sym event) right)
    ]

pub right_all : (initial : List (Cell × Value)) (all : List Event) (n : ℕ) → length all ≤ n → AreRightBelow initial all n → AreRight initial all
right_all initial all n whole below k e under is = below k e (omega arith) is

-- ---- the laws

pub right_unbroken : (initial : List (Cell × Value)) (all : List Event) (breach : Breach) → AreRight initial all → IsFirstEventBreach initial all breach → ⊥
right_unbroken initial all breach right first =
    first.breach_is.broken (right first.place first.event (slice_get_within all first.place first.event first.is) first.is first.breach_is.rule)

rank_back : (a b : Rule) → rank a ≡ rank b → a ≡ b
rank_back a b same = sym (of_rank a) ∙ ap rule_at same ∙ of_rank b
  where
    rule_at : ℕ → Rule
    rule_at zero = shape
    rule_at (suc zero) = number
    rule_at (suc (suc zero)) = keys
    rule_at (suc (suc (suc zero))) = own
    rule_at (suc (suc (suc (suc zero)))) = source
    rule_at (suc (suc (suc (suc (suc zero))))) = value
    rule_at (suc (suc (suc (suc (suc (suc n)))))) = count

    of_rank : (r : Rule) → rule_at (rank r) ≡ r
    of_rank shape = refl
    of_rank number = refl
    of_rank keys = refl
    of_rank own = refl
    of_rank source = refl
    of_rank value = refl
    of_rank count = refl

told_one : (before : List Event) (e : Event) (rule : Rule) (a b : Breach) → IsToldOf before e rule a → IsToldOf before e rule b → a ≡ b
told_one before e shape a b first second = first ∙ sym second
told_one before e keys a b first second = first ∙ sym second
told_one before e own a b first second = first ∙ sym second
told_one before e source a b first second = first ∙ sym second
told_one before e value a b first second = first ∙ sym second
told_one before e number a b first second =
    let both : Some first.0 ≡ Some second.0 = sym first.1 ∙ second.1 in
    let same : first.0 ≡ second.0 = cc in
    first.2 ∙ ap (λ (n : ℕ). Number (length before + 1) n) same ∙ sym second.2
told_one before (events.Read s x w n u v) count a b first second =
    first.2 ∙ ap (λ (m : ℕ). Count (length before + 1) m) (candidates_unique before x first.0 second.0 first.1 second.1) ∙ sym second.2
told_one before (events.Open s) count a b first second = absurd first
told_one before (events.Close s) count a b first second = absurd first
told_one before (events.Define s name) count a b first second = absurd first
told_one before (events.Look s tables) count a b first second = absurd first
told_one before (events.Begin s level) count a b first second = absurd first
told_one before (events.Scan s table listed) count a b first second = absurd first
told_one before (events.Own s x v) count a b first second = absurd first
told_one before (events.Write s x v) count a b first second = absurd first
told_one before (events.Commit s) count a b first second = absurd first
told_one before (events.Rollback s) count a b first second = absurd first
told_one before (events.Show s n) count a b first second = absurd first

breach_one : (initial : List (Cell × Value)) (before : List Event) (e : Event) (a b : Breach) → IsBreachOf initial before e a → IsBreachOf initial before e b → a ≡ b
breach_one initial before e a b first second =
    elim (cases_order (rank first.rule) (rank second.rule)) [
      | inl same ↦
          told_one before e first.rule a b first.told
          (subst (λ (r : Rule). IsToldOf before e r b) (sym (rank_back first.rule second.rule same)) second.told)
      | inr apart ↦ elim apart [
        | inl less ↦ absurd (first.broken (second.first first.rule less))
        | inr more ↦ absurd (second.broken (first.first second.rule more))
      ]
    ]

pub one_breach : (initial : List (Cell × Value)) (all : List Event) (a b : Breach) → IsFirstEventBreach initial all a → IsFirstEventBreach initial all b → a ≡ b
one_breach initial all a b first second =
    elim (cases_order first.place second.place) [
      | inl same ↦
          let both : Some first.event ≡ Some second.event = sym first.is ∙ ap (λ (i : ℕ). slice_get all i) same ∙ second.is in
          let event : first.event ≡ second.event = cc in
          breach_one initial (take first.place all) first.event a b first.breach_is
          (subst (λ (i : ℕ). IsBreachOf initial (take i all) first.event b) (sym same)
          (subst (λ (g : Event). IsBreachOf initial (take second.place all) g b) (sym event) second.breach_is))
      | inr apart ↦ elim apart [
        | inl less ↦ absurd (first.breach_is.broken (second.right first.place first.event less first.is first.breach_is.rule))
        | inr more ↦ absurd (second.breach_is.broken (first.right second.place second.event more second.is second.breach_is.rule))
      ]
    ]

pub right_each : (initial : List (Cell × Value)) (all : List Event) → AreRight initial all → (k : ℕ) (e : Event) → slice_get all k ≡ Some e → Follows initial (take k all) e
right_each initial all right k e is = right_follows initial (take k all) e (right k e (slice_get_within all k e is) is)

-- ---- answers

-- the first event of which a broken rule is found
pub first_found :
    (initial : List (Cell × Value)) (all : List Event) (n : ℕ) (e : Event) (rule : BrokenRule) → slice_get all n ≡ Some e → AreRightBelow initial all n →
    IsFound initial (take n all) e (Some rule) → IsFirstEventBreach initial all (breach_at (n + 1) rule)
first_found initial all n e rule is right found =
    let within = slice_get_within all n e is in
    let short : length (take n all) ≡ n = length-take-le n all (omega arith) in
    record {
      place = n;
      event = e;
      is = is;
      right = right;
      breach_is = subst (λ (m : ℕ). IsBreachOf initial (take n all) e (breach_at (m + 1) rule)) short found;
    }

pub take_next : {X : Type 0} (xs : List X) (n : ℕ) (x : X) → slice_get xs n ≡ Some x → take (n + 1) xs ≡ take n xs ++ x ∷ []
take_next [] n x is = cc
take_next {X} (y ∷ ys) zero x is = let same : y ≡ x = cc in ap (λ (z : X). z ∷ []) same
take_next {X} (y ∷ ys) (suc n) x is =
    let number : suc n + 1 ≡ suc (n + 1) = omega arith in
    ap (λ (m : ℕ). take m (y ∷ ys)) number ∙ ap (λ (zs : List X). y ∷ zs) (take_next ys n x is)
