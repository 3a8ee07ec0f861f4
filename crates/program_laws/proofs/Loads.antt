-- The events that add to a history's load are few.
use Rattle.std.proofs.Common.{◌≡◌, ◌≤◌, ◌+◌, Bool, true, false, cond, ℕ, suc, List, [], ◌∷◌, ◌++◌, length, take, Some, None, ap, sym, subst, ◌∙◌, refl, arith, append_assoc}
use Rattle.std.specs.Prelude.{slice_get}
use Rattle.std.proofs.lemmas.List.{append-nil}
use Rattle.std.proofs.Math.Seq.{take-append_seam}
use Rattle.cell_base.specs.declared.cell.Cell.{Cell}
use Rattle.cell_base.specs.declared.value.Value.{Value}
use Rattle.history_core.specs.declared.event.Event.{Event}
use Rattle.history_core.specs.Legal.{full_for, MayCome, IsFormed}
use Rattle.history_core.specs.Records.{is_any_end}
use Rattle.history_core.proofs.SmallLemmas.{fits_load, length-le-weights}

-- one more for an event that ends neither a transaction nor a session
abbrev pub with_plain : Event → ℕ → ℕ
with_plain e n = cond (is_any_end e) n (suc n)

abbrev pub plain_in : List Event → ℕ
plain_in [] = 0
plain_in (e ∷ events) = with_plain e (plain_in events)

test_least : (b : Bool) (n : ℕ) → n ≤ cond b n (suc n)
test_least true n = omega arith
test_least false n = omega arith

pub plain_least : (e : Event) (n : ℕ) → n ≤ with_plain e n
plain_least e n = test_least (is_any_end e) n

test_most : (b : Bool) (n : ℕ) → cond b n (suc n) ≤ suc n
test_most true n = omega arith
test_most false n = omega arith

test_plus : (b : Bool) (m n : ℕ) → cond b (m + n) (suc (m + n)) ≡ cond b m (suc m) + n
test_plus true m n = refl
test_plus false m n = omega arith

pub plain-append : (before after : List Event) → plain_in (before ++ after) ≡ plain_in before + plain_in after
plain-append [] after = omega arith
plain-append (e ∷ before) after =
    ap (with_plain e) (plain-append before after) ∙ test_plus (is_any_end e) (plain_in before) (plain_in after)

plain-le-length : (events : List Event) → plain_in events ≤ length events
plain-le-length [] = omega arith
plain-le-length (e ∷ events) =
    let most = test_most (is_any_end e) (plain_in events) in let rest = plain-le-length events in omega (arith, most, rest)

seam : (front : List Event) (e : Event) (more : List Event) → slice_get (front ++ e ∷ more) (length front) ≡ Some e
seam [] e more = refl
seam (x ∷ front) e more = seam front e more

-- an event that fits leaves them few
one_more : (initial : List (Cell × Value)) (front : List Event) (e : Event) (b : Bool) → is_any_end e ≡ b → full_for initial front e ≡ None → plain_in front ≤ 1048576 →
    plain_in front + cond b 0 1 ≤ 1048576
one_more initial front e true last fits few = omega (arith, few)
one_more initial front e false last fits few =
    omega (arith, fits_load initial front e last fits, length-le-weights front, plain-le-length front)

one_plain : (b : Bool) → cond b 0 1 ≡ cond b 0 (suc 0)
one_plain true = refl
one_plain false = refl

formed_few : (initial : List (Cell × Value)) (front rest : List Event) → IsFormed initial (front ++ rest) → plain_in front ≤ 1048576 → plain_in (front ++ rest) ≤ 1048576
formed_few initial front [] formed few = subst (λ (es : List Event). plain_in es ≤ 1048576) (sym (append-nil front)) few
formed_few initial front (e ∷ more) formed few =
    let comes : MayCome initial (take (length front) (front ++ e ∷ more)) e = formed (length front) e (seam front e more) in
    let fits : full_for initial front e ≡ None =
    subst (λ (es : List Event). full_for initial es e ≡ None) (take-append_seam front (e ∷ more)) comes.fits in
    let size : plain_in (front ++ e ∷ []) ≡ plain_in front + plain_in (e ∷ []) = plain-append front (e ∷ []) in
    let next : plain_in (front ++ e ∷ []) ≤ 1048576 =
    omega (arith, size, one_plain (is_any_end e), one_more initial front e (is_any_end e) refl fits few) in
    let same : (front ++ e ∷ []) ++ more ≡ front ++ e ∷ more = append_assoc front (e ∷ []) more in
    subst (λ (es : List Event). plain_in es ≤ 1048576) same
    (formed_few initial (front ++ e ∷ []) more (subst (IsFormed initial) (sym same) formed) next)

pub legal_few : (initial : List (Cell × Value)) (events : List Event) → IsFormed initial events → plain_in events ≤ 1048576
legal_few initial events formed = formed_few initial [] events formed (omega arith)
