-- An order that meets a history keeps all of it, and of another one thing at most is told.
use Rattle.std.proofs.Common.{◌≡◌, ℕ, ◌+◌, ◌≤◌, List, arith, refl, ap, sym, ◌∙◌, subst, inl, inr}
use Rattle.std.proofs.lemmas.Bool.{cases_order}
use Rattle.cell_base.specs.declared.cell.Cell.{Cell}
use Rattle.history_core.specs.declared.event.Event.{Event}
use Rattle.history_core.specs.Relations.{Reads, Meets}
use Rattle.order_test.specs.declared.unkept.Unkept.{Unkept}
use Rattle.order_test.specs.declared.unkept.Unkept.TheVariants.{Order, Session, Read, Axiom}
use Rattle.order_test.specs.Settled.{IsOrderly}
use Rattle.order_test.specs.Sights.{origin_of}
use Rattle.order_test.specs.Unkept.{IsFirstOutOfSession, IsUnmet, IsReadEarly, IsFirstReadEarly, IsFirstAxiom, IsFirstUnkept}
use Rattle.order_test.proofs.SearchLemmas.{one_reader, gives_origin}
use Rattle.order_test.proofs.RivalLemmas.{cells_one}

pub kept_none : (events : List Event) (order : List ℕ) (unkept : Unkept) → Meets events order → IsFirstUnkept events order unkept → ⊥
kept_none events order Order meets none = none record { once = meets.holds; first = meets.first }
kept_none events order (Session a b) meets (holds, first) = first.is.late (meets.precedes a b (inl first.is.ordered))
kept_none events order (Read event origin reader) meets (holds, sessions, (place, number, first)) =
    first.is.late (meets.precedes origin reader (inr record { place = place; cell = first.is.cell; reads = first.is.reads }))
kept_none events order (Axiom event origin rival reader cell) meets (holds, sessions, (place, number, first)) =
    let unmet = first.is.is in
    unmet.late (meets.demands rival origin record { reader = reader; place = place; cell = cell; reads = unmet.reads; other = unmet.other; writes = unmet.writes; visible = unmet.visible })

-- ---- one thing is told

pairs_one : (events : List Event) (order : List ℕ) (a b c d : ℕ) → IsFirstOutOfSession events order a b → IsFirstOutOfSession events order c d → (a ≡ c) × (b ≡ d)
pairs_one events order a b c d first second =
    elim (first.least c d second.is) [
      | inl less ↦ elim (second.least a b first.is) [ inl more ↦ absurd (omega arith) | inr same ↦ let e = same.0 in absurd (omega arith) ]
      | inr one ↦ elim (second.least a b first.is) [
        | inl more ↦ let e = one.0 in absurd (omega arith)
        | inr same ↦ (one.0, let x = one.1 in let y = same.1 in omega arith)
      ]
    ]

-- the reader and the origin of an event
origins_one :
    (events : List Event) → IsOrderly events → (place r s a b : ℕ) (x y : Cell) → Reads events r place x a → Reads events s place y b → (r ≡ s) × (a ≡ b)
origins_one events orderly place r s a b x y first second =
    let one = one_reader events orderly r s place first.event second.event first.of_reader second.of_reader in (
      one.1,
      gives_origin first.event x a first.gives ∙ ap origin_of one.0 ∙ sym (gives_origin second.event y b second.gives),
    )

read_is : (e a r f b s : ℕ) → e ≡ f → a ≡ b → r ≡ s → ◌≡◌ {A = Unkept} (Read e a r) (Read f b s)
read_is e a r f b s same_event same_origin same_reader =
    ap (λ (n : ℕ). Read n a r) same_event ∙ ap (λ (n : ℕ). Read f n r) same_origin ∙ ap (λ (n : ℕ). Read f b n) same_reader

axiom_is : (e a v r : ℕ) (x : Cell) (f b w s : ℕ) (y : Cell) → e ≡ f → a ≡ b → v ≡ w → r ≡ s → x ≡ y → ◌≡◌ {A = Unkept} (Axiom e a v r x) (Axiom f b w s y)
axiom_is e a v r x f b w s y one two three four five =
    ap (λ (n : ℕ). Axiom n a v r x) one ∙ ap (λ (n : ℕ). Axiom f n v r x) two ∙ ap (λ (n : ℕ). Axiom f b n r x) three ∙ ap (λ (n : ℕ). Axiom f b w n x) four
    ∙ ap (λ (c : Cell). Axiom f b w s c) five

reads_one : (events : List Event) (order : List ℕ) → IsOrderly events → (e a r f b s p q : ℕ) → e ≡ p + 1 → f ≡ q + 1 → IsFirstReadEarly events order p a r → IsFirstReadEarly events order q b s →
    ◌≡◌ {A = Unkept} (Read e a r) (Read f b s)
reads_one events order orderly e a r f b s p q at_p at_q first second =
    elim (cases_order p q) [
      | inl same ↦
          let one = origins_one events orderly q r s a b first.is.cell second.is.cell (subst (λ (n : ℕ). Reads events r n first.is.cell a) same first.is.reads) second.is.reads in
          read_is e a r f b s (omega arith) one.1 one.0
      | inr apart ↦ elim apart [
        | inl less ↦ absurd ((second.before p less).reads a r first.is)
        | inr more ↦ absurd ((first.before q more).reads b s second.is)
      ]
    ]

read_no_axiom : (events : List Event) (order : List ℕ) (a r b w s p q : ℕ) (y : Cell) → IsFirstReadEarly events order p a r → IsFirstAxiom events order q b w s y → ⊥
read_no_axiom events order a r b w s p q y first second =
    elim (cases_order p q) [
      | inl same ↦ second.reads a r (subst (λ (n : ℕ). IsReadEarly events order n a r) same first.is)
      | inr apart ↦ elim apart [
        | inl less ↦ (second.before p less).reads a r first.is
        | inr more ↦ (first.before q more).sights b w s y second.is.is
      ]
    ]

axioms_one : (events : List Event) (order : List ℕ) → IsOrderly events → (e a v r : ℕ) (x : Cell) (f b w s : ℕ) (y : Cell) (p q : ℕ) → e ≡ p + 1 → f ≡ q + 1 →
    IsFirstAxiom events order p a v r x → IsFirstAxiom events order q b w s y → ◌≡◌ {A = Unkept} (Axiom e a v r x) (Axiom f b w s y)
axioms_one events order orderly e a v r x f b w s y p q at_p at_q first second =
    elim (cases_order p q) [
      | inl same ↦
          let own = subst (λ (n : ℕ). IsUnmet events order n a v r x) same first.is.is in
          let other = subst (λ (n : ℕ). IsUnmet events order n b w s y) (sym same) second.is.is in
          let one = origins_one events orderly q r s a b x y own.reads second.is.is.reads in
          let less : v ≤ w = first.is.least b w s y other in
          let more : w ≤ v = second.is.least a v r x own in
          let rival : v ≡ w = omega arith in
          let cell : x ≡ y = cells_one x y
          (first.is.first b s y (subst (λ (n : ℕ). IsUnmet events order p b n s y) (sym rival) other))
          (second.is.first a r x (subst (λ (n : ℕ). IsUnmet events order q a n r x) rival own)) in
          axiom_is e a v r x f b w s y (omega arith) one.1 rival one.0 cell
      | inr apart ↦ elim apart [
        | inl less ↦ absurd ((second.before p less).sights a v r x first.is.is)
        | inr more ↦ absurd ((first.before q more).sights b w s y second.is.is)
      ]
    ]

pub unkept_one : (events : List Event) (order : List ℕ) (a b : Unkept) → IsOrderly events → IsFirstUnkept events order a → IsFirstUnkept events order b → a ≡ b
unkept_one events order Order Order orderly first second = refl
unkept_one events order Order (Session a b) orderly first second = absurd (first second.0)
unkept_one events order Order (Read e a r) orderly first second = absurd (first second.0)
unkept_one events order Order (Axiom e a v r x) orderly first second = absurd (first second.0)
unkept_one events order (Session a b) Order orderly first second = absurd (second first.0)
unkept_one events order (Read e a r) Order orderly first second = absurd (second first.0)
unkept_one events order (Axiom e a v r x) Order orderly first second = absurd (second first.0)
unkept_one events order (Session a b) (Session c d) orderly first second =
    let one = pairs_one events order a b c d first.1 second.1 in ap (λ (n : ℕ). Session n b) one.0 ∙ ap (λ (n : ℕ). Session c n) one.1
unkept_one events order (Session a b) (Read e c r) orderly first second = absurd (second.1 a b first.1.is)
unkept_one events order (Session a b) (Axiom e c v r x) orderly first second = absurd (second.1 a b first.1.is)
unkept_one events order (Read e c r) (Session a b) orderly first second = absurd (first.1 a b second.1.is)
unkept_one events order (Axiom e c v r x) (Session a b) orderly first second = absurd (first.1 a b second.1.is)
unkept_one events order (Read e a r) (Read f b s) orderly first second =
    reads_one events order orderly e a r f b s first.2.0 second.2.0 first.2.1 second.2.1 first.2.2 second.2.2
unkept_one events order (Read e a r) (Axiom f b w s y) orderly first second =
    absurd (read_no_axiom events order a r b w s first.2.0 second.2.0 y first.2.2 second.2.2)
unkept_one events order (Axiom e a v r x) (Read f b s) orderly first second =
    absurd (read_no_axiom events order b s a v r second.2.0 first.2.0 x second.2.2 first.2.2)
unkept_one events order (Axiom e a v r x) (Axiom f b w s y) orderly first second =
    axioms_one events order orderly e a v r x f b w s y first.2.0 second.2.0 first.2.1 second.2.1 first.2.2 second.2.2
