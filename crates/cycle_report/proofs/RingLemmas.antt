-- Cycles along edges, turned and shortened.
use Rattle.std.proofs.Common.{◌≡◌, ℕ, ◌+◌, ◌-◌, ◌<◌, ◌≤◌, zero, suc, List, [], ◌∷◌, ◌++◌, None, Some, length, take, drop, arith, refl, ap, sym, ◌∙◌, subst, inl, inr}
use Rattle.std.specs.List.{slice_get, Contains}
use Rattle.std.proofs.lemmas.List.{take_all, take-append-drop, length-drop, length-append}
use Rattle.std.proofs.lemmas.List.Elements.{Contains-append_cases, Contains-append_left, Contains-append_right}
use Rattle.std.proofs.lemmas.Option.{slice_get_within}
use Rattle.std.proofs.lemmas.Bool.{cases_eq}
use Rattle.txn_buffer.proofs.Lists.{contains_at, at_contains}
use Rattle.graph_base.specs.declared.Edge.{Edge}
use Rattle.graph_base.specs.Walk.{IsWalk, IsCycle}
use Rattle.graph_base.proofs.Walks.{walk_append}
use Rattle.cycle_report.specs.Rings.{IsAnyRing, IsLeastAt, IsLeastBelow, IsRepeat, IsOnce}

-- ---- walks in parts

pub walk_split : (edges : List Edge) (a : ℕ) (xs ys : List Edge) (b : ℕ) → IsWalk edges a (xs ++ ys) b → (m : ℕ) × (IsWalk edges a xs m × IsWalk edges m ys b)
walk_split edges a [] ys b walk = (a, (refl, walk))
walk_split edges a (e ∷ xs) ys b (begins, member, rest) =
    let on = walk_split edges e.after xs ys b rest in (on.0, ((begins, member, on.1.0), on.1.1))

pub walk_head : (edges : List Edge) (a : ℕ) (walk : List Edge) (b : ℕ) (e : Edge) → IsWalk edges a walk b → slice_get walk 0 ≡ Some e → e.before ≡ a
walk_head edges a [] b e walk is = let none : None ≡ Some e = is in cc
walk_head edges a (f ∷ walk) b e (begins, member, rest) is =
    let both : Some f ≡ Some e = is in
    let same : e ≡ f = cc in
    ap (λ (g : Edge). g.before) same ∙ begins

pub walk_within : (xs ys : List Edge) (a : ℕ) (walk : List Edge) (b : ℕ) → ((e : Edge) → Contains walk e → Contains ys e) → IsWalk xs a walk b → IsWalk ys a walk b
walk_within xs ys a [] b on is = is
walk_within xs ys a (e ∷ walk) b on (begins, member, rest) =
    (begins, on e (contains_at (e ∷ walk) 0 e refl), walk_within xs ys e.after walk b (λ f is. on f (Contains-append_right (e ∷ []) walk f is)) rest)

pub walk_members : (edges : List Edge) (a : ℕ) (walk : List Edge) (b : ℕ) → IsWalk edges a walk b → (k : ℕ) (e : Edge) → slice_get walk k ≡ Some e → Contains edges e
walk_members edges a [] b is k e at = let none : None ≡ Some e = at in cc
walk_members edges a (f ∷ walk) b (begins, member, rest) zero e at =
    let both : Some f ≡ Some e = at in
    let same : f ≡ e = cc in subst (λ (g : Edge). Contains edges g) same member
walk_members edges a (f ∷ walk) b (begins, member, rest) (suc k) e at = walk_members edges f.after walk b rest k e at

pub drop_first : (xs : List Edge) (n : ℕ) → slice_get (drop n xs) 0 ≡ slice_get xs n
drop_first xs zero = refl
drop_first [] (suc n) = refl
drop_first (x ∷ xs) (suc n) = drop_first xs n

member_of_take : (xs : List Edge) (n : ℕ) (e : Edge) → Contains (take n xs) e → Contains xs e
member_of_take xs n e member = subst (λ (ys : List Edge). Contains ys e) (take-append-drop n xs) (Contains-append_left (take n xs) (drop n xs) e member)

member_of_drop : (xs : List Edge) (n : ℕ) (e : Edge) → Contains (drop n xs) e → Contains xs e
member_of_drop xs n e member = subst (λ (ys : List Edge). Contains ys e) (take-append-drop n xs) (Contains-append_right (take n xs) (drop n xs) e member)

split_at : (edges : List Edge) (a : ℕ) (walk : List Edge) (b n : ℕ) → IsWalk edges a walk b → (m : ℕ) × (IsWalk edges a (take n walk) m × IsWalk edges m (drop n walk) b)
split_at edges a walk b n is =
    walk_split edges a (take n walk) (drop n walk) b (subst (λ (ys : List Edge). IsWalk edges a ys b) (sym (take-append-drop n walk)) is)

-- ---- turned

turned_from :
    (edges cycle : List Edge) (base at : ℕ) → IsWalk edges base cycle base → (least : IsLeastAt cycle at) → IsAnyRing edges (drop at cycle ++ take at cycle)
turned_from edges cycle base at walk least =
    let parts = split_at edges base cycle base at walk in
    let first : slice_get (drop at cycle) 0 ≡ Some least.edge = drop_first cycle at ∙ least.is in
    let begin : least.edge.before ≡ parts.0 = walk_head edges parts.0 (drop at cycle) base least.edge parts.1.1 first in
    let some : 0 < length (drop at cycle) = slice_get_within (drop at cycle) 0 least.edge first in
    let long = length-append (drop at cycle) (take at cycle) in (
      parts.0,
      record {
        some = omega arith;
        walk = walk_append edges parts.0 (drop at cycle) base (take at cycle) parts.0 parts.1.1 parts.1.0;
        least = λ e member.
            let own : Contains cycle e =
            elim (Contains-append_cases (drop at cycle) (take at cycle) e member) [
              | inl late ↦ member_of_drop cycle at e late
              | inr early ↦ member_of_take cycle at e early
            ]
            in
            let h = least.least e own in omega arith;
      },
    )

pub ring_turned : (edges cycle : List Edge) (at : ℕ) → IsCycle edges cycle → IsLeastAt cycle at → IsAnyRing edges (drop at cycle ++ take at cycle)
ring_turned edges [] at none least = absurd none
ring_turned edges (e ∷ walk) at (member, rest) least = turned_from edges (e ∷ walk) e.before at (refl, member, rest) least

pub cycle_some : (edges cycle : List Edge) → IsCycle edges cycle → 0 < length cycle
cycle_some edges [] none = absurd none
cycle_some edges (e ∷ walk) is = omega arith

-- ---- cut

pub ring_cut :
    (edges ring : List Edge) (first second : ℕ) → IsAnyRing edges ring → IsRepeat ring first second → IsAnyRing edges (take first ring ++ drop second ring)
ring_cut edges ring first second (base, is) again =
    let before = split_at edges base ring base first is.walk in
    let after = split_at edges base ring base second is.walk in
    let one : again.one.before ≡ before.0 = walk_head edges before.0 (drop first ring) base again.one before.1.1 (drop_first ring first ∙ again.one_is) in
    let other : again.other.before ≡ after.0 = walk_head edges after.0 (drop second ring) base again.other after.1.1 (drop_first ring second ∙ again.other_is) in
    let same : after.0 ≡ before.0 = sym other ∙ sym again.same ∙ one in
    let some : 0 < length (drop second ring) = slice_get_within (drop second ring) 0 again.other (drop_first ring second ∙ again.other_is) in
    let long = length-append (take first ring) (drop second ring) in (
      base,
      record {
        some = omega arith;
        walk = walk_append edges base (take first ring) before.0 (drop second ring) base before.1.0
            (subst (λ (n : ℕ). IsWalk edges n (drop second ring) base) same after.1.1);
        least = λ e member. is.least e (elim (Contains-append_cases (take first ring) (drop second ring) e member) [
          | inl early ↦ member_of_take ring first e early
          | inr late ↦ member_of_drop ring second e late
        ]);
      },
    )

-- the edges from a place on, as a part of the list
pub rest_whole : (ring : List Edge) (first second : ℕ) → take first ring ++ take (length ring - second) (drop second ring) ≡ take first ring ++ drop second ring
rest_whole ring first second =
    let rest = length-drop second ring in
    ap (λ (xs : List Edge). take first ring ++ xs) (take_all (length ring - second) (drop second ring) (omega arith))

take_short : (xs : List Edge) (n : ℕ) → length (take n xs) ≤ n
take_short xs zero = omega arith
take_short [] (suc n) = omega arith
take_short (x ∷ xs) (suc n) = let h = take_short xs n in omega arith

pub cut_shorter : (ring : List Edge) (first second : ℕ) → IsRepeat ring first second → length (take first ring ++ drop second ring) < length ring
cut_shorter ring first second again =
    let long = length-append (take first ring) (drop second ring) in
    let rest = length-drop second ring in
    let short = take_short ring first in
    let within : second < length ring = slice_get_within ring second again.other again.other_is in
    let apart = again.apart in omega arith

-- ---- the least edge

pub least_none : (ring : List Edge) → 0 < length ring → IsLeastBelow ring 0 0
least_none [] some = absurd (omega arith)
least_none (e ∷ ring) some = record { edge = e; is = refl; least = λ k f below. absurd (omega arith) }

pub least_new :
    (ring : List Edge) (place n : ℕ) (e old : Edge) → slice_get ring n ≡ Some e → slice_get ring place ≡ Some old → e.before < old.before → IsLeastBelow ring place n →
    IsLeastBelow ring n (n + 1)
least_new ring place n e old is was less before = record {
  edge = e;
  is = is;
  least = λ k f below at. elim (cases_eq k n) [
    | inl same ↦
        let both : Some f ≡ Some e = sym at ∙ ap (λ (i : ℕ). slice_get ring i) same ∙ is in
        let one : f ≡ e = cc in
        let h : f.before ≡ e.before = ap (λ (g : Edge). g.before) one in omega arith
    | inr other ↦
        let both : Some before.edge ≡ Some old = sym before.is ∙ was in
        let one : before.edge ≡ old = cc in
        let h : before.edge.before ≡ old.before = ap (λ (g : Edge). g.before) one in
        let up = before.least k f (omega arith) at in omega arith
  ];
}

pub least_old :
    (ring : List Edge) (place n : ℕ) (e old : Edge) → slice_get ring n ≡ Some e → slice_get ring place ≡ Some old → old.before ≤ e.before → IsLeastBelow ring place n →
    IsLeastBelow ring place (n + 1)
least_old ring place n e old is was up before = record {
  edge = before.edge;
  is = before.is;
  least = λ k f below at. elim (cases_eq k n) [
    | inl same ↦
        let both : Some f ≡ Some e = sym at ∙ ap (λ (i : ℕ). slice_get ring i) same ∙ is in
        let one : f ≡ e = cc in
        let h : f.before ≡ e.before = ap (λ (g : Edge). g.before) one in
        let first : Some before.edge ≡ Some old = sym before.is ∙ was in
        let own : before.edge ≡ old = cc in
        let g : before.edge.before ≡ old.before = ap (λ (x : Edge). x.before) own in omega arith
    | inr other ↦ before.least k f (omega arith) at
  ];
}

pub least_whole : (ring : List Edge) (place n : ℕ) → length ring ≤ n → IsLeastBelow ring place n → IsLeastAt ring place
least_whole ring place n end before = record {
  edge = before.edge;
  is = before.is;
  least = λ e member.
      let found = at_contains ring e member in
      let within : found.0 < length ring = slice_get_within ring found.0 e found.1 in
      before.least found.0 e (omega arith) found.1;
}

-- ---- repeats

abbrev pub NoRepeatUpTo : List Edge → ℕ → ℕ → Type 0
NoRepeatUpTo ring first n = (second : ℕ) → second < n → IsRepeat ring first second → ⊥

pub no_repeat_start : (ring : List Edge) (first : ℕ) → NoRepeatUpTo ring first (first + 1)
no_repeat_start ring first second below again = let h = again.apart in absurd (omega arith)

pub no_repeat_step :
    (ring : List Edge) (first n : ℕ) (a b : Edge) → slice_get ring first ≡ Some a → slice_get ring n ≡ Some b → (a.before ≡ b.before → ⊥) → NoRepeatUpTo ring first n →
    NoRepeatUpTo ring first (n + 1)
no_repeat_step ring first n a b is_a is_b other before second below again =
    elim (cases_eq second n) [
      | inr apart ↦ before second (omega arith) again
      | inl same ↦
          let first_one : Some again.one ≡ Some a = sym again.one_is ∙ is_a in
          let second_one : Some again.other ≡ Some b = sym again.other_is ∙ ap (λ (i : ℕ). slice_get ring i) same ∙ is_b in
          let x : again.one ≡ a = cc in
          let y : again.other ≡ b = cc in
          other (ap (λ (e : Edge). e.before) (sym x) ∙ again.same ∙ ap (λ (e : Edge). e.before) y)
    ]

pub no_repeat_all : (ring : List Edge) (first n : ℕ) → length ring ≤ n → NoRepeatUpTo ring first n → (second : ℕ) → IsRepeat ring first second → ⊥
no_repeat_all ring first n end before second again =
    let within : second < length ring = slice_get_within ring second again.other again.other_is in
    before second (omega arith) again

abbrev pub OnceBelow : List Edge → ℕ → Type 0
OnceBelow ring n = (first second : ℕ) → first < n → IsRepeat ring first second → ⊥

pub once_step : (ring : List Edge) (n : ℕ) → ((second : ℕ) → IsRepeat ring n second → ⊥) → OnceBelow ring n → OnceBelow ring (n + 1)
once_step ring n none before first second below again =
    elim (cases_eq first n) [
      | inl same ↦ none second (subst (λ (i : ℕ). IsRepeat ring i second) same again)
      | inr apart ↦ before first second (omega arith) again
    ]

pub once_all : (ring : List Edge) (n : ℕ) → length ring ≤ n → OnceBelow ring n → IsOnce ring
once_all ring n end before first second again =
    let within : first < length ring = slice_get_within ring first again.one again.one_is in
    before first second (omega arith) again
