-- Runs of numbers: their lists, their bits in words, and rising lists with the same members.
use Rattle.std.proofs.Common.{◌≡◌, ◌↔◌, ◌⊎◌, ℕ, ◌+◌, ◌-◌, ◌*◌, ◌/◌, ◌%◌, ◌^◌, ◌<◌, ◌≤◌, zero, suc, List, [], ◌∷◌, length, get_or, bit_or, min, max, refl, ap, sym, ◌∙◌, subst, inl, inr, arith}
use Rattle.std.specs.Int.{bit_at}
use Rattle.std.specs.List.{Contains, range_with_len}
use Rattle.std.specs.List.Sorted.{IsStrictlyIncreasing}
use Rattle.std.proofs.Math.Pow.{pow-lt}
use Rattle.std.proofs.lemmas.Bool.{cases_lt}
use Rattle.std.proofs.lemmas.List.FromFn.{length-range_with_len, get_or-range_with_len}
use Rattle.std.proofs.lemmas.List.Kept.{AllPairs-from_increasing}
use Rattle.std.proofs.lemmas.Nat.Bits.{bit_at-lt, bit_at_or, bit_at_mask_above, bit_at_mask_below, bit_at_mask_inside, ones_shr}
use Rattle.bit_rows.specs.Members.{mark_of, members, IsUnion}
use Rattle.bit_rows.specs.Runs.{FillsWords, IsInRun, SetsWords, bits_of_run, numbers_of}
use Rattle.bit_rows.proofs.Counting.{range_rises}
use Rattle.bit_rows.proofs.Marks.{contains_cons, contains_first, contains_later, in_range, mark_from_member, member_from_mark}

-- ---- the numbers of a run

pub in_numbers : (first end n : ℕ) → Contains (numbers_of first end) n ↔ IsInRun first end n
unfolding numbers_of
in_numbers first end n = (
  λ member.
      let k : ℕ = member.0 in
      let long : length (range_with_len first (end - first)) ≡ end - first = length-range_with_len first (end - first) in
      let small : k < length (range_with_len first (end - first)) = member.1 in
      let here : get_or (range_with_len first (end - first)) k n ≡ first + k =
      get_or-range_with_len first (end - first) k n (omega arith) in
      let is : get_or (range_with_len first (end - first)) k n ≡ n = member.2 in
      (omega arith, omega arith),
  λ within.
      let above : first ≤ n = within.0 in
      let below : n < end = within.1 in
      in_range first (end - first) n (omega arith) (omega arith),
)

pub no_numbers : (first end n : ℕ) → end ≤ first → Contains (numbers_of first end) n → ⊥
no_numbers first end n none member =
    let within = (in_numbers first end n).0 member in
    let above : first ≤ n = within.0 in
    let below : n < end = within.1 in
    absurd (omega arith)

-- ---- the word of a run

pub mask_order : (low high : ℕ) → low < high → high ≤ 64 → 1 * 2 ^ low % 18446744073709551616 - 1 ≤ 18446744073709551615 / 2 ^ (64 - high)
mask_order low high order most =
    let shifted : 18446744073709551615 / 2 ^ (64 - high) ≡ 2 ^ (64 - (64 - high)) - 1 = ones_shr 64 (64 - high) (omega arith) in
    let back : 64 - (64 - high) ≡ high = omega arith in
    let power : 2 ^ (64 - (64 - high)) ≡ 2 ^ high = ap (λ (k : ℕ). 2 ^ k) back in
    let rises : 2 ^ low < 2 ^ high = pow-lt order in
    let small : 2 ^ low < 18446744073709551616 = pow-lt {i = low} {j = 64} (omega arith) in
    omega arith

pub mask_is :
    (low high : ℕ) → low < high → high ≤ 64 →
    18446744073709551615 / 2 ^ (64 - high) - (1 * 2 ^ low % 18446744073709551616 - 1) ≡ 2 ^ high - 2 ^ low
mask_is low high order most =
    let shifted : 18446744073709551615 / 2 ^ (64 - high) ≡ 2 ^ (64 - (64 - high)) - 1 = ones_shr 64 (64 - high) (omega arith) in
    let back : 64 - (64 - high) ≡ high = omega arith in
    let power : 2 ^ (64 - (64 - high)) ≡ 2 ^ high = ap (λ (k : ℕ). 2 ^ k) back in
    let rises : 2 ^ low < 2 ^ high = pow-lt order in
    let small : 2 ^ low < 18446744073709551616 = pow-lt {i = low} {j = 64} (omega arith) in
    let some : 0 < 2 ^ low = pow_positive low in
    omega arith
  where
    pow_positive : (n : ℕ) → 0 < 2 ^ n
    pow_positive zero = omega arith
    pow_positive (suc n) = let before : 0 < 2 ^ n = pow_positive n in let twice : 2 ^ suc n ≡ 2 ^ n * 2 = omega arith in omega arith

-- bit n % 64 of word n / 64 says whether the run has n
in_word : (first end n : ℕ) → IsInRun first end n → bit_at (bits_of_run first end (n / 64)) (n % 64) ≡ 1
in_word first end n within =
    let above : first ≤ n = within.0 in
    let below : n < end = within.1 in
    bit_at_mask_inside (first - 64 * (n / 64)) (min (end - 64 * (n / 64)) 64) (n % 64) (omega arith) (omega arith)

not_in_word : (first end n : ℕ) → (n < first) ⊎ (end ≤ n) → bit_at (bits_of_run first end (n / 64)) (n % 64) ≡ 0
not_in_word first end n outside = elim outside [
  | inl before ↦ bit_at_mask_below (first - 64 * (n / 64)) (min (end - 64 * (n / 64)) 64) (n % 64) (omega arith)
  | inr after ↦ bit_at_mask_above (first - 64 * (n / 64)) (min (end - 64 * (n / 64)) 64) (n % 64) (omega arith)
]

-- all bits of a word whose numbers the run has
pub whole_word : (first end word : ℕ) → first ≤ 64 * word → 64 * (word + 1) ≤ end → 18446744073709551615 ≡ bits_of_run first end word
whole_word first end word low high =
    let none : 0 ≡ first - 64 * word = omega arith in
    let all : 64 ≡ min (end - 64 * word) 64 = omega arith in
    ap (λ (k : ℕ). 2 ^ 64 - 2 ^ k) none ∙ ap (λ (k : ℕ). 2 ^ k - 2 ^ (first - 64 * word)) all

-- ---- words that gain a run

-- words whose numbers the run has, all of them
pub fills_whole :
    (first end from to : ℕ) (old new : List ℕ) → first ≤ 64 * from → 64 * to ≤ end → SetsWords from to old new →
    FillsWords first end from to old new
fills_whole first end from to old new low high sets = record {
  size = sets.size;
  filled = λ k above below.
      sets.whole k above below ∙ ap (λ (w : ℕ). bit_or (get_or old k 0) w) (whole_word first end k (omega arith) (omega arith));
  others = sets.others;
}

pub fills_then :
    (first end from mid to : ℕ) (old words new : List ℕ) → from ≤ mid → mid ≤ to → FillsWords first end from mid old words →
    FillsWords first end mid to words new → FillsWords first end from to old new
fills_then first end from mid to old words new low_order high_order a b = record {
  size = b.size ∙ a.size;
  filled = λ k low high. elim (cases_lt k mid) [
    | inl before ↦ b.others k (inl before) ∙ a.filled k low before
    | inr after ↦
        b.filled k after high ∙ ap (λ (w : ℕ). bit_or w (bits_of_run first end k)) (a.others k (inr after))
  ];
  others = λ k outside. elim outside [
    | inl low ↦ b.others k (inl (omega arith)) ∙ a.others k (inl low)
    | inr high ↦ b.others k (inr high) ∙ a.others k (inr (omega arith))
  ];
}

pub filled_nothing : (first end : ℕ) (words : List ℕ) → end ≤ first → IsUnion (members words) (numbers_of first end) (members words)
filled_nothing first end words none n = (
  λ member. inl member,
  λ either. elim either [ inl held ↦ held | inr more ↦ absurd (no_numbers first end n none more) ],
)

pub filled :
    (first end from to : ℕ) (old new : List ℕ) → first < end → from ≡ first / 64 → to ≡ (end - 1) / 64 + 1 →
    FillsWords first end from to old new → IsUnion (members old) (numbers_of first end) (members new)
filled first end from to old new some is_from is_to fills n =
    let was : mark_of old n < 2 = bit_at-lt (get_or old (n / 64) 0) (n % 64) in
    elim (cases_lt (n / 64) from) [
      | inl early ↦ kept (inl (omega arith)) (inl early)
      | inr not_early ↦ elim (cases_lt (n / 64) to) [
        | inr late ↦ kept (inr (omega arith)) (inr late)
        | inl here ↦
            let mark : mark_of new n ≡ max (mark_of old n) (bit_at (bits_of_run first end (n / 64)) (n % 64)) =
            ap (λ (w : ℕ). bit_at w (n % 64)) (fills.filled (n / 64) not_early here)
            ∙ bit_at_or (get_or old (n / 64) 0) (bits_of_run first end (n / 64)) (n % 64) in
            elim (cases_lt n first) [
              | inl before ↦
                  let none = not_in_word first end n (inl before) in
                  let same : mark_of new n ≡ mark_of old n = omega arith in
                  stays (λ within. let above : first ≤ n = within.0 in absurd (omega arith)) same
              | inr not_before ↦ elim (cases_lt n end) [
                | inr after ↦
                    let none = not_in_word first end n (inr after) in
                    let same : mark_of new n ≡ mark_of old n = omega arith in
                    stays (λ within. let below : n < end = within.1 in absurd (omega arith)) same
                | inl inside ↦
                    let one = in_word first end n (not_before, inside) in
                    let set_ : mark_of new n ≡ 1 = omega arith in (
                      λ member. inr ((in_numbers first end n).1 (not_before, inside)),
                      λ either. member_from_mark new n set_,
                    )
              ]
            ]
      ]
    ]
  where
    stays : (IsInRun first end n → ⊥) → mark_of new n ≡ mark_of old n → Contains (members new) n ↔ (Contains (members old) n ⊎ Contains (numbers_of first end) n)
    stays none same = (
      λ member. inl (member_from_mark old n (sym same ∙ mark_from_member new n member)),
      λ either. elim either [
        | inl held ↦ member_from_mark new n (same ∙ mark_from_member old n held)
        | inr more ↦ absurd (none ((in_numbers first end n).0 more))
      ],
    )

    kept : (n < first) ⊎ (end ≤ n) → (n / 64 < from) ⊎ (to ≤ n / 64) → Contains (members new) n ↔ (Contains (members old) n ⊎ Contains (numbers_of first end) n)
    kept outside word =
        stays
        (λ within.
        let above : first ≤ n = within.0 in
        let below : n < end = within.1 in
        elim outside [ inl before ↦ absurd (omega arith) | inr after ↦ absurd (omega arith) ])
        (ap (λ (w : ℕ). bit_at w (n % 64)) (fills.others (n / 64) word))

pub numbers_rise : (first end : ℕ) → IsStrictlyIncreasing (numbers_of first end)
unfolding numbers_of
numbers_rise first end = range_rises first (end - first)

-- ---- rising lists

rising_rest : (x : ℕ) (xs : List ℕ) → IsStrictlyIncreasing (x ∷ xs) → IsStrictlyIncreasing xs
rising_rest x xs rises k within =
    AllPairs-from_increasing (x ∷ xs) rises (suc k) (suc (k + 1)) 0 (omega arith) (omega arith)

below_later : (x : ℕ) (xs : List ℕ) (n : ℕ) → IsStrictlyIncreasing (x ∷ xs) → Contains xs n → x < n
below_later x xs n rises (k, small, is) =
    subst (λ (m : ℕ). x < m) is (AllPairs-from_increasing (x ∷ xs) rises 0 (suc k) n (omega arith) (omega arith))

pub rising_same :
    (xs ys : List ℕ) → IsStrictlyIncreasing xs → IsStrictlyIncreasing ys → ((n : ℕ) → Contains xs n ↔ Contains ys n) → xs ≡ ys
rising_same [] [] up_x up_y same = refl
rising_same [] (y ∷ ys) up_x up_y same =
    let none = (same y).1 (contains_first y ys y refl) in absurd (let small = none.1 in omega arith)
rising_same (x ∷ xs) [] up_x up_y same =
    let none = (same x).0 (contains_first x xs x refl) in absurd (let small = none.1 in omega arith)
rising_same (x ∷ xs) (y ∷ ys) up_x up_y same =
    let first : x ≡ y = elim (contains_cons y ys x ((same x).0 (contains_first x xs x refl))) [
      | inl is ↦ sym is
      | inr later ↦
          let above : y < x = below_later y ys x up_y later in
          elim (contains_cons x xs y ((same y).1 (contains_first y ys y refl))) [
            | inl is ↦ is
            | inr also ↦ let below : x < y = below_later x xs y up_x also in absurd (omega arith)
          ]
    ] in
    let rest : xs ≡ ys = rising_same xs ys (rising_rest x xs up_x) (rising_rest y ys up_y) (λ n. (
      λ member. elim (contains_cons y ys n ((same n).0 (contains_later x xs n member))) [
        | inl is ↦ let above : x < n = below_later x xs n up_x member in absurd (omega arith)
        | inr later ↦ later
      ],
      λ member. elim (contains_cons x xs n ((same n).1 (contains_later y ys n member))) [
        | inl is ↦ let above : y < n = below_later y ys n up_y member in absurd (omega arith)
        | inr later ↦ later
      ],
    )) in
    ap (λ (h : ℕ). h ∷ xs) first ∙ ap (λ (t : List ℕ). y ∷ t) rest
