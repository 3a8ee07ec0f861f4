-- Words that lengthen: by zeros, and by the other row's words where both went before.
use Rattle.std.proofs.Common.{◌≡◌, ℕ, ◌+◌, ◌-◌, ◌≤◌, zero, suc, List, ◌++◌, length, get_or, take, drop, replicate, min, bit_or, refl, ap, sym, ◌∙◌, inl, inr, arith}
use Rattle.std.specs.Int.Bits.{or_zero_l, or_zero_r}
use Rattle.std.proofs.lemmas.Bool.{cases_lt}
use Rattle.std.proofs.lemmas.List.{get_or_past, get_or_append_left, get_or-append_right, get_or-drop, take_all}
use Rattle.bit_rows.specs.Words.{AreJoined, AreSame, JoinsFrom}

pub zero_words : (n k : ℕ) → get_or {A = ℕ} (replicate {A = ℕ} n 0) k 0 ≡ 0
zero_words zero k = refl
zero_words (suc n) zero = refl
zero_words (suc n) (suc k) = zero_words n k

-- zeros after the last word
pub same_padded : (words : List ℕ) (n m : ℕ) → length words ≤ n → AreSame words (take n words ++ replicate m 0)
same_padded words n m within k =
    let whole : take n words ≡ words = take_all n words within in
    ap (λ (xs : List ℕ). get_or (xs ++ replicate {A = ℕ} m 0) k 0) whole
    ∙ elim (cases_lt k (length words)) [
      | inl here ↦ get_or_append_left words (replicate m 0) 0 k here
      | inr past ↦
          get_or-append_right words (replicate m 0) (length words) k 0 refl past ∙ zero_words m (k - length words)
          ∙ sym (get_or_past words k 0 past)
    ]

-- the word after all of the row's, where the row is the shorter one or the other one is over
tail_word :
    (old joined others : List ℕ) (common k : ℕ) → common ≡ min (length old) (length others) → length joined ≡ length old →
    length joined ≤ k → get_or (drop common others) (k - length joined) 0 ≡ get_or others k 0
tail_word old joined others common k least size past =
    elim (cases_lt (length old) (length others)) [
      | inl shorter ↦
          let at : common + (k - length joined) ≡ k = omega arith in
          get_or-drop common others (k - length joined) 0 ∙ ap (λ (i : ℕ). get_or others i 0) at
      | inr longer ↦
          get_or-drop common others (k - length joined) 0
          ∙ get_or_past others (common + (k - length joined)) 0 (omega arith) ∙ sym (get_or_past others k 0 (omega arith))
    ]

-- words that are joined as far as both rows go, and then the other row's words that are left
pub joined_whole :
    (old joined others : List ℕ) (common : ℕ) → common ≡ min (length old) (length others) → JoinsFrom 0 common old joined others →
    AreJoined old (joined ++ drop common others) others
joined_whole old joined others common least joins k =
    let size = joins.size in
    elim (cases_lt k (length joined)) [
      | inl here ↦
          get_or_append_left joined (drop common others) 0 k here
          ∙ elim (cases_lt k common) [
            | inl both ↦ joins.joined k (omega arith) (omega arith)
            | inr past ↦
                let none : get_or others k 0 ≡ 0 = get_or_past others k 0 (omega arith) in
                joins.others k (inr (omega arith)) ∙ sym (ap (bit_or (get_or old k 0)) none ∙ or_zero_r (get_or old k 0))
          ]
      | inr past ↦
          let none : get_or old k 0 ≡ 0 = get_or_past old k 0 (omega arith) in
          let other : get_or (joined ++ drop common others) k 0 ≡ get_or others k 0 =
          get_or-append_right joined (drop common others) (length joined) k 0 refl past
          ∙ tail_word old joined others common k least joins.size past in
          other ∙ sym (ap (λ (w : ℕ). bit_or w (get_or others k 0)) none ∙ or_zero_l (get_or others k 0))
    ]
