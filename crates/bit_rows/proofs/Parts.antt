-- Segments of words: their words, and what a change of some words makes of their members.
use Rattle.std.proofs.Common.{◌≡◌, ◌↔◌, ◌⊎◌, ℕ, ◌+◌, ◌-◌, ◌*◌, ◌/◌, ◌%◌, ◌^◌, ◌<◌, ◌≤◌, zero, suc, List, [], ◌++◌, length, get_or, take, drop, replicate, min, bit_or, refl, ap, sym, ◌∙◌, subst, inl, inr, arith}
use Rattle.std.specs.Prelude.{IsTrue, ◌==◌, bit_and}
use Rattle.std.specs.Int.{bit_at}
use Rattle.std.specs.List.{All, Contains}
use Rattle.std.specs.Int.Bits.{or_zero_r}
use borrow.Rule.Slice.PartMut.{put_mid, same_len_mid}
use Rattle.std.proofs.lemmas.Bool.{cases_eq, cases_lt}
use Rattle.std.proofs.lemmas.List.{ext_get_or, get_or_past, get_or_append_left, get_or-append_right, get_or-drop, get_or-take, length-append, length-drop, length-take, take_all}
use Rattle.std.proofs.lemmas.List.Elements.{All-contains}
use Rattle.bit_rows.specs.Members.{mark_of, members, IsUnion}
use Rattle.bit_rows.specs.Runs.{numbers_of}
use Rattle.bit_rows.specs.Words.{AreSame, JoinsFrom, JoinsWithin}
use Rattle.bit_rows.specs.Segments.{AreCopied, ChangesSegment, ClearsSegment, JoinsSegment, segment}
use Rattle.bit_rows.proofs.Counting.{members_rise}
use Rattle.bit_rows.proofs.Lengths.{same_padded, zero_words}
use Rattle.bit_rows.proofs.Marks.{bit_of_word, has_mark, mark_from_member, mark_past, member_from_mark, nil_without_members, past_mark, union}
use Rattle.bit_rows.proofs.Runs.{numbers_rise, rising_same}

-- ---- words without members past a place are zeros there

pub zero_past :
    (words : List ℕ) (room : ℕ) → ((k : ℕ) → get_or words k 0 < 2 ^ 64) → All (λ n. n < 64 * room) (members words) →
    (k : ℕ) → room ≤ k → get_or words k 0 ≡ 0
zero_past words room fit below k past =
    let value : ℕ = get_or words k 0 in
    elim (cases_eq value 0) [
      | inl none ↦ none
      | inr some ↦
          let small : value < 2 ^ 64 = fit k in
          let at = bit_of_word value k small (omega arith) in
          let n : ℕ = at.0 in
          let word : n / 64 ≡ k = at.1.0 in
          let marked : mark_of words n ≡ 1 = ap (λ (i : ℕ). bit_at (get_or words i 0) (n % 64)) word ∙ at.1.1 in
          let here : n < 64 * room = All-contains (λ m. m < 64 * room) (members words) n below (member_from_mark words n marked) in
          absurd (omega arith)
    ]

-- ---- the words of a segment

pub word_in : (pool : List ℕ) (place room k : ℕ) → k < room → get_or (segment pool place room) k 0 ≡ get_or pool (place + k) 0
word_in pool place room k small = get_or-take room (drop place pool) k 0 small ∙ get_or-drop place pool k 0

pub segment_long : (pool : List ℕ) (place room : ℕ) → place + room ≤ length pool → length (segment pool place room) ≡ room
segment_long pool place room within =
    let left = length-drop place pool in
    let cut = length-take room (drop place pool) in
    omega arith

pub word_past : (pool : List ℕ) (place room k : ℕ) → room ≤ k → get_or (segment pool place room) k 0 ≡ 0
word_past pool place room k past =
    let cut : length (segment pool place room) ≡ min room (length (drop place pool)) = length-take room (drop place pool) in
    get_or_past (segment pool place room) k 0 (omega arith)

-- a segment whose words stay
pub segment_same :
    (old new : List ℕ) (place room : ℕ) → length new ≡ length old →
    ((k : ℕ) → place ≤ k → k < place + room → get_or new k 0 ≡ get_or old k 0) → segment new place room ≡ segment old place room
segment_same old new place room size same =
    let left = length-drop place old in
    let left_new = length-drop place new in
    let cut = length-take room (drop place old) in
    let cut_new = length-take room (drop place new) in
    ext_get_or 0 (segment new place room) (segment old place room) (omega arith) (λ k small.
    word_in new place room k (omega arith) ∙ same (place + k) (omega arith) (omega arith) ∙ sym (word_in old place room k (omega arith)))

-- a segment that lies apart from the one that has changed
pub segment_kept :
    (old new : List ℕ) (place room other : ℕ) → ChangesSegment place room old new → (place + room ≤ other) ⊎ (other + room ≤ place) →
    segment new other room ≡ segment old other room
segment_kept old new place room other changes apart =
    segment_same old new other room changes.size
    (λ k above below. changes.others k (elim apart [ inl low ↦ inr (omega arith) | inr high ↦ inl (omega arith) ]))

-- ---- a part that was worked on as a slice of its own

pub put_segment : (pool words : List ℕ) (place room k : ℕ) → place + room ≤ length pool → length words ≡ room → k ≡ room →
    segment (put_mid place k pool words) place room ≡ words
put_segment pool words place room k within long is =
    let front : length (take place pool) ≡ place = length-take place pool ∙ (let m : min place (length pool) ≡ place = omega arith in m) in
    let back : List ℕ = drop k (drop place pool) in
    let size : length (put_mid place k pool words) ≡ length pool = put_size pool words place room k within long is in
    let whole : length (segment (put_mid place k pool words) place room) ≡ room =
    segment_long (put_mid place k pool words) place room (omega arith) in
    ext_get_or 0 (segment (put_mid place k pool words) place room) words (omega arith) (λ j small.
    let at : place + j - place ≡ j = omega arith in
    word_in (put_mid place k pool words) place room j (omega arith)
    ∙ get_or-append_right (take place pool) (words ++ back) place (place + j) 0 front (omega arith)
    ∙ ap (λ (i : ℕ). get_or (words ++ back) i 0) at
    ∙ get_or_append_left words back 0 j (omega arith))
  where
    put_size : (pool words : List ℕ) (place room k : ℕ) → place + room ≤ length pool → length words ≡ room → k ≡ room →
        length (put_mid place k pool words) ≡ length pool
    put_size pool words place room k within long is =
        let left = length-drop place pool in
        let cut = length-take k (drop place pool) in
        same_len_mid place k pool words (omega arith)

pub put_changes : (pool words : List ℕ) (place room k : ℕ) → place + room ≤ length pool → length words ≡ room → k ≡ room →
    ChangesSegment place room pool (put_mid place k pool words)
put_changes pool words place room k within long is =
    let front : length (take place pool) ≡ place = length-take place pool ∙ (let m : min place (length pool) ≡ place = omega arith in m) in
    let back : List ℕ = drop k (drop place pool) in
    let left = length-drop place pool in
    let cut = length-take k (drop place pool) in
    record {
      size = same_len_mid place k pool words (omega arith);
      others = λ j outside. elim outside [
        | inl before ↦
            get_or_append_left (take place pool) (words ++ back) 0 j (omega arith) ∙ get_or-take place pool j 0 before
        | inr after ↦
            let at : place + (k + (j - place - room)) ≡ j = omega arith in
            get_or-append_right (take place pool) (words ++ back) place j 0 front (omega arith)
            ∙ get_or-append_right words back room (j - place) 0 long (omega arith)
            ∙ get_or-drop k (drop place pool) (j - place - room) 0
            ∙ get_or-drop place pool (k + (j - place - room)) 0
            ∙ ap (λ (i : ℕ). get_or pool i 0) at
      ];
    }

-- a segment that gained members as a slice of its own
pub put_joins :
    (pool words gained : List ℕ) (place room : ℕ) → place + room ≤ length pool → length words ≡ length (segment pool place (place + room - place)) →
    IsUnion (members (segment pool place (place + room - place))) gained (members words) →
    JoinsSegment place room gained pool (put_mid place (place + room - place) pool words)
put_joins pool words gained place room within size joined =
    let is : place + room - place ≡ room = omega arith in
    let long : length words ≡ room = size ∙ ap (λ (r : ℕ). length (segment pool place r)) is ∙ segment_long pool place room within in
    record {
      changed = put_changes pool words place room (place + room - place) within long is;
      joined =
          subst (λ (ws : List ℕ). IsUnion (members (segment pool place room)) gained (members ws))
          (sym (put_segment pool words place room (place + room - place) within long is))
          (subst (λ (r : ℕ). IsUnion (members (segment pool place r)) gained (members words)) is joined);
    }

-- words that are joined as far as both go, where those past the shorter ones are zeros
pub joined_within :
    (old words others : List ℕ) → JoinsFrom 0 (min (length old) (length others)) old words others →
    ((k : ℕ) → length old ≤ k → get_or others k 0 ≡ 0) → IsUnion (members old) (members others) (members words)
joined_within old words others joins gone =
    let size = joins.size in
    union old words others (λ k. elim (cases_lt k (min (length old) (length others))) [
      | inl both ↦ joins.joined k (omega arith) (omega arith)
      | inr past ↦
          let none : get_or others k 0 ≡ 0 = elim (cases_lt k (length others)) [
            | inl here ↦ gone k (omega arith)
            | inr over ↦ get_or_past others k 0 over
          ] in
          joins.others k (inr (omega arith)) ∙ sym (ap (λ (w : ℕ). bit_or (get_or old k 0) w) none ∙ or_zero_r (get_or old k 0))
    ])

-- two segments of the same words
pub joined_segments :
    (pool new : List ℕ) (place room other : ℕ) → JoinsWithin place other room pool new →
    JoinsSegment place room (members (segment pool other room)) pool new
joined_segments pool new place room other joins = record {
  changed = record { size = joins.size; others = joins.others };
  joined = union (segment pool place room) (segment new place room) (segment pool other room) (λ k. elim (cases_lt k room) [
    | inl small ↦
        word_in new place room k small ∙ joins.joined k small
        ∙ sym (ap (λ (w : ℕ). bit_or w (get_or pool (other + k) 0)) (word_in pool place room k small))
        ∙ sym (ap (λ (w : ℕ). bit_or (get_or (segment pool place room) k 0) w) (word_in pool other room k small))
    | inr past ↦
        word_past new place room k past ∙ sym (or_zero_r 0)
        ∙ sym (ap (λ (w : ℕ). bit_or w 0) (word_past pool place room k past))
        ∙ sym (ap (λ (w : ℕ). bit_or (get_or (segment pool place room) k 0) w) (word_past pool other room k past))
  ]);
}

-- ---- zeros

pub no_members : (words : List ℕ) → ((k : ℕ) → get_or words k 0 ≡ 0) → members words ≡ []
no_members words gone = nil_without_members (members words) (λ n member.
    let one : mark_of words n ≡ 1 = mark_from_member words n member in
    let none : mark_of words n ≡ mark_of [] n = ap (λ (w : ℕ). bit_at w (n % 64)) (gone (n / 64)) in
    let nothing : mark_of [] n ≡ 0 = mark_past [] n (omega arith) in
    absurd (omega arith))

-- words that are zeros from one on have no member from its first bit on
pub below_end :
    (words : List ℕ) (count n : ℕ) → ((k : ℕ) → count ≤ k → get_or words k 0 ≡ 0) → Contains (members words) n → n < 64 * count
below_end words count n zeros member = elim (cases_lt (n / 64) count) [
  | inl small ↦ omega arith
  | inr past ↦
      let one : mark_of words n ≡ 1 = mark_from_member words n member in
      let none : mark_of words n ≡ mark_of [] n = ap (λ (w : ℕ). bit_at w (n % 64)) (zeros (n / 64) past) in
      let nothing : mark_of [] n ≡ 0 = mark_past [] n (omega arith) in
      absurd (omega arith)
]

pub cleared :
    (pool words : List ℕ) (place room : ℕ) → place + room ≤ length pool →
    words ≡ replicate {A = ℕ} (length (segment pool place (place + room - place))) 0 → length words ≡ length (segment pool place (place + room - place)) →
    ClearsSegment place room pool (put_mid place (place + room - place) pool words)
cleared pool words place room within zeros size =
    let is : place + room - place ≡ room = omega arith in
    let long : length words ≡ room = size ∙ ap (λ (r : ℕ). length (segment pool place r)) is ∙ segment_long pool place room within in
    record {
      changed = put_changes pool words place room (place + room - place) within long is;
      none =
          ap members (put_segment pool words place room (place + room - place) within long is)
          ∙ no_members words (λ k. ap (λ (ws : List ℕ). get_or ws k 0) zeros ∙ zero_words (length (segment pool place (place + room - place))) k);
    }

-- words that stay, where one that isn't there is zero, have the same members
pub same_members : (old new : List ℕ) → AreSame old new → members new ≡ members old
same_members old new same =
    rising_same (members new) (members old) (members_rise new) (members_rise old) (λ n.
    let mark : mark_of new n ≡ mark_of old n = ap (λ (w : ℕ). bit_at w (n % 64)) (same (n / 64)) in (
      λ member. member_from_mark old n (sym mark ∙ mark_from_member new n member),
      λ member. member_from_mark new n (mark ∙ mark_from_member old n member),
    ))

-- words that have gained a run and nothing else
pub is_run :
    (first end : ℕ) (words : List ℕ) → IsUnion [] (numbers_of first end) (members words) → members words ≡ numbers_of first end
is_run first end words union_of =
    rising_same (members words) (numbers_of first end) (members_rise words) (numbers_rise first end) (λ n. (
      λ member. elim ((union_of n).0 member) [ inl none ↦ absurd (let small = none.1 in omega arith) | inr in_run ↦ in_run ],
      λ member. (union_of n).1 (inr member),
    ))

-- ---- segments with more room

-- the first segment after words of so many
segment_after :
    (words tail : List ℕ) (place room : ℕ) → length words ≡ place → length tail ≡ room → segment (words ++ tail) place room ≡ tail
segment_after words tail place room long size =
    let whole : length (words ++ tail) ≡ length words + length tail = length-append words tail in
    let cut : length (segment (words ++ tail) place room) ≡ room = segment_long (words ++ tail) place room (omega arith) in
    ext_get_or 0 (segment (words ++ tail) place room) tail (omega arith) (λ k small.
    let at : place + k - place ≡ k = omega arith in
    word_in (words ++ tail) place room k (omega arith)
    ∙ get_or-append_right words tail place (place + k) 0 long (omega arith) ∙ ap (λ (i : ℕ). get_or tail i 0) at)

pub segment_before :
    (words tail : List ℕ) (place room : ℕ) → place + room ≤ length words → segment (words ++ tail) place room ≡ segment words place room
segment_before words tail place room within =
    let whole : length (words ++ tail) ≡ length words + length tail = length-append words tail in
    let cut : length (segment (words ++ tail) place room) ≡ room = segment_long (words ++ tail) place room (omega arith) in
    let cut_words : length (segment words place room) ≡ room = segment_long words place room within in
    ext_get_or 0 (segment (words ++ tail) place room) (segment words place room) (omega arith) (λ k small.
    word_in (words ++ tail) place room k (omega arith) ∙ get_or_append_left words tail 0 (place + k) (omega arith)
    ∙ sym (word_in words place room k (omega arith)))

pub step_within : (s count room : ℕ) → s < count → s * room + room ≤ count * room
step_within zero zero room small = absurd (omega arith)
step_within (suc s) zero room small = absurd (omega arith)
step_within zero (suc count) room small = let more : suc count * room ≡ room + count * room = omega arith in omega arith
step_within (suc s) (suc count) room small =
    let rest : s * room + room ≤ count * room = step_within s count room (omega arith) in
    let more : suc count * room ≡ room + count * room = omega arith in
    let step : suc s * room ≡ room + s * room = omega arith in
    omega arith

pub copied_more :
    (number room more : ℕ) (pool wider new : List ℕ) → room ≤ more → number * room + room ≤ length pool →
    AreCopied number room more pool wider →
    new ≡ wider ++ (segment pool (number * room) room ++ replicate {A = ℕ} (more - room) 0) → AreCopied (number + 1) room more pool new
copied_more number room more pool wider new larger within so_far is =
    let tail : List ℕ = segment pool (number * room) room ++ replicate {A = ℕ} (more - room) 0 in
    let part : length (segment pool (number * room) room) ≡ room = segment_long pool (number * room) room within in
    let zeros : length (replicate {A = ℕ} (more - room) 0) ≡ more - room = long_zeros (more - room) in
    let long : length tail ≡ more = length-append (segment pool (number * room) room) (replicate {A = ℕ} (more - room) 0) ∙ (let sum : length (segment pool (number * room) room) + length (replicate {A = ℕ} (more - room) 0) ≡ more = omega arith in sum) in
    let size = so_far.size in
    let whole : length (wider ++ tail) ≡ length wider + length tail = length-append wider tail in
    let next : (number + 1) * more ≡ number * more + more = omega arith in
    let same : length new ≡ length (wider ++ tail) = ap length is in
    record {
      size = omega arith;
      members = λ s small. elim (cases_eq s number) [
        | inl last ↦
            ap (λ (ws : List ℕ). members (segment ws (s * more) more)) is
            ∙ ap (λ (i : ℕ). members (segment (wider ++ tail) (i * more) more)) last
            ∙ ap members (segment_after wider tail (number * more) more size long)
            ∙ padded pool number room more larger within
            ∙ ap (λ (i : ℕ). members (segment pool (i * room) room)) (sym last)
        | inr earlier ↦
            let before : s < number = omega arith in
            let place : s * more + more ≤ number * more = step_within s number more before in
            ap (λ (ws : List ℕ). members (segment ws (s * more) more)) is
            ∙ ap members (segment_before wider tail (s * more) more (omega arith))
            ∙ so_far.members s before
      ];
    }
  where
    long_zeros : (n : ℕ) → length (replicate {A = ℕ} n 0) ≡ n
    long_zeros zero = refl
    long_zeros (suc n) = ap suc (long_zeros n)

    padded : (pool : List ℕ) (number room more : ℕ) → room ≤ more → number * room + room ≤ length pool →
        members (segment pool (number * room) room ++ replicate {A = ℕ} (more - room) 0) ≡ members (segment pool (number * room) room)
    padded pool number room more larger within =
        let part : List ℕ = segment pool (number * room) room in
        let long : length part ≡ room = segment_long pool (number * room) room within in
        let whole : take room part ≡ part = take_all room part (omega arith) in
        same_members part (part ++ replicate {A = ℕ} (more - room) 0)
        (λ k. ap (λ (ws : List ℕ). get_or (ws ++ replicate {A = ℕ} (more - room) 0) k 0) (sym whole) ∙ same_padded part room (more - room) (omega arith) k)

-- ---- one number of a segment

pub has_in :
    (pool : List ℕ) (place room bit : ℕ) → bit / 64 < room →
    IsTrue (bit_and (get_or pool (place + bit / 64) 0 / 2 ^ (bit % 64)) 1 == 1) ↔ Contains (members (segment pool place room)) bit
has_in pool place room bit here =
    has_mark (segment pool place room) bit (get_or pool (place + bit / 64) 0) (sym (word_in pool place room (bit / 64) here))

pub not_in :
    (pool : List ℕ) (place room bit : ℕ) → room ≤ bit / 64 → Contains (members (segment pool place room)) bit → ⊥
not_in pool place room bit past =
    let cut : length (segment pool place room) ≡ min room (length (drop place pool)) = length-take room (drop place pool) in
    past_mark (segment pool place room) bit (omega arith)

-- the first words of a segment have all of its members, where they have room for those below their end
pub cut_members :
    (pool : List ℕ) (place room count end : ℕ) → count ≤ room → (room ≤ count) ⊎ (end ≤ 64 * count) →
    ((n : ℕ) → Contains (members (segment pool place room)) n → n < end) →
    members (segment pool place count) ≡ members (segment pool place room)
cut_members pool place room count end within enough below =
    let cut : List ℕ = segment pool place count in
    let whole : List ℕ = segment pool place room in
    let same : (n : ℕ) → n / 64 < count → mark_of cut n ≡ mark_of whole n =
    λ n here. ap (λ (w : ℕ). bit_at w (n % 64))
    (word_in pool place count (n / 64) here ∙ sym (word_in pool place room (n / 64) (omega arith))) in
    let inside : (n : ℕ) → Contains (members whole) n → n / 64 < count =
    λ n member. elim (cases_lt (n / 64) count) [
      | inl here ↦ here
      | inr past ↦ absurd (elim enough [
        | inl all ↦ not_in pool place room n (omega arith) member
        | inr most ↦ let small : n < end = below n member in omega arith
      ])
    ] in
    rising_same (members cut) (members whole) (members_rise cut) (members_rise whole) (λ n. (
      λ member. elim (cases_lt (n / 64) count) [
        | inl here ↦ member_from_mark whole n (sym (same n here) ∙ mark_from_member cut n member)
        | inr past ↦ absurd (not_in pool place count n past member)
      ],
      λ member. member_from_mark cut n (same n (inside n member) ∙ mark_from_member whole n member),
    ))
