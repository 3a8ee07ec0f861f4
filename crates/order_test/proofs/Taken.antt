-- A past that takes in another, and what the next event names.
use Rattle.std.proofs.Common.{◌≡◌, ℕ, ◌+◌, ◌<◌, ◌≤◌, List, length, get_or, set, max, arith, refl, ap, ◌∙◌, subst, inl, inr, ◌⊎◌, ◌↔◌}
use Rattle.std.proofs.lemmas.List.{length-set}
use Rattle.std.proofs.lemmas.Bool.{cases_eq, cases_lt}
use Rattle.history_core.specs.declared.event.Event.{Event}
use Rattle.history_core.specs.Events.{begun}
use Rattle.history_core.specs.Transactions.{IsPending, IsCommitted}
use Rattle.history_core.proofs.Grown.{pending_not_committed}
use Rattle.history_core.proofs.Prefixes.{start_positive}
use Rattle.saturation.proofs.Decides.{committed_bounded}
use Rattle.further_reads.specs.Begun.{IsLastBegun}
use Rattle.further_reads.proofs.Lasts.{last_begun_bounded}
use Rattle.order_test.proofs.PastSteps.{at_set}

-- ---- the greater of two at each place

-- the numbers below n are raised to the others, those from n on are as they were
pub record AreRaised (before others tops : List ℕ) (n : ℕ) : Type 0 where
  pub count : length tops ≡ length before
  pub done : (at : ℕ) → at < n → get_or tops at 0 ≡ max (get_or before at 0) (get_or others at 0)
  pub left : (at : ℕ) → n ≤ at → get_or tops at 0 ≡ get_or before at 0

pub raised_none : (before others : List ℕ) → AreRaised before others before 0
raised_none before others = record { count = refl; done = λ at under. absurd (omega arith); left = λ at over. refl }

pub raised_step :
    (before others tops : List ℕ) (n top : ℕ) → n < length tops → top ≡ max (get_or tops n 0) (get_or others n 0) → AreRaised before others tops n →
    AreRaised before others (set tops n top) (n + 1)
raised_step before others tops n top within is old = record {
  count = length-set tops n top ∙ old.count;
  done = λ at under. elim (at_set tops n top at within) [
    | inl here ↦
        let new = here.1 in
        let was = old.left n (omega arith) in
        let a : get_or before at 0 ≡ get_or before n 0 = ap (λ (i : ℕ). get_or before i 0) here.0 in
        let b : get_or others at 0 ≡ get_or others n 0 = ap (λ (i : ℕ). get_or others i 0) here.0 in omega arith
    | inr other ↦
        let apart = other.0 in
        let same = other.1 in
        let under_n : at < n = elim (cases_eq at n) [ inl one ↦ absurd (apart one) | inr two ↦ omega arith ] in
        let was = old.done at under_n in omega arith
  ];
  left = λ at over. elim (at_set tops n top at within) [
    | inl here ↦ let one = here.0 in absurd (omega arith)
    | inr other ↦ let same = other.1 in let was = old.left at (omega arith) in omega arith
  ];
}

pub greater_one : (a b top number : ℕ) → top ≡ max a b → (number ≤ top) ↔ ((number ≤ a) ⊎ (number ≤ b))
greater_one a b top number is = (
  λ le. elim (cases_lt a number) [ inl above ↦ inr (omega arith) | inr within ↦ inl within ],
  λ either. elim either [ inl left ↦ omega arith | inr right ↦ omega arith ],
)

-- ---- what the next event names

pub last_bounded : (events : List Event) (s last : ℕ) → IsLastBegun events s last → last ≤ begun events
last_bounded events s last is = last_begun_bounded events s last is

pub source_bounded : (events : List Event) (source : ℕ) → (source ≡ 0) ⊎ IsCommitted events source → source ≤ begun events
source_bounded events source is = let h = committed_bounded events source is in omega arith

-- a pending transaction is no source
pub source_apart : (events : List Event) (reader session source : ℕ) → IsPending events reader session → (source ≡ 0) ⊎ IsCommitted events source → source ≡ reader → ⊥
source_apart events reader session source pending (inl initial) same =
    let h = start_positive events reader session pending.start pending.starts in absurd (omega arith)
source_apart events reader session source pending (inr committed) same =
    pending_not_committed events reader session pending (subst (λ (m : ℕ). IsCommitted events m) same committed)

-- ---- a past that takes in another

abbrev pub TakesInAt : List ℕ → List ℕ → List ℕ → ℕ → ℕ → Type 0
TakesInAt own source new place number =
    (session writer : ℕ) → session < length own →
    (writer ≤ get_or new session 0) ↔ ((writer ≤ get_or own session 0) ⊎ ((writer ≤ get_or source session 0) ⊎ ((session ≡ place) × (writer ≤ number))))

pub takes_in :
    (own source greater new : List ℕ) (place number : ℕ) → length greater ≡ length own →
    ((at n : ℕ) → at < length own → (n ≤ get_or greater at 0) ↔ ((n ≤ get_or own at 0) ⊎ (n ≤ get_or source at 0))) →
    ((at n : ℕ) → at < length greater → (n ≤ get_or new at 0) ↔ ((n ≤ get_or greater at 0) ⊎ ((at ≡ place) × (n ≤ number)))) →
    TakesInAt own source new place number
takes_in own source greater new place number long both raised session writer within =
    let up = raised session writer (omega arith) in
    let of = both session writer within in (
      λ le. elim (up.0 le) [
        | inl before ↦ elim (of.0 before) [ inl mine ↦ inl mine | inr theirs ↦ inr (inl theirs) ]
        | inr here ↦ inr (inr here)
      ],
      λ either. up.1 (elim either [
        | inl mine ↦ inl (of.1 (inl mine))
        | inr more ↦ elim more [ inl theirs ↦ inl (of.1 (inr theirs)) | inr here ↦ inr here ]
      ]),
    )
