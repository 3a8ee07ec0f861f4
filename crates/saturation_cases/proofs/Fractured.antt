-- A transaction misses a row, another one makes this row and a second, and the first transaction finds the second row: each event fits what came
-- before. The test makes them.
use Rattle.std.proofs.Common.{◌≡◌, ℕ, ◌+◌, zero, suc, List, [], ◌∷◌, ◌++◌, Some, true, false, arith, refl, sym, ◌∙◌, ap, inl, inr, take}
use Rattle.std.specs.List.{slice_get}
use Rattle.txn_buffer.proofs.Lists.{contains_at, at_contains}
use Rattle.cell_base.specs.declared.level.Level.{Level}
use Rattle.cell_base.specs.declared.level.Level.TheVariants.{Ra}
use Rattle.cell_base.specs.declared.key.Key.{Key}
use Rattle.cell_base.specs.declared.cell.Cell.{Cell}
use Rattle.cell_base.specs.declared.cell.Cell.TheVariants.{Presence}
use Rattle.cell_base.specs.declared.value.Value.{Value}
use Rattle.cell_base.specs.declared.value.Value.TheVariants.{Flag}
use Rattle.history_core.specs.declared.event.Event.{Event}
use Rattle.history_core.specs.declared.event.Event.TheVariants.{Open, Close, Define, Begin, Read, Write, Commit}
use Rattle.history_core.specs.Events.{begun}
use Rattle.history_core.specs.Transactions.{IsPending, HasPending, IsCommitted}
use Rattle.history_core.specs.Relations.{LastWrites}
use Rattle.history_core.specs.Legal.{IsOpen, Follows, WroteItself}
use Rattle.history_core.proofs.Next.{pending_kept, pending_begin, committed_new, last_kept, last_new}
use Rattle.history_core.proofs.SessionLemmas.{open_still}

module _ (name : List ℕ) (first second : Key) where
  abbrev one : Cell
  one = Presence 0 first

  abbrev two : Cell
  two = Presence 0 second

  abbrev pub h1 : List Event
  h1 = Open 1 ∷ []

  abbrev pub h2 : List Event
  h2 = h1 ++ Open 2 ∷ []

  abbrev pub h3 : List Event
  h3 = h2 ++ Define 1 name ∷ []

  abbrev pub h4 : List Event
  h4 = h3 ++ Begin 1 Ra ∷ []

  abbrev pub h5 : List Event
  h5 = h4 ++ Read 1 one 0 1 0 (Flag false) ∷ []

  abbrev pub h6 : List Event
  h6 = h5 ++ Begin 2 Ra ∷ []

  abbrev pub h7 : List Event
  h7 = h6 ++ Write 2 one (Flag true) ∷ []

  abbrev pub h8 : List Event
  h8 = h7 ++ Write 2 two (Flag true) ∷ []

  abbrev pub h9 : List Event
  h9 = h8 ++ Commit 2 ∷ []

  -- the sessions are open
  none_closed : (s n : ℕ) → slice_get h5 n ≡ Some (Close s) → ⊥
  none_closed s zero is = cc
  none_closed s (suc zero) is = cc
  none_closed s (suc (suc zero)) is = cc
  none_closed s (suc (suc (suc zero))) is = cc
  none_closed s (suc (suc (suc (suc zero)))) is = cc
  none_closed s (suc (suc (suc (suc (suc n))))) is = cc

  none_closed2 : (s n : ℕ) → slice_get h2 n ≡ Some (Close s) → ⊥
  none_closed2 s zero is = cc
  none_closed2 s (suc zero) is = cc
  none_closed2 s (suc (suc n)) is = cc

  o2 : IsOpen h2 1
  o2 = (contains_at h2 0 (Open 1) refl, λ closed. let found = at_contains h2 (Close 1) closed in none_closed2 1 found.0 found.1)

  o3 : IsOpen h3 1
  o3 = (open_still h2 (Define 1 name) 1 (λ h. cc) (λ h. cc)).1 o2

  o5 : IsOpen h5 2
  o5 = (contains_at h5 1 (Open 2) refl, λ closed. let found = at_contains h5 (Close 2) closed in none_closed 2 found.0 found.1)

  -- its transactions
  none3 : ¬ HasPending h3 1
  none3 (k, pending) = no_begin pending.start pending.starts.level pending.starts.is
    where
      no_begin : (n : ℕ) (level : Level) → slice_get h3 n ≡ Some (Begin 1 level) → ⊥
      no_begin zero level is = cc
      no_begin (suc zero) level is = cc
      no_begin (suc (suc zero)) level is = cc
      no_begin (suc (suc (suc n))) level is = cc

  none5 : ¬ HasPending h5 2
  none5 (k, pending) = no_begin pending.start pending.starts.level pending.starts.is
    where
      no_begin : (n : ℕ) (level : Level) → slice_get h5 n ≡ Some (Begin 2 level) → ⊥
      no_begin zero level is = cc
      no_begin (suc zero) level is = cc
      no_begin (suc (suc zero)) level is = cc
      no_begin (suc (suc (suc zero))) level is = cc
      no_begin (suc (suc (suc (suc zero)))) level is = cc
      no_begin (suc (suc (suc (suc (suc n))))) level is = cc

  p4 : IsPending h4 1 1
  p4 = pending_begin h3 1 Ra

  p5 : IsPending h5 1 1
  p5 = pending_kept h4 (Read 1 one 0 1 0 (Flag false)) 1 1 (λ _. refl) p4

  p6 : IsPending h6 1 1
  p6 = pending_kept h5 (Begin 2 Ra) 1 1 (λ _. refl) p5

  p7 : IsPending h7 1 1
  p7 = pending_kept h6 (Write 2 one (Flag true)) 1 1 (λ _. refl) p6

  p8 : IsPending h8 1 1
  p8 = pending_kept h7 (Write 2 two (Flag true)) 1 1 (λ _. refl) p7

  p9 : IsPending h9 1 1
  p9 = pending_kept h8 (Commit 2) 1 1 (λ same. absurd (not_two same)) p8
    where
      not_two : ◌≡◌ {A = ℕ} 2 1 → ⊥
      not_two same = omega arith

  q6 : IsPending h6 2 2
  q6 = pending_begin h5 2 Ra

  q7 : IsPending h7 2 2
  q7 = pending_kept h6 (Write 2 one (Flag true)) 2 2 (λ _. refl) q6

  q8 : IsPending h8 2 2
  q8 = pending_kept h7 (Write 2 two (Flag true)) 2 2 (λ _. refl) q7

  -- what they wrote
  no_write : (n s : ℕ) (x : Cell) (v : Value) → slice_get h4 n ≡ Some (Write s x v) → ⊥
  no_write zero s x v is = cc
  no_write (suc zero) s x v is = cc
  no_write (suc (suc zero)) s x v is = cc
  no_write (suc (suc (suc zero))) s x v is = cc
  no_write (suc (suc (suc (suc n)))) s x v is = cc

  writer : (n s : ℕ) (x : Cell) (v : Value) → slice_get h9 n ≡ Some (Write s x v) → s ≡ 2
  writer zero s x v is = cc
  writer (suc zero) s x v is = cc
  writer (suc (suc zero)) s x v is = cc
  writer (suc (suc (suc zero))) s x v is = cc
  writer (suc (suc (suc (suc zero)))) s x v is = cc
  writer (suc (suc (suc (suc (suc zero))))) s x v is = cc
  writer (suc (suc (suc (suc (suc (suc zero)))))) s x v is = cc
  writer (suc (suc (suc (suc (suc (suc (suc zero))))))) s x v is = cc
  writer (suc (suc (suc (suc (suc (suc (suc (suc zero)))))))) s x v is = cc
  writer (suc (suc (suc (suc (suc (suc (suc (suc (suc n))))))))) s x v is = cc

  first_begin : (n : ℕ) (level : Level) → slice_get h9 n ≡ Some (Begin 1 level) → n ≡ 3
  first_begin zero level is = cc
  first_begin (suc zero) level is = cc
  first_begin (suc (suc zero)) level is = cc
  first_begin (suc (suc (suc zero))) level is = refl
  first_begin (suc (suc (suc (suc zero)))) level is = cc
  first_begin (suc (suc (suc (suc (suc zero))))) level is = cc
  first_begin (suc (suc (suc (suc (suc (suc zero)))))) level is = cc
  first_begin (suc (suc (suc (suc (suc (suc (suc zero))))))) level is = cc
  first_begin (suc (suc (suc (suc (suc (suc (suc (suc zero)))))))) level is = cc
  first_begin (suc (suc (suc (suc (suc (suc (suc (suc (suc n))))))))) level is = cc

  second_begin : (n : ℕ) (level : Level) → slice_get h9 n ≡ Some (Begin 2 level) → n ≡ 5
  second_begin zero level is = cc
  second_begin (suc zero) level is = cc
  second_begin (suc (suc zero)) level is = cc
  second_begin (suc (suc (suc zero))) level is = cc
  second_begin (suc (suc (suc (suc zero)))) level is = cc
  second_begin (suc (suc (suc (suc (suc zero))))) level is = refl
  second_begin (suc (suc (suc (suc (suc (suc zero)))))) level is = cc
  second_begin (suc (suc (suc (suc (suc (suc (suc zero))))))) level is = cc
  second_begin (suc (suc (suc (suc (suc (suc (suc (suc zero)))))))) level is = cc
  second_begin (suc (suc (suc (suc (suc (suc (suc (suc (suc n))))))))) level is = cc

  unwritten : ¬ WroteItself h9 1 two
  unwritten wrote =
      let of = wrote.written.write in
      let theirs : wrote.written.session ≡ 2 = writer wrote.written.place wrote.written.session two wrote.written.value of.is in
      let own_start : wrote.pending.start ≡ 3 = first_begin wrote.pending.start wrote.pending.starts.level wrote.pending.starts.is in
      let their_start : of.start ≡ 5 = second_begin of.start of.starts.level (of.starts.is ∙ ap (λ (s : ℕ). Some (Begin s of.starts.level)) theirs) in
      let one_is : wrote.number ≡ 1 = wrote.pending.starts.counts ∙ ap (λ (n : ℕ). begun (take n h9) + 1) own_start in
      let two_is : wrote.number ≡ 2 = of.starts.counts ∙ ap (λ (n : ℕ). begun (take n h9) + 1) their_start in
      absurd (omega arith)

  l8 : LastWrites h8 2 two (Flag true)
  l8 = (last_new h7 2 2 two (Flag true) q7 two (Flag true)).1 (inl (refl, refl))

  l9 : LastWrites h9 2 two (Flag true)
  l9 = last_kept h8 (Commit 2) 2 two (Flag true) (λ s u h _. cc) l8

  c9 : IsCommitted h9 2
  c9 = committed_new h8 2 2 q8

  -- the events
  pub fits1 : Follows [] [] (Open 1)
  fits1 = refl

  pub fits2 : Follows [] h1 (Open 2)
  fits2 = refl

  pub fits3 : Follows [] h2 (Define 1 name)
  fits3 = (o2, λ member. let found = at_contains [] name member in cc)

  pub fits4 : Follows [] h3 (Begin 1 Ra)
  fits4 = (o3, none3)

  pub fits5 : Follows [] h4 (Read 1 one 0 1 0 (Flag false))
  fits5 = ((1, p4), λ wrote. no_write wrote.written.place wrote.written.session one wrote.written.value wrote.written.write.is, omega arith, inl (refl, inr (λ v member. let found = at_contains [] (one, v) member in cc, refl)))

  pub fits6 : Follows [] h5 (Begin 2 Ra)
  fits6 = (o5, none5)

  pub fits7 : Follows [] h6 (Write 2 one (Flag true))
  fits7 = ((2, q6), omega arith, (λ h. cc, λ w h. cc))

  pub fits8 : Follows [] h7 (Write 2 two (Flag true))
  fits8 = ((2, q7), omega arith, (λ h. cc, λ w h. cc))

  pub fits9 : Follows [] h8 (Commit 2)
  fits9 = (2, q8)

  pub fits10 : Follows [] h9 (Read 1 two 2 1 0 (Flag true))
  fits10 = ((1, p9), unwritten, omega arith, inr (c9, l9))
