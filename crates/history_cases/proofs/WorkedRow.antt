-- One session that writes a row and reads it back, event by event: each event fits what came before. The test runs it.
use Rattle.std.proofs.Common.{◌≡◌, ◌≢◌, ℕ, ℤ, ◌+◌, ◌<◌, zero, suc, List, [], ◌∷◌, ◌++◌, Some, true, false, arith, refl, ap, sym, subst, inl, inr}
use Rattle.std.specs.List.{slice_get}
use Rattle.std.proofs.lemmas.Bool.{false≢true}
use Rattle.std.proofs.lemmas.Option.{slice_get_within}
use Rattle.txn_buffer.proofs.Lists.{contains_at, at_contains}
use Rattle.cell_base.specs.declared.level.Level.{Level}
use Rattle.cell_base.specs.declared.level.Level.TheVariants.{Rc, Cc}
use Rattle.cell_base.specs.declared.key.Key.{Key}
use Rattle.cell_base.specs.declared.cell.Cell.{Cell}
use Rattle.cell_base.specs.declared.cell.Cell.TheVariants.{Presence, Field}
use Rattle.cell_base.specs.declared.value.Value.{Value}
use Rattle.cell_base.specs.declared.value.Value.TheVariants.{Unset, Flag, Wide}
use Rattle.history_core.specs.declared.event.Event.{Event}
use Rattle.history_core.specs.declared.event.Event.TheVariants.{Open, Close, Define, Look, Begin, Scan, Read, Own, Write, Commit, Rollback, Show}
use Rattle.history_core.specs.Transactions.{IsPending, HasPending, IsCommitted, IsOf}
use Rattle.history_core.specs.Relations.{HasWritten, LastWrites}
use Rattle.history_core.specs.Legal.{IsOpen, Follows, WroteItself, ListsKeys}
use Rattle.history_core.proofs.Grown.{of_back}
use Rattle.history_core.proofs.Prefixes.{committed_kept}
use Rattle.history_core.proofs.Next.{pending_kept, pending_back, pending_begin, of_none, committed_new, last_kept, last_new}
use Rattle.history_core.proofs.SessionLemmas.{open_still}

module _ (name : List ℕ) (key : Key) (ten : Value) where
  abbrev presence : Cell
  presence = Presence 0 key

  abbrev field : Cell
  field = Field 0 key 1

  abbrev pub h1 : List Event
  h1 = Open 1 ∷ []

  abbrev pub h2 : List Event
  h2 = h1 ++ Define 1 name ∷ []

  abbrev pub h3 : List Event
  h3 = h2 ++ Look 1 1 ∷ []

  abbrev pub h4 : List Event
  h4 = h3 ++ Begin 1 Cc ∷ []

  abbrev pub h5 : List Event
  h5 = h4 ++ Read 1 presence 0 1 0 (Flag false) ∷ []

  abbrev pub h6 : List Event
  h6 = h5 ++ Write 1 presence (Flag true) ∷ []

  abbrev pub h7 : List Event
  h7 = h6 ++ Write 1 field ten ∷ []

  abbrev pub h8 : List Event
  h8 = h7 ++ Own 1 field ten ∷ []

  abbrev pub h9 : List Event
  h9 = h8 ++ Commit 1 ∷ []

  abbrev pub h10 : List Event
  h10 = h9 ++ Begin 1 Rc ∷ []

  abbrev pub h11 : List Event
  h11 = h10 ++ Read 1 presence 1 2 1 (Flag true) ∷ []

  abbrev pub h12 : List Event
  h12 = h11 ++ Read 1 field 1 1 7 ten ∷ []

  abbrev pub h13 : List Event
  h13 = h12 ++ Scan 1 0 (key ∷ []) ∷ []

  abbrev pub h14 : List Event
  h14 = h13 ++ Rollback 1 ∷ []

  abbrev pub h15 : List Event
  h15 = h14 ++ Show 1 15 ∷ []

  -- the session stays open
  still : (events : List Event) (e : Event) → (e ≡ Open 1 → ⊥) → (e ≡ Close 1 → ⊥) → IsOpen events 1 → IsOpen (events ++ e ∷ []) 1
  still events e no_open no_close is = (open_still events e 1 no_open no_close).1 is

  not_closed : (n : ℕ) → slice_get h1 n ≡ Some (Close 1) → ⊥
  not_closed zero is = cc
  not_closed (suc n) is = cc

  o1 : IsOpen h1 1
  o1 = (contains_at h1 0 (Open 1) refl, λ closed. let found = at_contains h1 (Close 1) closed in not_closed found.0 found.1)

  o2 : IsOpen h2 1
  o2 = still h1 (Define 1 name) (λ h. cc) (λ h. cc) o1

  o3 : IsOpen h3 1
  o3 = still h2 (Look 1 1) (λ h. cc) (λ h. cc) o2

  o9 : IsOpen h9 1
  o9 =
      still h8 (Commit 1) (λ h. cc) (λ h. cc)
      (still h7 (Own 1 field ten) (λ h. cc) (λ h. cc)
      (still h6 (Write 1 field ten) (λ h. cc) (λ h. cc)
      (still h5 (Write 1 presence (Flag true)) (λ h. cc) (λ h. cc)
      (still h4 (Read 1 presence 0 1 0 (Flag false)) (λ h. cc) (λ h. cc)
      (still h3 (Begin 1 Cc) (λ h. cc) (λ h. cc) o3)))))

  o14 : IsOpen h14 1
  o14 =
      still h13 (Rollback 1) (λ h. cc) (λ h. cc)
      (still h12 (Scan 1 0 (key ∷ [])) (λ h. cc) (λ h. cc)
      (still h11 (Read 1 field 1 1 7 ten) (λ h. cc) (λ h. cc)
      (still h10 (Read 1 presence 1 2 1 (Flag true)) (λ h. cc) (λ h. cc)
      (still h9 (Begin 1 Rc) (λ h. cc) (λ h. cc) o9))))

  -- its transactions
  p4 : IsPending h4 1 1
  p4 = pending_begin h3 1 Cc

  p5 : IsPending h5 1 1
  p5 = pending_kept h4 (Read 1 presence 0 1 0 (Flag false)) 1 1 (λ _. refl) p4

  p6 : IsPending h6 1 1
  p6 = pending_kept h5 (Write 1 presence (Flag true)) 1 1 (λ _. refl) p5

  p7 : IsPending h7 1 1
  p7 = pending_kept h6 (Write 1 field ten) 1 1 (λ _. refl) p6

  p8 : IsPending h8 1 1
  p8 = pending_kept h7 (Own 1 field ten) 1 1 (λ _. refl) p7

  p10 : IsPending h10 2 1
  p10 = pending_begin h9 1 Rc

  p11 : IsPending h11 2 1
  p11 = pending_kept h10 (Read 1 presence 1 2 1 (Flag true)) 2 1 (λ _. refl) p10

  p12 : IsPending h12 2 1
  p12 = pending_kept h11 (Read 1 field 1 1 7 ten) 2 1 (λ _. refl) p11

  p13 : IsPending h13 2 1
  p13 = pending_kept h12 (Scan 1 0 (key ∷ [])) 2 1 (λ _. refl) p12

  no_begin : (n : ℕ) (level : Level) → slice_get h3 n ≡ Some (Begin 1 level) → ⊥
  no_begin zero level is = cc
  no_begin (suc zero) level is = cc
  no_begin (suc (suc zero)) level is = cc
  no_begin (suc (suc (suc n))) level is = cc

  none3 : ¬ HasPending h3 1
  none3 (k, pending) = no_begin pending.start pending.starts.level pending.starts.is

  none9 : ¬ HasPending h9 1
  none9 (k, pending) =
      elim (pending_back h8 (Commit 1) k 1 pending) [
        | inl before ↦ false≢true (sym (before.1 refl))
        | inr new ↦ let clash : Commit 1 ≡ Begin 1 new.level = new.is in cc
      ]

  none14 : ¬ HasPending h14 1
  none14 (k, pending) =
      elim (pending_back h13 (Rollback 1) k 1 pending) [
        | inl before ↦ false≢true (sym (before.1 refl))
        | inr new ↦ let clash : Rollback 1 ≡ Begin 1 new.level = new.is in cc
      ]

  -- what they wrote
  no_write : (n s : ℕ) (x : Cell) (v : Value) → slice_get h4 n ≡ Some (Write s x v) → ⊥
  no_write zero s x v is = cc
  no_write (suc zero) s x v is = cc
  no_write (suc (suc zero)) s x v is = cc
  no_write (suc (suc (suc zero))) s x v is = cc
  no_write (suc (suc (suc (suc n)))) s x v is = cc

  second : (k : ℕ) → IsPending h10 k 1 → k ≡ 2
  second k pending =
      elim (pending_back h9 (Begin 1 Rc) k 1 pending) [
        | inl before ↦ absurd (none9 (k, before.0))
        | inr new ↦ new.counts
      ]

  idle10 : (k p : ℕ) (f : Event) → k ≡ 2 → IsOf h10 k p f → ⊥
  idle10 k p f two of = of_none h9 (Begin 1 Rc) k p f (omega arith) of

  unwritten10 : (x : Cell) → ¬ WroteItself h10 1 x
  unwritten10 x wrote = idle10 wrote.number wrote.written.place _ (second wrote.number wrote.pending) wrote.written.write

  unwritten11 : (x : Cell) → ¬ WroteItself h11 1 x
  unwritten11 x wrote =
      elim (pending_back h10 (Read 1 presence 1 2 1 (Flag true)) wrote.number 1 wrote.pending) [
        | inl before ↦
            let two = second wrote.number before.0 in
            elim (of_back h10 (Read 1 presence 1 2 1 (Flag true)) wrote.number wrote.written.place (Write wrote.written.session x wrote.written.value) wrote.written.write) [
              | inl old ↦ idle10 wrote.number wrote.written.place (Write wrote.written.session x wrote.written.value) two old
              | inr new ↦ let clash : Read 1 presence 1 2 1 (Flag true) ≡ Write wrote.written.session x wrote.written.value = new.1 in cc
            ]
        | inr new ↦ let clash : Read 1 presence 1 2 1 (Flag true) ≡ Begin 1 new.level = new.is in cc
      ]

  l6 : LastWrites h6 1 presence (Flag true)
  l6 = (last_new h5 1 1 presence (Flag true) p5 presence (Flag true)).1 (inl (refl, refl))

  l7 : LastWrites h7 1 presence (Flag true)
  l7 = (last_new h6 1 1 field ten p6 presence (Flag true)).1 (inr (λ h. cc, l6))

  f7 : LastWrites h7 1 field ten
  f7 = (last_new h6 1 1 field ten p6 field ten).1 (inl (refl, refl))

  on10 : (x : Cell) (v : Value) → LastWrites h7 1 x v → LastWrites h10 1 x v
  on10 x v last =
      last_kept h9 (Begin 1 Rc) 1 x v (λ s u h _. cc)
      (last_kept h8 (Commit 1) 1 x v (λ s u h _. cc) (last_kept h7 (Own 1 field ten) 1 x v (λ s u h _. cc) last))

  on11 : (x : Cell) (v : Value) → LastWrites h10 1 x v → LastWrites h11 1 x v
  on11 x v last = last_kept h10 (Read 1 presence 1 2 1 (Flag true)) 1 x v (λ s u h _. cc) last

  c10 : IsCommitted h10 1
  c10 = committed_kept h9 (Begin 1 Rc) 1 (committed_new h8 1 1 p8)

  c11 : IsCommitted h11 1
  c11 = committed_kept h10 (Read 1 presence 1 2 1 (Flag true)) 1 c10

  c12 : IsCommitted h12 1
  c12 = committed_kept h11 (Read 1 field 1 1 7 ten) 1 c11

  l12 : LastWrites h12 1 presence (Flag true)
  l12 = last_kept h11 (Read 1 field 1 1 7 ten) 1 presence (Flag true) (λ s u h _. cc) (on11 presence (Flag true) (on10 presence (Flag true) l7))

  written_key : (n s : ℕ) (k : Key) (v : Value) → slice_get h12 n ≡ Some (Write s (Presence 0 k) v) → k ≡ key
  written_key zero s k v is = cc
  written_key (suc zero) s k v is = cc
  written_key (suc (suc zero)) s k v is = cc
  written_key (suc (suc (suc zero))) s k v is = cc
  written_key (suc (suc (suc (suc zero)))) s k v is = cc
  written_key (suc (suc (suc (suc (suc zero))))) s k v is = cc
  written_key (suc (suc (suc (suc (suc (suc zero)))))) s k v is = cc
  written_key (suc (suc (suc (suc (suc (suc (suc zero))))))) s k v is = cc
  written_key (suc (suc (suc (suc (suc (suc (suc (suc zero)))))))) s k v is = cc
  written_key (suc (suc (suc (suc (suc (suc (suc (suc (suc zero))))))))) s k v is = cc
  written_key (suc (suc (suc (suc (suc (suc (suc (suc (suc (suc zero)))))))))) s k v is = cc
  written_key (suc (suc (suc (suc (suc (suc (suc (suc (suc (suc (suc zero))))))))))) s k v is = cc
  written_key (suc (suc (suc (suc (suc (suc (suc (suc (suc (suc (suc (suc n)))))))))))) s k v is = cc

  -- the events
  pub fits1 : Follows [] [] (Open 1)
  fits1 = refl

  pub fits2 : Follows [] h1 (Define 1 name)
  fits2 = (o1, λ member. let found = at_contains [] name member in cc)

  pub fits3 : Follows [] h2 (Look 1 1)
  fits3 = (o2, refl)

  pub fits4 : Follows [] h3 (Begin 1 Cc)
  fits4 = (o3, none3)

  pub fits5 : Follows [] h4 (Read 1 presence 0 1 0 (Flag false))
  fits5 = ((1, p4), λ wrote. no_write wrote.written.place wrote.written.session presence wrote.written.value wrote.written.write.is, omega arith, inl (refl, inr (λ v member. let found = at_contains [] (presence, v) member in cc, refl)))

  pub fits6 : Follows [] h5 (Write 1 presence (Flag true))
  fits6 = ((1, p5), omega arith, (λ h. cc, λ w h. cc))

  pub fits7 : ten ≢ Unset → ((w : ℤ) → ten ≢ Wide w) → Follows [] h6 (Write 1 field ten)
  fits7 set narrow = ((1, p6), omega arith, (set, narrow))

  pub fits8 : Follows [] h7 (Own 1 field ten)
  fits8 = (1, p7, f7)

  pub fits9 : Follows [] h8 (Commit 1)
  fits9 = (1, p8)

  pub fits10 : Follows [] h9 (Begin 1 Rc)
  fits10 = (o9, none9)

  pub fits11 : Follows [] h10 (Read 1 presence 1 2 1 (Flag true))
  fits11 = ((2, p10), unwritten10 presence, omega arith, inr (c10, on10 presence (Flag true) l7))

  pub fits12 : Follows [] h11 (Read 1 field 1 1 7 ten)
  fits12 = ((2, p11), unwritten11 field, omega arith, inr (c11, on11 field ten (on10 field ten f7)))

  lists : ListsKeys [] h12 1 0 (key ∷ [])
  lists = record {
    ascending = λ k a b at next. let within : k + 1 < 1 = slice_get_within (key ∷ []) (k + 1) b next in absurd (omega arith);
    listed = λ k. (
      λ member.
          let found = at_contains (key ∷ []) k member in
          let same : k ≡ key = only found.0 k found.1 in
          inr (inl (1, omega arith, inr (c12, subst (λ (x : Key). HasWritten h12 1 (Presence 0 x)) (sym same) written))),
      λ either. elim either [
        | inl there ↦ let found = at_contains [] (Presence 0 k, Flag true) there in cc
        | inr later ↦ elim later [
          | inl by_others ↦ contains_at (key ∷ []) 0 k (ap (λ (x : Key). Some x) (sym (elim by_others.2 [
            | inl initial ↦ let some = by_others.1 in absurd (omega arith)
            | inr committed ↦
                let has = committed.1 in
                written_key has.place has.session k has.value has.write.is
          ])))
          | inr own ↦
              let has = own.written in
              contains_at (key ∷ []) 0 k (ap (λ (x : Key). Some x) (sym (written_key has.place has.session k has.value has.write.is)))
        ]
      ],
    );
  }
    where
      only : (n : ℕ) (k : Key) → slice_get (key ∷ []) n ≡ Some k → k ≡ key
      only zero k is = cc
      only (suc n) k is = cc

      written : HasWritten h12 1 presence
      written = record { place = l12.place; session = l12.session; value = Flag true; write = l12.write }

  pub fits13 : Follows [] h12 (Scan 1 0 (key ∷ []))
  fits13 = ((2, p12), omega arith, lists)

  pub fits14 : Follows [] h13 (Rollback 1)
  fits14 = (2, p13)

  pub fits15 : Follows [] h14 (Show 1 15)
  fits15 = (o14, refl)

  pub fits16 : Follows [] h15 (Close 1)
  fits16 = (still h14 (Show 1 15) (λ h. cc) (λ h. cc) o14, none15)
    where
      none15 : ¬ HasPending h15 1
      none15 (k, pending) =
          elim (pending_back h14 (Show 1 15) k 1 pending) [
            | inl before ↦ none14 (k, before.0)
            | inr new ↦ let clash : Show 1 15 ≡ Begin 1 new.level = new.is in cc
          ]

  abbrev pub h16 : List Event
  h16 = h15 ++ Close 1 ∷ []
