-- A history that is well formed and consistent can be shown.
use Rattle.std.proofs.Common.{◌≡◌, ℕ, ◌<◌, List, [], ◌∷◌, ◌++◌, Some, None, length, map, refl, ap, sym, ◌∙◌, subst, inl, inr, ◌%◌}
use Rattle.std.specs.List.{Contains, slice_get}
use Rattle.std.proofs.lemmas.List.{map-append}
use Rattle.std.proofs.lemmas.Option.{slice_get_within}
use Rattle.std.proofs.Math.Nat.{mod-eq_of_lt}
use Rattle.cell_base.specs.declared.cell.Cell.{Cell}
use Rattle.cell_base.specs.declared.value.Value.{Value}
use Rattle.history_core.specs.declared.event.Event.{Event}
use Rattle.history_core.specs.declared.event.Event.TheVariants.{Open, Close, Define, Look, Begin, Scan, Read, Own, Write, Commit, Rollback, Show}
use Rattle.history_core.specs.Relations.{Writes, WritesValue, IsConsistent}
use Rattle.history_core.specs.Legal.{Follows, IsFormed, IsLegal, IsOffer, IsOffered, IsPermitted, MayCome, ReadsNothing}
use Rattle.history_core.proofs.Prefixes.{along, formed_back, legal_push}
use Rattle.txn_buffer.proofs.Lists.{at_contains}
use Rattle.saturation.specs.Laws.{with_read}
use Rattle.level_laws.specs.Shown.{without_choice, AreAlike, CanBeShown}
use Rattle.level_laws.proofs.Agreeing.{read_or_other, agree_push, consistent_agrees, writes_agree}
use Rattle.level_laws.proofs.Following.{alike_agrees, may_alike}
use Rattle.level_laws.proofs.Earlier.{consistent_back}
use Rattle.level_laws.proofs.Offering.{some_offer}

-- ---- an event that is no read

plain_offered : (events : List Event) (e : Event) → ReadsNothing e → IsOffered events e
plain_offered events (Read s x w n u v) plain = absurd plain
plain_offered events (Open s) plain = tt
plain_offered events (Close s) plain = tt
plain_offered events (Define s name) plain = tt
plain_offered events (Look s count) plain = tt
plain_offered events (Begin s level) plain = tt
plain_offered events (Scan s table keys) plain = tt
plain_offered events (Own s x v) plain = tt
plain_offered events (Write s x v) plain = tt
plain_offered events (Commit s) plain = tt
plain_offered events (Rollback s) plain = tt
plain_offered events (Show s number) plain = tt

pub show_other :
    (initial : List (Cell × Value)) (shown events : List Event) (next : Event) → IsLegal initial shown → AreAlike shown events →
    IsFormed initial (events ++ next ∷ []) → ReadsNothing next → IsLegal initial (shown ++ next ∷ [])
show_other initial shown events next legal alike formed plain =
    let may = (formed_back initial events next formed).1 in
    legal_push initial shown next legal (may_alike initial events shown (sym alike) next may) (plain_offered shown next plain)

-- ---- a read

writes_cell : (initial : List (Cell × Value)) (events : List Event) (w : ℕ) (x : Cell) (v : Value) → WritesValue initial events w x v → Writes events w x
writes_cell initial events w x v (inl first) = inl first.0
writes_cell initial events w x v (inr own) =
    inr (own.0, record { place = own.1.place; session = own.1.session; value = v; write = own.1.write })

-- a read that keeps the other history consistent is permitted in this one
permitted_alike :
    (initial : List (Cell × Value)) (shown events : List Event) (s : ℕ) (x : Cell) (w n u : ℕ) (v : Value) → AreAlike shown events →
    Follows initial events (Read s x w n u v) → IsConsistent (with_read events s x w n u v) → IsPermitted shown s x w
permitted_alike initial shown events s x w n u v alike follows consistent =
    let same = alike_agrees events shown (sym alike) in (
      writes_agree events shown same w x (writes_cell initial events w x v follows.3),
      λ count word value.
          consistent_agrees (with_read events s x w n u v) (with_read shown s x w count word value)
          (agree_push events shown (Read s x w n u v) (Read s x w count word value) same refl) consistent,
    )

-- the choice of a read doesn't matter to what it may follow
may_choose :
    (initial : List (Cell × Value)) (events : List Event) (s : ℕ) (x : Cell) (w n u m c : ℕ) (v : Value) → MayCome initial events (Read s x w n u v) →
    MayCome initial events (Read s x w m c v)
may_choose initial events s x w n u m c v may = record { follows = may.follows; fits = may.fits }

-- the word that picks the source
pub record Picks (initial : List (Cell × Value)) (shown : List Event) (s : ℕ) (x : Cell) (w count : ℕ) (v : Value) : Type 0 where
  pub word : ℕ
  pub below : word < count
  pub legal : IsLegal initial (with_read shown s x w count word v)

pub show_read :
    (initial : List (Cell × Value)) (shown events : List Event) (s : ℕ) (x : Cell) (w n u : ℕ) (v : Value) (offer : List ℕ) → IsLegal initial shown →
    AreAlike shown events → IsFormed initial (with_read events s x w n u v) → IsConsistent (with_read events s x w n u v) → IsOffer shown s x offer →
    Picks initial shown s x w (length offer) v
show_read initial shown events s x w n u v offer legal alike formed consistent is =
    let may = (formed_back initial events (Read s x w n u v) formed).1 in
    let there : Contains offer w = (is.exact w).1 (permitted_alike initial shown events s x w n u v alike may.follows consistent) in
    let at = at_contains offer w there in
    let below : at.0 < length offer = slice_get_within offer at.0 w at.1 in
    let small : at.0 % length offer ≡ at.0 = mod-eq_of_lt below in
    let may_too : MayCome initial shown (Read s x w (length offer) at.0 v) =
    may_choose initial shown s x w n u (length offer) at.0 v (may_alike initial events shown (sym alike) (Read s x w n u v) may) in
    record {
      word = at.0;
      below = below;
      legal = legal_push initial shown (Read s x w (length offer) at.0 v) legal may_too
          (offer, is, refl, ap (λ (k : ℕ). slice_get offer k) small ∙ at.1);
    }

-- ---- a whole history

alike_push :
    (shown events : List Event) (e f : Event) → AreAlike shown events → without_choice e ≡ without_choice f → AreAlike (shown ++ e ∷ []) (events ++ f ∷ [])
alike_push shown events e f alike last =
    map-append without_choice shown (e ∷ [])
    ∙ ap (λ (es : List Event). es ++ without_choice e ∷ []) alike
    ∙ ap (λ (g : Event). map without_choice events ++ g ∷ []) last
    ∙ sym (map-append without_choice events (f ∷ []))

legal_none : (initial : List (Cell × Value)) → IsLegal initial []
legal_none initial = record {
  formed = λ k e is. absurd (let h : None ≡ Some e = is in cc);
  offered = λ k e is. absurd (let h : None ≡ Some e = is in cc);
}

show_step :
    (initial : List (Cell × Value)) (events : List Event) (e : Event) → CanBeShown initial events → IsFormed initial (events ++ e ∷ []) →
    IsConsistent (events ++ e ∷ []) → CanBeShown initial (events ++ e ∷ [])
show_step initial events e can formed consistent none =
    can (λ shown alike legal. elim (read_or_other e) [
      | inl plain ↦ none (shown ++ e ∷ []) (alike_push shown events e e alike refl) (show_other initial shown events e legal alike formed plain)
      | inr read ↦
          let formed_too = subst (λ (g : Event). IsFormed initial (events ++ g ∷ [])) read.is formed in
          let consistent_too = subst (λ (g : Event). IsConsistent (events ++ g ∷ [])) read.is consistent in
          some_offer shown read.session read.cell (λ offer is.
          let picks = show_read initial shown events read.session read.cell read.source read.count read.word read.value offer legal alike formed_too consistent_too is in
          none (with_read shown read.session read.cell read.source (length offer) picks.word read.value)
          (alike_push shown events (Read read.session read.cell read.source (length offer) picks.word read.value) e alike
          (sym (ap without_choice read.is)))
          picks.legal)
    ])

pub show_all : (initial : List (Cell × Value)) (events : List Event) → IsFormed initial events → IsConsistent events → CanBeShown initial events
show_all initial events =
    along (λ (h : List Event). IsFormed initial h → IsConsistent h → CanBeShown initial h)
    (λ h e holds formed consistent.
    let before = (formed_back initial h e formed).0 in
    show_step initial h e (holds before (consistent_back initial h e before consistent)) formed consistent)
    [] events
    (λ formed consistent none. none [] refl (legal_none initial))
