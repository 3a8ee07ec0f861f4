-- How the text of a history goes on after what a draft has read.
use Rattle.std.proofs.Common.{◌≡◌, ◌⊎◌, inl, inr, ℕ, List, [], ◌∷◌, ◌++◌, ◌==◌, cond, refl, sym, ap, ◌∙◌, map, subst, slice_index}
use Rattle.std.specs.Prelude.{codes}
use Rattle.std.specs.Fmt.{decimal}
use Rattle.std.specs.List.{AllByRecursion}
use Rattle.cell_base.specs.declared.cell.Cell.{Cell}
use Rattle.cell_base.specs.declared.level.Level.{Level}
use Rattle.cell_base.specs.declared.level.Level.TheVariants.{Rc, Ra, Cc}
use Rattle.cell_base.specs.declared.value.Value.{Value}
use Rattle.history_core.specs.declared.event.Event.{Event}
use Rattle.history_log.specs.declared.keyword.Keyword.TheVariants as keywords
use Rattle.history_log.specs.declared.version.Version.{Version}
use Rattle.history_log.specs.declared.version.Version.TheVariants.{One, Two, Three}
use Rattle.history_log.specs.Cut.{cut_at}
use Rattle.history_log.specs.Spelling.{cell_word, value_word, level_word, version_word, keyword_word, keyword_of, fields, head_line, event_line, initial_line, order_line, end_line}
use Rattle.history_log.specs.Reading.{IsU32, FitsEvent}
use Rattle.history_log.specs.Log.{IsInitialCell, IsInitialIn, AreEventsIn}
use Rattle.history_log.proofs.Plain.{Ink, Plain, ink, level_plain, plain_by_test, test_plain}
use Rattle.history_log.proofs.EventForms.{known_as}
use Rattle.history_log.proofs.LineKinds.{line_cut, event_cut, initial_cut, order_cut, same_start}
use Rattle.history_log.proofs.Same.{same_cell, same_value}

-- lines of two kinds differ

pub event_not_order : (v : Version) (f : Event) (o : List ℕ) → FitsEvent f → AllByRecursion IsU32 o → order_line o ≡ event_line v f → ⊥
event_not_order v f o ff fo e =
    known_as keywords.Order f (same_start (event_line v f) (keyword_of f) keywords.Order (fields v f) (map decimal o) (event_cut v f ff) (ap (cut_at 32) (sym e) ∙ order_cut o fo))

pub row_cut : (x : Cell × Value) → IsInitialCell x → cut_at 32 (initial_line x) ≡ keyword_word keywords.Initial ∷ cell_word x.0 ∷ value_word x.1 ∷ []
row_cut x fx = initial_cut x fx.0 fx.1

event_not_initial : (v : Version) (f : Event) (x : Cell × Value) → FitsEvent f → IsInitialCell x → initial_line x ≡ event_line v f → ⊥
event_not_initial v f x ff fx e =
    known_as keywords.Initial f (same_start (event_line v f) (keyword_of f) keywords.Initial (fields v f) (cell_word x.0 ∷ value_word x.1 ∷ []) (event_cut v f ff) (ap (cut_at 32) (sym e) ∙ row_cut x fx))

pub order_not_initial : (x : Cell × Value) (o : List ℕ) → IsInitialCell x → AllByRecursion IsU32 o → initial_line x ≡ order_line o → ⊥
order_not_initial x o fx fo e =
    differ (same_start (order_line o) keywords.Order keywords.Initial (map decimal o) (cell_word x.0 ∷ value_word x.1 ∷ []) (order_cut o fo) (ap (cut_at 32) (sym e) ∙ row_cut x fx)) where
      differ : keywords.Order ≡ keywords.Initial → ⊥
      differ e = cc

same_row : (x y : Cell × Value) → IsInitialCell x → IsInitialCell y → initial_line x ≡ initial_line y → x ≡ y
same_row x y fx fy e =
    let parts = sym (row_cut x fx) ∙ ap (cut_at 32) e ∙ row_cut y fy in
    let ce = same_cell x.0 y.0 fx.0 fy.0 (second parts) in
    let ve = same_value x.1 y.1 fx.1 fy.1 (third parts) in
    ap (λ (c : Cell). (c, x.1)) ce ∙ ap (λ (v : Value). (y.0, v)) ve where
      second : {a b c d p q : List ℕ} → a ∷ b ∷ c ∷ [] ≡ p ∷ d ∷ q ∷ [] → b ≡ d
      second e = cc

      third : {a b c d p q : List ℕ} → a ∷ b ∷ c ∷ [] ≡ p ∷ d ∷ q ∷ [] → c ≡ q
      third e = cc

-- events and rows are taken off the front

pub strip_events : (v : Version) (head : Level) (es fs : List Event) (o : List ℕ) (after : List (List ℕ)) → AreEventsIn v head es → AreEventsIn v head fs → AllByRecursion IsU32 o
    → map (event_line v) es ++ (order_line o ∷ end_line ∷ []) ≡ map (event_line v) fs ++ after
    → (rest : List Event) × AreEventsIn v head rest × (map (event_line v) rest ++ (order_line o ∷ end_line ∷ []) ≡ after)
strip_events v head es [] o after fe ff fo e = (es, fe, e)
strip_events v head [] (f ∷ fs) o after fe ff fo e = absurd (event_not_order v f o ff.0.0 fo (cc))
strip_events v head (x ∷ es) (f ∷ fs) o after fe ff fo e = strip_events v head es fs o after fe.1 ff.1 fo (cc)

pub strip_rows : (xs ys : List (Cell × Value)) (following after : List (List ℕ)) → AllByRecursion IsInitialCell xs → AllByRecursion IsInitialCell ys
    → ((y : Cell × Value) (more : List (List ℕ)) → IsInitialCell y → following ≡ initial_line y ∷ more → ⊥)
    → map initial_line xs ++ following ≡ map initial_line ys ++ after
    → (rest : List (Cell × Value)) × AllByRecursion IsInitialCell rest × (map initial_line rest ++ following ≡ after) × (xs ≡ ys ++ rest)
strip_rows xs [] following after fx fy other e = (xs, fx, e, refl)
strip_rows [] (y ∷ ys) following after fx fy other e = absurd (other y (map initial_line ys ++ after) fy.0 e)
strip_rows (x ∷ xs) (y ∷ ys) following after fx fy other e =
    let r = strip_rows xs ys following after fx.1 fy.1 other (cc) in
    let same = same_row x y fx.0 fy.0 (cc) in
    (r.0, r.1, r.2, ap (λ (z : Cell × Value). z ∷ xs) same ∙ ap (λ (zs : List (Cell × Value)). y ∷ zs) r.3)

-- what stands after the rows and the events of a draft
pub record Goes (v : Version) (head : Level) (rows : List (Cell × Value)) (events : List Event) (after : List (List ℕ)) : Type 0 where
  pub more_rows : List (Cell × Value)
  pub more_events : List Event
  pub order : List ℕ
  pub all_rows : IsInitialIn v (rows ++ more_rows)
  pub rows_fit : AllByRecursion IsInitialCell more_rows
  pub events_fit : AreEventsIn v head more_events
  pub order_fits : AllByRecursion IsU32 order
  pub goes : map initial_line more_rows ++ (map (event_line v) more_events ++ (order_line order ∷ end_line ∷ [])) ≡ after
  pub either : (more_rows ≡ []) ⊎ (events ≡ [])

pub no_rows : (v : Version) (xs : List (Cell × Value)) → IsInitialIn v xs → AllByRecursion IsInitialCell xs
no_rows One xs is = subst (λ (ys : List (Cell × Value)). AllByRecursion IsInitialCell ys) (sym is) tt
no_rows Two xs is = subst (λ (ys : List (Cell × Value)). AllByRecursion IsInitialCell ys) (sym is) tt
no_rows Three xs is = is.1.1

pub body_first : (v : Version) (head : Level) (es : List Event) (o : List ℕ) → AreEventsIn v head es → AllByRecursion IsU32 o
    → (y : Cell × Value) (more : List (List ℕ)) → IsInitialCell y → map (event_line v) es ++ (order_line o ∷ end_line ∷ []) ≡ initial_line y ∷ more → ⊥
body_first v head [] o fe fo y more fy e = order_not_initial y o fy fo (cc)
body_first v head (x ∷ es) o fe fo y more fy e = event_not_initial v x y fe.0.0 fy (cc)

pub goes_after : (v : Version) (head : Level) (xs ys : List (Cell × Value)) (es fs : List Event) (o : List ℕ) (after : List (List ℕ)) → IsInitialIn v xs → AllByRecursion IsInitialCell ys
    → AreEventsIn v head es → AreEventsIn v head fs → AllByRecursion IsU32 o
    → map initial_line xs ++ (map (event_line v) es ++ (order_line o ∷ end_line ∷ [])) ≡ map initial_line ys ++ (map (event_line v) fs ++ after)
    → Goes v head ys fs after
goes_after v head xs ys es fs o after ix fy fe ff fo e =
    let r = strip_rows xs ys (map (event_line v) es ++ (order_line o ∷ end_line ∷ [])) (map (event_line v) fs ++ after) (no_rows v xs ix) fy (body_first v head es o fe fo) e in
    by_rows r.0 r.1 fs ff r.2 (subst (λ (zs : List (Cell × Value)). IsInitialIn v zs) r.3 ix) where
      by_rows : (rest : List (Cell × Value)) → AllByRecursion IsInitialCell rest → (fs : List Event) → AreEventsIn v head fs
          → map initial_line rest ++ (map (event_line v) es ++ (order_line o ∷ end_line ∷ [])) ≡ map (event_line v) fs ++ after → IsInitialIn v (ys ++ rest) → Goes v head ys fs after
      by_rows [] fr fs ff e all =
          let s = strip_events v head es fs o after fe ff fo e in
          record { more_rows = []; more_events = s.0; order = o; all_rows = all; rows_fit = fr; events_fit = s.1; order_fits = fo; goes = s.2; either = inl refl }
      by_rows (x ∷ rest) fr [] ff e all =
          record { more_rows = x ∷ rest; more_events = es; order = o; all_rows = all; rows_fit = fr; events_fit = fe; order_fits = fo; goes = e; either = inr refl }
      by_rows (x ∷ rest) fr (f ∷ fs) ff e all = absurd (event_not_initial v f x ff.0.0 fr.0 (cc))

-- heads

version_from : ℕ → Version
version_from b = cond (b == 49) One (cond (b == 50) Two Three)

version_back : (v : Version) → version_from (slice_index (version_word v) 0) ≡ v
unfolding version_from
version_back One = refl
version_back Two = refl
version_back Three = refl

level_from : ℕ → ℕ → Level
level_from a b = cond (a == 99) Cc (cond (b == 99) Rc Ra)

level_back : (l : Level) → level_from (slice_index (level_word l) 0) (slice_index (level_word l) 1) ≡ l
unfolding level_from
level_back Rc = refl
level_back Ra = refl
level_back Cc = refl

version_plain : (v : Version) → Plain (version_word v)
unfolding test_plain
version_plain One = plain_by_test (codes "1") refl
version_plain Two = plain_by_test (codes "2") refl
version_plain Three = plain_by_test (codes "3") refl

head_plain : Plain (codes "monkey-log")
unfolding test_plain
head_plain = plain_by_test (codes "monkey-log") refl

pub head_ink : (v : Version) (l : Level) → AllByRecursion Ink (codes "monkey-log" ∷ version_word v ∷ level_word l ∷ [])
head_ink v l = (ink (codes "monkey-log") head_plain, (ink (version_word v) (version_plain v), (ink (level_word l) (level_plain l), tt)))

head_cut : (v : Version) (l : Level) → cut_at 32 (head_line v l) ≡ codes "monkey-log" ∷ version_word v ∷ level_word l ∷ []
head_cut v l = line_cut (codes "monkey-log") (version_word v ∷ level_word l ∷ []) (head_ink v l)

pub same_head : (v w : Version) (l m : Level) → head_line v l ≡ head_line w m → (v ≡ w) × (l ≡ m)
same_head v w l m e =
    let parts = sym (head_cut v l) ∙ ap (cut_at 32) e ∙ head_cut w m in (
      sym (version_back v) ∙ ap (λ (x : List ℕ). version_from (slice_index x 0)) (second parts) ∙ version_back w,
      sym (level_back l) ∙ ap (λ (x : List ℕ). level_from (slice_index x 0) (slice_index x 1)) (third parts) ∙ level_back m,
    ) where
      second : {a b c d p q : List ℕ} → a ∷ b ∷ c ∷ [] ≡ p ∷ d ∷ q ∷ [] → b ≡ d
      second e = cc

      third : {a b c d p q : List ℕ} → a ∷ b ∷ c ∷ [] ≡ p ∷ d ∷ q ∷ [] → c ≡ q
      third e = cc
