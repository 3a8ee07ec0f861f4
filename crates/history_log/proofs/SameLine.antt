-- One line is of one event, and of one order.
use Rattle.std.proofs.Common.{◌≡◌, ℕ, List, [], ◌∷◌, refl, sym, ap, ◌∙◌, map, subst}
use Rattle.std.specs.Prelude.{codes}
use Rattle.std.specs.Fmt.{decimal}
use Rattle.std.specs.List.{AllByRecursion}
use Rattle.cell_base.specs.declared.cell.Cell.{Cell}
use Rattle.cell_base.specs.declared.key.Key.{Key}
use Rattle.cell_base.specs.declared.level.Level.{Level}
use Rattle.cell_base.specs.declared.value.Value.{Value}
use Rattle.history_core.specs.declared.event.Event.{Event}
use Rattle.history_core.specs.declared.event.Event.TheVariants.{Open, Close, Define, Look, Begin, Scan, Read, Own, Write, Commit, Rollback, Show}
use Rattle.history_log.specs.declared.version.Version.{Version}
use Rattle.history_log.specs.declared.version.Version.TheVariants.{One, Two, Three}
use Rattle.history_log.specs.Cut.{cut_at}
use Rattle.history_log.specs.Spelling.{key_word, cell_word, value_word, level_word, version_word, keyword_of, begin_words, fields, event_line, order_line, line}
use Rattle.history_log.specs.Reading.{IsU32, FitsKey, FitsCell, FitsValue, FitsEvent, IsEventIn, IsLevelIn}
use Rattle.history_log.proofs.EventForms.{known_as, Is}
use Rattle.history_log.proofs.LineKinds.{event_cut, order_cut, same_keyword}
use Rattle.history_log.proofs.Same.{same_text, same_value, same_key, same_number, same_cell}
use Rattle.history_log.proofs.Strip.{same_head}

heads : {a b : List ℕ} {xs ys : List (List ℕ)} → a ∷ xs ≡ b ∷ ys → a ≡ b
heads e = cc

tails : {a b : List ℕ} {xs ys : List (List ℕ)} → a ∷ xs ≡ b ∷ ys → xs ≡ ys
tails e = cc

-- the first word, and what stands after it

number : {xs ys : List (List ℕ)} (a b : ℕ) → IsU32 a → IsU32 b → decimal a ∷ xs ≡ decimal b ∷ ys → (a ≡ b) × (xs ≡ ys)
number a b fa fb e = (same_number a b fa fb (heads e), tails e)

cell : {xs ys : List (List ℕ)} (a b : Cell) → FitsCell a → FitsCell b → cell_word a ∷ xs ≡ cell_word b ∷ ys → (a ≡ b) × (xs ≡ ys)
cell a b fa fb e = (same_cell a b fa fb (heads e), tails e)

value : {xs ys : List (List ℕ)} (a b : Value) → FitsValue a → FitsValue b → value_word a ∷ xs ≡ value_word b ∷ ys → a ≡ b
value a b fa fb e = same_value a b fa fb (heads e)

same_mapped : {X : Type 0} (P : X → Type 0) (f : X → List ℕ) → ((x y : X) → P x → P y → f x ≡ f y → x ≡ y)
    → (xs ys : List X) → AllByRecursion P xs → AllByRecursion P ys → map f xs ≡ map f ys → xs ≡ ys
same_mapped P f one [] [] px py e = refl
same_mapped P f one [] (y ∷ ys) px py e = absurd (cc)
same_mapped P f one (x ∷ xs) [] px py e = absurd (cc)
same_mapped {X} P f one (x ∷ xs) (y ∷ ys) px py e =
    ap (λ (z : X). z ∷ xs) (one x y px.0 py.0 (heads e)) ∙ ap (λ (zs : List X). y ∷ zs) (same_mapped P f one xs ys px.1 py.1 (tails e))

same_level : (l m : Level) → level_word l ≡ level_word m → l ≡ m
same_level l m e = (same_head Two Two l m (ap (λ (w : List ℕ). line (codes "monkey-log" ∷ version_word Two ∷ w ∷ [])) e)).1

same_begin : (v : Version) (head l m : Level) → IsLevelIn v head l → IsLevelIn v head m → begin_words v l ≡ begin_words v m → l ≡ m
same_begin One head l m il im e = il ∙ sym im
same_begin Two head l m il im e = same_level l m (heads e)
same_begin Three head l m il im e = same_level l m (heads e)

-- events

module _ (v : Version) (head : Level) where
  -- the words of the one are the other's, which fits
  abbrev Shares : Event → Event → Type 0
  Shares x f = FitsEvent f × IsEventIn v head f × (fields v x ≡ fields v f)

  shares : (x f g : Event) → f ≡ g → Shares x f → Shares x g
  shares x f g e s = subst (λ (y : Event). Shares x y) e s

  by_fields : (x f : Event) → FitsEvent x → IsEventIn v head x → Shares x f → Is (keyword_of x) f → x ≡ f
  by_fields (Open s) f fx ix same is =
      let q = shares (Open s) f (Open is.0) is.1 same in
      ap Open (number s is.0 fx q.0 q.2).0 ∙ sym is.1
  by_fields (Close s) f fx ix same is =
      let q = shares (Close s) f (Close is.0) is.1 same in
      ap Close (number s is.0 fx q.0 q.2).0 ∙ sym is.1
  by_fields (Commit s) f fx ix same is =
      let q = shares (Commit s) f (Commit is.0) is.1 same in
      ap Commit (number s is.0 fx q.0 q.2).0 ∙ sym is.1
  by_fields (Rollback s) f fx ix same is =
      let q = shares (Rollback s) f (Rollback is.0) is.1 same in
      ap Rollback (number s is.0 fx q.0 q.2).0 ∙ sym is.1
  by_fields (Define s name) f fx ix same is =
      let q = shares (Define s name) f (Define is.0.0 is.0.1) is.1 same in
      let a = number s is.0.0 fx.0 q.0.0 q.2 in
      let b = same_text name is.0.1 fx.1 q.0.1 (heads a.1) in
      ap (λ (y : ℕ). Define y name) a.0 ∙ ap (λ (y : List ℕ). Define is.0.0 y) b ∙ sym is.1
  by_fields (Look s n) f fx ix same is =
      let q = shares (Look s n) f (Look is.0.0 is.0.1) is.1 same in
      let a = number s is.0.0 fx.0 q.0.0 q.2 in
      let b = number n is.0.1 fx.1 q.0.1 a.1 in
      ap (λ (y : ℕ). Look y n) a.0 ∙ ap (λ (y : ℕ). Look is.0.0 y) b.0 ∙ sym is.1
  by_fields (Show s n) f fx ix same is =
      let q = shares (Show s n) f (Show is.0.0 is.0.1) is.1 same in
      let a = number s is.0.0 fx.0 q.0.0 q.2 in
      let b = number n is.0.1 fx.1 q.0.1 a.1 in
      ap (λ (y : ℕ). Show y n) a.0 ∙ ap (λ (y : ℕ). Show is.0.0 y) b.0 ∙ sym is.1
  by_fields (Begin s l) f fx ix same is =
      let q = shares (Begin s l) f (Begin is.0.0 is.0.1) is.1 same in
      let a = number s is.0.0 fx q.0 q.2 in
      let b = same_begin v head l is.0.1 ix q.1 a.1 in
      ap (λ (y : ℕ). Begin y l) a.0 ∙ ap (λ (y : Level). Begin is.0.0 y) b ∙ sym is.1
  by_fields (Scan s t ks) f fx ix same is =
      let q = shares (Scan s t ks) f (Scan is.0.0 is.0.1 is.0.2) is.1 same in
      let a = number s is.0.0 fx.0 q.0.0 q.2 in
      let b = number t is.0.1 fx.1 q.0.1 a.1 in
      let c = same_mapped FitsKey key_word same_key ks is.0.2 fx.2 q.0.2 b.1 in
      ap (λ (y : ℕ). Scan y t ks) a.0 ∙ ap (λ (y : ℕ). Scan is.0.0 y ks) b.0 ∙ ap (λ (y : List Key). Scan is.0.0 is.0.1 y) c ∙ sym is.1
  by_fields (Read s x n m w u) f fx ix same is =
      let q = shares (Read s x n m w u) f (Read is.0.0 is.0.1 is.0.2 is.0.3 is.0.4 is.0.5) is.1 same in
      let a = number s is.0.0 fx.0 q.0.0 q.2 in
      let b = cell x is.0.1 fx.1 q.0.1 a.1 in
      let c = number n is.0.2 fx.2 q.0.2 b.1 in
      let d = number m is.0.3 fx.3 q.0.3 c.1 in
      let e = number w is.0.4 fx.4 q.0.4 d.1 in
      let g = value u is.0.5 fx.5 q.0.5 e.1 in
      ap (λ (y : ℕ). Read y x n m w u) a.0 ∙ ap (λ (y : Cell). Read is.0.0 y n m w u) b.0 ∙ ap (λ (y : ℕ). Read is.0.0 is.0.1 y m w u) c.0
      ∙ ap (λ (y : ℕ). Read is.0.0 is.0.1 is.0.2 y w u) d.0 ∙ ap (λ (y : ℕ). Read is.0.0 is.0.1 is.0.2 is.0.3 y u) e.0
      ∙ ap (λ (y : Value). Read is.0.0 is.0.1 is.0.2 is.0.3 is.0.4 y) g ∙ sym is.1
  by_fields (Own s x u) f fx ix same is =
      let q = shares (Own s x u) f (Own is.0.0 is.0.1 is.0.2) is.1 same in
      let a = number s is.0.0 fx.0 q.0.0 q.2 in
      let b = cell x is.0.1 fx.1 q.0.1 a.1 in
      let c = value u is.0.2 fx.2 q.0.2 b.1 in
      ap (λ (y : ℕ). Own y x u) a.0 ∙ ap (λ (y : Cell). Own is.0.0 y u) b.0 ∙ ap (λ (y : Value). Own is.0.0 is.0.1 y) c ∙ sym is.1
  by_fields (Write s x u) f fx ix same is =
      let q = shares (Write s x u) f (Write is.0.0 is.0.1 is.0.2) is.1 same in
      let a = number s is.0.0 fx.0 q.0.0 q.2 in
      let b = cell x is.0.1 fx.1 q.0.1 a.1 in
      let c = value u is.0.2 fx.2 q.0.2 b.1 in
      ap (λ (y : ℕ). Write y x u) a.0 ∙ ap (λ (y : Cell). Write is.0.0 y u) b.0 ∙ ap (λ (y : Value). Write is.0.0 is.0.1 y) c ∙ sym is.1

  pub same_event : (x f : Event) → FitsEvent x → IsEventIn v head x → FitsEvent f → IsEventIn v head f → event_line v x ≡ event_line v f → x ≡ f
  same_event x f fx ix ff jf e =
      let parts = sym (event_cut v x fx) ∙ ap (cut_at 32) e ∙ event_cut v f ff in
      by_fields x f fx ix (ff, jf, tails parts) (known_as (keyword_of x) f (sym (same_keyword (keyword_of x) (keyword_of f) (heads parts))))

pub same_order : (o p : List ℕ) → AllByRecursion IsU32 o → AllByRecursion IsU32 p → order_line o ≡ order_line p → o ≡ p
same_order o p fo fp e = same_mapped IsU32 decimal same_number o p fo fp (tails (sym (order_cut o fo) ∙ ap (cut_at 32) e ∙ order_cut p fp))
