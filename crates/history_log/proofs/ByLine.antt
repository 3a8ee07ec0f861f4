-- What reading line by line finds.
use Rattle.std.proofs.Common.{◌≡◌, ◌≢◌, ◌⊎◌, inl, inr, ℕ, zero, suc, ◌+◌, ◌≤◌, ◌<◌, ◌==◌, List, [], ◌∷◌, ◌++◌, length, refl, sym, ap, ◌∙◌, map, subst, arith, append_assoc, length-append}
use Rattle.std.proofs.lemmas.Bool.{cond_both}
use Rattle.std.specs.List.{All, AllByRecursion, join_with_byte, slice_split, onto_first}
use Rattle.cell_base.specs.declared.cell.Cell.{Cell}
use Rattle.cell_base.specs.declared.level.Level.{Level}
use Rattle.cell_base.specs.declared.level.Level.TheVariants.{Rc}
use Rattle.cell_base.specs.declared.value.Value.{Value}
use Rattle.cell_base.specs.declared.value.Value.TheVariants as values
use Rattle.history_core.specs.declared.event.Event.{Event}
use Rattle.history_core.specs.declared.event.Event.TheVariants.{Open, Close, Define, Look, Begin, Scan, Read, Own, Write, Commit, Rollback, Show}
use Rattle.history_log.specs.declared.draft.Draft.{Draft}
use Rattle.history_log.specs.declared.draft.Place.{Place}
use Rattle.history_log.specs.declared.draft.Place.TheVariants.{Body, Done}
use Rattle.history_log.specs.declared.log_fault.LogFault.{LogFault}
use Rattle.history_log.specs.declared.log_fault.LogFault.TheVariants as faults
use Rattle.history_log.specs.declared.trace.Trace.{Trace}
use Rattle.history_log.specs.declared.version.Version.{Version}
use Rattle.history_log.specs.declared.version.Version.TheVariants.{Two}
use Rattle.history_log.specs.Cut.{cut_at, Lacks}
use Rattle.history_log.specs.Spelling.{head_line, event_line, initial_line, lines, whole_lines}
use Rattle.history_log.specs.Log.{CanSay, IsLog, IsNotWide, HasNoWide, AreEventsIn, IsInitialCell}
use Rattle.history_log.specs.Reading.{FitsValue, FitsEvent, IsEventIn}
use Rattle.history_log.specs.Draft.{IsRight, IsInitialSoFar, said, ending}
use Rattle.history_log.specs.Faults.{CanGoOn, IsBadLine, IsCutShort, HasFewBytes, HasFault, HasLineFault}
use Rattle.history_log.proofs.Cuts.{cut_first, cut_last, joined_cut}
use Rattle.history_log.proofs.Going.{cells_so_far}
use Rattle.history_log.proofs.GoesOn.{goes_on, not_whole, initial_in}

cut_cons : (byte : ℕ) (text : List ℕ) → (part : List ℕ) × (more : List (List ℕ)) × (cut_at byte text ≡ part ∷ more)
unfolding cut_at
cut_cons byte [] = ([], [], refl)
cut_cons byte (x ∷ xs) =
    let r = cut_cons byte xs in
    cond_both (x == byte) ([] ∷ slice_split (λ y. y == byte) xs) (onto_first x (slice_split (λ y. y == byte) xs)) (λ (zs : List (List ℕ)). (part : List ℕ) × (more : List (List ℕ)) × (zs ≡ part ∷ more))
    (λ e. ([], slice_split (λ y. y == byte) xs, refl)) (λ e. (x ∷ r.0, r.1, ap (onto_first x) r.2))

snoc : (part : List ℕ) (more : List (List ℕ)) → (front : List (List ℕ)) × (end : List ℕ) × (part ∷ more ≡ front ++ end ∷ [])
snoc part [] = ([], part, refl)
snoc part (next ∷ more) = let r = snoc next more in (part ∷ r.0, r.1, ap (λ (zs : List (List ℕ)). part ∷ zs) r.2)

cut_snoc : (text : List ℕ) → (front : List (List ℕ)) × (end : List ℕ) × (cut_at 10 text ≡ front ++ end ∷ [])
cut_snoc text = let c = cut_cons 10 text in let s = snoc c.0 c.1 in (s.0, s.1, c.2 ∙ s.2)

pub snoc_same : (xs ys : List (List ℕ)) (a b : List ℕ) → xs ++ a ∷ [] ≡ ys ++ b ∷ [] → (xs ≡ ys) × (a ≡ b)
snoc_same [] [] a b e = (refl, cc)
snoc_same [] (y ∷ []) a b e = absurd (cc)
snoc_same [] (y ∷ z ∷ ys) a b e = absurd (cc)
snoc_same (x ∷ []) [] a b e = absurd (cc)
snoc_same (x ∷ z ∷ xs) [] a b e = absurd (cc)
snoc_same (x ∷ xs) (y ∷ ys) a b e =
    let r = snoc_same xs ys a b (cc) in
    let h : x ≡ y = cc in
    (ap (λ (z : List ℕ). z ∷ xs) h ∙ ap (λ (zs : List (List ℕ)). y ∷ zs) r.0, r.1)

pub bad_line : (d : Draft) → IsRight d → (parts : List (List ℕ)) (text after : List ℕ) (n : ℕ) → parts ≡ said d ++ (text ∷ cut_at 10 after) → length (said d) + 1 ≡ n
    → (CanGoOn (said d ++ text ∷ []) → ⊥) → (2 ≤ n) × IsBadLine parts n
bad_line d right parts text after n e count stops =
    let s = cut_snoc after in (
      omega (arith, count),
      record {
        before = said d;
        text = text;
        more = s.0;
        rest = s.1;
        cut = e ∙ ap (λ (z : List (List ℕ)). said d ++ (text ∷ z)) s.2 ∙ sym (append_assoc (said d) (text ∷ s.0) (s.1 ∷ []));
        place = count;
        begins = goes_on d right;
        stops = stops;
      },
    )

pub cut_short : (d : Draft) → IsRight d → (rest : List ℕ) → ((d.place ≢ Done) ⊎ (rest ≢ [])) → IsCutShort (said d ++ rest ∷ [])
cut_short d right rest unfinished = record { whole = said d; rest = rest; cut = refl; begins = goes_on d right; no_log = no_log unfinished } where
  no_log : ((d.place ≢ Done) ⊎ (rest ≢ [])) → (v : Version) (t : Trace) → CanSay v t → said d ++ rest ∷ [] ≡ lines v t ++ [] ∷ [] → ⊥
  no_log (inl h) v t says e = not_whole d right h v t says (snoc_same (said d) (lines v t) rest [] e).0
  no_log (inr h) v t says e = h (snoc_same (said d) (lines v t) rest [] e).1

-- a step of the loop

pub step_parts : (parts before after : List (List ℕ)) (rest text next : List ℕ) → parts ≡ before ++ cut_at 10 rest → rest ≡ text ++ 10 ∷ next → Lacks 10 text → after ≡ before ++ text ∷ []
    → parts ≡ after ++ cut_at 10 next
step_parts parts before after rest text next e cut lacks said =
    e ∙ ap (λ (z : List ℕ). before ++ cut_at 10 z) cut ∙ ap (λ (z : List (List ℕ)). before ++ z) (cut_first 10 text next lacks)
    ∙ sym (append_assoc before (text ∷ []) (cut_at 10 next)) ∙ ap (λ (z : List (List ℕ)). z ++ cut_at 10 next) (sym said)

pub line_parts : (parts before : List (List ℕ)) (rest text next : List ℕ) → parts ≡ before ++ cut_at 10 rest → rest ≡ text ++ 10 ∷ next → Lacks 10 text → parts ≡ before ++ (text ∷ cut_at 10 next)
line_parts parts before rest text next e cut lacks =
    e ∙ ap (λ (z : List ℕ). before ++ cut_at 10 z) cut ∙ ap (λ (z : List (List ℕ)). before ++ z) (cut_first 10 text next lacks)

pub last_parts : (parts before : List (List ℕ)) (rest : List ℕ) → parts ≡ before ++ cut_at 10 rest → Lacks 10 rest → parts ≡ before ++ rest ∷ []
last_parts parts before rest e lacks = e ∙ ap (λ (z : List (List ℕ)). before ++ z) (cut_last 10 rest lacks)

pub step_count : (before after : List (List ℕ)) (text : List ℕ) (n : ℕ) → length before ≡ n → after ≡ before ++ text ∷ [] → length after ≡ n + 1
step_count before after text n e said = let h = ap length said in let l = length-append before (text ∷ []) in omega (arith, h, l, e)

pub step_room : (rest text next : List ℕ) (n : ℕ) → rest ≡ text ++ 10 ∷ next → n + length rest ≤ 268435456 → (n + 1 + length next ≤ 268435456) × (length next < length rest)
step_room rest text next n e room =
    let h = ap length e in let l = length-append text (10 ∷ next) in (omega (arith, h, l, room), omega (arith, h, l))

-- the whole text

joined_lines : (ls : List (List ℕ)) → join_with_byte 10 (ls ++ [] ∷ []) ≡ whole_lines ls
joined_lines [] = refl
joined_lines (l ∷ []) = refl
joined_lines (l ∷ m ∷ ls) = ap (λ (z : List ℕ). l ++ 10 ∷ z) (joined_lines (m ∷ ls))

pub is_log : (d : Draft) → IsRight d → d.place ≡ Done → (bytes : List ℕ) → cut_at 10 bytes ≡ said d ++ [] ∷ [] → IsLog d.version d.trace bytes
is_log d right at bytes e = record {
  says = record { initial = initial_in d.version d.trace.initial right.initial (right.begun (inl other)); events = right.events; order = right.order };
  text = joined_cut 10 bytes (said d ++ [] ∷ []) e ∙ joined_lines (said d)
      ∙ ap (λ (p : Place). whole_lines (head_line d.version d.trace.level ∷ (map initial_line d.trace.initial ++ (map (event_line d.version) d.trace.events ++ ending p d.trace.order)))) at;
} where
  other : d.place ≢ Body
  other b = differ (sym at ∙ b) where
    differ : Done ≡ Body → ⊥
    differ e = cc

pub nothing_yet : CanGoOn []
nothing_yet = record {
  version = Two;
  trace = record { level = Rc; initial = []; events = []; order = [] };
  more = lines Two (record { level = Rc; initial = []; events = []; order = [] });
  says = record { initial = refl; events = tt; order = tt };
  goes = refl;
}

pub no_feed : (bytes : List ℕ) → Lacks 10 bytes → IsCutShort (cut_at 10 bytes)
no_feed bytes lacks = record {
  whole = [];
  rest = bytes;
  cut = cut_last 10 bytes lacks;
  begins = nothing_yet;
  no_log = λ v t says e. longer _ (sym (cut_last 10 bytes lacks) ∙ e);
} where
  none : (xs : List (List ℕ)) → [] ≡ xs ++ [] ∷ [] → ⊥
  none [] e = cc
  none (x ∷ xs) e = cc

  tails : {a b : List ℕ} {xs ys : List (List ℕ)} → a ∷ xs ≡ b ∷ ys → xs ≡ ys
  tails e = cc

  longer : {a b : List ℕ} (xs : List (List ℕ)) → a ∷ [] ≡ (b ∷ xs) ++ [] ∷ [] → ⊥
  longer xs e = none xs (tails e)

pub bad_head : (bytes text after : List ℕ) → bytes ≡ text ++ 10 ∷ after → Lacks 10 text → ((v : Version) (l : Level) → text ≡ head_line v l → ⊥) → IsBadLine (cut_at 10 bytes) 1
bad_head bytes text after e lacks fails =
    let s = cut_snoc after in
    record {
      before = [];
      text = text;
      more = s.0;
      rest = s.1;
      cut = ap (cut_at 10) e ∙ cut_first 10 text after lacks ∙ ap (λ (z : List (List ℕ)). text ∷ z) s.2;
      place = refl;
      begins = nothing_yet;
      stops = λ g. fails g.version g.trace.level (sym (heads g.goes));
    } where
      heads : {a b : List ℕ} {xs ys : List (List ℕ)} → a ∷ xs ≡ b ∷ ys → a ≡ b
      heads e = cc

pub whole_fault : (bytes : List ℕ) (parts : List (List ℕ)) (fault : LogFault) → HasFewBytes bytes → cut_at 10 bytes ≡ parts → HasLineFault parts fault → HasFault bytes fault
whole_fault bytes parts faults.TooLong within e has = absurd has
whole_fault bytes parts faults.Version within e has = absurd has
whole_fault bytes parts (faults.Line n) within e has = (within, has.0, subst (λ (z : List (List ℕ)). IsBadLine z n) (sym e) has.1)
whole_fault bytes parts faults.Cut within e has = (within, subst (λ (z : List (List ℕ)). IsCutShort z) (sym e) has)
whole_fault bytes parts faults.Memory within e has = has

-- what was read has no wide value

not_wide : (v : Value) → FitsValue v → IsNotWide v
not_wide values.Unset fits = tt
not_wide values.Null fits = tt
not_wide (values.Flag flag) fits = tt
not_wide (values.Int n) fits = tt
not_wide (values.Wide n) fits = fits
not_wide (values.Text bytes) fits = tt

event_not_wide : (e : Event) → FitsEvent e → HasNoWide e
event_not_wide (Open s) fits = tt
event_not_wide (Close s) fits = tt
event_not_wide (Define s name) fits = tt
event_not_wide (Look s n) fits = tt
event_not_wide (Begin s level) fits = tt
event_not_wide (Scan s table listed) fits = tt
event_not_wide (Read s cell source count word value) fits = not_wide value fits.5
event_not_wide (Own s cell value) fits = not_wide value fits.2
event_not_wide (Write s cell value) fits = not_wide value fits.2
event_not_wide (Commit s) fits = tt
event_not_wide (Rollback s) fits = tt
event_not_wide (Show s n) fits = tt

all_from : {X : Type 0} (P Q : X → Type 0) (f : (x : X) → P x → Q x) (xs : List X) → AllByRecursion P xs → All Q xs
all_from P Q f [] all k d lt = absurd (omega arith)
all_from P Q f (x ∷ xs) all zero d lt = f x all.0
all_from P Q f (x ∷ xs) all (suc k) d lt = all_from P Q f xs all.1 k d (omega arith)

pub events_not_wide : (v : Version) (head : Level) (es : List Event) → AreEventsIn v head es → All HasNoWide es
events_not_wide v head es are = all_from (λ (e : Event). FitsEvent e × IsEventIn v head e) HasNoWide (λ e p. event_not_wide e p.0) es are

pub rows_not_wide : (v : Version) (rows : List (Cell × Value)) → IsInitialSoFar v rows → All (λ x. IsNotWide x.1) rows
rows_not_wide v rows are = all_from IsInitialCell (λ x. IsNotWide x.1) (λ x p. not_wide x.1 p.1) rows (cells_so_far v rows are)
