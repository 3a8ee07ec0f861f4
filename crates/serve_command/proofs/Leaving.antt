-- The parts of workers that leave one after another.
use Rattle.std.proofs.Common.{◌≡◌, ◌+◌, ℕ, suc, List, [], ◌∷◌, ◌++◌, length, map, Option, None, Some, refl, sym, ◌∙◌, ap, subst, arith, length-append}
use Rattle.std.specs.Prelude.{All}
use Rattle.std.proofs.lemmas.List.{append-nil, append_assoc, map-append}
use Rattle.std.proofs.lemmas.List.Elements.{All-head, All-tail}
use Rattle.cell_base.specs.declared.level.Level.{Level}
use Rattle.link_traits.specs.declared.host.HostFault.{HostFault}
use Rattle.link_traits.specs.declared.host.HostFault.TheVariants as faults
use Rattle.rand_chacha.specs.ChaCha.{ChaCha}
use Rattle.choice_stream.specs.Seeds.{Draws, stream_front}
use Rattle.turn_lock.specs.Passes.{PassValue, Joined, lists_of}
use Rattle.history_core.specs.declared.event.Event.{Event}
use Rattle.history_core.specs.Chronicle.{Chronicle}
use Rattle.history_book.specs.Book.{Past}
use Rattle.doors.specs.Passage.{Passage, IsUnused}
use Rattle.door_workers.specs.Visits.{AreVisits, events_of_visits, went_of, came_of}
use Rattle.door_workers.specs.declared.worker.Worker.{Worker}
use Rattle.door_workers.specs.Workers.{AreNextOf, faults_after, Ceases}
use Rattle.shared_book.specs.declared.entry.Entry.{Entry}
use Rattle.shared_book.specs.Entries.{events_of, event_lists, key_of, chronicle_of}
use Rattle.shared_book.specs.Fronts.{IsFrontOf}
use Rattle.shared_book.specs.Books.{BookValue, fresh_book, past_of}
use Rattle.serve_command.specs.Parts.{Part, IsPart, AreParts, begins_with, worse, worst_of}
use Rattle.serve_command.specs.Manning.{HasEnded, HaveEnded}
use Rattle.door_workers.proofs.Visiting.{own_of_visits}

-- ---- parts

pub parts_push : (level : Level) (begun history : Chronicle) (seed most stream : ℕ) (befores : List Passage) (parts : List Part) (afters : List Passage) (before : Passage) (part : Part)
    (after : Passage) → AreParts level begun history seed most stream befores parts afters → IsPart level begun history seed most (stream + length befores) before part after →
    AreParts level begun history seed most stream (befores ++ before ∷ []) (parts ++ part ∷ []) (afters ++ after ∷ [])
parts_push level begun history seed most stream [] [] [] before part after are is =
    (subst (λ (n : ℕ). IsPart level begun history seed most n before part after) (omega arith) is, tt)
parts_push level begun history seed most stream (b ∷ befores) (p ∷ parts) (a ∷ afters) before part after are is = (
  are.0,
  parts_push level begun history seed most (suc stream) befores parts afters before part after are.1
      (subst (λ (n : ℕ). IsPart level begun history seed most n before part after) (omega arith) is),
)
parts_push level begun history seed most stream [] [] (a ∷ afters) before part after are is = absurd are
parts_push level begun history seed most stream [] (p ∷ parts) afters before part after are is = absurd are
parts_push level begun history seed most stream (b ∷ befores) [] afters before part after are is = absurd are
parts_push level begun history seed most stream (b ∷ befores) (p ∷ parts) [] before part after are is = absurd are

worse_none : (fault : Option HostFault) → worse fault None ≡ fault
worse_none None = refl
worse_none (Some faults.Memory) = refl
worse_none (Some faults.Failed) = refl

worse_assoc : (a b c : Option HostFault) → worse a (worse b c) ≡ worse (worse a b) c
worse_assoc None b c = refl
worse_assoc (Some faults.Memory) b c = refl
worse_assoc (Some faults.Failed) None c = refl
worse_assoc (Some faults.Failed) (Some faults.Memory) c = refl
worse_assoc (Some faults.Failed) (Some faults.Failed) None = refl
worse_assoc (Some faults.Failed) (Some faults.Failed) (Some faults.Memory) = refl
worse_assoc (Some faults.Failed) (Some faults.Failed) (Some faults.Failed) = refl

pub worst_push : (parts : List Part) (part : Part) → worst_of (parts ++ part ∷ []) ≡ worse (worst_of parts) part.fault
worst_push [] part = worse_none part.fault
worst_push (p ∷ parts) part = ap (λ (f : Option HostFault). worse p.fault f) (worst_push parts part) ∙ worse_assoc p.fault (worst_of parts) part.fault

-- ---- a worker's part

pub record ItsPart {D : Type 0} (passage : D → Passage) (level : Level) (begun history : Chronicle) (seed accept stream : ℕ) (before : Passage) (worker : Worker BookValue D ChaCha) : Type 0 where
  pub part : Part
  pub is : IsPart level begun history seed accept stream before part (passage worker.door)
  pub own : events_of worker.book.pass.own ≡ events_of_visits part.visits
  pub kept : worker.book.pass.kept ≡ []
  pub fault : part.fault ≡ worker.fault

module _ {D : Type 0} (passage : D → Passage) (level : Level) (begun history : Chronicle) (pass : PassValue Entry) (seed accept : ℕ)
    (new : past_of (fresh_book pass) ≡ begins_with begun) (none_kept : pass.kept ≡ []) where
  pub its_part : (stream : ℕ) (before : Passage) (worker : Worker BookValue D ChaCha) → IsUnused before →
      IsFrontOf (chronicle_of worker.book.pass.seen) history → HasEnded passage level pass seed accept stream before worker →
      ItsPart passage level begun history seed accept stream before worker
  its_part stream before worker unused saw has_ended =
      let began = has_ended.began in
      let attended = has_ended.worked.attended in
      let first : past_of began.book ≡ begins_with begun = ap past_of has_ended.begins.book ∙ new in
      let door : passage began.door ≡ before = ap passage has_ended.begins.door_is ∙ has_ended.before_is in
      let visits : AreVisits Draws level (begins_with begun) (stream_front seed stream) attended.visits (past_of worker.book) worker.words =
      subst (λ (w : ChaCha). AreVisits Draws level (begins_with begun) w attended.visits (past_of worker.book) worker.words) has_ended.begins.words
      (subst (λ (p : Past). AreVisits Draws level p began.words attended.visits (past_of worker.book) worker.words) first attended.are_visits) in
      let none_accepted : (passage began.door).accepted ≡ 0 = ap (λ (p : Passage). p.accepted) door ∙ unused.accepted in
      record {
        part = record { visits = attended.visits; fault = worker.fault };
        is = record {
          past = past_of worker.book;
          words = worker.words;
          are_visits = visits;
          saw = saw;
          accepted = omega (arith, attended.accepted, none_accepted, attended.number_is);
          back = attended.back ∙ ap (λ (p : Passage). p.back ++ map went_of attended.visits) door
              ∙ ap (λ l. l ++ map went_of attended.visits) unused.back;
          to_come = subst (λ (p : Passage). AreNextOf (map came_of attended.visits) p.to_come (passage worker.door).to_come) door attended.to_come;
          faults = has_ended.worked.faults ∙ ap (λ (p : Passage). faults_after worker.fault p.faults) door
              ∙ ap (λ (n : ℕ). faults_after worker.fault n) unused.faults;
          ceases = subst (λ (n : ℕ). Ceases worker.fault n accept (passage worker.door).to_come) (sym attended.number_is)
              (subst (λ (n : ℕ). Ceases worker.fault has_ended.worked.number n (passage worker.door).to_come) has_ended.begins.accept_is has_ended.worked.ceases);
        };
        own = own_of_visits Draws level (begins_with begun) (stream_front seed stream) attended.visits (past_of worker.book) worker.words visits;
        kept = attended.stays.kept ∙ ap (λ (b : BookValue). b.pass.kept) has_ended.begins.book ∙ none_kept;
        fault = refl;
      }

-- the lists of a pass into which that of a worker was joined
pub lists_joined : (into from after : PassValue Entry) → Joined key_of into from after → from.kept ≡ [] →
    event_lists after ≡ event_lists into ++ events_of from.own ∷ []
lists_joined into from after joined none =
    (λ i. events_of (joined.own i) ∷ map events_of (joined.kept i))
    ∙ ap (λ l. events_of into.own ∷ l) (map-append events_of into.kept (lists_of from) ∙ ap (λ l. map events_of into.kept ++ l) (ap (λ l. events_of from.own ∷ map events_of l) none))

-- ---- one worker after another

-- a door after the first ones
unused_at : (gone : List Passage) (before : Passage) (rest : List Passage) → All IsUnused (gone ++ before ∷ rest) → IsUnused before
unused_at [] before rest unused = All-head IsUnused before rest unused
unused_at (g ∷ gone) before rest unused = unused_at gone before rest (All-tail IsUnused g (gone ++ before ∷ rest) unused)

module _ {D : Type 0} (passage : D → Passage) (level : Level) (begun history : Chronicle) (start : PassValue Entry) (seed accept : ℕ) where
  -- these doors are back, and these workers are still there
  abbrev pub IsLeft : List Passage → List D → List (Worker BookValue D ChaCha) → PassValue Entry → PassValue Entry → Option HostFault → Type 0
  IsLeft opened doors workers first pass fault =
      (gone : List Passage) × (rest : List Passage) × (parts : List Part) × (opened ≡ gone ++ rest)
      × AreParts level begun history seed accept 0 gone parts (map passage doors)
      × HaveEnded passage level start seed accept (length gone) rest workers
      × (event_lists pass ≡ event_lists first ++ map (λ part. events_of_visits part.visits) parts) × (fault ≡ worst_of parts)

  last_same : {X : Type 0} (xs ys : List X) (x y : X) → xs ++ x ∷ [] ≡ ys ++ y ∷ [] → (xs ≡ ys) × (x ≡ y)
  last_same [] [] x y same = (refl, cc)
  last_same [] (b ∷ ys) x y same = absurd (too_few ys y (ap length same))
    where
      too_few : {X : Type 0} (ys : List X) (y : X) → 1 ≡ suc (length (ys ++ y ∷ [])) → ⊥
      too_few ys y e = omega (arith, e, length-append ys (y ∷ []))
  last_same (a ∷ xs) [] x y same = absurd (too_many xs x (ap length same))
    where
      too_many : {X : Type 0} (xs : List X) (x : X) → suc (length (xs ++ x ∷ [])) ≡ 1 → ⊥
      too_many xs x e = omega (arith, e, length-append xs (x ∷ []))
  last_same (a ∷ xs) (b ∷ ys) x y same =
      let tails : xs ++ x ∷ [] ≡ ys ++ y ∷ [] = cc in
      let heads : a ≡ b = cc in
      let later = last_same xs ys x y tails in
      ((λ i. heads i ∷ later.0 i), later.1)

  pub left_one_more : (opened : List Passage) (doors more : List D) (workers fewer : List (Worker BookValue D ChaCha)) (worker : Worker BookValue D ChaCha)
      (first pass after : PassValue Entry) (fault now : Option HostFault) → past_of (fresh_book start) ≡ begins_with begun → start.kept ≡ [] →
      All IsUnused opened → IsFrontOf (chronicle_of worker.book.pass.seen) history → workers ≡ fewer ++ worker ∷ [] →
      more ≡ doors ++ worker.door ∷ [] → Joined key_of pass worker.book.pass after → now ≡ worse fault worker.fault → IsLeft opened doors workers first pass fault → IsLeft opened more fewer first after now
  left_one_more opened doors more workers fewer worker first pass after fault now new kept unused saw is grown joined decided
      (gone, [], parts, whole, are, ended, lists, fault_is) =
      absurd (none_is fewer worker (sym is ∙ ended))
    where
      none_is : (xs : List (Worker BookValue D ChaCha)) (x : Worker BookValue D ChaCha) → xs ++ x ∷ [] ≡ [] → ⊥
      none_is [] x e = absurd (cc)
      none_is (a ∷ xs) x e = absurd (cc)
  left_one_more opened doors more workers fewer worker first pass after fault now new kept unused saw is grown joined decided
      (gone, before ∷ rest, parts, whole, are, (front, last, last_is, has_ended, others), lists, fault_is) =
      let same = last_same fewer front worker last (sym is ∙ last_is) in
      let mine = its_part passage level begun history start seed accept new kept (length gone) before last
      (unused_at gone before rest (subst (λ (l : List Passage). All IsUnused l) whole unused))
      (subst (λ (w : Worker BookValue D ChaCha). IsFrontOf (chronicle_of w.book.pass.seen) history) same.1 saw) has_ended in
      let door : worker.door ≡ last.door = ap (λ (w : Worker BookValue D ChaCha). w.door) same.1 in
      let pass_is : worker.book.pass ≡ last.book.pass = ap (λ (w : Worker BookValue D ChaCha). w.book.pass) same.1 in
      let count : length (gone ++ before ∷ []) ≡ suc (length gone) = omega (arith, length-append gone (before ∷ [])) in
      let at_zero : length gone ≡ 0 + length gone = omega arith in
      let back : map passage more ≡ map passage doors ++ passage last.door ∷ [] =
      ap (map passage) grown ∙ map-append passage doors (worker.door ∷ []) ∙ ap (λ (d : D). map passage doors ++ passage d ∷ []) door in
      let events : events_of worker.book.pass.own ≡ events_of_visits mine.part.visits = ap (λ (p : PassValue Entry). events_of p.own) pass_is ∙ mine.own in
      let no_kept : worker.book.pass.kept ≡ [] = ap (λ (p : PassValue Entry). p.kept) pass_is ∙ mine.kept in
      let whats : Part → List Event = λ part. events_of_visits part.visits in (
        gone ++ before ∷ [],
        rest,
        parts ++ mine.part ∷ [],
        whole ∙ sym (append_assoc gone (before ∷ []) rest),
        subst (λ (l : List Passage). AreParts level begun history seed accept 0 (gone ++ before ∷ []) (parts ++ mine.part ∷ []) l) (sym back)
            (parts_push level begun history seed accept 0 gone parts (map passage doors) before mine.part (passage last.door) are
            (subst (λ (n : ℕ). IsPart level begun history seed accept n before mine.part (passage last.door)) at_zero mine.is)),
        subst (λ (n : ℕ). HaveEnded passage level start seed accept n rest fewer) (sym count)
            (subst (λ (l : List (Worker BookValue D ChaCha)). HaveEnded passage level start seed accept (suc (length gone)) rest l) (sym same.0) others),
        lists_joined pass worker.book.pass after joined no_kept ∙ ap (λ l. l ++ events_of worker.book.pass.own ∷ []) lists
            ∙ append_assoc (event_lists first) (map whats parts) (events_of worker.book.pass.own ∷ [])
            ∙ ap (λ l. event_lists first ++ l) (ap (λ (es : List Event). map whats parts ++ es ∷ []) events ∙ sym (map-append whats parts (mine.part ∷ []))),
        decided ∙ ap (λ (f : Option HostFault). worse f worker.fault) fault_is
            ∙ ap (λ (f : Option HostFault). worse (worst_of parts) f) (ap (λ (w : Worker BookValue D ChaCha). w.fault) same.1 ∙ sym mine.fault)
            ∙ sym (worst_push parts mine.part),
      )

  -- where no worker is left, all doors are back
  pub none_left_over : (opened gone rest : List Passage) (parts : List Part) (afters : List Passage) (workers : List (Worker BookValue D ChaCha)) →
      opened ≡ gone ++ rest → workers ≡ [] → HaveEnded passage level start seed accept (length gone) rest workers →
      AreParts level begun history seed accept 0 gone parts afters → AreParts level begun history seed accept 0 opened parts afters
  none_left_over opened gone [] parts afters workers whole none ended are =
      subst (λ (l : List Passage). AreParts level begun history seed accept 0 l parts afters) (sym (whole ∙ append-nil gone)) are
  none_left_over opened gone (before ∷ rest) parts afters workers whole none (front, last, last_is, has_ended, others) are =
      absurd (never front last (sym last_is ∙ none))
    where
      never : (xs : List (Worker BookValue D ChaCha)) (x : Worker BookValue D ChaCha) → xs ++ x ∷ [] ≡ [] → ⊥
      never [] x e = absurd (cc)
      never (a ∷ xs) x e = absurd (cc)
