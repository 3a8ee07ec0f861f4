-- What later reads see by the reads before them.
use Rattle.std.proofs.Common.{◌≡◌, ℕ, ◌+◌, ◌<◌, ◌≤◌, zero, suc, List, Option, Some, None, length, get_or, set, replicate, get_or-set_same, get_or-set_other, arith, refl, ap, sym, ◌∙◌, subst, inl, inr, ◌⊎◌, ◌↔◌}
use Rattle.std.specs.List.{Contains, slice_get}
use Rattle.std.proofs.lemmas.List.{length-set, length-replicate}
use Rattle.std.proofs.lemmas.Option.{slice_get_within}
use Rattle.std.proofs.lemmas.Bool.{cases_eq}
use Rattle.txn_buffer.proofs.Lists.{at_contains, contains_at}
use Rattle.cell_base.specs.declared.level.Level.TheVariants.{Rc}
use Rattle.cell_base.specs.declared.cell.Cell.{Cell}
use Rattle.history_core.specs.declared.event.Event.{Event}
use Rattle.history_core.specs.declared.event.Event.TheVariants.{Read}
use Rattle.history_core.specs.declared.txn.Seen.{Seen}
use Rattle.history_core.specs.declared.txn.Txn.{Txn}
use Rattle.history_core.specs.Events.{begun}
use Rattle.history_core.specs.Relations.{ReadsBefore, Gives}
use Rattle.history_core.specs.Records.{IsRecordOf}
use Rattle.history_core.proofs.Prefixes.{IsSound}
use Rattle.saturation.specs.Views.{number_of, source_of}
use Rattle.saturation.proofs.Sights.{seen_from_gives, seen_number}
use Rattle.saturation.proofs.After.{size_after, before_kept, before_back}
use Rattle.saturation.proofs.Decides.{committed_bounded}
use Rattle.axiom_base.specs.Sights.{IsAfter, Sees, IsSight, IsSightWith}
use Rattle.axiom_rc.specs.Notes.{Notes}
use Rattle.axiom_rc.proofs.Unlisted.{gives_some}

-- one of the first reads is from the writer, and the event of the number comes after it
pub record IsNoted (all : List Seen) (count number writer : ℕ) : Type 0 where
  pub place : ℕ
  pub below : place < count
  pub seen : Seen
  pub is : slice_get all place ≡ Some seen
  pub source_is : writer ≡ source_of seen
  pub earlier : number_of seen < number

-- the first reads are noted
pub record AreNotes (size : ℕ) (all : List Seen) (count : ℕ) (since : List (Option ℕ)) : Type 0 where
  pub size_is : length since ≡ size
  pub exact : (number writer : ℕ) → Sees since number writer ↔ IsNoted all count number writer

none_anywhere : (n writer : ℕ) → get_or (replicate {A = Option ℕ} n None) writer None ≡ None
none_anywhere zero writer = refl
none_anywhere (suc n) zero = refl
none_anywhere (suc n) (suc writer) = none_anywhere n writer

pub notes_none : (size : ℕ) (all : List Seen) → AreNotes size all 0 (replicate size None)
notes_none size all = record {
  size_is = length-replicate {A = Option ℕ} size None;
  exact = λ number writer. (
    λ sees. absurd (subst (λ (o : Option ℕ). IsAfter o number) (none_anywhere size writer) sees),
    λ noted. let h = noted.below in absurd (omega arith),
  );
}

pub notes_more :
    (size : ℕ) (all : List Seen) (count : ℕ) (seen : Seen) (old new : List (Option ℕ)) → slice_get all count ≡ Some seen → Notes old seen new →
    AreNotes size all count old → AreNotes size all (count + 1) new
notes_more size all count seen old new at notes are = record {
  size_is = notes.size ∙ are.size_is;
  exact = λ number writer. (
    λ sees. elim ((notes.exact number writer).0 sees) [
      | inl before ↦
          let noted = (are.exact number writer).0 before in
          let h = noted.below in
          record { place = noted.place; below = omega arith; seen = noted.seen; is = noted.is; source_is = noted.source_is; earlier = noted.earlier }
      | inr now ↦ record { place = count; below = omega arith; seen = seen; is = at; source_is = now.0; earlier = now.1 }
    ],
    λ noted. (notes.exact number writer).1 (elim (cases_eq noted.place count) [
      | inr other ↦
          let h = noted.below in
          inl ((are.exact number writer).1 record {
            place = noted.place;
            below = omega arith;
            seen = noted.seen;
            is = noted.is;
            source_is = noted.source_is;
            earlier = noted.earlier;
          })
      | inl same ↦
          let there : slice_get all count ≡ Some noted.seen = subst (λ (i : ℕ). slice_get all i ≡ Some noted.seen) same noted.is in
          let one : Some noted.seen ≡ Some seen = sym there ∙ at in
          let is : noted.seen ≡ seen = cc in
          inr (noted.source_is ∙ ap source_of is, subst (λ (y : Seen). number_of y < number) is noted.earlier)
    ]),
  );
}

-- ---- the reads of the record

pub source_bounded : (events : List Event) → IsSound events → (k : ℕ) (txn : Txn) (seen : Seen) → IsRecordOf events k txn → Contains txn.seen seen → source_of seen < begun events + 1
source_bounded events sound k txn seen is member =
    let saw = (is.seen seen).0 member in
    let some = gives_some saw.event (saw.place + 1) seen saw.shows in
    committed_bounded events (source_of seen)
    (sound.sources k saw.place some.0 (source_of seen) record { event = saw.event; of_reader = saw.of; gives = some.1 })

noted_before :
    (events : List Event) (k p writer count : ℕ) (txn : Txn) → IsRecordOf events k txn → IsNoted txn.seen count (p + 1) writer → ReadsBefore events k p writer
noted_before events k p writer count txn is noted =
    let saw = (is.seen noted.seen).0 (contains_at txn.seen noted.place noted.seen noted.is) in
    let some = gives_some saw.event (saw.place + 1) noted.seen saw.shows in
    let number : number_of noted.seen ≡ saw.place + 1 = seen_number saw.event (saw.place + 1) noted.seen saw.shows in
    let h = noted.earlier in
    record {
      earlier = saw.place;
      cell = some.0;
      below = omega arith;
      reads = record { event = saw.event; of_reader = saw.of; gives = subst (λ (w : ℕ). Gives saw.event some.0 w) (sym noted.source_is) some.1 };
    }

before_noted :
    (events : List Event) (k p writer count : ℕ) (txn : Txn) → length txn.seen ≤ count → IsRecordOf events k txn → ReadsBefore events k p writer →
    IsNoted txn.seen count (p + 1) writer
before_noted events k p writer count txn end is before =
    let some = seen_from_gives before.reads.event (before.earlier + 1) before.cell writer before.reads.gives in
    let member : Contains txn.seen some.0 =
    (is.seen some.0).1 record { place = before.earlier; event = before.reads.event; of = before.reads.of_reader; shows = some.1.shown } in
    let at = at_contains txn.seen some.0 member in
    let within = slice_get_within txn.seen at.0 some.0 at.1 in
    let number = some.1.number_is in
    let h = before.below in
    record { place = at.0; below = omega arith; seen = some.0; is = at.1; source_is = some.1.source_is; earlier = omega arith }

pub notes_whole :
    (events : List Event) (k count : ℕ) (txn : Txn) (since : List (Option ℕ)) → IsRecordOf events k txn → length txn.seen ≤ count →
    AreNotes (begun events + 1) txn.seen count since → IsSight Rc events k since
notes_whole events k count txn since is end are = λ limit. record {
  size = are.size_is;
  exact = λ p writer within. (
    λ sees. noted_before events k p writer count txn is ((are.exact (p + 1) writer).0 sees),
    λ before. (are.exact (p + 1) writer).1 (before_noted events k p writer count txn end is before),
  );
}

-- a further read shows its source to later reads alone
pub sight_stays :
    (events : List Event) (k : ℕ) (x : Cell) (w : ℕ) (since : List (Option ℕ)) → IsSight Rc events k since → IsSightWith Rc events k x w since
sight_stays events k x w since sight = λ s n u v pending. record {
  size = (sight 0).size ∙ ap (λ (m : ℕ). m + 1) (sym (size_after events s x w n u v));
  exact = λ p writer within. (
    λ sees. before_kept events (Read s x w n u v) k p writer (((sight (p + 1)).exact p writer (omega arith)).0 sees),
    λ before. ((sight (p + 1)).exact p writer (omega arith)).1 (before_back events (Read s x w n u v) k p writer (omega arith) before),
  );
}

-- ---- one read more

sees_at : (old : List (Option ℕ)) (at : ℕ) (new : Option ℕ) → at < length old → (number : ℕ) → Sees (set old at new) number at ↔ IsAfter new number
sees_at old at new within number =
    let is : get_or (set old at new) at None ≡ new = get_or-set_same old at new None within in (
      λ sees. subst (λ (o : Option ℕ). IsAfter o number) is sees,
      λ after. subst (λ (o : Option ℕ). IsAfter o number) (sym is) after,
    )

-- the note at the source is the earlier of the two
pub notes_set :
    (old : List (Option ℕ)) (seen : Seen) (event : ℕ) → source_of seen < length old →
    ((number : ℕ) → (event < number) ↔ (Sees old number (source_of seen) ⊎ (number_of seen < number))) → Notes old seen (set old (source_of seen) (Some event))
notes_set old seen event within first = record {
  size = length-set old (source_of seen) (Some event);
  exact = λ number writer. elim (cases_eq writer (source_of seen)) [
    | inl same ↦
        let at = sees_at old (source_of seen) (Some event) within number in (
          λ sees. elim ((first number).0 (at.0 (subst (λ (m : ℕ). Sees (set old (source_of seen) (Some event)) number m) same sees))) [
            | inl before ↦ inl (subst (λ (m : ℕ). Sees old number m) (sym same) before)
            | inr now ↦ inr (same, now)
          ],
          λ either. subst (λ (m : ℕ). Sees (set old (source_of seen) (Some event)) number m) (sym same) (at.1 ((first number).1 (elim either [
            | inl before ↦ inl (subst (λ (m : ℕ). Sees old number m) same before)
            | inr now ↦ inr now.1
          ]))),
        )
    | inr other ↦
        let stays : get_or (set old (source_of seen) (Some event)) writer None ≡ get_or old writer None =
        get_or-set_other old (source_of seen) writer (Some event) None other in (
          λ sees. inl (subst (λ (o : Option ℕ). IsAfter o number) stays sees),
          λ either. elim either [
            | inl before ↦ subst (λ (o : Option ℕ). IsAfter o number) (sym stays) before
            | inr now ↦ absurd (other now.0)
          ],
        )
  ];
}
