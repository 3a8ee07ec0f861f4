-- Two runs of the program over one input have one history, end alike and are told the same.
use Rattle.std.proofs.Common.{◌≡◌, ◌≢◌, inl, inr, ◌⊎◌, false, ℕ, ◌+◌, ◌<◌, ◌≤◌, List, [], ◌∷◌, ◌++◌, length, Option, Some, None, arith, refl, sym, ◌∙◌, ap, subst}
use Rattle.std.proofs.lemmas.List.{append-nil, length-append}
use Rattle.cell_base.specs.declared.level.Level.{Level}
use Rattle.link_traits.specs.Traffic.{Traffic, Both, Sight}
use Rattle.block_machine.specs.declared.end.End.{End}
use Rattle.block_machine.specs.declared.end.End.TheVariants as ends
use Rattle.session_core.specs.declared.served.Served.{Served as Outcome}
use Rattle.session_core.specs.Serve.{Account, Carries, Blames, IsAtEnd, most_read}
use Rattle.session_core.specs.Ends.{outer_end}
use Rattle.monkey_server.specs.Program.{ServesAlone}
use Rattle.program_laws.specs.OneHistory.{Served, WantsMore, EndsApart, EndsAlike, PipeHasOneHistory}
use Rattle.program_laws.proofs.HasOneHistory.{one_history}

served : (level : Level) (words : List ℕ) (f g : Sight) (outcome : Outcome) (a : ServesAlone level words f outcome g) →
    outcome.short ≡ false → outcome.end ≢ ends.WriteFault →
    Served level [] a.account.taken words a.past.seen a.rest a.account.sent outcome.end
served level words f g outcome a at_rest written = record {
  requests = a.serves.requests;
  es = a.account.entries;
  asked = a.account.calls;
  past = a.past;
  requests_are = a.serves.requests_are;
  told_is = a.serves.told_is;
  valid = a.serves.valid;
  history_is = refl;
  legal = a.legal;
  alone = a.events;
  at_rest = sym a.serves.short ∙ at_rest;
  written = written;
}

-- ---- what was taken of the input

-- how many bytes were taken, where an end came since more were wanted
abbrev pub Reached : End → ℕ → Type 0
Reached ends.Closed n = n < most_read
Reached ends.Cut n = n < most_read
Reached ends.Spent n = n ≡ most_read
Reached _ n = Unit {0}

-- What was taken stands at the front of the input. Where the session ended for lack of more, it is all of it, or as much as may be read.
record Takes (input taken : List ℕ) (end : End) : Type 0 where
  pub following : List ℕ
  pub split : input ≡ taken ++ following
  pub within : length taken ≤ most_read
  pub whole : WantsMore end → (following ≡ []) ⊎ (length taken ≡ most_read)

pub carried : (level : Level) (account : Account) (old new : Option Traffic) (t : Traffic) → Both (Carries level account) old new →
    old ≡ Some t → (u : Traffic) × (new ≡ Some u) × Carries level account t u
carried level account None None t both is = absurd (let h : None ≡ Some t = is in cc)
carried level account None (Some u) t both is = absurd both
carried level account (Some x) None t both is = absurd both
carried level account (Some x) (Some u) t both is =
    let same : x ≡ t = cc in (u, refl, subst (λ (z : Traffic). Carries level account z u) same both)

reaches : (end : End) (f g : Sight) (taken : List ℕ) → Blames (outer_end end) f g taken → Reached end (length taken)
reaches ends.Closed f g taken blames = blames.0
reaches ends.Cut f g taken blames = blames.0
reaches ends.Spent f g taken blames = blames
reaches _ f g taken blames = tt

at_end : (end : End) (f g : Sight) (taken : List ℕ) (u : Traffic) → Blames (outer_end end) f g taken → g.traffic ≡ Some u →
    end ≢ ends.ReadFault → WantsMore end → (u.left ≡ []) ⊎ (length taken ≡ most_read)
at_end ends.Closed f g taken u blames is reads wants = inl (subst IsAtEnd is blames.1)
at_end ends.Cut f g taken u blames is reads wants = inl (subst IsAtEnd is blames.1)
at_end ends.ReadFault f g taken u blames is reads wants = absurd (reads refl)
at_end ends.Spent f g taken u blames is reads wants = inr blames
at_end _ f g taken u blames is reads wants = absurd wants

takes : (level : Level) (words : List ℕ) (f g : Sight) (outcome : Outcome) (a : ServesAlone level words f outcome g) (t : Traffic) →
    f.traffic ≡ Some t → outcome.end ≢ ends.ReadFault → Takes t.left a.account.taken outcome.end
takes level words f g outcome a t is reads =
    let to = carried level a.account f.traffic g.traffic t a.serves.carries is in
    record {
      following = to.0.left;
      split = to.2.left;
      within = a.serves.within;
      whole = λ wants. at_end outcome.end f g a.account.taken to.0 a.serves.blames to.1 reads wants;
    }

-- ---- of two fronts of one list the one is a front of the other

-- the second is the first and more
record Longer (xs ys us bs : List ℕ) : Type 0 where
  pub more : List ℕ
  pub longer : ys ≡ xs ++ more
  pub between : us ≡ more ++ bs

fronts : (xs ys us bs : List ℕ) → xs ++ us ≡ ys ++ bs → Longer xs ys us bs ⊎ Longer ys xs bs us
fronts [] ys us bs same = inl record { more = ys; longer = refl; between = same }
fronts (x ∷ xs) [] us bs same = inr record { more = x ∷ xs; longer = refl; between = sym same }
fronts (x ∷ xs) (y ∷ ys) us bs same =
    let head : x ≡ y = cc in
    let tail : xs ++ us ≡ ys ++ bs = cc in
    elim (fronts xs ys us bs tail) [
      | inl on ↦ inl record { more = on.more; longer = ap (λ (n : ℕ). n ∷ ys) (sym head) ∙ ap (λ (zs : List ℕ). x ∷ zs) on.longer; between = on.between }
      | inr on ↦ inr record { more = on.more; longer = ap (λ (n : ℕ). n ∷ xs) head ∙ ap (λ (zs : List ℕ). y ∷ zs) on.longer; between = on.between }
    ]

no_front : (xs ys : List ℕ) → xs ++ ys ≡ [] → xs ≡ []
no_front [] ys none = refl
no_front (x ∷ xs) ys none = absurd (let both : x ∷ (xs ++ ys) ≡ [] = none in cc)

wants_or_not : (end : End) → WantsMore end ⊎ (¬ (WantsMore end))
wants_or_not ends.Closed = inl tt
wants_or_not ends.Cut = inl tt
wants_or_not ends.ReadFault = inl tt
wants_or_not ends.Spent = inl tt
wants_or_not _ = inr (λ wants. wants)

none_long : (xs : List ℕ) → length xs ≡ 0 → xs ≡ []
none_long [] none = refl
none_long (x ∷ xs) none = absurd (omega (arith, none))

-- of a session that ended for lack of more no other took more
took_all : (input taken other following : List ℕ) (end : End) (a : Takes input taken end) (longer : Longer taken other a.following following) →
    length other ≤ most_read → (longer.more ≡ []) ⊎ (¬ (WantsMore end))
took_all input taken other following end a longer within =
    elim (wants_or_not end) [
      | inl wants ↦ elim (a.whole wants) [
        | inl none ↦ inl (no_front longer.more following (sym longer.between ∙ none))
        | inr full ↦ inl (none_long longer.more
            (let sum : length other ≡ length taken + length longer.more = ap length longer.longer ∙ length-append taken longer.more in omega (arith, sum, full, within)))
      ]
      | inr never ↦ inr never
    ]

-- ---- two runs

-- no two runs that took as many bytes end apart, unless a read failed
spent_apart : (other : End) (n : ℕ) → n ≡ most_read → ends.Spent ≢ other → other ≢ ends.ReadFault → WantsMore other → Reached other n → ⊥
spent_apart ends.Closed n full apart reads wants reached = omega (arith, full, reached)
spent_apart ends.Cut n full apart reads wants reached = omega (arith, full, reached)
spent_apart ends.ReadFault n full apart reads wants reached = reads refl
spent_apart ends.Spent n full apart reads wants reached = apart refl
spent_apart _ n full apart reads wants reached = wants

never_apart : (one other : End) (n : ℕ) → one ≢ ends.ReadFault → other ≢ ends.ReadFault → Reached one n → Reached other n → EndsApart one other → ⊥
never_apart one other n reads reads_too reached reached_too apart =
    elim apart.cause [
      | inl first ↦ elim first [
        | inl fault ↦ reads fault
        | inr spent ↦ spent_apart other n (subst (λ (e : End). Reached e n) spent reached) (λ same. apart.apart (spent ∙ same)) reads_too
            apart.second reached_too
      ]
      | inr second ↦ elim second [
        | inl fault ↦ reads_too fault
        | inr spent ↦ spent_apart one n (subst (λ (e : End). Reached e n) spent reached_too) (λ same. apart.apart (sym same ∙ sym spent)) reads
            apart.first reached
      ]
    ]

as_many : (taken longer more : List ℕ) (end : End) → longer ≡ taken ++ more → (more ≡ []) ⊎ (¬ (WantsMore end)) → WantsMore end →
    length longer ≡ length taken
as_many taken longer more end is (inl none) wants = ap length (is ∙ ap (λ (zs : List ℕ). taken ++ zs) none ∙ append-nil taken)
as_many taken longer more end is (inr never) wants = absurd (never wants)

same_ends : (sent told : List ℕ) (one other : End) → EndsAlike sent one told other → (EndsApart one other → ⊥) → (one ≡ other) × (sent ≡ told)
same_ends sent told one other (inl both) never = both
same_ends sent told one other (inr apart) never = absurd (never apart.0)

-- two runs have one history, end alike and were told the same
abbrev pub OneRun : (level : Level) (words : List ℕ) (f g h k : Sight) (one other : Outcome) → ServesAlone level words f one g →
    ServesAlone level words h other k → Type 0
OneRun level words f g h k one other a b =
    (a.past.seen ≡ b.past.seen) × (a.rest ≡ b.rest) × (one.end ≡ other.end) × (a.account.sent ≡ b.account.sent)

-- the second run took what the first one took, and more
run_longer : (level : Level) (words : List ℕ) (f g h k : Sight) (one other : Outcome) (a : ServesAlone level words f one g)
    (b : ServesAlone level words h other k) (more : List ℕ) → one.short ≡ false → other.short ≡ false → one.end ≢ ends.WriteFault →
    other.end ≢ ends.WriteFault → one.end ≢ ends.ReadFault → other.end ≢ ends.ReadFault →
    b.account.taken ≡ a.account.taken ++ more → (more ≡ []) ⊎ (¬ (WantsMore one.end)) → OneRun level words f g h k one other a b
run_longer level words f g h k one other a b more rest rests written sent reads reads_too longer either =
    let is =
    one_history level [] a.account.taken more words a.past.seen b.past.seen a.rest b.rest a.account.sent b.account.sent one.end other.end
    (served level words f g one a rest written)
    (subst (λ (bytes : List ℕ). Served level [] bytes words b.past.seen b.rest b.account.sent other.end) longer
    (served level words h k other b rests sent)) either in
    let never : EndsApart one.end other.end → ⊥ =
    λ apart.
    never_apart one.end other.end (length a.account.taken) reads reads_too (reaches one.end f g a.account.taken a.serves.blames)
    (subst (λ (n : ℕ). Reached other.end n) (as_many a.account.taken b.account.taken more one.end longer either apart.first)
    (reaches other.end h k b.account.taken b.serves.blames))
    apart in
    let both = same_ends a.account.sent b.account.sent one.end other.end is.2 never in (is.0, is.1, both.0, both.1)

pub piped : PipeHasOneHistory
piped level words f g h k t u one other a b rest rests at also input written sent reads reads_too =
    let first : Takes t.left a.account.taken one.end = takes level words f g one a t at reads in
    let second : Takes u.left b.account.taken other.end = takes level words h k other b u also reads_too in
    elim (fronts a.account.taken b.account.taken first.following second.following (sym first.split ∙ input ∙ second.split)) [
      | inl on ↦
          run_longer level words f g h k one other a b on.more rest rests written sent reads reads_too on.longer
          (took_all t.left a.account.taken b.account.taken second.following one.end first on second.within)
      | inr on ↦
          let back = run_longer level words h k f g other one b a on.more rests rest sent written reads_too reads on.longer
          (took_all u.left b.account.taken a.account.taken first.following other.end second on first.within) in
          (sym back.0, sym back.1, sym back.2, sym back.3)
    ]
