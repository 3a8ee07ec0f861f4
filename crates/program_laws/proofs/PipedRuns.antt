-- Two runs of the program whose codes are 0 or 1 have one code, one history, and wrote the same bytes.
use Rattle.std.proofs.Common.{◌≡◌, ◌≢◌, true, false, Bool, ℕ, ◌<◌, List, [], ◌++◌, Some, arith, refl, sym, ◌∙◌, ap, subst}
use Rattle.std.proofs.lemmas.List.{append-nil}
use Rattle.cell_base.specs.declared.level.Level.{Level}
use Rattle.link_traits.specs.Traffic.{Traffic, Sight}
use Rattle.link_traits.specs.Host.{Hosted}
use Rattle.block_machine.specs.declared.end.End.{End}
use Rattle.block_machine.specs.declared.end.End.TheVariants as ends
use Rattle.session_core.specs.declared.served.Served.{Served}
use Rattle.session_core.specs.Ends.{LacksBy}
use Rattle.monkey_server.specs.Program.{ServesAlone, Piped, status_of}
use Rattle.program_laws.proofs.Piped.{carried, piped}

-- ---- what a code below 2 says of the end

no_short : (end : End) → status_of end true < 2 → ⊥
no_short end small = let h : 5 < 2 = small in omega (arith, h)

no_failed_write : (end : End) → status_of end false < 2 → end ≢ ends.WriteFault
no_failed_write end small is = let h : 4 < 2 = subst (λ (e : End). status_of e false < 2) is small in omega (arith, h)

no_failed_read : (end : End) → status_of end false < 2 → end ≢ ends.ReadFault
no_failed_read end small is = let h : 3 < 2 = subst (λ (e : End). status_of e false < 2) is small in omega (arith, h)

-- ---- what was written

none_lost : (end : End) (lost : List ℕ) → end ≢ ends.WriteFault → LacksBy end lost → lost ≡ []
none_lost ends.WriteFault lost never lacks = absurd (never refl)
none_lost _ lost never lacks = lacks

-- where no write failed, all that was told was written after what stood there
record Wrote (f g : Sight) (t : Traffic) (sent : List ℕ) : Type 0 where
  pub to : Traffic
  pub is : g.traffic ≡ Some to
  pub written : to.written ≡ t.written ++ sent

wrote : (level : Level) (words : List ℕ) (f g : Sight) (outcome : Served) (a : ServesAlone level words f outcome g) (t : Traffic) →
    f.traffic ≡ Some t → outcome.end ≢ ends.WriteFault → Wrote f g t a.account.sent
wrote level words f g outcome a t at never =
    let on = carried level a.account f.traffic g.traffic t a.serves.carries at in
    record {
      to = on.0;
      is = on.1;
      written =
          sym (append-nil on.0.written)
          ∙ ap (λ (zs : List ℕ). on.0.written ++ zs) (sym (none_lost outcome.end a.account.lost never a.serves.lacks)) ∙ on.2.written_is;
    }

-- ---- two runs

-- both links tell their traffic, and the same bytes were written on them
pub record WroteAlike (f g : Sight) : Type 0 where
  pub one : Traffic
  pub other : Traffic
  pub one_is : f.traffic ≡ Some one
  pub other_is : g.traffic ≡ Some other
  pub same : one.written ≡ other.written

abbrev pub RunsAlike : (level : Level) (words : List ℕ) (f g h k : Sight) (one other : Served) → ServesAlone level words f one g →
    ServesAlone level words h other k → Type 0
RunsAlike level words f g h k one other a b =
    (status_of one.end one.short ≡ status_of other.end other.short) × (a.past.seen ≡ b.past.seen) × WroteAlike g k

-- what a code below 2 says
record EndsWell (outcome : Served) : Type 0 where
  pub at_rest : outcome.short ≡ false
  pub written : outcome.end ≢ ends.WriteFault
  pub read : outcome.end ≢ ends.ReadFault

ends_well : (outcome : Served) (short : Bool) → outcome.short ≡ short → status_of outcome.end short < 2 → EndsWell outcome
ends_well outcome true is small = absurd (no_short outcome.end small)
ends_well outcome false is small =
    record { at_rest = is; written = no_failed_write outcome.end small; read = no_failed_read outcome.end small }

runs : (level : Level) (words : List ℕ) (f g h k : Sight) (one other : Served) (a : ServesAlone level words f one g)
    (b : ServesAlone level words h other k) (t u : Traffic) → f.traffic ≡ Some t → h.traffic ≡ Some u → t.left ≡ u.left →
    t.written ≡ u.written → status_of one.end one.short < 2 → status_of other.end other.short < 2 →
    RunsAlike level words f g h k one other a b
runs level words f g h k one other a b t u at also input output small smaller =
    let first : EndsWell one = ends_well one one.short refl small in
    let second : EndsWell other = ends_well other other.short refl smaller in
    let is =
    piped level words f g h k t u one other a b first.at_rest second.at_rest at also input first.written second.written first.read
    second.read in
    let left : Wrote f g t a.account.sent = wrote level words f g one a t at first.written in
    let right : Wrote h k u b.account.sent = wrote level words h k other b u also second.written in (
      ap (λ (e : End). status_of e one.short) is.2
          ∙ ap (λ (short : Bool). status_of other.end short) (first.at_rest ∙ sym second.at_rest),
      is.0,
      record {
        one = left.to;
        other = right.to;
        one_is = left.is;
        other_is = right.is;
        same =
            left.written ∙ ap (λ (bytes : List ℕ). bytes ++ a.account.sent) output ∙ ap (λ (bytes : List ℕ). u.written ++ bytes) is.3
            ∙ sym right.written;
      },
    )

pub piped_runs : (level : Level) (words : List ℕ) (before after then later : Hosted) (code status : ℕ) (t u : Traffic) (a : Piped level words before code after)
    (b : Piped level words then status later) → a.given.traffic ≡ Some t → b.given.traffic ≡ Some u → t.left ≡ u.left → t.written ≡ u.written →
    code < 2 → status < 2 → (code ≡ status) × (a.serves.past.seen ≡ b.serves.past.seen) × WroteAlike a.returned b.returned
piped_runs level words before after then later code status t u a b at also input output small smaller =
    let is =
    runs level words a.given a.returned b.given b.returned a.outcome b.outcome a.serves b.serves t u at also input output
    (subst (λ (n : ℕ). n < 2) a.code_is small) (subst (λ (n : ℕ). n < 2) b.code_is smaller) in
    (a.code_is ∙ is.0 ∙ sym b.code_is, is.1, is.2)
