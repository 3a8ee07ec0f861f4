-- How the line is put together.
use Rattle.std.proofs.Common.{◌≡◌, ℕ, List, ◌++◌, Result, Ok, Err, ap, ◌∙◌, append_assoc}
use Rattle.std.specs.Prelude.{codes, OnOk}
use Rattle.std.specs.Fmt.{decimal}
use Rattle.cell_base.specs.declared.memory.Memory.{Memory}
use Rattle.history_summary.specs.declared.counts.Counts.{Counts}
use Rattle.history_summary.specs.Walk.{counted_words}

named : (start name digits rest : List ℕ) → (start ++ (name ++ digits)) ++ rest ≡ start ++ (name ++ (digits ++ rest))
named start name digits rest = append_assoc start (name ++ digits) rest ∙ ap (λ (b : List ℕ). start ++ b) (append_assoc name digits rest)

pub counted_text :
    (r : Result (Unit {0}) Memory) (counts : Counts) (start a b c d e new : List ℕ) → a ≡ start ++ (codes " sessions " ++ decimal counts.sessions) →
    b ≡ a ++ (codes " transactions " ++ decimal counts.transactions) → c ≡ b ++ (codes " events " ++ decimal counts.events) →
    d ≡ c ++ (codes " reads " ++ decimal counts.reads) → e ≡ d ++ (codes " offered " ++ decimal counts.offered) →
    OnOk r (new ≡ e ++ (codes " weak " ++ decimal counts.weak)) → OnOk r (new ≡ start ++ counted_words counts)
counted_text (Err memory) counts start a b c d e new sessions transactions events reads offered weak = tt
counted_text (Ok u) counts start a b c d e new sessions transactions events reads offered weak =
    weak
    ∙ ap (λ (x : List ℕ). x ++ from_weak) offered ∙ named d (codes " offered ") (decimal counts.offered) from_weak
    ∙ ap (λ (x : List ℕ). x ++ from_offered) reads ∙ named c (codes " reads ") (decimal counts.reads) from_offered
    ∙ ap (λ (x : List ℕ). x ++ from_reads) events ∙ named b (codes " events ") (decimal counts.events) from_reads
    ∙ ap (λ (x : List ℕ). x ++ from_events) transactions ∙ named a (codes " transactions ") (decimal counts.transactions) from_events
    ∙ ap (λ (x : List ℕ). x ++ from_transactions) sessions ∙ named start (codes " sessions ") (decimal counts.sessions) from_transactions
  where
    from_weak : List ℕ
    from_weak = codes " weak " ++ decimal counts.weak

    from_offered : List ℕ
    from_offered = codes " offered " ++ (decimal counts.offered ++ from_weak)

    from_reads : List ℕ
    from_reads = codes " reads " ++ (decimal counts.reads ++ from_offered)

    from_events : List ℕ
    from_events = codes " events " ++ (decimal counts.events ++ from_reads)

    from_transactions : List ℕ
    from_transactions = codes " transactions " ++ (decimal counts.transactions ++ from_events)
