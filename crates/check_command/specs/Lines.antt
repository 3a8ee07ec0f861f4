-- The line that a check prints.
use Rattle.std.specs.Prelude.{ℕ, List, [], ◌∷◌, ◌++◌, codes, decimal}
use Rattle.history_log.specs.declared.log_fault.LogFault.{LogFault}
use Rattle.history_log.specs.declared.log_fault.LogFault.TheVariants as faults
use Rattle.history_log.specs.Spelling.{cell_word}
use Rattle.history_check.specs.declared.breach.Breach.{Breach}
use Rattle.history_check.specs.declared.breach.Breach.TheVariants as breaches

-- a number, after a blank
abbrev pub and_number : ℕ → List ℕ
and_number n = 32 ∷ decimal n

abbrev pub event_words : ℕ → List ℕ
event_words event = codes "breach event" ++ and_number event

-- the words of a breach
abbrev pub breach_words : Breach → List ℕ
breach_words (breaches.Shape event) = event_words event ++ codes " shape"
breach_words (breaches.Number event expected) = (event_words event ++ codes " number") ++ and_number expected
breach_words (breaches.Keys event) = event_words event ++ codes " keys"
breach_words (breaches.Own event) = event_words event ++ codes " own"
breach_words (breaches.Source event) = event_words event ++ codes " source"
breach_words (breaches.Value event) = event_words event ++ codes " value"
breach_words (breaches.Count event candidates) = (event_words event ++ codes " count") ++ and_number candidates
breach_words breaches.Order = codes "breach order"
breach_words (breaches.Session earlier later) = (codes "breach session" ++ and_number earlier) ++ and_number later
breach_words (breaches.Read event origin reader) = ((event_words event ++ codes " read") ++ and_number origin) ++ and_number reader
breach_words (breaches.Axiom event origin rival reader cell) =
    ((((event_words event ++ codes " axiom") ++ and_number origin) ++ and_number rival) ++ and_number reader) ++ 32 ∷ cell_word cell

-- the words of what is wrong with a text that is no log; lack of memory is told by the status alone
abbrev pub fault_words : LogFault → List ℕ
fault_words faults.Version = codes "log fault: version"
fault_words (faults.Line number) = codes "log fault: line" ++ and_number number
fault_words faults.Cut = codes "log fault: cut"
fault_words faults.TooLong = codes "log fault: too long"
fault_words faults.Memory = []

-- the words, and the line feed that ends them
abbrev pub line_of : List ℕ → List ℕ
line_of words = words ++ 10 ∷ []
