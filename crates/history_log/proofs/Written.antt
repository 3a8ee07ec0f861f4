-- How lines are put together.
use Rattle.std.proofs.Common.{◌≡◌, ◌==◌, ℕ, ◌+◌, ◌<◌, List, [], ◌∷◌, ◌++◌, Result, Ok, Err, length, get_or, take, refl, sym, ap, ◌∙◌, map, append_assoc}
use Rattle.std.proofs.lemmas.Bool.{cond_both}
use Rattle.std.proofs.lemmas.List.{take_more}
use Rattle.std.specs.Prelude.{codes, OnOk}
use Rattle.std.specs.Fmt.{decimal}
use Rattle.std.specs.List.{join_with_byte}
use Rattle.cell_base.specs.declared.cell.Cell.{Cell}
use Rattle.cell_base.specs.declared.key.Key.{Key}
use Rattle.cell_base.specs.declared.memory.Memory.{Memory}
use Rattle.cell_base.specs.declared.level.Level.{Level}
use Rattle.cell_base.specs.declared.value.Value.{Value}
use Rattle.history_core.specs.declared.event.Event.{Event}
use Rattle.history_core.specs.declared.event.Event.TheVariants.{Open, Close, Define, Look, Begin, Scan, Read, Own, Write, Commit, Rollback, Show}
use Rattle.history_log.specs.declared.keyword.Keyword.TheVariants as keywords
use Rattle.history_log.specs.declared.version.Version.{Version}
use Rattle.history_log.specs.declared.version.Version.TheVariants.{Two, Three}
use Rattle.history_log.specs.Spelling.{key_word, keyword_word, event_line, head_line, order_line, end_line, whole_lines, words_after, version_word, level_word}
use Rattle.history_log.specs.Log.{newest}

append_nil : (xs : List ℕ) → xs ++ [] ≡ xs
append_nil [] = refl
append_nil (x ∷ xs) = ap (λ ys. x ∷ ys) (append_nil xs)

pub join_after : (word : List ℕ) (words : List (List ℕ)) → join_with_byte 32 (word ∷ words) ≡ word ++ words_after words
join_after word [] = sym (append_nil word)
join_after word (next ∷ words) = ap (λ ws. word ++ 32 ∷ ws) (join_after next words)

pub words_after_push : (words : List (List ℕ)) (word : List ℕ) → words_after (words ++ word ∷ []) ≡ words_after words ++ (32 ∷ word)
words_after_push [] word = ap (λ (w : List ℕ). 32 ∷ w) (append_nil word)
words_after_push (next ∷ words) word = ap (λ (w : List ℕ). 32 ∷ (next ++ w)) (words_after_push words word) ∙ ap (λ (w : List ℕ). 32 ∷ w) (sym (append_assoc next (words_after words) (32 ∷ word)))

map_end : {X : Type 0} (f : X → List ℕ) (xs : List X) (x : X) → map f (xs ++ x ∷ []) ≡ map f xs ++ f x ∷ []
map_end f [] x = refl
map_end f (y ∷ xs) x = ap (λ zs. f y ∷ zs) (map_end f xs x)

-- one more of a list's items is written, after a blank
pub words_step : {X : Type 0} (f : X → List ℕ) (xs : List X) (i : ℕ) (x : X) (start old mid new : List ℕ) → i < length xs → x ≡ get_or xs i x
    → old ≡ start ++ words_after (map f (take i xs)) → mid ≡ old ++ (32 ∷ []) → new ≡ mid ++ f x → new ≡ start ++ words_after (map f (take (i + 1) xs))
words_step f xs i x start old mid new lt is e blank word =
    word ∙ ap (λ (b : List ℕ). b ++ f x) (blank ∙ ap (λ (b : List ℕ). b ++ (32 ∷ [])) e)
    ∙ append_assoc (start ++ words_after (map f (take i xs))) (32 ∷ []) (f x)
    ∙ append_assoc start (words_after (map f (take i xs))) (32 ∷ f x)
    ∙ ap (λ (b : List ℕ). start ++ b) (sym (words_after_push (map f (take i xs)) (f x)))
    ∙ ap (λ (ws : List (List ℕ)). start ++ words_after ws) (sym (map_end f (take i xs) x))
    ∙ ap (λ (zs : List _). start ++ words_after (map f zs)) (sym (take_more xs i x lt ∙ ap (λ y. take i xs ++ y ∷ []) (sym is)))

pub scan_line : (r : Result (Unit {0}) Memory) (event : Event) (s table : ℕ) (listed shown : List Key) (start old new : List ℕ) → event ≡ Scan s table listed → shown ≡ listed
    → old ≡ start ++ (keyword_word keywords.Scan ++ 32 ∷ (decimal s ++ 32 ∷ decimal table)) → OnOk r (new ≡ old ++ words_after (map key_word shown))
    → OnOk r (new ≡ start ++ event_line Two event)
scan_line (Err e) event s table listed shown start old new is show before after = tt
scan_line (Ok u) event s table listed shown start old new is show before after =
    after ∙ ap (λ (ks : List Key). old ++ words_after (map key_word ks)) show ∙ ap (λ (b : List ℕ). b ++ words_after (map key_word listed)) before
    ∙ append_assoc start (keyword_word keywords.Scan ++ 32 ∷ (decimal s ++ 32 ∷ decimal table)) (words_after (map key_word listed))
    ∙ ap (λ (b : List ℕ). start ++ b) (sym (append_scan ∙ ap (λ (b : List ℕ). keyword_word keywords.Scan ++ 32 ∷ b) (ap (λ (b : List ℕ). decimal s ++ 32 ∷ b) (join_after (decimal table) (map key_word listed)) ∙ regroup)))
    ∙ ap (λ (e : Event). start ++ event_line Two e) (sym is) where
      append_scan : event_line Two (Scan s table listed) ≡ keyword_word keywords.Scan ++ 32 ∷ (decimal s ++ 32 ∷ join_with_byte 32 (decimal table ∷ map key_word listed))
      append_scan = refl

      regroup : decimal s ++ 32 ∷ (decimal table ++ words_after (map key_word listed)) ≡ (decimal s ++ 32 ∷ decimal table) ++ words_after (map key_word listed)
      regroup = sym (append_assoc (decimal s) (32 ∷ decimal table) (words_after (map key_word listed)))

-- whole lines

pub whole_append : (xs ys : List (List ℕ)) → whole_lines (xs ++ ys) ≡ whole_lines xs ++ whole_lines ys
whole_append [] ys = refl
whole_append (x ∷ xs) ys = ap (λ (b : List ℕ). x ++ 10 ∷ b) (whole_append xs ys) ∙ sym (append_assoc x (10 ∷ whole_lines xs) (whole_lines ys))

-- one more of a list's lines is written, with its line feed
pub lines_step : {X : Type 0} (f : X → List ℕ) (xs : List X) (i : ℕ) (x : X) (start old mid new : List ℕ) → i < length xs → x ≡ get_or xs i x
    → old ≡ start ++ whole_lines (map f (take i xs)) → mid ≡ old ++ f x → new ≡ mid ++ (10 ∷ []) → new ≡ start ++ whole_lines (map f (take (i + 1) xs))
lines_step f xs i x start old mid new lt is e said feed =
    feed ∙ ap (λ (b : List ℕ). b ++ (10 ∷ [])) (said ∙ ap (λ (b : List ℕ). b ++ f x) e)
    ∙ append_assoc (start ++ whole_lines (map f (take i xs))) (f x) (10 ∷ [])
    ∙ append_assoc start (whole_lines (map f (take i xs))) (f x ++ 10 ∷ [])
    ∙ ap (λ (b : List ℕ). start ++ b) (sym (whole_append (map f (take i xs)) (f x ∷ [])))
    ∙ ap (λ (ws : List (List ℕ)). start ++ whole_lines ws) (sym (map_end f (take i xs) x))
    ∙ ap (λ (zs : List _). start ++ whole_lines (map f zs)) (sym (take_more xs i x lt ∙ ap (λ y. take i xs ++ y ∷ []) (sym is)))

-- versions 2 and 3 write events alike
same_line : (event : Event) → event_line Three event ≡ event_line Two event
same_line (Open s) = refl
same_line (Close s) = refl
same_line (Define s name) = refl
same_line (Look s n) = refl
same_line (Begin s level) = refl
same_line (Scan s table listed) = refl
same_line (Read s cell source count word value) = refl
same_line (Own s cell value) = refl
same_line (Write s cell value) = refl
same_line (Commit s) = refl
same_line (Rollback s) = refl
same_line (Show s n) = refl

same_lines : (events : List Event) → map (event_line Three) events ≡ map (event_line Two) events
same_lines [] = refl
same_lines (event ∷ events) = ap (λ (e : List ℕ). e ∷ map (event_line Three) events) (same_line event) ∙ ap (λ (es : List (List ℕ)). event_line Two event ∷ es) (same_lines events)

pub newest_lines : (initial : List (Cell × Value)) (events : List Event) → map (event_line (newest initial)) events ≡ map (event_line Two) events
newest_lines initial events = cond_both (length initial == 0) Two Three (λ (v : Version). map (event_line v) events ≡ map (event_line Two) events) (λ e. refl) (λ e. same_lines events)

-- the parts of the whole text
pub whole_text : (head : List ℕ) (initial events : List (List ℕ)) (order : List ℕ) (a b c d text : List ℕ) → a ≡ [] ++ (head ++ 10 ∷ []) → b ≡ a ++ whole_lines initial → c ≡ b ++ whole_lines events
    → d ≡ c ++ (order ++ 10 ∷ []) → text ≡ d ++ codes "end\n" → text ≡ whole_lines (head ∷ (initial ++ (events ++ (order ∷ end_line ∷ []))))
whole_text head initial events order a b c d text ea eb ec ed et =
    et ∙ ap (λ (x : List ℕ). x ++ codes "end\n") (ed ∙ ap (λ (x : List ℕ). x ++ (order ++ 10 ∷ [])) (ec ∙ ap (λ (x : List ℕ). x ++ whole_lines events) (eb ∙ ap (λ (x : List ℕ). x ++ whole_lines initial) ea)))
    ∙ append_assoc (((head ++ 10 ∷ []) ++ whole_lines initial) ++ whole_lines events) (order ++ 10 ∷ []) (codes "end\n")
    ∙ ap (λ (x : List ℕ). (((head ++ 10 ∷ []) ++ whole_lines initial) ++ whole_lines events) ++ x) (append_assoc order (10 ∷ []) (codes "end\n"))
    ∙ append_assoc ((head ++ 10 ∷ []) ++ whole_lines initial) (whole_lines events) (whole_lines (order ∷ end_line ∷ []))
    ∙ ap (λ (x : List ℕ). ((head ++ 10 ∷ []) ++ whole_lines initial) ++ x) (sym (whole_append events (order ∷ end_line ∷ [])))
    ∙ append_assoc (head ++ 10 ∷ []) (whole_lines initial) (whole_lines (events ++ (order ∷ end_line ∷ [])))
    ∙ ap (λ (x : List ℕ). (head ++ 10 ∷ []) ++ x) (sym (whole_append initial (events ++ (order ∷ end_line ∷ []))))
    ∙ append_assoc head (10 ∷ []) (whole_lines (initial ++ (events ++ (order ∷ end_line ∷ []))))

pub order_text : (r : Result (Unit {0}) Memory) (order : List ℕ) (start a b new : List ℕ) → a ≡ start ++ codes "order" → b ≡ a ++ words_after (map decimal order)
    → OnOk r (new ≡ b ++ 10 ∷ []) → OnOk r (new ≡ start ++ (order_line order ++ 10 ∷ []))
order_text (Err e) order start a b new ea eb en = tt
order_text (Ok u) order start a b new ea eb en =
    en ∙ ap (λ (x : List ℕ). x ++ 10 ∷ []) (eb ∙ ap (λ (x : List ℕ). x ++ words_after (map decimal order)) ea)
    ∙ ap (λ (x : List ℕ). x ++ 10 ∷ []) (append_assoc start (codes "order") (words_after (map decimal order)))
    ∙ append_assoc start (codes "order" ++ words_after (map decimal order)) (10 ∷ [])
    ∙ ap (λ (x : List ℕ). start ++ (x ++ 10 ∷ [])) (sym (join_after (codes "order") (map decimal order)))

pub head_text : (r : Result (Unit {0}) Memory) (v : Version) (level : Level) (start a b new : List ℕ) → a ≡ start ++ (codes "monkey-log " ++ (version_word v ++ 32 ∷ [])) → b ≡ a ++ level_word level
    → OnOk r (new ≡ b ++ 10 ∷ []) → OnOk r (new ≡ start ++ (head_line v level ++ 10 ∷ []))
head_text (Err e) v level start a b new ea eb en = tt
head_text (Ok u) v level start a b new ea eb en =
    en ∙ ap (λ (x : List ℕ). x ++ 10 ∷ []) (eb ∙ ap (λ (x : List ℕ). x ++ level_word level) ea)
    ∙ ap (λ (x : List ℕ). x ++ 10 ∷ []) (append_assoc start (codes "monkey-log " ++ (version_word v ++ 32 ∷ [])) (level_word level))
    ∙ append_assoc start ((codes "monkey-log " ++ (version_word v ++ 32 ∷ [])) ++ level_word level) (10 ∷ [])
    ∙ ap (λ (x : List ℕ). start ++ (x ++ 10 ∷ [])) (ap (λ (x : List ℕ). codes "monkey-log " ++ x) (append_assoc (version_word v) (32 ∷ []) (level_word level)))

pub head_at : (old new : List ℕ) (v w : Version) (level : Level) → old ≡ [] → v ≡ w → new ≡ old ++ (head_line v level ++ 10 ∷ []) → new ≡ [] ++ (head_line w level ++ 10 ∷ [])
head_at old new v w level none is e = e ∙ ap (λ (x : List ℕ). x ++ (head_line v level ++ 10 ∷ [])) none ∙ ap (λ (x : Version). [] ++ (head_line x level ++ 10 ∷ [])) is
