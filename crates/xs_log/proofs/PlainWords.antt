-- Words that are no longer escaped.
use Rattle.std.proofs.Common.{◌≡◌, ◌≢◌, ℕ, List, [], ◌∷◌, ◌++◌, map, decimal, sym, ap, ◌∙◌, append_assoc}
use Rattle.std.proofs.lemmas.List.{map-append, append-nil}
use Rattle.xs_command.specs.Read.{command_of_words}
use Rattle.xs_command.specs.Words.{word}
use Rattle.std.specs.Prelude.{Result, Ok, Err, IfOk}
use Rattle.xs_keys.specs.Event.{Event}
use Rattle.xs_tape.specs.Escape.{escaped}
use Rattle.xs_tape.specs.Records.{with_checksum, with_size, record_words}
use Rattle.xs_tape.proofs.Escapes.{escaped-all}
use Rattle.xs_replay.specs.Log.{IsRecordOf}

-- one word more
pub word_more : (sent words next left behind : List (List ℕ)) (text word : List ℕ) → sent ≡ map escaped words ++ left → left ≡ text ∷ behind → text ≡ escaped word → next ≡ words ++ word ∷ [] → sent ≡ map escaped next ++ behind
word_more sent words next left behind text word e f g n =
    e ∙ ap (λ l. map escaped words ++ l) (f ∙ ap (λ t. t ∷ behind) g) ∙ sym (append_assoc (map escaped words) (escaped word ∷ []) behind)
    ∙ ap (λ l. l ++ behind) (sym (map-append escaped words (word ∷ []))) ∙ ap (λ ws. map escaped ws ++ behind) (sym n)

pub words_done : (sent words left : List (List ℕ)) → sent ≡ map escaped words ++ left → left ≡ [] → sent ≡ map escaped words
words_done sent words left e f = e ∙ ap (λ l. map escaped words ++ l) f ∙ append-nil (map escaped words)

-- a text that isn't an escaped word is not among escaped words
no-words : (words behind all : List (List ℕ)) (text : List ℕ) → ((plain : List ℕ) → text ≢ escaped plain) → map escaped words ++ (text ∷ behind) ≢ map escaped all
no-words [] behind [] text none e = absurd (cc)
no-words [] behind (one ∷ all) text none e = none one (cc)
no-words (w ∷ words) behind [] text none e = absurd (cc)
no-words (w ∷ words) behind (one ∷ all) text none e = no-words words behind all text none (cc)

pub not_escaped : (sent words left behind all : List (List ℕ)) (text : List ℕ) → sent ≡ map escaped words ++ left → left ≡ text ∷ behind → ((plain : List ℕ) → text ≢ escaped plain) → sent ≢ map escaped all
not_escaped sent words left behind all text e f none is = no-words words behind all text none (sym (e ∙ ap (λ l. map escaped words ++ l) f) ∙ is)

-- words after a size
pub of_size : {A E : Type 0} (result : Result A E) (items_of : A → List (List ℕ)) (sent behind : List (List ℕ)) → sent ≡ with_size behind → IfOk result (λ words. behind ≡ map escaped (items_of words))
    → IfOk result (λ words. sent ≡ with_size (map escaped (items_of words)))
of_size (Err fault) items_of sent behind e f = tt
of_size (Ok words) items_of sent behind e f = e ∙ ap with_size f

pub not_sized : (sent behind others : List (List ℕ)) → sent ≡ with_size behind → behind ≢ others → sent ≢ with_size others
not_sized sent behind others e not is = not (cc (sym e ∙ is))

-- words that are a record have its checksum
pub not_checked : (sent words plain : List (List ℕ)) (first : List ℕ) → sent ≡ with_size (map escaped words) → sent ≡ record_words first plain → words ≡ with_checksum first plain
not_checked sent words plain first e is =
    let same : map escaped words ≡ map escaped (with_checksum first plain) = cc (sym e ∙ is) in
    escaped-all words (with_checksum first plain) same

pub same_parts : (first other : List ℕ) (rest others : List (List ℕ)) → with_checksum first rest ≡ with_checksum other others → (first ≡ other) × (rest ≡ others)
same_parts first other rest others e = (cc, cc)

-- no words spell no command
pub no_command : {A : Type 0} (event : Event) → command_of_words [] ≡ Ok event.1 → A
unfolding command_of_words word
no_command event e = absurd (cc (e))

-- the parts of a record of an event
pub parts_are : (sent items slice rest : List (List ℕ)) (first : List ℕ) (event : Event) → sent ≡ with_size (map escaped items) → slice ≡ items → slice ≡ with_checksum first rest → IsRecordOf sent event
    → (first ≡ decimal event.0) × (command_of_words rest ≡ Ok event.1)
parts_are sent items slice rest first event e f g is =
    let all = not_checked sent items is.plain (decimal event.0) e is.stands in
    let same = same_parts first (decimal event.0) rest is.plain (sym g ∙ f ∙ all) in
    (same.0, ap command_of_words same.1 ∙ is.command_is)

-- the parts of the record of these words
pub record_parts : (sent items slice rest values : List (List ℕ)) (first kind : List ℕ) → sent ≡ with_size (map escaped items) → slice ≡ items → slice ≡ with_checksum first rest → sent ≡ record_words kind values
    → (first ≡ kind) × (rest ≡ values)
record_parts sent items slice rest values first kind e f g is = same_parts first kind rest values (sym g ∙ f ∙ not_checked sent items values kind e is)

-- and the record of these parts
pub parts_record : (sent items slice rest values : List (List ℕ)) (first kind : List ℕ) → sent ≡ with_size (map escaped items) → slice ≡ items → slice ≡ with_checksum first rest → first ≡ kind → rest ≡ values
    → sent ≡ record_words kind values
parts_record sent items slice rest values first kind e f g h k =
    e ∙ ap (λ ws. with_size (map escaped ws)) (sym f ∙ g ∙ ap (λ t. with_checksum t rest) h ∙ ap (λ ws. with_checksum kind ws) k)
