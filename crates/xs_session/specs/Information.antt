-- INFO. (Redis, INFO: its sections, and the line of the section of the keyspace.)
use Rattle.std.specs.Prelude.{ℕ, zero, Bool, true, false, not, ◌&&◌, ◌||◌, List, [], ◌∷◌, ◌++◌, codes, decimal}
use Rattle.std.specs.List.{list_any}
use Rattle.xs_resp.specs.declared.reply.Reply.{Reply}
use Rattle.xs_resp.specs.declared.reply.Reply.TheVariants.{Int, Bulk}
use Rattle.xs_command.specs.Words.{is_word}
use Rattle.xs_connection.specs.declared.standing.Standing.{Standing}
use Rattle.xs_connection.specs.Transaction.{is_queueing}

-- the section of the keyspace is one of those that this name selects
abbrev pub is_keyspace_name : List ℕ → Bool
is_keyspace_name word =
    is_word (codes "keyspace") word
    || (is_word (codes "default") word || (is_word (codes "all") word || is_word (codes "everything") word))

-- whether these names select that section; without names all sections are selected
abbrev pub names_keyspace : List (List ℕ) → Bool
names_keyspace [] = true
names_keyspace names = list_any is_keyspace_name names

-- whether words are INFO
abbrev pub is_info : List (List ℕ) → Bool
is_info [] = false
is_info (word ∷ names) = is_word (codes "info") word

-- whether words ask the number of keys; between MULTI and EXEC they are refused
abbrev pub asks_keys : Standing → List (List ℕ) → Bool
asks_keys standing [] = false
asks_keys standing (word ∷ names) =
    is_word (codes "info") word && (names_keyspace names && not (is_queueing standing.transaction))

-- the line of the keyspace; empty if there is no key
abbrev pub keyspace_line : ℕ → List ℕ
keyspace_line zero = []
keyspace_line keys = codes "db0:keys=" ++ (decimal keys ++ (codes ",expires=0,avg_ttl=0" ++ 13 ∷ 10 ∷ []))

-- the answer after the reply with the number of keys has come: their line follows the other text
abbrev pub informed : List ℕ → Reply → Reply
informed told (Int keys) = Bulk (told ++ keyspace_line keys)
informed told reply = reply
