-- Distinct words, as a set finds them.
use Rattle.std.proofs.Common.{◌≡◌, ℕ, ◌<◌, Bool, true, false, ◌&&◌, ◌||◌, not, cond, List, [], ◌∷◌, ◌++◌, length, take}
use Rattle.std.proofs.Common.{drop, refl, sym, ap, ◌∙◌, bytes_eq, arith}
use Rattle.std.specs.List.{list_any}
use Rattle.std.proofs.lemmas.List.{take-append-drop}
use Rattle.std.proofs.lemmas.List.Folds.{list_any-append}
use Rattle.std.proofs.lemmas.Slice.Eq.{bytes_eq-Decides}
use Rattle.std.proofs.lemmas.Bool.Decides.{same_from_decides}
use Rattle.xs_command.specs.Streams.{is_distinct}

symmetric : (a b : List ℕ) → bytes_eq a b ≡ bytes_eq b a
symmetric a b = same_from_decides (bytes_eq a b) (bytes_eq b a) (bytes_eq-Decides a b) (λ e. sym ((bytes_eq-Decides b a).0 e), λ e. (bytes_eq-Decides b a).1 (sym e))

algebra : (a b d e : Bool) → (not (a || (b || false)) && (d && not e)) ≡ ((not a && d) && not (b || e))
algebra true b d e = refl
algebra false true true true = refl
algebra false true true false = refl
algebra false true false e = refl
algebra false false true true = refl
algebra false false true false = refl
algebra false false false e = refl

-- one more word
pub is_distinct-push : (words : List (List ℕ)) (word : List ℕ) → is_distinct (words ++ word ∷ []) ≡ (is_distinct words && not (list_any (bytes_eq word) words))
unfolding is_distinct
is_distinct-push [] word = refl
is_distinct-push (w ∷ words) word =
    rw (list_any-append (bytes_eq w) words (word ∷ []), is_distinct-push words word, symmetric word w) (algebra (list_any (bytes_eq w) words) (bytes_eq w word) (is_distinct words) (list_any (bytes_eq word) words))

both_false : (a b c d : Bool) → (a ≡ true → b ≡ true) → (d ≡ false → c ≡ false) → (not a && d) ≡ false → (not b && c) ≡ false
both_false true b c d h k e = rw (h refl) refl
both_false false true c d h k e = refl
both_false false false c d h k e = k e

any_more : (p : List ℕ → Bool) (words more : List (List ℕ)) → list_any p words ≡ true → list_any p (words ++ more) ≡ true
any_more p words more h = list_any-append p words more ∙ ap (λ b. b || list_any p more) h

-- a word that is repeated stays repeated
stays : (words more : List (List ℕ)) → is_distinct words ≡ false → is_distinct (words ++ more) ≡ false
unfolding is_distinct
stays [] more h = absurd cc
stays (w ∷ words) more h = both_false (list_any (bytes_eq w) words) (list_any (bytes_eq w) (words ++ more)) (is_distinct (words ++ more)) (is_distinct words) (any_more (bytes_eq w) words more) (stays words more) h

pub twice : (words : List (List ℕ)) (n : ℕ) → is_distinct (take n words) ≡ false → is_distinct words ≡ false
twice words n h = sym (ap is_distinct (take-append-drop n words)) ∙ stays (take n words) (drop n words) h

-- one more key, which is among those before it
pub found_again : (words : List (List ℕ)) (n : ℕ) (front : List (List ℕ)) (word : List ℕ) → take n words ≡ front ++ word ∷ [] → list_any (bytes_eq word) front ≡ true → false ≡ is_distinct words
found_again words n front word e h = sym (twice words n (ap is_distinct e ∙ is_distinct-push front word ∙ ends_false (is_distinct front) (list_any (bytes_eq word) front) h))
  where
    ends_false : (a b : Bool) → b ≡ true → (a && not b) ≡ false
    ends_false true b h = rw h refl
    ends_false false b h = refl

-- one more key, which isn't among those before it
pub is_new : (front : List (List ℕ)) (word : List ℕ) → is_distinct front ≡ true → list_any (bytes_eq word) front ≡ false → is_distinct (front ++ word ∷ []) ≡ true
is_new front word h k = is_distinct-push front word ∙ cc_both (is_distinct front) (list_any (bytes_eq word) front) h k
  where
    cc_both : (a b : Bool) → a ≡ true → b ≡ false → (a && not b) ≡ true
    cc_both a b h k = rw (h, k) refl

-- the content of a set with one more key
pub has_more : (front : List (List ℕ)) (word q : List ℕ) (equal before : Bool) → equal ≡ bytes_eq word q → before ≡ list_any (bytes_eq q) front → cond equal true before ≡ list_any (bytes_eq q) (front ++ word ∷ [])
has_more front word q equal before e h =
    or_is equal before ∙ ap (λ b. b || (equal || false)) h ∙ ap (λ b. list_any (bytes_eq q) front || (b || false)) (e ∙ symmetric word q) ∙ sym (list_any-append (bytes_eq q) front (word ∷ []))
  where
    or_is : (a b : Bool) → cond a true b ≡ (b || (a || false))
    or_is true true = refl
    or_is true false = refl
    or_is false true = refl
    or_is false false = refl

not_is : (a b : Bool) → a ≡ not b → b ≡ not a
not_is true true e = absurd cc
not_is true false e = refl
not_is false true e = refl
not_is false false e = absurd cc

-- what an insertion returns about the set before it
pub was_there : (added there : Bool) → added ≡ not there → added ≡ false → there ≡ true
was_there added there e h = not_is added there e ∙ ap not h

pub was_new : (added there : Bool) → added ≡ not there → added ≡ true → there ≡ false
was_new added there e h = not_is added there e ∙ ap not h

-- one word differs from all the others
pub single : (words : List (List ℕ)) → length words < 2 → true ≡ is_distinct words
unfolding is_distinct
single [] h = refl
single (w ∷ []) h = refl
single (w ∷ v ∷ words) h = absurd (omega arith)
