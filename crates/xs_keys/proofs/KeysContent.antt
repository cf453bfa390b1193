-- The content of the keys in memory if a key is added, removed or changed.
use Rattle.std.proofs.Common.{◌≡◌, ℕ, Bool, true, false, cond, ◌&&◌, List, [], ◌∷◌, map, length, suc, Option, Some, None, sym, ap, ◌∙◌, refl}
use Rattle.std.proofs.Common.{subst, Result, Ok, Err, OnOk}
use Rattle.std.specs.Prelude.{T}
use Rattle.std.specs.FinMap.Entries.{find, is_sorted, below_all, same_entries}
use Rattle.std.specs.Ordering.{nat_cmp, is_lt}
use Rattle.std.specs.Cmp.Lexicographic.{slice_cmp, nat_list_cmp_total}
use Rattle.xs_bytes.specs.SortedMap.{NameMap, get, insert, remove, empty}
use Rattle.xs_bytes.proofs.SortedMaps.{get-of_entries, get-empty}
use Rattle.xs_keys.specs.Terms.{is_same_name}
use Rattle.xs_keys.specs.Content.{KeyState}
use Rattle.xs_keys.specs.KeysRoom.{KeyInMemory, key_state_of, state_in, content_of}
use Rattle.std.specs.List.{list_all}
use Rattle.std.proofs.lemmas.List.Folds.{list_all-map}
use Rattle.xs_keys.specs.NextName.{is_name_before, is_past_names}
use Rattle.xs_keys.proofs.NameMaps.{name_exact, same_map, get-insert, get-remove}

abbrev pub Held : Type 0
Held = List (List ℕ × KeyInMemory)

abbrev pub states : Held → List (List ℕ × KeyState)
states es = map (λ e. (e.0, key_state_of e.1)) es

push : (t : Bool) (a b : Option KeyInMemory) → state_in (cond t a b) ≡ cond t (state_in a) (state_in b)
push true a b = refl
push false a b = refl

find-states : (q : List ℕ) (es : Held) → find (slice_cmp nat_cmp) q (states es) ≡ state_in (find (slice_cmp nat_cmp) q es)
find-states q [] = refl
find-states q (e ∷ es) = ap (cond (is_same_name q e.0) (Some (key_state_of e.1))) (find-states q es) ∙ sym (push (is_same_name q e.0) (Some e.1) (find (slice_cmp nat_cmp) q es))

pub get-content : (m : NameMap KeyInMemory) (q : List ℕ) → get (content_of m) q ≡ state_in (get m q)
unfolding get
get-content m q = get-of_entries nat_list_cmp_total (states m.entries) q ∙ find-states q m.entries

pub content-insert : (m : NameMap KeyInMemory) (name : List ℕ) (key : KeyInMemory) → content_of (insert m name key) ≡ insert (content_of m) name (key_state_of key)
content-insert m name key = same_map _ _ (λ q.
    get-content (insert m name key) q ∙ ap state_in (get-insert m name key q) ∙ push (is_same_name q name) (Some key) (get m q)
    ∙ ap (cond (is_same_name q name) (Some (key_state_of key))) (sym (get-content m q)) ∙ sym (get-insert (content_of m) name (key_state_of key) q))

-- and if that may be refused
pub content-put : {A E : Type 0} (r : Result A E) (m n : NameMap KeyInMemory) (name : List ℕ) (key : KeyInMemory) → OnOk r (n ≡ insert m name key)
    → OnOk r (content_of n ≡ insert (content_of m) name (key_state_of key))
content-put (Ok done) m n name key is = ap content_of is ∙ content-insert m name key
content-put (Err error) m n name key is = tt

pub content-remove : (m : NameMap KeyInMemory) (name : List ℕ) → content_of (remove m name) ≡ remove (content_of m) name
content-remove m name = same_map _ _ (λ q.
    get-content (remove m name) q ∙ ap state_in (get-remove m name q) ∙ push (is_same_name q name) None (get m q)
    ∙ ap (cond (is_same_name q name) None) (sym (get-content m q)) ∙ sym (get-remove (content_of m) name q))

pub content-empty : content_of empty ≡ empty
content-empty = same_map _ _ (λ q. get-content empty q ∙ ap state_in (get-empty (slice_cmp nat_cmp) q) ∙ sym (get-empty (slice_cmp nat_cmp) q))

below-states : (x : List ℕ) (es : Held) → below_all (slice_cmp nat_cmp) x (states es) ≡ below_all (slice_cmp nat_cmp) x es
below-states x [] = refl
below-states x (e ∷ es) = ap (λ b. is_lt (slice_cmp nat_cmp x e.0) && b) (below-states x es)

sorted-states : (es : Held) → is_sorted (slice_cmp nat_cmp) (states es) ≡ is_sorted (slice_cmp nat_cmp) es
sorted-states [] = refl
sorted-states (e ∷ es) = ap (λ b. b && is_sorted (slice_cmp nat_cmp) (states es)) (below-states e.0 es) ∙ ap (λ b. below_all (slice_cmp nat_cmp) e.0 es && b) (sorted-states es)

length-states : (es : Held) → length (states es) ≡ length es
length-states [] = refl
length-states (e ∷ es) = ap suc (length-states es)

-- each key with its content
pub entries-content : (m : NameMap KeyInMemory) → (content_of m).entries ≡ states m.entries
unfolding get
entries-content m =
    same_entries (slice_cmp nat_cmp) nat_list_cmp_total name_exact (content_of m).entries (states m.entries) (content_of m).sorted
    (subst T (sym (sorted-states m.entries)) m.sorted) (λ q. get-of_entries nat_list_cmp_total (states m.entries) q)

-- there are as many keys
pub length-content : (m : NameMap KeyInMemory) → length (content_of m).entries ≡ length m.entries
length-content m = ap length (entries-content m) ∙ length-states m.entries

-- a name is above the same names
pub past-content : (m : NameMap KeyInMemory) (name : List ℕ) → is_past_names name (content_of m) ≡ is_past_names name m
past-content m name =
    ap (list_all (λ e. is_name_before e.0 name)) (entries-content m) ∙ list_all-map (λ (e : List ℕ × KeyState). is_name_before e.0 name) (λ (e : List ℕ × KeyInMemory). (e.0, key_state_of e.1)) m.entries
