-- A read is answered with the null array exactly if each key is read from `>`, each group exists, and nothing is new to
-- any.
use Rattle.std.proofs.Common.{◌≡◌, ◌≢◌, ◌&&◌, ℕ, zero, suc, ◌==◌, Bool, true, false, cond, List, [], ◌∷◌, ◌++◌, Option}
use Rattle.std.proofs.Common.{Some, None, is_some, length, sym, ap, ◌∙◌, refl, arith}
use Rattle.std.proofs.lemmas.Bool.{false≢true}
use Rattle.std.proofs.lemmas.Bool.Decides.{nat_tests}
use Rattle.std.proofs.lemmas.List.{length-map}
use Rattle.xs_stream.specs.StreamContent.{up_to_limit}
use Rattle.xs_keys.specs.Terms.{list_all, option_map_or, get, insert, Id, Field, ids_of, new_ids, GroupState}
use Rattle.xs_keys.specs.Terms.{is_same_name, ReadGroupCommand, ReadOne, ReadFrom, New, After, ReadGroup, Reply}
use Rattle.xs_keys.specs.Terms.{NullArray, Error, NoGroup}
use Rattle.xs_keys.specs.GroupLife.{is_new, ask_of_read}
use Rattle.xs_keys.specs.Content.{Content, KeyState}
use Rattle.xs_keys.specs.ContentAfter.{after_ask, group_after, with_group, group_in, entries_in, has_all_groups_in}
use Rattle.xs_keys.specs.Reply.{parts_of_read, parts}
use Rattle.xs_keys.specs.ReplyParts.{array_or_null, new_part}
use Rattle.xs_keys.specs.Reading.{parts_of_one, at_most_one}
use Rattle.xs_keys.specs.Waiting.{finds_none_in, finds_nothing, IsAnsweredNull, IsAnsweredOtherwise}
use Rattle.xs_keys.proofs.NameMaps.{get-insert, is_same_name-eq}
use Rattle.xs_keys.proofs.ReadSteps.{get-inserted, asked-at}
use Rattle.xs_keys.proofs.Truths.{first_of, second_of}

not_zero : (n : ℕ) → (suc n == 0) ≡ false
not_zero n = grind (arith, nat_tests)

-- the first entry shows whether a limit leaves any
pub first_decides : (limit : Option ℕ) (ids : List Id) (es : List (Id × List Field)) → ids_of es ≡ up_to_limit (at_most_one limit) ids
    → (length es == 0) ≡ (length (up_to_limit limit ids) == 0)
first_decides limit ids es e = ap (λ n. n == 0) (sym (length-map es (λ f. f.0)) ∙ ap length e) ∙ by limit ids where
  by : (limit : Option ℕ) (ids : List Id) → (length (up_to_limit (at_most_one limit) ids) == 0) ≡ (length (up_to_limit limit ids) == 0)
  by None [] = refl
  by None (x ∷ xs) = not_zero 0 ∙ sym (not_zero (length xs))
  by (Some zero) ids = refl
  by (Some (suc n)) ids = ap (λ b. length (up_to_limit (cond b (Some 0) (Some 1)) ids) == 0) (not_zero n) ∙ some ids where
    some : (ids : List Id) → (length (up_to_limit (Some 1) ids) == 0) ≡ (length (up_to_limit (Some (suc n)) ids) == 0)
    some [] = refl
    some (x ∷ xs) = not_zero 0 ∙ sym (not_zero (length (up_to_limit (Some n) xs)))

no-ids : (ids : List Id) → (length ids == 0) ≡ true → ids ≡ []
no-ids [] e = refl
no-ids (x ∷ xs) e = absurd (false≢true (sym (not_zero (length xs)) ∙ e))

-- ---- one key that is read and has nothing new

pub record FindsNone (content : Content) (read : ReadGroupCommand) (one : ReadOne) : Type 0 where
  pub from_is : one.from ≡ New
  pub key : KeyState
  pub was : GroupState
  pub had : get content one.key ≡ Some key
  pub has : get key.groups read.group ≡ Some was
  pub none_is : new_ids read.limit was.cursor (ids_of key.stream.entries) ≡ []

pub finds-none : (content : Content) (read : ReadGroupCommand) (one : ReadOne) → finds_none_in read one (get content one.key) ≡ true → FindsNone content read one
finds-none content read one e = by one.from refl (get content one.key) refl e where
  at : (key : KeyState) → one.from ≡ New → get content one.key ≡ Some key → (g : Option GroupState) → get key.groups read.group ≡ g
      → option_map_or (λ g. length (new_ids read.limit g.cursor (ids_of key.stream.entries)) == 0) g false ≡ true → FindsNone content read one
  at key from had None has e = absurd (false≢true e)
  at key from had (Some was) has e = record { from_is = from; key = key; was = was; had = had; has = has; none_is = no-ids _ e }

  by : (from : ReadFrom) → one.from ≡ from → (k : Option KeyState) → get content one.key ≡ k
      → (is_new from && option_map_or (λ g. length (new_ids read.limit g.cursor (ids_of (entries_in k))) == 0) (group_in k read.group) false) ≡ true → FindsNone content read one
  by New from None had e = absurd (false≢true e)
  by New from (Some key) had e = at key from had (get key.groups read.group) refl e
  by (After id) from k had e = absurd (false≢true e)

module _ (content : Content) (now : ℕ) (read : ReadGroupCommand) (one : ReadOne) (n : FindsNone content read one) where
  abbrev pub after : Content
  after = after_ask content now one.key read.group (ask_of_read read one.from)

  abbrev pub left : GroupState
  left = group_after now (ids_of n.key.stream.entries) (ask_of_read read New) n.was

  cursor-stays : left.cursor ≡ n.was.cursor
  cursor-stays = rw n.none_is refl

  pub after-is : after ≡ insert content one.key (with_group n.key read.group left)
  after-is =
      ap (λ from. after_ask content now one.key read.group (ask_of_read read from)) n.from_is
      ∙ asked-at content now one.key read.group (ask_of_read read New) n.key n.was n.had n.has

  -- it has no part of the reply
  no-part : parts_of_one content read one ≡ []
  no-part = rw (n.from_is, n.had, n.has, n.none_is) refl

  -- each key has as much that is new as before it
  pub finds-same : (q : ReadOne) → finds_none_in read q (get after q.key) ≡ finds_none_in read q (get content q.key)
  finds-same q = ap (finds_none_in read q) (ap (λ (c : Content). get c q.key) after-is ∙ get-insert content one.key (with_group n.key read.group left) q.key) ∙ by (is_same_name q.key one.key) refl where
    by : (t : Bool) → is_same_name q.key one.key ≡ t → finds_none_in read q (cond t (Some (with_group n.key read.group left)) (get content q.key)) ≡ finds_none_in read q (get content q.key)
    by true h =
        rw (get-inserted n.key.groups read.group left, cursor-stays)
        (sym (ap (finds_none_in read q) (ap (get content) (is_same_name-eq q.key one.key h) ∙ n.had) ∙ (rw n.has refl)))
    by false h = refl

  -- and each group still exists, or doesn't
  pub there-same : (q : ReadOne) → is_some (group_in (get after q.key) read.group) ≡ is_some (group_in (get content q.key) read.group)
  there-same q = ap (λ k. is_some (group_in k read.group)) (ap (λ (c : Content). get c q.key) after-is ∙ get-insert content one.key (with_group n.key read.group left) q.key) ∙ by (is_same_name q.key one.key) refl where
    by : (t : Bool) → is_same_name q.key one.key ≡ t → is_some (group_in (cond t (Some (with_group n.key read.group left)) (get content q.key)) read.group) ≡ is_some (group_in (get content q.key) read.group)
    by true h =
        ap is_some (get-inserted n.key.groups read.group left)
        ∙ sym (ap (λ k. is_some (group_in k read.group)) (ap (get content) (is_same_name-eq q.key one.key h) ∙ n.had) ∙ ap is_some n.has)
    by false h = refl

-- ---- all keys that are read

same-for-all : {X : Type 0} (f g : X → Bool) (xs : List X) → ((x : X) → f x ≡ g x) → list_all f xs ≡ list_all g xs
same-for-all f g [] e = refl
same-for-all f g (x ∷ xs) e = ap (λ b. b && list_all f xs) (e x) ∙ ap (λ b. g x && b) (same-for-all f g xs e)

-- keys that have nothing new have no parts
no-parts : (reads : List ReadOne) (content : Content) (now : ℕ) (read : ReadGroupCommand) → list_all (λ one. finds_none_in read one (get content one.key)) reads ≡ true → parts content now read reads ≡ []
no-parts [] content now read e = refl
no-parts (one ∷ more) content now read e =
    let n = finds-none content read one (first_of _ _ e) in
    let next = after_ask content now one.key read.group (ask_of_read read one.from) in
    let rest = no-parts more next now read (same-for-all _ _ more (finds-same content now read one n) ∙ second_of (finds_none_in read one (get content one.key)) _ e) in
    ap (λ (ps : List Reply). ps ++ parts next now read more) (no-part content now read one n) ∙ rest

-- their groups exist
pub all-there : (reads : List ReadOne) (content : Content) (read : ReadGroupCommand) → list_all (λ one. finds_none_in read one (get content one.key)) reads ≡ true
    → list_all (λ one. is_some (group_in (get content one.key) read.group)) reads ≡ true
all-there [] content read e = refl
all-there (one ∷ more) content read e =
    let n = finds-none content read one (first_of _ _ e) in
    let here : is_some (group_in (get content one.key) read.group) ≡ true = rw (n.had, n.has) refl in
    ap (λ b. b && list_all (λ one. is_some (group_in (get content one.key) read.group)) more) here ∙ all-there more content read (second_of (finds_none_in read one (get content one.key)) _ e)

not-empty : {X : Type 0} (xs ys : List X) → xs ≢ [] → (xs ++ ys) ≢ []
not-empty [] ys h = absurd (h refl)
not-empty (x ∷ xs) ys h = λ e. absurd (cc)

-- a key that has something new, or isn't read from `>`, has a part
one-part : (content : Content) (read : ReadGroupCommand) (one : ReadOne) → is_some (group_in (get content one.key) read.group) ≡ true
    → finds_none_in read one (get content one.key) ≡ false → parts_of_one content read one ≢ []
one-part content read one there e = by one.from (group_in (get content one.key) read.group) there e where
  shown : (ids : List Id) → (length ids == 0) ≡ false → new_part one.key (entries_in (get content one.key)) ids ≢ []
  shown [] e = absurd (false≢true (sym e))
  shown (x ∷ xs) e = λ f. absurd (cc)

  by : (from : ReadFrom) (g : Option GroupState) → is_some g ≡ true
      → (is_new from && option_map_or (λ g. length (new_ids read.limit g.cursor (ids_of (entries_in (get content one.key)))) == 0) g false) ≡ false
      → option_map_or (parts_of_read read one.key from (entries_in (get content one.key))) g [] ≢ []
  by from None there e = absurd (false≢true there)
  by New (Some g) there e = shown (new_ids read.limit g.cursor (ids_of (entries_in (get content one.key)))) e
  by (After id) (Some g) there e = λ f. absurd (cc)

-- so if one of them has, there are parts
some-part : (reads : List ReadOne) (content : Content) (now : ℕ) (read : ReadGroupCommand)
    → list_all (λ one. is_some (group_in (get content one.key) read.group)) reads ≡ true
    → list_all (λ one. finds_none_in read one (get content one.key)) reads ≡ false → parts content now read reads ≢ []
some-part [] content now read there e = absurd (false≢true (sym e))
some-part (one ∷ more) content now read there e =
    by (finds_none_in read one (get content one.key)) refl e
    (λ n g. some-part more (after_ask content now one.key read.group (ask_of_read read one.from)) now read
    (same-for-all _ _ more (there-same content now read one n) ∙ second_of (is_some (group_in (get content one.key) read.group)) _ there)
    (same-for-all _ _ more (finds-same content now read one n) ∙ g)) where
      by : (t : Bool) → finds_none_in read one (get content one.key) ≡ t
          → (t && list_all (λ one. finds_none_in read one (get content one.key)) more) ≡ false
          → (FindsNone content read one → list_all (λ one. finds_none_in read one (get content one.key)) more ≡ false
          → parts (after_ask content now one.key read.group (ask_of_read read one.from)) now read more ≢ [])
          → parts content now read (one ∷ more) ≢ []
      by true h e rest =
          let n = finds-none content read one h in
          let next = after_ask content now one.key read.group (ask_of_read read one.from) in
          λ f. rest n e (sym (ap (λ (ps : List Reply). ps ++ parts next now read more) (no-part content now read one n)) ∙ f)
      by false h e rest = not-empty (parts_of_one content read one) (parts (after_ask content now one.key read.group (ask_of_read read one.from)) now read more) (one-part content read one (first_of _ _ there) h)

-- ---- the reply

pub answered-null : (content : Content) (read : ReadGroupCommand) → finds_nothing content read ≡ true → IsAnsweredNull content (ReadGroup read)
answered-null content read e = λ now.
    ap (λ b. cond b (array_or_null (parts content now read read.reads)) (Error NoGroup)) (all-there read.reads content read e)
    ∙ ap array_or_null (no-parts read.reads content now read e)

pub answered-otherwise : (content : Content) (read : ReadGroupCommand) → finds_nothing content read ≡ false → IsAnsweredOtherwise content (ReadGroup read)
answered-otherwise content read e = λ now. by now (has_all_groups_in content read) refl where
  array : (ps : List Reply) → ps ≢ [] → array_or_null ps ≢ NullArray
  array [] h = absurd (h refl)
  array (p ∷ ps) h = λ f. absurd (cc)

  by : (now : ℕ) (t : Bool) → has_all_groups_in content read ≡ t → cond t (array_or_null (parts content now read read.reads)) (Error NoGroup) ≢ NullArray
  by now true there = array _ (some-part read.reads content now read there e)
  by now false there = λ f. absurd (cc)

pub ruleset answers = (answered-null, answered-otherwise)
