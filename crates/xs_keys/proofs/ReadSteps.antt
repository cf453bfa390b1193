-- Reads of groups: the content after one, several of them, and how they are undone.
use Rattle.std.proofs.Common.{append_assoc, length-append, subst, ◌≡◌, ◌&&◌, ℕ, ◌+◌, ◌<◌, ◌≤◌, Bool, true, false, cond}
use Rattle.std.proofs.Common.{List, [], ◌∷◌, ◌++◌, Option, Some, None, is_some, length, get_or, sym, ap, ◌∙◌, refl}
use Rattle.std.proofs.Common.{arith}
use Rattle.std.proofs.lemmas.List.Concat.{flat_map-append}
use Rattle.std.proofs.lemmas.Bool.{false≢true}
use Rattle.xs_group.specs.declared.delivery.Delivery.{Delivery}
use Rattle.xs_group.specs.GroupState.{GroupState, Rows, is_same_name, new_ids}
use Rattle.xs_group.specs.Deliveries.{row_ids, new_rows, shown_rows, IsMade}
use Rattle.xs_keys.specs.Terms.{flat_map, list_all, option_map_or, NameMap, get, insert, Id, Field, ids_of}
use Rattle.xs_keys.specs.Terms.{Reply, ReadGroupCommand, ReadOne, ReadFrom, New, After}
use Rattle.xs_keys.specs.declared.xreadgroup.Served.{Served}
use Rattle.xs_keys.specs.GroupAsk.{GroupAsk}
use Rattle.xs_keys.specs.GroupLife.{ask_of_read}
use Rattle.xs_keys.specs.Content.{Content, KeyState}
use Rattle.xs_keys.specs.ContentAfter.{after_ask, after_reads, group_after, with_group, group_in}
use Rattle.xs_keys.specs.ContentAfter.{entries_in}
use Rattle.xs_resp.specs.Token.{Token}
use Rattle.xs_resp.specs.ReplyItems.{tokens_of}
use Rattle.xs_keys.specs.Reply.{parts_of_read, parts}
use Rattle.xs_keys.specs.ReplyParts.{new_part}
use Rattle.xs_keys.specs.Reading.{ids_shown, part_of, parts_of_one, IsShown, IsServedAt, IsMadeAt, AreMade}
use Rattle.xs_keys.proofs.NameMaps.{get-insert, is_same_name-eq, is_same_name-refl, same_map}

pub ids-new : (ids : List Id) → row_ids (new_rows ids) ≡ ids
ids-new [] = refl
ids-new (x ∷ xs) = ap (λ rest. x ∷ rest) (ids-new xs)

pub ids-shown : (rows : Rows) (present ids : List Id) → row_ids (shown_rows rows present ids) ≡ ids
ids-shown rows present [] = refl
ids-shown rows present (x ∷ xs) = ap (λ rest. x ∷ rest) (ids-shown rows present xs)

-- an insertion is undone by inserting the value before it again
pub insert-back : {X : Type 0} (m : NameMap X) (name : List ℕ) (a b : X) → get m name ≡ Some b → insert (insert m name a) name b ≡ m
insert-back m name a b e = same_map _ m (λ q. get-insert (insert m name a) name b q ∙ by q (is_same_name q name) refl) where
  by : (q : List ℕ) (t : Bool) → is_same_name q name ≡ t → cond t (Some b) (get (insert m name a) q) ≡ get m q
  by q true h = rw (is_same_name-eq q name h) (sym e)
  by q false h = get-insert m name a q ∙ ap (λ t. cond t (Some a) (get m q)) h

pub get-inserted : {X : Type 0} (m : NameMap X) (name : List ℕ) (a : X) → get (insert m name a) name ≡ Some a
get-inserted m name a = get-insert m name a name ∙ ap (λ t. cond t (Some a) (get m name)) (is_same_name-refl name)

-- an ask of a group that exists
pub asked-at : (content : Content) (now : ℕ) (name group_name : List ℕ) (ask : GroupAsk) (key : KeyState) (was : GroupState)
    → get content name ≡ Some key → get key.groups group_name ≡ Some was
    → after_ask content now name group_name ask ≡ insert content name (with_group key group_name (group_after now (ids_of key.stream.entries) ask was))
asked-at content now name group_name ask key was had has = rw (had, has) refl

-- ---- one read

parts-shown : (read : ReadGroupCommand) (key : List ℕ) (from : ReadFrom) (entries : List (Id × List Field)) (group : GroupState)
    → part_of from key entries (ids_shown read from (ids_of entries) group) ≡ parts_of_read read key from entries group
parts-shown read key New entries group = refl
parts-shown read key (After id) entries group = refl

-- a read of a group that exists, among the keys
pub served-at : (now : ℕ) (read : ReadGroupCommand) (one : ReadOne) (before : Content) (key : KeyState) (was is : GroupState) (tokens longer : List Token) (ids : List Id) (served : Served)
    → get before one.key ≡ Some key → get key.groups read.group ≡ Some was
    → is ≡ group_after now (ids_of key.stream.entries) (ask_of_read read one.from) was
    → ids ≡ ids_shown read one.from (ids_of key.stream.entries) was → IsShown (part_of one.from one.key key.stream.entries ids) served.parts tokens longer
    → IsMade was is served.delivery
    → IsServedAt now read one before (insert before one.key (with_group key read.group is)) tokens longer served
served-at now read one before key was is tokens longer ids served had has left ids-are shows made =
    let entries = key.stream.entries in
    let parts-are = ap (part_of one.from one.key entries) ids-are ∙ parts-shown read one.key one.from entries was in
    record {
      left = ap (λ (g : GroupState). insert before one.key (with_group key read.group g)) left ∙ sym (asked-at before now one.key read.group (ask_of_read read one.from) key was had has);
      shows = rw (had, has) (subst (λ (p : List Reply). IsShown p served.parts tokens longer) parts-are shows);
      made = record { key = key; was = was; is = is; had = had; has = has; put = refl; made = made };
    }

-- ---- what exists still exists

module _ (group name : List ℕ) (before after : Content) (d : Delivery) (m : IsMadeAt group name before after d) where
  pub stays-there : (q : List ℕ) → is_some (group_in (get before q) group) ≡ true → is_some (group_in (get after q) group) ≡ true
  stays-there q h =
      ap (λ (c : Content). is_some (group_in (get c q) group)) m.put
      ∙ ap (λ k. is_some (group_in k group)) (get-insert before name (with_group m.key group m.is) q) ∙ by (is_same_name q name) where
        by : (t : Bool) → is_some (group_in (cond t (Some (with_group m.key group m.is)) (get before q)) group) ≡ true
        by true = ap is_some (get-inserted m.key.groups group m.is)
        by false = h

  pub all-stay : (reads : List ReadOne) → list_all (λ one. is_some (group_in (get before one.key) group)) reads ≡ true
      → list_all (λ one. is_some (group_in (get after one.key) group)) reads ≡ true
  all-stay [] h = refl
  all-stay (one ∷ more) h = by (is_some (group_in (get before one.key) group)) refl h (λ rest. all-stay more rest) where
    by : (t : Bool) → is_some (group_in (get before one.key) group) ≡ t
        → (t && list_all (λ one. is_some (group_in (get before one.key) group)) more) ≡ true
        → (list_all (λ one. is_some (group_in (get before one.key) group)) more ≡ true → list_all (λ one. is_some (group_in (get after one.key) group)) more ≡ true)
        → list_all (λ one. is_some (group_in (get after one.key) group)) (one ∷ more) ≡ true
    by true e rest more_stay = rw (stays-there one.key e) (more_stay rest)
    by false e rest more_stay = absurd (false≢true rest)

-- ---- a chain of reads

pub made-push : (group : List ℕ) (reads : List ReadOne) (ds : List Delivery) (first middle last : Content) (one : ReadOne) (d : Delivery)
    → AreMade group reads ds first middle → length ds < length reads → one ≡ get_or reads (length ds) one
    → IsMadeAt group one.key middle last d → AreMade group reads (ds ++ d ∷ []) first last
made-push group [] [] first middle last one d so_far lt at m = absurd (omega arith)
made-push group [] (e ∷ ds) first middle last one d so_far lt at m = absurd so_far
made-push group (r ∷ reads) [] first middle last one d so_far lt at m = rw (← so_far, ← at) (last, m, refl)
made-push group (r ∷ reads) (e ∷ ds) first middle last one d so_far lt at m =
    (so_far.0, so_far.1, made-push group reads ds so_far.0 middle last one d so_far.2 (omega arith) at m)

-- the last of a chain
pub record Split (group : List ℕ) (reads : List ReadOne) (ds : List Delivery) (first last : Content) (one : ReadOne) (d : Delivery) : Type 0 where
  pub middle : Content
  pub before : AreMade group reads ds first middle
  pub made : IsMadeAt group one.key middle last d

pub made-pop : (group : List ℕ) (reads : List ReadOne) (ds : List Delivery) (first last : Content) (one : ReadOne) (d : Delivery)
    → AreMade group reads (ds ++ d ∷ []) first last → one ≡ get_or reads (length ds) one → Split group reads ds first last one d
made-pop group [] [] first last one d all at = absurd all
made-pop group [] (e ∷ ds) first last one d all at = absurd all
made-pop group (r ∷ reads) [] first last one d all at = record { middle = first; before = refl; made = rw (at, all.2) all.1 }
made-pop group (r ∷ reads) (e ∷ ds) first last one d all at =
    let more = made-pop group reads ds all.0 last one d all.2 at in
    record { middle = more.middle; before = (all.0, all.1, more.before); made = more.made }

-- there are no more deliveries than reads
pub made-shorter : (group : List ℕ) (reads : List ReadOne) (ds : List Delivery) (first last : Content) (d : Delivery)
    → AreMade group reads (ds ++ d ∷ []) first last → length ds < length reads
made-shorter group [] [] first last d all = absurd all
made-shorter group [] (e ∷ ds) first last d all = absurd all
made-shorter group (r ∷ reads) [] first last d all = omega arith
made-shorter group (r ∷ reads) (e ∷ ds) first last d all = omega (arith, made-shorter group reads ds all.0 last d all.2)

-- ---- one read undone

module _ (group name : List ℕ) (before after : Content) (d : Delivery) (m : IsMadeAt group name before after d) where
  found : get after name ≡ Some (with_group m.key group m.is)
  found = ap (λ (c : Content). get c name) m.put ∙ get-inserted before name (with_group m.key group m.is)

  pub made-there : is_some (group_in (get after name) group) ≡ true
  made-there = ap (λ k. is_some (group_in k group)) found ∙ ap is_some (get-inserted m.key.groups group m.is)

  -- the key that exists is the one that the read left
  key-left : (key : KeyState) → get after name ≡ Some key → with_group m.key group m.is ≡ key
  key-left key there =
      let e : Some (with_group m.key group m.is) ≡ Some key = sym found ∙ there in
      cc e

  -- so is the group
  pub made-state : (key : KeyState) (now : GroupState) → get after name ≡ Some key → get key.groups group ≡ Some now → IsMade m.was now d
  made-state key now there has =
      let left : get key.groups group ≡ Some m.is = ap (λ (k : KeyState). get k.groups group) (sym (key-left key there)) ∙ get-inserted m.key.groups group m.is in
      let same : m.is ≡ now = cc (left, has) in
      subst (λ s. IsMade m.was s d) same m.made

  pub taken-back : (key : KeyState) → get after name ≡ Some key → insert after name (with_group key group m.was) ≡ before
  taken-back key there =
      ap (λ (k : KeyState). insert after name (with_group k group m.was)) (sym (key-left key there))
      ∙ ap (λ (groups : NameMap GroupState). insert after name (record { stream = m.key.stream; groups = groups })) (insert-back m.key.groups group m.is m.was m.has)
      ∙ ap (λ (c : Content). insert c name m.key) m.put ∙ insert-back before name (with_group m.key group m.is) m.key m.had

-- ---- several reads, one more of them

pub first-there : (test : ReadOne → Bool) (one : ReadOne) (more : List ReadOne) → list_all test (one ∷ more) ≡ true → test one ≡ true
first-there test one more h = by (test one) h where
  by : (t : Bool) → (t && list_all test more) ≡ true → t ≡ true
  by true h = refl
  by false h = absurd (false≢true h)

-- of all these reads some are left, and they lead to the content that all of them would lead to
pub record Underway (now : ℕ) (read : ReadGroupCommand) (all : List ReadOne) (first : Content) (left : List ReadOne) (here : Content) (tokens : List Token) (count : ℕ) : Type 0 where
  pub content : after_reads here now read left ≡ after_reads first now read all
  pub shown : tokens ++ flat_map tokens_of (parts here now read left) ≡ flat_map tokens_of (parts first now read all)
  pub counted : count + length (parts here now read left) ≡ length (parts first now read all)
  pub there : list_all (λ one. is_some (group_in (get here one.key) read.group)) left ≡ true

pub one-more : (now : ℕ) (read : ReadGroupCommand) (all : List ReadOne) (first : Content) (one : ReadOne) (more : List ReadOne) (before after : Content) (tokens longer : List Token) (count : ℕ) (served : Served)
    → Underway now read all first (one ∷ more) before tokens count → IsServedAt now read one before after tokens longer served → Underway now read all first more after longer (count + served.parts)
one-more now read all first one more before after tokens longer count served u s =
    let this = parts_of_one before read one in
    let split : parts before now read (one ∷ more) ≡ this ++ parts after now read more = ap (λ c. this ++ parts c now read more) (sym s.left) in
    record {
      content = ap (λ c. after_reads c now read more) s.left ∙ u.content;
      shown =
          ap (λ ts. ts ++ flat_map tokens_of (parts after now read more)) s.shows.appended
          ∙ append_assoc tokens (flat_map tokens_of this) (flat_map tokens_of (parts after now read more))
          ∙ ap (λ rest. tokens ++ rest) (sym (flat_map-append tokens_of this (parts after now read more)) ∙ ap (flat_map tokens_of) (sym split))
          ∙ u.shown;
      counted = omega (arith, u.counted, ap length split, length-append this (parts after now read more), s.shows.counted);
      there = all-stay read.group one.key before after served.delivery s.made more (by (is_some (group_in (get before one.key) read.group)) u.there);
    } where
      by : (t : Bool) → (t && list_all (λ one. is_some (group_in (get before one.key) read.group)) more) ≡ true → list_all (λ one. is_some (group_in (get before one.key) read.group)) more ≡ true
      by true h = h
      by false h = absurd (false≢true h)

-- a read has at most one part
pub one-part : (read : ReadGroupCommand) (key : List ℕ) (from : ReadFrom) (entries : List (Id × List Field)) (group : Option GroupState)
    → length (option_map_or (parts_of_read read key from entries) group []) ≤ 1
one-part read key from entries None = omega arith
one-part read key (After id) entries (Some group) = omega arith
one-part read key New entries (Some group) = by (new_ids read.limit group.cursor (ids_of entries)) where
  by : (ids : List Id) → length (new_part key entries ids) ≤ 1
  by [] = omega arith
  by (x ∷ xs) = omega arith

-- so all of them together have at most as many parts as there are reads
pub parts-le : (content : Content) (now : ℕ) (read : ReadGroupCommand) (reads : List ReadOne) → length (parts content now read reads) ≤ length reads
parts-le content now read [] = omega arith
parts-le content now read (one ∷ more) =
    let this = parts_of_one content read one in
    let after = after_ask content now one.key read.group (ask_of_read read one.from) in
    omega (arith, one-part read one.key one.from (entries_in (get content one.key)) (group_in (get content one.key) read.group), parts-le after now read more, length-append this (parts after now read more))
