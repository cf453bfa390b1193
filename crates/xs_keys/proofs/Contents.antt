-- The content of a history: the empty one, one more event, and that there is only one.
use Rattle.std.proofs.Common.{◌≡◌, ℕ, Bool, true, false, cond, ◌||◌, ◌&&◌, List, [], ◌∷◌, Option, Some, None, is_some}
use Rattle.std.proofs.Common.{sym, ap, ◌∙◌, refl, subst}
use Rattle.std.proofs.lemmas.Bool.{false≢true}
use Rattle.xs_bytes.proofs.SortedMaps.{get-empty, same_entries_map}
use Rattle.std.specs.Ordering.{nat_cmp}
use Rattle.std.specs.Cmp.Lexicographic.{slice_cmp}
use Rattle.xs_keys.specs.Event.{History}
use Rattle.xs_keys.specs.Terms.{option_map, option_map_or, option_or, list_all, NameMap, empty, get, has_key, insert}
use Rattle.xs_keys.specs.Terms.{remove, Id, Ascends, ids_of, GroupState, is_same_name, new_group, Command, Ping, Quit}
use Rattle.xs_keys.specs.Terms.{Add, Delete, TrimTo, Len, Scan, GroupCreate, GroupDestroy, ConsumerCreate}
use Rattle.xs_keys.specs.Terms.{ConsumerDelete, ReadGroup, Ack, Pending, PendingRows, Claim, AutoClaim, DropKeys, Inspect}
use Rattle.xs_keys.specs.Terms.{GroupCreateCommand, ReadGroupCommand, ReadOne}
use Rattle.xs_keys.specs.Life.{StreamEvent, add_entry, delete_entries, trim_entries, is_listed, life_or_new, key_life}
use Rattle.xs_keys.specs.GroupAsk.{GroupAsk, create_consumer, delete_consumer, acknowledge, claim, auto_claim}
use Rattle.xs_keys.specs.GroupLife.{GroupLife, present_in, starting_id, new_life, life_after_ask, ask_of_read}
use Rattle.xs_keys.specs.GroupLife.{life_after_reads, group_life}
use Rattle.xs_keys.specs.Content.{KeyState, Content, IsGroupOfLife, GroupHolds, KeyHolds, IsContent}
use Rattle.xs_keys.specs.ContentAfter.{new_key, key_or_new, stream_after, key_after, after_stream_event}
use Rattle.xs_keys.specs.ContentAfter.{without_keys, group_after, with_group, after_ask, after_create}
use Rattle.xs_keys.specs.ContentAfter.{group_in, has_all_groups_in, after_reads, content_after}
use Rattle.xs_keys.proofs.NameMaps.{is_same_name-eq, get-insert, get-remove, same_map}
use Rattle.xs_keys.proofs.Streams.{stream-step, ascends-present}
use Rattle.xs_keys.proofs.GroupSteps.{group-step, group-new}

-- groups by name, and their lives
abbrev pub GroupsHold : NameMap GroupState → (List ℕ → Option GroupLife) → Type 0
GroupsHold groups lives = (group : List ℕ) → GroupHolds (get groups group) (lives group)

-- keys by name, with the lives of their streams and of their groups
abbrev pub Holds : Content → (List ℕ → Option (List StreamEvent)) → (List ℕ → List ℕ → Option GroupLife) → Type 0
Holds c streams lives = (q : List ℕ) → KeyHolds (get c q) (streams q) (lives q)

pub no_life : (life : Option GroupLife) → GroupHolds None life → life ≡ None
no_life None h = refl
no_life (Some life) h = absurd h

no_groups : (lives : List ℕ → Option GroupLife) → ((g : List ℕ) → GroupHolds None (lives g)) → GroupsHold empty lives
no_groups lives h = λ g. subst (λ s. GroupHolds s (lives g)) (sym (get-empty _ g)) (h g)

-- ---- a change of the stream of a key

holds-change : (change : StreamEvent) (key : KeyState) (changes : List StreamEvent) (lives : List ℕ → Option GroupLife)
    → KeyHolds (Some key) (Some changes) lives → KeyHolds (Some (key_after change key)) (Some (change ∷ changes)) lives
holds-change change key changes lives h = (sym (stream-step change changes ∙ ap (stream_after change) (sym h.0)), h.1)

holds-new : (change : StreamEvent) (lives : List ℕ → Option GroupLife) → ((g : List ℕ) → GroupHolds None (lives g))
    → KeyHolds (Some (key_after change new_key)) (Some (change ∷ [])) lives
holds-new change lives h = (sym (stream-step change []), no_groups lives h)

holds-changed : (c : Content) (name : List ℕ) (change : StreamEvent) (key : Option KeyState) (life : Option (List StreamEvent)) (lives : List ℕ → Option GroupLife) (q : List ℕ)
    → get c name ≡ key → KeyHolds key life lives → is_same_name q name ≡ true → KeyHolds (get (after_stream_event c name change key) q) (option_map (λ changes. change ∷ changes) life) lives
holds-changed c name change None None lives q e h same = rw (is_same_name-eq q name same, e) h
holds-changed c name change (Some key) (Some changes) lives q e h same = rw (get-insert c name (key_after change key) q, same) (holds-change change key changes lives h)
holds-changed c name change None (Some changes) lives q e h same = absurd h
holds-changed c name change (Some key) None lives q e h same = absurd h

-- another key is unchanged
changed-other : (c : Content) (name : List ℕ) (change : StreamEvent) (key : Option KeyState) (q : List ℕ) → is_same_name q name ≡ false → get (after_stream_event c name change key) q ≡ get c q
changed-other c name change None q other = refl
changed-other c name change (Some key) q other = rw (get-insert c name (key_after change key) q, other) refl

holds-addition : (c : Content) (name : List ℕ) (change : StreamEvent) (make : Bool) (key : Option KeyState) (life : Option (List StreamEvent)) (lives : List ℕ → Option GroupLife) (q : List ℕ)
    → get c name ≡ key → KeyHolds key life lives → is_same_name q name ≡ true → KeyHolds (get (after_stream_event c name change (key_or_new make key)) q) (option_map (λ changes. change ∷ changes) (life_or_new make life)) lives
holds-addition c name change true None None lives q e h same = rw (get-insert c name (key_after change new_key) q, same) (holds-new change lives h)
holds-addition c name change false None None lives q e h same = rw (is_same_name-eq q name same, e) h
holds-addition c name change make (Some key) (Some changes) lives q e h same = rw (get-insert c name (key_after change key) q, same) (holds-change change key changes lives h)
holds-addition c name change make None (Some changes) lives q e h same = absurd h
holds-addition c name change make (Some key) None lives q e h same = absurd h

pub get-without_keys : (names : List (List ℕ)) (c : Content) (q : List ℕ) → get (without_keys names c) q ≡ cond (is_listed names q) None (get c q)
get-without_keys [] c q = refl
get-without_keys (name ∷ names) c q = get-without_keys names (remove c name) q ∙ ap (cond (is_listed names q) None) (get-remove c name q) ∙ by (is_same_name q name) (is_listed names q) where
  by : (one others : Bool) → cond others None (cond one None (get c q)) ≡ cond (one || others) None (get c q)
  by true true = refl
  by true false = refl
  by false others = refl

holds-dropped : (t : Bool) (key : Option KeyState) (life : Option (List StreamEvent)) (lives : List ℕ → Option GroupLife) → KeyHolds key life lives
    → KeyHolds (cond t None key) (cond t None life) (λ g. cond t None (lives g))
holds-dropped true key life lives h = λ g. tt
holds-dropped false key life lives h = h

-- ---- an ask of a group

holds-asked : (g : GroupState) (life : Option GroupLife) (now : ℕ) (present : List Id) → Ascends present → (ask : GroupAsk) → GroupHolds (Some g) life
    → GroupHolds (Some (group_after now present ask g)) (life_after_ask now present ask life)
holds-asked g None now present asc ask h = absurd h
holds-asked g (Some life) now present asc ask h = group-step life g h now present asc ask

no_ask : (life : Option GroupLife) (now : ℕ) (present : List Id) (ask : GroupAsk) → GroupHolds None life → GroupHolds None (life_after_ask now present ask life)
no_ask None now present ask h = tt
no_ask (Some life) now present ask h = absurd h

-- if there is no such group, no group is changed
unasked : (groups : NameMap GroupState) (lives : List ℕ → Option GroupLife) (group : List ℕ) (now : ℕ) (present : List Id) (ask : GroupAsk) → GroupsHold groups lives → get groups group ≡ None
    → GroupsHold groups (λ g. cond (is_same_name g group) (life_after_ask now present ask (lives g)) (lives g))
unasked groups lives group now present ask h none = λ g. by g (is_same_name g group) refl where
  by : (g : List ℕ) (t : Bool) → is_same_name g group ≡ t → GroupHolds (get groups g) (cond t (life_after_ask now present ask (lives g)) (lives g))
  by g true e =
      let gone : get groups g ≡ None = ap (get groups) (is_same_name-eq g group e) ∙ none in
      subst (λ s. GroupHolds s (life_after_ask now present ask (lives g))) (sym gone) (no_ask (lives g) now present ask (subst (λ s. GroupHolds s (lives g)) gone (h g)))
  by g false e = h g

asks-groups : (groups : NameMap GroupState) (lives : List ℕ → Option GroupLife) (group : List ℕ) (s : GroupState) (now : ℕ) (present : List Id) → Ascends present → (ask : GroupAsk) → GroupsHold groups lives
    → get groups group ≡ Some s → GroupsHold (insert groups group (group_after now present ask s)) (λ g. cond (is_same_name g group) (life_after_ask now present ask (lives g)) (lives g))
asks-groups groups lives group s now present asc ask h is = λ g. subst (λ x. GroupHolds x (cond (is_same_name g group) (life_after_ask now present ask (lives g)) (lives g))) (sym (get-insert groups group (group_after now present ask s) g)) (by g (is_same_name g group) refl) where
  by : (g : List ℕ) (t : Bool) → is_same_name g group ≡ t → GroupHolds (cond t (Some (group_after now present ask s)) (get groups g)) (cond t (life_after_ask now present ask (lives g)) (lives g))
  by g true e = holds-asked s (lives g) now present asc ask (subst (λ x. GroupHolds x (lives g)) (ap (get groups) (is_same_name-eq g group e) ∙ is) (h g))
  by g false e = h g

abbrev asked_group : Content → ℕ → List ℕ → List ℕ → GroupAsk → KeyState → Option GroupState → Content
asked_group c now name group ask key s =
    option_map_or (λ g. insert c name (with_group key group (group_after now (ids_of key.stream.entries) ask g))) s c

abbrev asked_key : Content → ℕ → List ℕ → List ℕ → GroupAsk → Option KeyState → Content
asked_key c now name group ask key = option_map_or (λ k. asked_group c now name group ask k (get k.groups group)) key c

-- the key of the group
asks-key : (c : Content) (now : ℕ) (name group : List ℕ) (ask : GroupAsk) (key : KeyState) (changes : List StreamEvent) (lives : List ℕ → Option GroupLife) (s : Option GroupState) (q : List ℕ)
    → get key.groups group ≡ s → get c name ≡ Some key → is_same_name q name ≡ true → KeyHolds (Some key) (Some changes) lives
    → KeyHolds (get (asked_group c now name group ask key s) q) (Some changes) (λ g. cond (is_same_name g group) (life_after_ask now (ids_of key.stream.entries) ask (lives g)) (lives g))
asks-key c now name group ask key changes lives None q none is same h =
    rw (is_same_name-eq q name same, is) (h.0, unasked key.groups lives group now (ids_of key.stream.entries) ask h.1 none)
asks-key c now name group ask key changes lives (Some s) q found is same h =
    let asc : Ascends (ids_of key.stream.entries) = subst (λ k. Ascends (ids_of k.entries)) (sym h.0) (ascends-present changes) in
    rw (get-insert c name (with_group key group (group_after now (ids_of key.stream.entries) ask s)) q, same)
    (h.0, asks-groups key.groups lives group s now (ids_of key.stream.entries) asc ask h.1 found)

asks-here : (c : Content) (now : ℕ) (name group : List ℕ) (ask : GroupAsk) (key : Option KeyState) (stream : Option (List StreamEvent)) (lives : List ℕ → Option GroupLife) (q : List ℕ)
    → get c name ≡ key → is_same_name q name ≡ true → KeyHolds key stream lives
    → KeyHolds (get (asked_key c now name group ask key) q) stream (λ g. cond (is_same_name g group) (life_after_ask now (present_in stream) ask (lives g)) (lives g))
asks-here c now name group ask None None lives q none same h = rw (is_same_name-eq q name same, none) (λ g. by g (is_same_name g group)) where
  by : (g : List ℕ) (t : Bool) → GroupHolds None (cond t (life_after_ask now [] ask (lives g)) (lives g))
  by g true = no_ask (lives g) now [] ask (h g)
  by g false = h g
asks-here c now name group ask (Some key) (Some changes) lives q is same h =
    subst (λ k. KeyHolds (get (asked_key c now name group ask (Some key)) q) (Some changes) (λ g. cond (is_same_name g group) (life_after_ask now (ids_of k.entries) ask (lives g)) (lives g))) h.0
    (asks-key c now name group ask key changes lives (get key.groups group) q refl is same h)
asks-here c now name group ask None (Some changes) lives q is same h = absurd h
asks-here c now name group ask (Some key) None lives q is same h = absurd h

asked-other : (c : Content) (now : ℕ) (name group : List ℕ) (ask : GroupAsk) (key : Option KeyState) (q : List ℕ) → is_same_name q name ≡ false → get (asked_key c now name group ask key) q ≡ get c q
asked-other c now name group ask None q other = refl
asked-other c now name group ask (Some key) q other = by (get key.groups group) where
  by : (s : Option GroupState) → get (asked_group c now name group ask key s) q ≡ get c q
  by None = refl
  by (Some s) = rw (get-insert c name (with_group key group (group_after now (ids_of key.stream.entries) ask s)) q, other) refl

-- an ask of a group of one key leaves the others unchanged
pub asked-elsewhere : (c : Content) (now : ℕ) (name group : List ℕ) (ask : GroupAsk) (q : List ℕ) → is_same_name q name ≡ false → get (after_ask c now name group ask) q ≡ get c q
asked-elsewhere c now name group ask q other = asked-other c now name group ask (get c name) q other

pub holds-ask : (c : Content) (streams : List ℕ → Option (List StreamEvent)) (lives : List ℕ → List ℕ → Option GroupLife) (now : ℕ) (name group : List ℕ) (ask : GroupAsk)
    → Holds c streams lives → Holds (after_ask c now name group ask) streams (λ q g. cond (is_same_name q name && is_same_name g group) (life_after_ask now (present_in (streams q)) ask (lives q g)) (lives q g))
holds-ask c streams lives now name group ask h = λ q. by q (is_same_name q name) refl where
  by : (q : List ℕ) (t : Bool) → is_same_name q name ≡ t
      → KeyHolds (get (after_ask c now name group ask) q) (streams q) (λ g. cond (t && is_same_name g group) (life_after_ask now (present_in (streams q)) ask (lives q g)) (lives q g))
  by q true e = asks-here c now name group ask (get c name) (streams q) (lives q) q refl e (subst (λ n. KeyHolds (get c n) (streams q) (lives q)) (is_same_name-eq q name e) (h q))
  by q false e = subst (λ k. KeyHolds k (streams q) (lives q)) (sym (asked-other c now name group ask (get c name) q e)) (h q)

-- ---- reads

part-read : (one two : Bool) (a b : Option GroupLife) → cond (one && two) a b ≡ cond two (cond one a b) b
part-read true true a b = refl
part-read true false a b = refl
part-read false true a b = refl
part-read false false a b = refl

read-lives : (t : Bool) (now : ℕ) (present : List Id) (read : ReadGroupCommand) (q : List ℕ) (more : List ReadOne) (here : Bool) (a b : Option GroupLife)
    → cond t (life_after_reads now present read q more (cond (here && t) a b)) (cond (here && t) a b) ≡ cond t (life_after_reads now present read q more (cond here a b)) b
read-lives true now present read q more true a b = refl
read-lives true now present read q more false a b = refl
read-lives false now present read q more true a b = refl
read-lives false now present read q more false a b = refl

holds-reads : (reads : List ReadOne) (c : Content) (streams : List ℕ → Option (List StreamEvent)) (lives : List ℕ → List ℕ → Option GroupLife) (now : ℕ) (read : ReadGroupCommand)
    → Holds c streams lives → Holds (after_reads c now read reads) streams (λ q g. cond (is_same_name g read.group) (life_after_reads now (present_in (streams q)) read q reads (lives q g)) (lives q g))
holds-reads [] c streams lives now read h = λ q. subst (KeyHolds (get c q) (streams q)) (λ i g. same (is_same_name g read.group) (lives q g) i) (h q) where
  same : (t : Bool) (a : Option GroupLife) → a ≡ cond t a a
  same true a = refl
  same false a = refl
holds-reads (one ∷ more) c streams lives now read h =
    let next = holds-reads more (after_ask c now one.key read.group (ask_of_read read one.from)) streams _ now read (holds-ask c streams lives now one.key read.group (ask_of_read read one.from) h) in
    λ q. subst (KeyHolds (get (after_reads c now read (one ∷ more)) q) (streams q))
    (λ i g. read-lives (is_same_name g read.group) now (present_in (streams q)) read q more (is_same_name q one.key)
    (life_after_ask now (present_in (streams q)) (ask_of_read read one.from) (lives q g)) (lives q g) i)
    (next q)

group-known : (key : Option KeyState) (stream : Option (List StreamEvent)) (lives : List ℕ → Option GroupLife) (group : List ℕ) → KeyHolds key stream lives → is_some (group_in key group) ≡ is_some (lives group)
group-known None None lives group h = ap is_some (sym (no_life (lives group) (h group)))
group-known (Some key) (Some changes) lives group h = by (get key.groups group) (lives group) (h.1 group) where
  by : (s : Option GroupState) (l : Option GroupLife) → GroupHolds s l → is_some s ≡ is_some l
  by None None h = refl
  by (Some s) (Some l) h = refl
  by None (Some l) h = absurd h
  by (Some s) None h = absurd h
group-known None (Some changes) lives group h = absurd h
group-known (Some key) None lives group h = absurd h

pub serves-known : (reads : List ReadOne) (c : Content) (past : History) (group : List ℕ) → IsContent c past
    → list_all (λ one. is_some (group_in (get c one.key) group)) reads ≡ list_all (λ one. is_some (group_life past one.key group)) reads
serves-known [] c past group h = refl
serves-known (one ∷ more) c past group h =
    λ i. group-known (get c one.key) (key_life past one.key) (λ g. group_life past one.key g) group (h one.key) i && serves-known more c past group h i

-- ---- a group that begins, and one that ends

-- a new group among others
begins : (groups : NameMap GroupState) (lives : List ℕ → Option GroupLife) (create : GroupCreateCommand) (stream : Option (List StreamEvent)) (start : Id) → GroupsHold groups lives
    → get groups create.group ≡ None → new_life create stream ≡ Some (record { start = start; events = [] })
    → GroupsHold (insert groups create.group (new_group start)) (λ g. cond (is_same_name g create.group) (option_or (lives g) (new_life create stream)) (lives g))
begins groups lives create stream start h none opens = λ g. subst (λ x. GroupHolds x (cond (is_same_name g create.group) (option_or (lives g) (new_life create stream)) (lives g))) (sym (get-insert groups create.group (new_group start) g)) (by g (is_same_name g create.group) refl) where
  by : (g : List ℕ) (t : Bool) → is_same_name g create.group ≡ t → GroupHolds (cond t (Some (new_group start)) (get groups g)) (cond t (option_or (lives g) (new_life create stream)) (lives g))
  by g true e =
      let gone : lives g ≡ None = no_life (lives g) (subst (λ s. GroupHolds s (lives g)) (ap (get groups) (is_same_name-eq g create.group e) ∙ none) (h g)) in
      subst (GroupHolds (Some (new_group start))) (sym (ap (λ l. option_or l (new_life create stream)) gone ∙ opens)) (group-new start)
  by g false e = h g

-- a group that exists already stays
stays : (groups : NameMap GroupState) (lives : List ℕ → Option GroupLife) (create : GroupCreateCommand) (stream : Option (List StreamEvent)) (s : GroupState) → GroupsHold groups lives → get groups create.group ≡ Some s
    → GroupsHold groups (λ g. cond (is_same_name g create.group) (option_or (lives g) (new_life create stream)) (lives g))
stays groups lives create stream s h is = λ g. by g (is_same_name g create.group) refl where
  open_life : (x : Option GroupState) (l : Option GroupLife) → is_some x ≡ true → GroupHolds x l → GroupHolds x (option_or l (new_life create stream))
  open_life (Some s) (Some l) e h = h
  open_life (Some s) None e h = absurd h
  open_life None l e h = absurd (false≢true e)

  by : (g : List ℕ) (t : Bool) → is_same_name g create.group ≡ t → GroupHolds (get groups g) (cond t (option_or (lives g) (new_life create stream)) (lives g))
  by g true e = open_life (get groups g) (lives g) (ap (λ n. is_some (get groups n)) (is_same_name-eq g create.group e) ∙ ap is_some is) (h g)
  by g false e = h g

makes : (c : Content) (create : GroupCreateCommand)
    → after_create c create (Some new_key) ≡ insert c create.key (with_group new_key create.group (new_group (starting_id create.start new_key.stream.top)))
makes c create =
    ap (λ s. cond (is_some s) c (insert c create.key (with_group new_key create.group (new_group (starting_id create.start new_key.stream.top))))) (get-empty _ create.group)

opens_new : (create : GroupCreateCommand) → create.make ≡ true → new_life create None ≡ Some (record { start = starting_id create.start new_key.stream.top; events = [] })
opens_new create m = rw m refl

opens_none : (create : GroupCreateCommand) → create.make ≡ false → new_life create None ≡ None
opens_none create m = rw m refl

creates-key : (c : Content) (create : GroupCreateCommand) (key : KeyState) (changes : List StreamEvent) (lives : List ℕ → Option GroupLife) (s : Option GroupState) (q : List ℕ)
    → get key.groups create.group ≡ s → get c create.key ≡ Some key → is_same_name q create.key ≡ true → KeyHolds (Some key) (Some changes) lives
    → KeyHolds (get (cond (is_some s) c (insert c create.key (with_group key create.group (new_group (starting_id create.start key.stream.top))))) q)
    (Some changes) (λ g. cond (is_same_name g create.group) (option_or (lives g) (new_life create (Some changes))) (lives g))
creates-key c create key changes lives (Some s) q found is same h = rw (is_same_name-eq q create.key same, is) (h.0, stays key.groups lives create (Some changes) s h.1 found)
creates-key c create key changes lives None q none is same h =
    rw (get-insert c create.key (with_group key create.group (new_group (starting_id create.start key.stream.top))) q, same)
    (h.0, begins key.groups lives create (Some changes) (starting_id create.start key.stream.top) h.1 none (ap (λ k. Some (record { start = starting_id create.start k.top; events = [] })) (sym h.0)))

creates-here : (c : Content) (create : GroupCreateCommand) (make : Bool) → create.make ≡ make → (key : Option KeyState) (stream : Option (List StreamEvent)) (lives : List ℕ → Option GroupLife) (q : List ℕ)
    → get c create.key ≡ key → is_same_name q create.key ≡ true → KeyHolds key stream lives
    → KeyHolds (get (after_create c create (key_or_new make key)) q) (life_or_new make stream) (λ g. cond (is_same_name g create.group) (option_or (lives g) (new_life create stream)) (lives g))
creates-here c create true m None None lives q none same h =
    subst (λ k. KeyHolds k (Some []) (λ g. cond (is_same_name g create.group) (option_or (lives g) (new_life create None)) (lives g)))
    (sym (ap (λ k. get k q) (makes c create) ∙ get-insert c create.key (with_group new_key create.group (new_group (starting_id create.start new_key.stream.top))) q
    ∙ ap (λ b. cond b (Some (with_group new_key create.group (new_group (starting_id create.start new_key.stream.top)))) (get c q)) same))
    (refl, begins empty lives create None (starting_id create.start new_key.stream.top) (no_groups lives h) (get-empty _ create.group) (opens_new create m))
creates-here c create false m None None lives q none same h =
    subst (λ k. KeyHolds k None (λ g. cond (is_same_name g create.group) (option_or (lives g) (new_life create None)) (lives g)))
    (sym (ap (get c) (is_same_name-eq q create.key same) ∙ none)) (λ g. by g (is_same_name g create.group)) where
      by : (g : List ℕ) (t : Bool) → GroupHolds None (cond t (option_or (lives g) (new_life create None)) (lives g))
      by g true = subst (GroupHolds None) (sym (ap (λ l. option_or l (new_life create None)) (no_life (lives g) (h g)) ∙ opens_none create m)) tt
      by g false = h g
creates-here c create make m (Some key) (Some changes) lives q is same h =
    creates-key c create key changes lives (get key.groups create.group) q refl is same h
creates-here c create make m None (Some changes) lives q is same h = absurd h
creates-here c create make m (Some key) None lives q is same h = absurd h

created-other : (c : Content) (create : GroupCreateCommand) (key : Option KeyState) (q : List ℕ) → is_same_name q create.key ≡ false → get (after_create c create key) q ≡ get c q
created-other c create None q other = refl
created-other c create (Some key) q other = by (has_key key.groups create.group) where
  by : (t : Bool) → get (cond t c (insert c create.key (with_group key create.group (new_group (starting_id create.start key.stream.top))))) q ≡ get c q
  by true = refl
  by false = rw (get-insert c create.key (with_group key create.group (new_group (starting_id create.start key.stream.top))) q, other) refl

abbrev without_group : Content → List ℕ → List ℕ → Option KeyState → Content
without_group c name group key = option_map_or (λ k. insert c name (record k { groups = remove k.groups group })) key c

ends : (groups : NameMap GroupState) (lives : List ℕ → Option GroupLife) (group : List ℕ) → GroupsHold groups lives → GroupsHold (remove groups group) (λ g. cond (is_same_name g group) None (lives g))
ends groups lives group h = λ g. subst (λ x. GroupHolds x (cond (is_same_name g group) None (lives g))) (sym (get-remove groups group g)) (by g (is_same_name g group)) where
  by : (g : List ℕ) (t : Bool) → GroupHolds (cond t None (get groups g)) (cond t None (lives g))
  by g true = tt
  by g false = h g

destroys-here : (c : Content) (name group : List ℕ) (key : Option KeyState) (stream : Option (List StreamEvent)) (lives : List ℕ → Option GroupLife) (q : List ℕ)
    → get c name ≡ key → is_same_name q name ≡ true → KeyHolds key stream lives → KeyHolds (get (without_group c name group key) q) stream (λ g. cond (is_same_name g group) None (lives g))
destroys-here c name group None None lives q none same h = rw (is_same_name-eq q name same, none) (λ g. by g (is_same_name g group)) where
  by : (g : List ℕ) (t : Bool) → GroupHolds None (cond t None (lives g))
  by g true = tt
  by g false = h g
destroys-here c name group (Some key) (Some changes) lives q is same h =
    rw (get-insert c name (record { stream = key.stream; groups = remove key.groups group }) q, same) (h.0, ends key.groups lives group h.1)
destroys-here c name group None (Some changes) lives q is same h = absurd h
destroys-here c name group (Some key) None lives q is same h = absurd h

destroyed-other : (c : Content) (name group : List ℕ) (key : Option KeyState) (q : List ℕ) → is_same_name q name ≡ false → get (without_group c name group key) q ≡ get c q
destroyed-other c name group None q other = refl
destroyed-other c name group (Some key) q other = rw (get-insert c name (record { stream = key.stream; groups = remove key.groups group }) q, other) refl

-- ---- an event

module _ (c : Content) (past : History) (h : IsContent c past) (q : List ℕ) where
  lives : List ℕ → Option GroupLife
  lives g = group_life past q g

  -- what is true of a key is true of it under an equal name
  at_name : (name : List ℕ) → is_same_name q name ≡ true → KeyHolds (get c name) (key_life past q) (λ g. group_life past q g)
  at_name name same = subst (λ n. KeyHolds (get c n) (key_life past q) (λ g. group_life past q g)) (is_same_name-eq q name same) (h q)

  step-changed : (name : List ℕ) (change : StreamEvent)
      → KeyHolds (get (after_stream_event c name change (get c name)) q) (cond (is_same_name q name) (option_map (λ changes. change ∷ changes) (key_life past q)) (key_life past q)) (λ g. group_life past q g)
  step-changed name change = by (is_same_name q name) refl where
    by : (t : Bool) → is_same_name q name ≡ t → KeyHolds (get (after_stream_event c name change (get c name)) q) (cond t (option_map (λ changes. change ∷ changes) (key_life past q)) (key_life past q)) (λ g. group_life past q g)
    by true e = holds-changed c name change (get c name) (key_life past q) (λ g. group_life past q g) q refl (at_name name e) e
    by false e = rw (changed-other c name change (get c name) q e) (h q)

  step-addition : (name : List ℕ) (change : StreamEvent) (make : Bool)
      → KeyHolds (get (after_stream_event c name change (key_or_new make (get c name))) q) (cond (is_same_name q name) (option_map (λ changes. change ∷ changes) (life_or_new make (key_life past q))) (key_life past q)) (λ g. group_life past q g)
  step-addition name change make = by (is_same_name q name) refl where
    by : (t : Bool) → is_same_name q name ≡ t → KeyHolds (get (after_stream_event c name change (key_or_new make (get c name))) q) (cond t (option_map (λ changes. change ∷ changes) (life_or_new make (key_life past q))) (key_life past q)) (λ g. group_life past q g)
    by true e = holds-addition c name change make (get c name) (key_life past q) (λ g. group_life past q g) q refl (at_name name e) e
    by false e = rw (changed-other c name change (key_or_new make (get c name)) q e) (h q)

  step-dropped : (names : List (List ℕ)) → KeyHolds (get (without_keys names c) q) (cond (is_listed names q) None (key_life past q)) (λ g. cond (is_listed names q) None (group_life past q g))
  step-dropped names = rw (get-without_keys names c q) (holds-dropped (is_listed names q) (get c q) (key_life past q) (λ g. group_life past q g) (h q))

  step-created : (create : GroupCreateCommand)
      → KeyHolds (get (after_create c create (key_or_new create.make (get c create.key))) q) (cond (is_same_name q create.key) (life_or_new create.make (key_life past q)) (key_life past q))
      (λ g. cond (is_same_name q create.key && is_same_name g create.group) (option_or (group_life past q g) (new_life create (key_life past q))) (group_life past q g))
  step-created create = by (is_same_name q create.key) refl where
    by : (t : Bool) → is_same_name q create.key ≡ t → KeyHolds (get (after_create c create (key_or_new create.make (get c create.key))) q) (cond t (life_or_new create.make (key_life past q)) (key_life past q))
        (λ g. cond (t && is_same_name g create.group) (option_or (group_life past q g) (new_life create (key_life past q))) (group_life past q g))
    by true e = creates-here c create create.make refl (get c create.key) (key_life past q) (λ g. group_life past q g) q refl e (at_name create.key e)
    by false e = subst (λ k. KeyHolds k (key_life past q) (λ g. group_life past q g)) (sym (created-other c create (key_or_new create.make (get c create.key)) q e)) (h q)

  step-destroyed : (name group : List ℕ)
      → KeyHolds (get (without_group c name group (get c name)) q) (key_life past q) (λ g. cond (is_same_name q name && is_same_name g group) None (group_life past q g))
  step-destroyed name group = by (is_same_name q name) refl where
    by : (t : Bool) → is_same_name q name ≡ t → KeyHolds (get (without_group c name group (get c name)) q) (key_life past q) (λ g. cond (t && is_same_name g group) None (group_life past q g))
    by true e = destroys-here c name group (get c name) (key_life past q) (λ g. group_life past q g) q refl e (at_name name e)
    by false e = subst (λ k. KeyHolds k (key_life past q) (λ g. group_life past q g)) (sym (destroyed-other c name group (get c name) q e)) (h q)

step-asked : (c : Content) (past : History) (now : ℕ) (name group : List ℕ) (ask : GroupAsk) → IsContent c past
    → Holds (after_ask c now name group ask) (key_life past) (λ q g. cond (is_same_name q name && is_same_name g group) (life_after_ask now (present_in (key_life past q)) ask (group_life past q g)) (group_life past q g))
step-asked c past now name group ask h = holds-ask c (key_life past) (λ q g. group_life past q g) now name group ask h

step-read : (c : Content) (past : History) (now : ℕ) (read : ReadGroupCommand) → IsContent c past
    → Holds (cond (has_all_groups_in c read) (after_reads c now read read.reads) c) (key_life past)
    (λ q g. cond (is_same_name g read.group && list_all (λ one. is_some (group_life past one.key read.group)) read.reads) (life_after_reads now (present_in (key_life past q)) read q read.reads (group_life past q g)) (group_life past q g))
step-read c past now read h = by (has_all_groups_in c read) (serves-known read.reads c past read.group h) where
  whole : (a : Bool) (x y : Option GroupLife) → cond a x y ≡ cond (a && true) x y
  whole true x y = refl
  whole false x y = refl

  none : (a : Bool) (x y : Option GroupLife) → y ≡ cond (a && false) x y
  none true x y = refl
  none false x y = refl

  by : (t : Bool) → t ≡ list_all (λ one. is_some (group_life past one.key read.group)) read.reads → Holds (cond t (after_reads c now read read.reads) c) (key_life past)
      (λ q g. cond (is_same_name g read.group && list_all (λ one. is_some (group_life past one.key read.group)) read.reads) (life_after_reads now (present_in (key_life past q)) read q read.reads (group_life past q g)) (group_life past q g))
  by true e = subst (λ b. Holds (after_reads c now read read.reads) (key_life past) (λ q g. cond (is_same_name g read.group && b) (life_after_reads now (present_in (key_life past q)) read q read.reads (group_life past q g)) (group_life past q g))) e
      (λ q. subst (KeyHolds (get (after_reads c now read read.reads) q) (key_life past q))
      (λ i g. whole (is_same_name g read.group) (life_after_reads now (present_in (key_life past q)) read q read.reads (group_life past q g)) (group_life past q g) i)
      (holds-reads read.reads c (key_life past) (λ q g. group_life past q g) now read h q))
  by false e = subst (λ b. Holds c (key_life past) (λ q g. cond (is_same_name g read.group && b) (life_after_reads now (present_in (key_life past q)) read q read.reads (group_life past q g)) (group_life past q g))) e
      (λ q. subst (KeyHolds (get c q) (key_life past q))
      (λ i g. none (is_same_name g read.group) (life_after_reads now (present_in (key_life past q)) read q read.reads (group_life past q g)) (group_life past q g) i) (h q))

-- one event more
pub content-step : (past : History) (c : Content) (now : ℕ) (command : Command) → IsContent c past → IsContent (content_after c now command) ((now, command) ∷ past)
content-step past c now (Add add) h = λ q. step-addition c past h q add.key (add_entry now add.id add.fields add.trim) add.make
content-step past c now (Delete name ids) h = λ q. step-changed c past h q name (delete_entries ids)
content-step past c now (TrimTo name trim) h = λ q. step-changed c past h q name (trim_entries trim)
content-step past c now (DropKeys names) h = λ q. step-dropped c past h q names
content-step past c now (Ping message) h = h
content-step past c now Quit h = h
content-step past c now (Len name) h = h
content-step past c now (Inspect inspection) h = h
content-step past c now (Scan scan) h = h
content-step past c now (GroupCreate create) h = λ q. step-created c past h q create
content-step past c now (GroupDestroy name group) h = λ q. step-destroyed c past h q name group
content-step past c now (ConsumerCreate name group consumer) h = step-asked c past now name group (create_consumer consumer) h
content-step past c now (ConsumerDelete name group consumer) h = step-asked c past now name group (delete_consumer consumer) h
content-step past c now (ReadGroup read) h = step-read c past now read h
content-step past c now (Ack name group ids) h = step-asked c past now name group (acknowledge ids) h
content-step past c now (Pending name group) h = h
content-step past c now (PendingRows pending) h = h
content-step past c now (Claim x) h = step-asked c past now x.key x.group (claim x.consumer x.rule x.ids) h
content-step past c now (AutoClaim x) h = step-asked c past now x.key x.group (auto_claim x.consumer x.rule x.start x.limit) h

-- no event
pub content-none : IsContent empty []
content-none = λ name. rw (get-empty (slice_cmp nat_cmp) name) (λ g. tt)

-- ---- one content

same_group : (a b : GroupState) (life : GroupLife) → IsGroupOfLife a life → IsGroupOfLife b life → a ≡ b
same_group a b life h k =
    let cursors = h.cursor_is ∙ sym k.cursor_is in
    let names = same_map a.consumers b.consumers (λ q. h.consumers_are q ∙ sym (k.consumers_are q)) in
    let all = same_entries_map a.rows b.rows (h.rows_are ∙ sym k.rows_are) in
    λ i. record { cursor = cursors i; consumers = names i; rows = all i }

same_groups : (one other : Option GroupState) (life : Option GroupLife) → GroupHolds one life → GroupHolds other life → one ≡ other
same_groups None None life h k = refl
same_groups (Some a) (Some b) (Some life) h k = ap Some (same_group a b life h k)
same_groups None (Some b) None h k = absurd k
same_groups None (Some b) (Some life) h k = absurd h
same_groups (Some a) (Some b) None h k = absurd h
same_groups (Some a) None None h k = absurd h
same_groups (Some a) None (Some life) h k = absurd k

same_key : (a b : KeyState) → a.stream ≡ b.stream → a.groups ≡ b.groups → a ≡ b
same_key a b e f = λ i. record { stream = e i; groups = f i }

same_holds : (one other : Option KeyState) (stream : Option (List StreamEvent)) (lives : List ℕ → Option GroupLife) → KeyHolds one stream lives → KeyHolds other stream lives → one ≡ other
same_holds None None stream lives h k = refl
same_holds (Some a) (Some b) (Some changes) lives h k =
    ap Some (same_key a b (h.0 ∙ sym k.0) (same_map a.groups b.groups (λ g. same_groups (get a.groups g) (get b.groups g) (lives g) (h.1 g) (k.1 g))))
same_holds None (Some b) None lives h k = absurd k
same_holds None (Some b) (Some changes) lives h k = absurd h
same_holds (Some a) (Some b) None lives h k = absurd h
same_holds (Some a) None None lives h k = absurd h
same_holds (Some a) None (Some changes) lives h k = absurd k

pub content-unique : (past : History) (one other : Content) → IsContent one past → IsContent other past → one ≡ other
content-unique past one other h k = same_map one other (λ q. same_holds (get one q) (get other q) (key_life past q) (λ g. group_life past q g) (h q) (k q))
