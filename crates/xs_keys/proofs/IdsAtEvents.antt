-- The ids in the stream at each event of a group are those after a beginning of the changes of the stream. So what was
-- delivered was added, and no entry stays below the cursor undelivered.
use Rattle.std.proofs.Common.{◌≡◌, ℕ, Bool, true, false, cond, not, ◌&&◌, ◌||◌, List, [], ◌∷◌, ◌++◌, Option, Some, None}
use Rattle.std.proofs.Common.{is_some, filter, take, zero, suc, sym, ap, subst, ◌∙◌, refl}
use Rattle.std.proofs.lemmas.Bool.{false≢true, and_from, or_left, or_right}
use Rattle.xs_stream.specs.Id.{is_below, is_same_id, has_id, zero_id}
use Rattle.xs_stream.proofs.Order.{is_same_id-refl, up_to-below, not_above-trans}
use Rattle.xs_stream.proofs.InOrder.{ids_of-append, ids_of-filter}
use Rattle.xs_keys.specs.Event.{History}
use Rattle.xs_keys.specs.Terms.{list_all, option_map, option_or, Id, ids_of, AllAbove, AllUpTo, up_to_limit}
use Rattle.xs_keys.specs.Terms.{is_same_name}
use Rattle.xs_keys.specs.Terms.{Command, Ping, Quit, Add, Delete, TrimTo, Len, Scan, GroupCreate, GroupDestroy}
use Rattle.xs_keys.specs.Terms.{ConsumerCreate, ConsumerDelete, ReadGroup, Ack, Pending, PendingRows, Claim, AutoClaim}
use Rattle.xs_keys.specs.Terms.{DropKeys, Inspect, GroupCreateCommand, ReadGroupCommand, ReadOne}
use Rattle.xs_keys.specs.Life.{StreamEvent, add_entry, delete_entries, trim_entries, is_listed, life_or_new}
use Rattle.xs_keys.specs.Terms.{greatest}
use Rattle.xs_keys.specs.Life.{key_life_after, key_life, entries_added_by, added_in, top, is_present}
use Rattle.xs_keys.specs.Life.{present_entries}
use Rattle.xs_keys.specs.GroupAsk.{GroupAsk, read_new, read_own, create_consumer, delete_consumer, acknowledge, claim}
use Rattle.xs_keys.specs.GroupAsk.{auto_claim, new_ids_of_ask}
use Rattle.xs_keys.specs.GroupEvent.{GroupEvent, new_ids_of_event, delivered_ids, cursor}
use Rattle.xs_keys.specs.GroupLife.{GroupLife, present_in, new_life, life_after_ask, ask_of_read, life_after_reads}
use Rattle.xs_keys.specs.GroupLife.{group_life_after, reads_of, read_group_of, group_life}
use Rattle.xs_keys.proofs.Truths.{first_of, second_of}
use Rattle.xs_keys.proofs.IdLists.{has_id-append, has_id-where, not_above, not_among}
use Rattle.xs_keys.proofs.Streams.{greatest-append, greatest-up, up_to-top, adds-not_new}
use Rattle.xs_keys.proofs.Deliveries.{PresentAscends, had-event}

-- ---- what stays true of the past of a stream

new_or_old : (xs ys : List Id) (x : Id) → has_id ys x ≡ false → has_id (xs ++ ys) x ≡ true → has_id xs x ≡ true
new_or_old xs ys x none e = by (has_id xs x) (has_id ys x) none (sym (has_id-append xs ys x) ∙ e) where
  by : (a b : Bool) → b ≡ false → (a || b) ≡ true → a ≡ true
  by true b n f = refl
  by false b n f = absurd (false≢true (sym n ∙ f))

-- what was added stays added
pub added-more : (change : StreamEvent) (past : List StreamEvent) (x : Id) → has_id (ids_of (added_in past)) x ≡ true → has_id (ids_of (added_in (change ∷ past))) x ≡ true
added-more change past x e =
    ap (λ ids. has_id ids x) (ids_of-append (added_in past) (entries_added_by change (top past)))
    ∙ has_id-append (ids_of (added_in past)) (ids_of (entries_added_by change (top past))) x ∙ or_left _ _ e

-- an id up to the top isn't added again
pub added-before : (change : StreamEvent) (past : List StreamEvent) (x : Id) → is_below (top past) x ≡ false → has_id (ids_of (added_in (change ∷ past))) x ≡ true → has_id (ids_of (added_in past)) x ≡ true
added-before change past x up e =
    new_or_old (ids_of (added_in past)) (ids_of (entries_added_by change (top past))) x (adds-not_new change (top past) x up)
    (ap (λ ids. has_id ids x) (sym (ids_of-append (added_in past) (entries_added_by change (top past)))) ∙ e)

-- the top never goes down
top-up : (change : StreamEvent) (past : List StreamEvent) → is_below (top (change ∷ past)) (top past) ≡ false
top-up change past =
    ap (λ t. is_below t (top past))
    (ap (greatest zero_id) (ids_of-append (added_in past) (entries_added_by change (top past))) ∙ greatest-append zero_id (ids_of (added_in past)) (ids_of (entries_added_by change (top past))))
    ∙ greatest-up (top past) (ids_of (entries_added_by change (top past)))

pub up_to-more : (change : StreamEvent) (past : List StreamEvent) (x : Id) → is_below (top past) x ≡ false → is_below (top (change ∷ past)) x ≡ false
up_to-more change past x up = not_above-trans (top (change ∷ past)) (top past) x (top-up change past) up

-- what is in the stream was added
pub has_id-present : (changes : List StreamEvent) (x : Id) → has_id (ids_of (present_entries changes)) x ≡ (is_present changes x && has_id (ids_of (added_in changes)) x)
has_id-present changes x = ap (λ ids. has_id ids x) (ids_of-filter (is_present changes) (added_in changes)) ∙ has_id-where (is_present changes) (ids_of (added_in changes)) x

pub present-added : (changes : List StreamEvent) (x : Id) → has_id (ids_of (present_entries changes)) x ≡ true → has_id (ids_of (added_in changes)) x ≡ true
present-added changes x e = second_of (is_present changes x) _ (sym (has_id-present changes x) ∙ e)

-- what is in the stream and isn't new was in it before
pub present-before : (change : StreamEvent) (past : List StreamEvent) (x : Id) → is_below (top past) x ≡ false → has_id (ids_of (present_entries (change ∷ past))) x ≡ true → has_id (ids_of (present_entries past)) x ≡ true
present-before change past x up e =
    let both = sym (has_id-present (change ∷ past) x) ∙ e in
    has_id-present past x
    ∙ and_from (is_present past x) _ (by _ _ _ (adds-not_new change (top past) x up) (first_of (is_present (change ∷ past) x) _ both)) (added-before change past x up (second_of (is_present (change ∷ past) x) _ both))
  where
    by : (d n s : Bool) → n ≡ false → cond d false (cond n true s) ≡ true → s ≡ true
    by true n s e f = absurd (false≢true f)
    by false true s e f = absurd (false≢true (sym e))
    by false false s e f = f

added-still : (later earlier : List StreamEvent) (x : Id) → has_id (ids_of (added_in earlier)) x ≡ true → has_id (ids_of (added_in (later ++ earlier))) x ≡ true
added-still [] earlier x e = e
added-still (change ∷ later) earlier x e = added-more change (later ++ earlier) x (added-still later earlier x e)

up_to-still : (later earlier : List StreamEvent) (x : Id) → is_below (top earlier) x ≡ false → is_below (top (later ++ earlier)) x ≡ false
up_to-still [] earlier x e = e
up_to-still (change ∷ later) earlier x e = up_to-more change (later ++ earlier) x (up_to-still later earlier x e)

live-earlier : (later earlier : List StreamEvent) (x : Id) → is_below (top earlier) x ≡ false → has_id (ids_of (present_entries (later ++ earlier))) x ≡ true → has_id (ids_of (present_entries earlier)) x ≡ true
live-earlier [] earlier x up e = e
live-earlier (change ∷ later) earlier x up e =
    live-earlier later earlier x up (present-before change (later ++ earlier) x (up_to-still later earlier x up) e)

-- ---- lists up to an id

pub up_to-has : (a : Id) (xs : List Id) (x : Id) → AllUpTo a xs → has_id xs x ≡ true → is_below a x ≡ false
up_to-has a xs x up e = by (is_below a x) refl where
  by : (t : Bool) → is_below a x ≡ t → t ≡ false
  by false h = refl
  by true h = absurd (false≢true (sym (not_among a xs x h up) ∙ e))

pub added-up_to : (changes : List StreamEvent) (x : Id) → has_id (ids_of (added_in changes)) x ≡ true → is_below (top changes) x ≡ false
added-up_to changes x e = up_to-has (top changes) (ids_of (added_in changes)) x (up_to-top changes) e

-- what is among ids above a is above a
pub above-has : (a : Id) (xs : List Id) (x : Id) → AllAbove a xs → has_id xs x ≡ true → is_below a x ≡ true
above-has a xs x above e = by (is_below a x) refl where
  by : (t : Bool) → is_below a x ≡ t → t ≡ true
  by true h = refl
  by false h = absurd (false≢true (sym (not_above a x xs h above) ∙ e))

all-up_to : (a : Id) (xs : List Id) → ((x : Id) → has_id xs x ≡ true → is_below a x ≡ false) → AllUpTo a xs
all-up_to a [] h = tt
all-up_to a (x ∷ xs) h = (h x (or_left _ _ (is_same_id-refl x)), all-up_to a xs (λ y e. h y (or_right (is_same_id y x) _ e)))

-- the greatest of ids below x is below x
greatest-below : (a t x : Id) (xs : List Id) → is_below a x ≡ true → is_below t x ≡ true → AllUpTo t xs → is_below (greatest a xs) x ≡ true
greatest-below a t x [] low high up = low
greatest-below a t x (y ∷ ys) low high up = greatest-below (cond (is_below a y) y a) t x ys (by (is_below a y)) high up.1 where
  by : (b : Bool) → is_below (cond b y a) x ≡ true
  by true = up_to-below t y x up.0 high
  by false = low

-- ---- what a group sees of its stream

-- at each event the ids in the stream are those after a beginning of the changes
abbrev pub Sees : List StreamEvent → List GroupEvent → Type 0
Sees changes [] = Unit {0}
Sees changes (event ∷ past) =
    (later earlier : List StreamEvent) × (changes ≡ later ++ earlier) × (event.present ≡ ids_of (present_entries earlier)) × Sees earlier past

-- a group that exists has a key
abbrev pub SeesItsKey : Option (List StreamEvent) → Option GroupLife → Type 0
SeesItsKey stream None = Unit {0}
SeesItsKey None (Some life) = ⊥
SeesItsKey (Some changes) (Some life) = Sees changes life.events

sees-more : (change : StreamEvent) (changes : List StreamEvent) (events : List GroupEvent) → Sees changes events → Sees (change ∷ changes) events
sees-more change changes [] h = tt
sees-more change changes (event ∷ past) h = (change ∷ h.0, h.1, ap (λ cs. change ∷ cs) h.2, h.3, h.4)

sees-changed : (change : StreamEvent) (stream : Option (List StreamEvent)) (life : Option GroupLife) → SeesItsKey stream life → SeesItsKey (option_map (λ changes. change ∷ changes) stream) life
sees-changed change stream None h = tt
sees-changed change None (Some life) h = h
sees-changed change (Some changes) (Some life) h = sees-more change changes life.events h

sees-opened : (make : Bool) (stream : Option (List StreamEvent)) (life : Option GroupLife) → SeesItsKey stream life → SeesItsKey (life_or_new make stream) life
sees-opened make stream None h = tt
sees-opened make None (Some life) h = absurd h
sees-opened make (Some changes) (Some life) h = h

sees-asked : (now : ℕ) (ask : GroupAsk) (stream : Option (List StreamEvent)) (life : Option GroupLife) → SeesItsKey stream life → SeesItsKey stream (life_after_ask now (present_in stream) ask life)
sees-asked now ask stream None h = tt
sees-asked now ask None (Some life) h = h
sees-asked now ask (Some changes) (Some life) h = ([], changes, refl, refl, h)

sees-read : (now : ℕ) (read : ReadGroupCommand) (key : List ℕ) (reads : List ReadOne) (stream : Option (List StreamEvent)) (life : Option GroupLife) → SeesItsKey stream life
    → SeesItsKey stream (life_after_reads now (present_in stream) read key reads life)
sees-read now read key [] stream life h = h
sees-read now read key (one ∷ more) stream life h =
    sees-read now read key more stream (cond (is_same_name key one.key) (life_after_ask now (present_in stream) (ask_of_read read one.from) life) life) (by (is_same_name key one.key))
  where
    by : (t : Bool) → SeesItsKey stream (cond t (life_after_ask now (present_in stream) (ask_of_read read one.from) life) life)
    by true = sees-asked now (ask_of_read read one.from) stream life h
    by false = h

sees-begun : (make : Bool) (create : GroupCreateCommand) → create.make ≡ make → (stream : Option (List StreamEvent)) → SeesItsKey (life_or_new create.make stream) (new_life create stream)
sees-begun make create m (Some changes) = tt
sees-begun true create m None = rw m tt
sees-begun false create m None = rw m tt

sees-created : (create : GroupCreateCommand) (stream : Option (List StreamEvent)) (life : Option GroupLife) → SeesItsKey stream life
    → SeesItsKey (life_or_new create.make stream) (option_or life (new_life create stream))
sees-created create stream None h = sees-begun create.make create refl stream
sees-created create None (Some life) h = absurd h
sees-created create (Some changes) (Some life) h = h

-- whether an event is for the key, and for the group
sees-either : (k g : Bool) (one other : Option (List StreamEvent)) (new old : Option GroupLife)
    → SeesItsKey one new → SeesItsKey one old → SeesItsKey other old → SeesItsKey (cond k one other) (cond (k && g) new old)
sees-either true true one other new old a b c = a
sees-either true false one other new old a b c = b
sees-either false g one other new old a b c = c

sees-group : (t : Bool) (stream : Option (List StreamEvent)) (new old : Option GroupLife) → SeesItsKey stream new → SeesItsKey stream old → SeesItsKey stream (cond t new old)
sees-group true stream new old h k = h
sees-group false stream new old h k = k

sees-key : (t : Bool) (new old : Option (List StreamEvent)) (life : Option GroupLife) → SeesItsKey new life → SeesItsKey old life → SeesItsKey (cond t new old) life
sees-key true new old life h k = h
sees-key false new old life h k = k

sees-lived : (now : ℕ) (command : Command) (key group : List ℕ) (served : Bool) (stream : Option (List StreamEvent)) (life : Option GroupLife) → SeesItsKey stream life
    → SeesItsKey (key_life_after now command key stream) (group_life_after now command key group served stream life)
sees-lived now (Ping message) key group served stream life h = h
sees-lived now Quit key group served stream life h = h
sees-lived now (Add add) key group served stream life h =
    let change = add_entry now add.id add.fields add.trim in
    sees-key (is_same_name key add.key) (option_map (λ changes. change ∷ changes) (life_or_new add.make stream)) stream life (sees-changed change (life_or_new add.make stream) life (sees-opened add.make stream life h)) h
sees-lived now (Delete name ids) key group served stream life h =
    sees-key (is_same_name key name) (option_map (λ changes. delete_entries ids ∷ changes) stream) stream life (sees-changed (delete_entries ids) stream life h) h
sees-lived now (TrimTo name trim) key group served stream life h =
    sees-key (is_same_name key name) (option_map (λ changes. trim_entries trim ∷ changes) stream) stream life (sees-changed (trim_entries trim) stream life h) h
sees-lived now (Len name) key group served stream life h = h
sees-lived now (Inspect inspection) key group served stream life h = h
sees-lived now (Scan scan) key group served stream life h = h
sees-lived now (GroupCreate create) key group served stream life h =
    sees-either (is_same_name key create.key) (is_same_name group create.group) (life_or_new create.make stream) stream (option_or life (new_life create stream)) life
    (sees-created create stream life h) (sees-opened create.make stream life h) h
sees-lived now (GroupDestroy k g) key group served stream life h = sees-group (is_same_name key k && is_same_name group g) stream None life tt h
sees-lived now (ConsumerCreate k g consumer) key group served stream life h =
    sees-group (is_same_name key k && is_same_name group g) stream (life_after_ask now (present_in stream) (create_consumer consumer) life) life (sees-asked now (create_consumer consumer) stream life h) h
sees-lived now (ConsumerDelete k g consumer) key group served stream life h =
    sees-group (is_same_name key k && is_same_name group g) stream (life_after_ask now (present_in stream) (delete_consumer consumer) life) life (sees-asked now (delete_consumer consumer) stream life h) h
sees-lived now (ReadGroup read) key group served stream life h =
    sees-group (is_same_name group read.group && served) stream (life_after_reads now (present_in stream) read key read.reads life) life (sees-read now read key read.reads stream life h) h
sees-lived now (Ack k g ids) key group served stream life h =
    sees-group (is_same_name key k && is_same_name group g) stream (life_after_ask now (present_in stream) (acknowledge ids) life) life (sees-asked now (acknowledge ids) stream life h) h
sees-lived now (Pending k g) key group served stream life h = h
sees-lived now (PendingRows p) key group served stream life h = h
sees-lived now (Claim c) key group served stream life h =
    sees-group (is_same_name key c.key && is_same_name group c.group) stream (life_after_ask now (present_in stream) (claim c.consumer c.rule c.ids) life) life
    (sees-asked now (claim c.consumer c.rule c.ids) stream life h) h
sees-lived now (AutoClaim c) key group served stream life h =
    sees-group (is_same_name key c.key && is_same_name group c.group) stream (life_after_ask now (present_in stream) (auto_claim c.consumer c.rule c.start c.limit) life) life
    (sees-asked now (auto_claim c.consumer c.rule c.start c.limit) stream life h) h
sees-lived now (DropKeys keys) key group served stream life h = by (is_listed keys key) where
  by : (t : Bool) → SeesItsKey (cond t None stream) (cond t None life)
  by true = tt
  by false = h

pub sees-life : (past : History) (key group : List ℕ) → SeesItsKey (key_life past key) (group_life past key group)
sees-life [] key group = tt
sees-life (e ∷ past) key group =
    sees-lived e.0 e.1 key group (list_all (λ one. is_some (group_life past one.key (read_group_of e.1))) (reads_of e.1)) (key_life past key) (group_life past key group) (sees-life past key group)

-- the open lives of a key and of a group of it
pub sees-of : (past : History) (key group : List ℕ) (changes : List StreamEvent) (life : GroupLife) → key_life past key ≡ Some changes → group_life past key group ≡ Some life → Sees changes life.events
sees-of past key group changes life k g = subst (λ l. SeesItsKey (Some changes) l) g (subst (λ s. SeesItsKey s (group_life past key group)) k (sees-life past key group))

-- ---- what was delivered was added

pub limited-has : (limit : Option ℕ) (xs : List Id) (x : Id) → has_id (up_to_limit limit xs) x ≡ true → has_id xs x ≡ true
limited-has None xs x e = e
limited-has (Some n) xs x e = by n xs e where
  by : (n : ℕ) (xs : List Id) → has_id (take n xs) x ≡ true → has_id xs x ≡ true
  by zero xs e = absurd (false≢true e)
  by (suc n) [] e = absurd (false≢true e)
  by (suc n) (y ∷ ys) e = or_both (is_same_id x y) e (by n ys) where
    or_both : (t : Bool) → (t || has_id (take n ys) x) ≡ true → (has_id (take n ys) x ≡ true → has_id ys x ≡ true) → (t || has_id ys x) ≡ true
    or_both true f g = refl
    or_both false f g = g f

pub asked-present : (ask : GroupAsk) (present : List Id) (a x : Id) → has_id (new_ids_of_ask ask present a) x ≡ true → has_id present x ≡ true
asked-present (read_new consumer limit noack) present a x e =
    second_of (is_below a x) (has_id present x) (sym (has_id-where (λ y. is_below a y) present x) ∙ limited-has limit (filter (λ y. is_below a y) present) x e)
asked-present (read_own consumer limit from) present a x e = absurd (false≢true e)
asked-present (acknowledge ids) present a x e = absurd (false≢true e)
asked-present (create_consumer consumer) present a x e = absurd (false≢true e)
asked-present (delete_consumer consumer) present a x e = absurd (false≢true e)
asked-present (claim consumer rule ids) present a x e = absurd (false≢true e)
asked-present (auto_claim consumer rule start limit) present a x e = absurd (false≢true e)

pub delivered-added : (start : Id) (changes : List StreamEvent) (events : List GroupEvent) (x : Id) → Sees changes events → has_id (delivered_ids start events) x ≡ true → has_id (ids_of (added_in changes)) x ≡ true
delivered-added start changes [] x h e = absurd (false≢true e)
delivered-added start changes (event ∷ past) x h e =
    ap (λ cs. has_id (ids_of (added_in cs)) x) h.2
    ∙ added-still h.0 h.1 x (by (has_id (delivered_ids start past) x) refl (sym (has_id-append (delivered_ids start past) (new_ids_of_event event (cursor start past)) x) ∙ e) (delivered-added start h.1 past x h.4))
  where
    by : (t : Bool) → has_id (delivered_ids start past) x ≡ t → (t || has_id (new_ids_of_event event (cursor start past)) x) ≡ true
        → (has_id (delivered_ids start past) x ≡ true → has_id (ids_of (added_in h.1)) x ≡ true) → has_id (ids_of (added_in h.1)) x ≡ true
    by true d f before = before d
    by false d f before =
        present-added h.1 x (ap (λ ids. has_id ids x) (sym h.3) ∙ asked-present event.ask event.present (cursor start past) x f)

-- ---- no entry stays below the cursor undelivered

-- what the cursor has passed was added by then
cursor-top : (start : Id) (changes : List StreamEvent) (events : List GroupEvent) (x : Id) → Sees changes events → is_below start x ≡ true → is_below (cursor start events) x ≡ false → is_below (top changes) x ≡ false
cursor-top start changes events x h low high = by (is_below (top changes) x) refl where
  by : (t : Bool) → is_below (top changes) x ≡ t → t ≡ false
  by false e = refl
  by true e =
      let up = all-up_to (top changes) (delivered_ids start events) (λ y d. added-up_to changes y (delivered-added start changes events y h d)) in
      absurd (false≢true (sym high ∙ greatest-below start (top changes) x (delivered_ids start events) low e up))

-- what a group saw at one of its events
abbrev SawThen : List StreamEvent → GroupEvent → List GroupEvent → Type 0
SawThen changes event past = (later earlier : List StreamEvent) × (changes ≡ later ++ earlier) × Sees earlier (event ∷ past) × (event.present ≡ ids_of (present_entries earlier))

joined : (a b c d : List StreamEvent) (all : List StreamEvent) → all ≡ a ++ b → b ≡ c ++ d → all ≡ (a ++ c) ++ d
joined a b c d all e f = e ∙ ap (λ rest. a ++ rest) f ∙ by a where
  by : (xs : List StreamEvent) → xs ++ (c ++ d) ≡ (xs ++ c) ++ d
  by [] = refl
  by (x ∷ xs) = ap (λ rest. x ∷ rest) (by xs)

saw-then : (changes : List StreamEvent) (later : List GroupEvent) (event : GroupEvent) (past : List GroupEvent) → Sees changes (later ++ event ∷ past) → SawThen changes event past
saw-then changes [] event past h = (h.0, h.1, h.2, ([], h.1, refl, h.3, h.4), h.3)
saw-then changes (u ∷ later) event past h =
    let s = saw-then h.1 later event past h.4 in
    (h.0 ++ s.0, s.1, joined h.0 h.1 s.0 s.1 changes h.2 s.2, s.3, s.4)

passed : (a b : Bool) → (a && not b) ≡ true → b ≡ false
passed true true e = absurd (false≢true e)
passed true false e = refl
passed false b e = absurd (false≢true e)

-- an entry in the stream that the cursor has passed was delivered
pub none-stranded : (start : Id) (changes : List StreamEvent) (events : List GroupEvent) (x : Id) → PresentAscends events → Sees changes events
    → is_below start x ≡ true → is_below (cursor start events) x ≡ false → has_id (ids_of (present_entries changes)) x ≡ true → has_id (delivered_ids start events) x ≡ true
none-stranded start changes events x asc h low high there =
    let had = had-event start events x asc low high in
    let s = saw-then changes had.later had.event had.earlier (subst (Sees changes) had.among h) in
    let behind = passed (is_below (cursor start had.earlier) x) (is_below (cursor start (had.event ∷ had.earlier)) x) had.is_turn in
    let up = cursor-top start s.1 (had.event ∷ had.earlier) x s.3 low behind in
    had.delivered_if_present ∙ ap (λ ids. has_id ids x) s.4 ∙ live-earlier s.0 s.1 x up (ap (λ cs. has_id (ids_of (present_entries cs)) x) (sym s.2) ∙ there)
