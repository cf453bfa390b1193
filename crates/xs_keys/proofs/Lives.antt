-- What each event of a life delivers, and that no other event delivers anything.
use Rattle.std.proofs.Common.{◌≡◌, ◌⊎◌, inl, inr, ℕ, Bool, true, false, cond, ◌&&◌, ◌||◌, List, [], ◌∷◌, ◌++◌, Option}
use Rattle.std.proofs.Common.{Some, None, is_some, bytes_eq, sym, ap, subst, ◌∙◌, refl}
use Rattle.std.proofs.lemmas.Bool.{false≢true, and_right}
use Rattle.std.proofs.lemmas.List.{append-nil}
use Rattle.std.proofs.lemmas.Slice.Eq.{bytes_eq-Decides}
use Rattle.std.specs.List.{list_all, list_any, IsDistinct, AllByRecursion}
use Rattle.xs_keys.specs.Event.{History}
use Rattle.xs_command.specs.WellFormed.{IsWellFormed, keys_of}
use Rattle.xs_keys.specs.Terms.{option_map_or, option_or, Id, is_same_name, new_ids, Command, Ping, Quit, Add, Delete}
use Rattle.xs_keys.specs.Terms.{TrimTo, Len, Scan, GroupCreate, GroupDestroy, ConsumerCreate, ConsumerDelete, ReadGroup}
use Rattle.xs_keys.specs.Terms.{Ack, Pending, PendingRows, Claim, AutoClaim, DropKeys, Inspect, GroupCreateCommand}
use Rattle.xs_keys.specs.Terms.{ReadGroupCommand, ReadOne, ReadFrom, New, After}
use Rattle.xs_keys.specs.Life.{StreamEvent, is_listed, key_life}
use Rattle.xs_keys.specs.GroupAsk.{GroupAsk, create_consumer, delete_consumer, acknowledge, claim, auto_claim}
use Rattle.xs_keys.specs.GroupAsk.{new_ids_of_ask}
use Rattle.xs_keys.specs.GroupEvent.{delivered_ids, cursor}
use Rattle.xs_keys.specs.GroupLife.{GroupLife, read_limit_of, present_in, new_life, life_after_ask, ask_of_read}
use Rattle.xs_keys.specs.GroupLife.{life_after_reads, read_group_of, group_life, is_new, reads_new_entries}
use Rattle.xs_keys.specs.GroupLife.{has_all_groups, ids_delivered_by, LifeContinues}
use Rattle.xs_keys.proofs.NameMaps.{is_same_name-eq}

-- ---- events that deliver nothing

stays : (life : Option GroupLife) → LifeContinues life [] life
stays None = refl
stays (Some life) = (refl, sym (append-nil (delivered_ids life.start life.events)))

either : (t : Bool) (before one other : Option GroupLife) → LifeContinues before [] one → LifeContinues before [] other → LifeContinues before [] (cond t one other)
either true before one other h k = h
either false before one other h k = k

ended : (life : Option GroupLife) → LifeContinues life [] None
ended None = refl
ended (Some life) = refl

-- an ask that delivers nothing
asks-none : (now : ℕ) (present : List Id) (ask : GroupAsk) (life : Option GroupLife) → ((a : Id) → new_ids_of_ask ask present a ≡ []) → LifeContinues life [] (life_after_ask now present ask life)
asks-none now present ask None none = refl
asks-none now present ask (Some life) none = (refl, ap (λ new. delivered_ids life.start life.events ++ new) (none (cursor life.start life.events)))

opens : (make : Bool) (create : GroupCreateCommand) → create.make ≡ make → (stream : Option (List StreamEvent)) → LifeContinues None [] (new_life create stream)
opens make create m (Some changes) = (refl, refl)
opens true create m None = rw m (refl, refl)
opens false create m None = rw m refl

creates : (create : GroupCreateCommand) (stream : Option (List StreamEvent)) (life : Option GroupLife) → LifeContinues life [] (option_or life (new_life create stream))
creates create stream None = opens create.make create refl stream
creates create stream (Some life) = stays (Some life)

-- ---- reads

pub no-life-read : (now : ℕ) (present : List Id) (read : ReadGroupCommand) (key : List ℕ) (reads : List ReadOne) → life_after_reads now present read key reads None ≡ None
no-life-read now present read key [] = refl
no-life-read now present read key (one ∷ more) = by (is_same_name key one.key) (no-life-read now present read key more) where
  by : (t : Bool) → life_after_reads now present read key more None ≡ None → life_after_reads now present read key more (cond t None None) ≡ None
  by true e = e
  by false e = e

abbrev delivered_in : Command → List Id → Option GroupLife → List Id
delivered_in command present life = option_map_or (λ l. new_ids (read_limit_of command) (cursor l.start l.events) present) life []

-- reads of other keys
abbrev pub absent : List ℕ → List ReadOne → Bool
absent key reads = list_any (λ one. is_same_name key one.key) reads

pub not-read : (now : ℕ) (present : List Id) (read : ReadGroupCommand) (key : List ℕ) (reads : List ReadOne) (life : Option GroupLife) → absent key reads ≡ false → life_after_reads now present read key reads life ≡ life
not-read now present read key [] life e = refl
not-read now present read key (one ∷ more) life e = by (is_same_name key one.key) e (λ f. not-read now present read key more life f) where
  by : (t : Bool) → (t || list_any (λ o. is_same_name key o.key) more) ≡ false → (list_any (λ o. is_same_name key o.key) more ≡ false → life_after_reads now present read key more life ≡ life)
      → life_after_reads now present read key more (cond t (life_after_ask now present (ask_of_read read one.from) life) life) ≡ life
  by true f rest = absurd (false≢true (sym f))
  by false f rest = rest f

not-asked : (key : List ℕ) (reads : List ReadOne) → absent key reads ≡ false → list_any (λ one. is_same_name key one.key && is_new one.from) reads ≡ false
not-asked key [] e = refl
not-asked key (one ∷ more) e = by (is_same_name key one.key) e (λ f. not-asked key more f) where
  by : (t : Bool) → (t || list_any (λ o. is_same_name key o.key) more) ≡ false → (list_any (λ o. is_same_name key o.key) more ≡ false → list_any (λ o. is_same_name key o.key && is_new o.from) more ≡ false)
      → ((t && is_new one.from) || list_any (λ o. is_same_name key o.key && is_new o.from) more) ≡ false
  by true f rest = absurd (false≢true (sym f))
  by false f rest = rest f

other-name : (key a k : List ℕ) → is_same_name key a ≡ true → bytes_eq a k ≡ false → is_same_name key k ≡ false
other-name key a k same differs = by (is_same_name key k) refl where
  by : (t : Bool) → is_same_name key k ≡ t → t ≡ false
  by false e = refl
  by true e = absurd (false≢true (sym differs ∙ (bytes_eq-Decides a k).1 (sym (is_same_name-eq key a same) ∙ is_same_name-eq key k e)))

pub others-absent : (key a : List ℕ) (more : List ReadOne) → is_same_name key a ≡ true → AllByRecursion (λ y. bytes_eq a y ≡ false) (keys_of more) → absent key more ≡ false
others-absent key a [] same h = refl
others-absent key a (one ∷ more) same h = rw (other-name key a one.key same h.0) (others-absent key a more same h.1)

-- the reads of a life that is open
reads-on : (now : ℕ) (present : List Id) (read : ReadGroupCommand) (key : List ℕ) (reads : List ReadOne) (b : GroupLife) → IsDistinct bytes_eq (keys_of reads)
    → LifeContinues (Some b) (cond (list_any (λ one. is_same_name key one.key && is_new one.from) reads) (new_ids read.limit (cursor b.start b.events) present) []) (life_after_reads now present read key reads (Some b))
unfolding IsDistinct
reads-on now present read key [] b distinct = (refl, sym (append-nil (delivered_ids b.start b.events)))
reads-on now present read key (one ∷ more) b distinct = by (is_same_name key one.key) refl (reads-on now present read key more b distinct.1) where
  here : (from : ReadFrom) → list_any (λ o. is_same_name key o.key && is_new o.from) more ≡ false
      → LifeContinues (Some b) (cond (is_new from || list_any (λ o. is_same_name key o.key && is_new o.from) more) (new_ids read.limit (cursor b.start b.events) present) []) (life_after_ask now present (ask_of_read read from) (Some b))
  here New e = (refl, refl)
  here (After id) e = rw e (refl, refl)

  by : (t : Bool) → is_same_name key one.key ≡ t
      → LifeContinues (Some b) (cond (list_any (λ o. is_same_name key o.key && is_new o.from) more) (new_ids read.limit (cursor b.start b.events) present) []) (life_after_reads now present read key more (Some b))
      → LifeContinues (Some b) (cond ((t && is_new one.from) || list_any (λ o. is_same_name key o.key && is_new o.from) more) (new_ids read.limit (cursor b.start b.events) present) [])
      (life_after_reads now present read key more (cond t (life_after_ask now present (ask_of_read read one.from) (Some b)) (Some b)))
  by true e rest =
      let gone = others-absent key one.key more e distinct.0 in
      subst (LifeContinues (Some b) _) (sym (not-read now present read key more (life_after_ask now present (ask_of_read read one.from) (Some b)) gone)) (here one.from (not-asked key more gone))
  by false e rest = rest

reads-life : (now : ℕ) (present : List Id) (read : ReadGroupCommand) (key : List ℕ) (life : Option GroupLife) → IsDistinct bytes_eq (keys_of read.reads)
    → LifeContinues life (cond (list_any (λ one. is_same_name key one.key && is_new one.from) read.reads) (delivered_in (ReadGroup read) present life) []) (life_after_reads now present read key read.reads life)
reads-life now present read key None distinct = subst (LifeContinues None _) (sym (no-life-read now present read key read.reads)) (by (list_any (λ one. is_same_name key one.key && is_new one.from) read.reads)) where
  by : (t : Bool) → cond {A = List Id} t [] [] ≡ []
  by true = refl
  by false = refl
reads-life now present read key (Some b) distinct = reads-on now present read key read.reads b distinct

reads-go-on : (now : ℕ) (present : List Id) (read : ReadGroupCommand) (key : List ℕ) (life : Option GroupLife) (acting : Bool) → IsDistinct bytes_eq (keys_of read.reads)
    → LifeContinues life (cond (list_any (λ one. is_same_name key one.key && is_new one.from) read.reads && acting) (delivered_in (ReadGroup read) present life) [])
    (cond acting (life_after_reads now present read key read.reads life) life)
reads-go-on now present read key life true distinct =
    subst (λ b. LifeContinues life (cond b (delivered_in (ReadGroup read) present life) []) (life_after_reads now present read key read.reads life)) (sym (and-true (list_any (λ one. is_same_name key one.key && is_new one.from) read.reads)))
    (reads-life now present read key life distinct)
  where
    and-true : (b : Bool) → (b && true) ≡ b
    and-true true = refl
    and-true false = refl
reads-go-on now present read key life false distinct =
    subst (λ b. LifeContinues life (cond b (delivered_in (ReadGroup read) present life) []) life) (sym (and_right (list_any (λ one. is_same_name key one.key && is_new one.from) read.reads) false refl)) (stays life)

-- ---- an event

-- an ask of one group, which delivers nothing
quiet : (past : History) (now : ℕ) (key group k g : List ℕ) (ask : GroupAsk) → ((a : Id) → new_ids_of_ask ask (present_in (key_life past key)) a ≡ [])
    → LifeContinues (group_life past key group) [] (cond (is_same_name key k && is_same_name group g) (life_after_ask now (present_in (key_life past key)) ask (group_life past key group)) (group_life past key group))
quiet past now key group k g ask none =
    either (is_same_name key k && is_same_name group g) (group_life past key group) (life_after_ask now (present_in (key_life past key)) ask (group_life past key group)) (group_life past key group)
    (asks-none now (present_in (key_life past key)) ask (group_life past key group) none) (stays (group_life past key group))

pub goes-on : (past : History) (now : ℕ) (command : Command) (key group : List ℕ) → IsWellFormed command
    → LifeContinues (group_life past key group) (ids_delivered_by past command key group) (group_life ((now, command) ∷ past) key group)
goes-on past now (GroupCreate create) key group formed =
    either (is_same_name key create.key && is_same_name group create.group) (group_life past key group) (option_or (group_life past key group) (new_life create (key_life past key))) (group_life past key group)
    (creates create (key_life past key) (group_life past key group)) (stays (group_life past key group))
goes-on past now (GroupDestroy k g) key group formed =
    either (is_same_name key k && is_same_name group g) (group_life past key group) None (group_life past key group) (ended (group_life past key group)) (stays (group_life past key group))
goes-on past now (ConsumerCreate k g consumer) key group formed = quiet past now key group k g (create_consumer consumer) (λ a. refl)
goes-on past now (ConsumerDelete k g consumer) key group formed = quiet past now key group k g (delete_consumer consumer) (λ a. refl)
goes-on past now (ReadGroup read) key group formed =
    reads-go-on now (present_in (key_life past key)) read key (group_life past key group)
    (is_same_name group read.group && list_all (λ one. is_some (group_life past one.key read.group)) read.reads) formed.1
goes-on past now (Ack k g ids) key group formed = quiet past now key group k g (acknowledge ids) (λ a. refl)
goes-on past now (Claim c) key group formed = quiet past now key group c.key c.group (claim c.consumer c.rule c.ids) (λ a. refl)
goes-on past now (AutoClaim c) key group formed = quiet past now key group c.key c.group (auto_claim c.consumer c.rule c.start c.limit) (λ a. refl)
goes-on past now (DropKeys keys) key group formed =
    either (is_listed keys key) (group_life past key group) None (group_life past key group) (ended (group_life past key group)) (stays (group_life past key group))
goes-on past now (Ping message) key group formed = stays (group_life past key group)
goes-on past now Quit key group formed = stays (group_life past key group)
goes-on past now (Add add) key group formed = stays (group_life past key group)
goes-on past now (Delete name ids) key group formed = stays (group_life past key group)
goes-on past now (TrimTo name trim) key group formed = stays (group_life past key group)
goes-on past now (Len name) key group formed = stays (group_life past key group)
goes-on past now (Inspect inspection) key group formed = stays (group_life past key group)
goes-on past now (Scan scan) key group formed = stays (group_life past key group)
goes-on past now (Pending k g) key group formed = stays (group_life past key group)
goes-on past now (PendingRows p) key group formed = stays (group_life past key group)

-- without an open life nothing is delivered
pub closed : (past : History) (command : Command) (key group : List ℕ) → group_life past key group ≡ None → ids_delivered_by past command key group ≡ []
closed past command key group e =
    ap (λ life. cond (reads_new_entries command key && (is_same_name group (read_group_of command) && has_all_groups (group_life past) command)) (delivered_in command (present_in (key_life past key)) life) []) e
    ∙ by (reads_new_entries command key && (is_same_name group (read_group_of command) && has_all_groups (group_life past) command))
  where
    by : (t : Bool) → cond {A = List Id} t [] [] ≡ []
    by true = refl
    by false = refl

-- nor by an event on another key or group
pub elsewhere : (past : History) (command : Command) (key group : List ℕ) → (is_same_name group (read_group_of command) ≡ false) ⊎ (reads_new_entries command key ≡ false) → ids_delivered_by past command key group ≡ []
elsewhere past command key group (inl e) = rw e (by (reads_new_entries command key)) where
  by : (t : Bool) → cond {A = List Id} (t && false) (delivered_in command (present_in (key_life past key)) (group_life past key group)) [] ≡ []
  by true = refl
  by false = refl
elsewhere past command key group (inr e) = rw e refl
