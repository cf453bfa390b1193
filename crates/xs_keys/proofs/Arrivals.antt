-- Entries come only by additions, and groups only by XGROUP CREATE.
use Rattle.std.proofs.Common.{◌≡◌, ◌⊎◌, inl, inr, ℕ, Bool, true, false, cond, ◌&&◌, List, [], ◌∷◌, Option, Some, None}
use Rattle.std.proofs.Common.{is_some, sym, ap, subst, ◌∙◌, refl}
use Rattle.std.proofs.lemmas.Bool.{false≢true}
use Rattle.std.proofs.lemmas.List.{append-nil}
use Rattle.xs_keys.specs.Event.{Event, History}
use Rattle.xs_keys.specs.Terms.{list_all, option_map, option_map_or, Id, Field, zero_id, is_same_name, Command, Ping}
use Rattle.xs_keys.specs.Terms.{Quit, Add, Delete, TrimTo, Len, Scan, GroupCreate, GroupDestroy, ConsumerCreate}
use Rattle.xs_keys.specs.Terms.{ConsumerDelete, ReadGroup, Ack, Pending, PendingRows, Claim, AutoClaim, DropKeys, Inspect}
use Rattle.xs_keys.specs.Terms.{GroupCreateCommand, GroupStart, Top, At}
use Rattle.xs_keys.specs.Life.{StreamEvent, add_entry, delete_entries, trim_entries, is_listed, life_or_new}
use Rattle.xs_keys.specs.Life.{key_life_after, key_life, added_in, top, top_of}
use Rattle.xs_keys.specs.GroupAsk.{GroupAsk, create_consumer, delete_consumer, acknowledge, claim, auto_claim}
use Rattle.xs_keys.specs.GroupLife.{GroupLife, present_in, starting_id, new_life, life_after_ask, group_life_after}
use Rattle.xs_keys.specs.GroupLife.{reads_of, read_group_of, group_life}
use Rattle.xs_keys.specs.Presence.{adds_to_or_deletes_key, EntriesAreAdded, StartsAt, MakesGroup, GroupsAreCreated}
use Rattle.xs_keys.proofs.Lives.{no-life-read}
use Rattle.xs_keys.proofs.JobPlaces.{life_of}

-- ---- entries

added-stays : (now : ℕ) (command : Command) (key : List ℕ) (life : Option (List StreamEvent))
    → (option_map_or added_in (key_life_after now command key life) [] ≡ option_map_or added_in life []) ⊎ (adds_to_or_deletes_key command key ≡ true)
added-stays now (Ping message) key life = inl refl
added-stays now Quit key life = inl refl
added-stays now (Add add) key life = by (is_same_name key add.key) where
  by : (t : Bool) → (option_map_or added_in (cond t (option_map (λ changes. add_entry now add.id add.fields add.trim ∷ changes) (life_or_new add.make life)) life) [] ≡ option_map_or added_in life []) ⊎ (t ≡ true)
  by true = inr refl
  by false = inl refl
added-stays now (Delete name ids) key life = inl (by (is_same_name key name) life) where
  by : (t : Bool) (life : Option (List StreamEvent)) → option_map_or added_in (cond t (option_map (λ changes. delete_entries ids ∷ changes) life) life) [] ≡ option_map_or added_in life []
  by true None = refl
  by true (Some changes) = append-nil (added_in changes)
  by false life = refl
added-stays now (TrimTo name trim) key life = inl (by (is_same_name key name) life) where
  by : (t : Bool) (life : Option (List StreamEvent)) → option_map_or added_in (cond t (option_map (λ changes. trim_entries trim ∷ changes) life) life) [] ≡ option_map_or added_in life []
  by true None = refl
  by true (Some changes) = append-nil (added_in changes)
  by false life = refl
added-stays now (Len name) key life = inl refl
added-stays now (Inspect inspection) key life = inl refl
added-stays now (Scan scan) key life = inl refl
added-stays now (GroupCreate create) key life = inl (by (is_same_name key create.key) create.make life) where
  by : (t make : Bool) (life : Option (List StreamEvent)) → option_map_or added_in (cond t (life_or_new make life) life) [] ≡ option_map_or added_in life []
  by true true None = refl
  by true false None = refl
  by true make (Some changes) = refl
  by false make life = refl
added-stays now (GroupDestroy name group) key life = inl refl
added-stays now (ConsumerCreate name group consumer) key life = inl refl
added-stays now (ConsumerDelete name group consumer) key life = inl refl
added-stays now (ReadGroup read) key life = inl refl
added-stays now (Ack name group ids) key life = inl refl
added-stays now (Pending name group) key life = inl refl
added-stays now (PendingRows rows) key life = inl refl
added-stays now (Claim c) key life = inl refl
added-stays now (AutoClaim c) key life = inl refl
added-stays now (DropKeys keys) key life = by (is_listed keys key) where
  by : (t : Bool) → (option_map_or added_in (cond t None life) [] ≡ option_map_or added_in life []) ⊎ (t ≡ true)
  by true = inr refl
  by false = inl refl

pub entries-added : (earlier : History) (e : Event) → EntriesAreAdded earlier e
entries-added earlier e = λ key. added-stays e.0 e.1 key (key_life earlier key)

-- ---- groups

-- no ask creates a group
asked-none : (now : ℕ) (present : List Id) (ask : GroupAsk) (t : Bool) → cond t (life_after_ask now present ask None) None ≡ None
asked-none now present ask true = refl
asked-none now present ask false = refl

either-none : (t : Bool) (life : Option GroupLife) → life ≡ None → cond t life None ≡ None
either-none true life e = e
either-none false life e = refl

never : (found : Option GroupLife) → found ≡ None → (life : GroupLife) → found ≡ Some life → ⊥
never found none life e = false≢true (ap is_some (sym none ∙ e))

starts-behind : (start : GroupStart) (changes : List StreamEvent) (given : List (Id × List Field)) → added_in changes ≡ given → (id : Id) → id ≡ starting_id start (top changes) → StartsAt start given id
starts-behind Top changes given g id e = e ∙ ap top_of g
starts-behind (At written) changes given g id e = e

opened-added : (make : Bool) (stream : Option (List StreamEvent)) → option_map_or added_in (life_or_new make stream) [] ≡ option_map_or added_in stream []
opened-added true None = refl
opened-added false None = refl
opened-added make (Some changes) = refl

made-at : (create : GroupCreateCommand) (stream : Option (List StreamEvent)) (given : List (Id × List Field)) → option_map_or added_in stream [] ≡ given → (life : GroupLife)
    → option_map (λ changes. life_of (starting_id create.start (top changes)) []) stream ≡ Some life → StartsAt create.start given life.start
made-at create None given g life e = absurd (false≢true (ap is_some e))
made-at create (Some changes) given g life e = starts-behind create.start changes given g life.start (ap (λ o. option_map_or (λ l. l.start) o zero_id) (sym e))

makes-group : (now : ℕ) (command : Command) (key group : List ℕ) (served : Bool) (stream : Option (List StreamEvent)) (life : GroupLife)
    → group_life_after now command key group served stream None ≡ Some life → MakesGroup command key group (option_map_or added_in stream []) life.start
makes-group now (Ping message) key group served stream life e = false≢true (ap is_some e)
makes-group now Quit key group served stream life e = false≢true (ap is_some e)
makes-group now (Add add) key group served stream life e = false≢true (ap is_some e)
makes-group now (Delete name ids) key group served stream life e = false≢true (ap is_some e)
makes-group now (TrimTo name trim) key group served stream life e = false≢true (ap is_some e)
makes-group now (Len name) key group served stream life e = false≢true (ap is_some e)
makes-group now (Inspect inspection) key group served stream life e = false≢true (ap is_some e)
makes-group now (Scan scan) key group served stream life e = false≢true (ap is_some e)
makes-group now (GroupCreate create) key group served stream life e = by (is_same_name key create.key && is_same_name group create.group) e where
  by : (t : Bool) → cond t (new_life create stream) None ≡ Some life → (t ≡ true) × StartsAt create.start (option_map_or added_in stream []) life.start
  by true f = (refl, made-at create (life_or_new create.make stream) (option_map_or added_in stream []) (opened-added create.make stream) life f)
  by false f = absurd (false≢true (ap is_some f))
makes-group now (GroupDestroy name g) key group served stream life e = never _ (either-none (is_same_name key name && is_same_name group g) None refl) life e
makes-group now (ConsumerCreate name g consumer) key group served stream life e = never _ (asked-none now (present_in stream) (create_consumer consumer) (is_same_name key name && is_same_name group g)) life e
makes-group now (ConsumerDelete name g consumer) key group served stream life e = never _ (asked-none now (present_in stream) (delete_consumer consumer) (is_same_name key name && is_same_name group g)) life e
makes-group now (ReadGroup read) key group served stream life e =
    never _ (either-none (is_same_name group read.group && served) _ (no-life-read now (present_in stream) read key read.reads)) life e
makes-group now (Ack name g ids) key group served stream life e = never _ (asked-none now (present_in stream) (acknowledge ids) (is_same_name key name && is_same_name group g)) life e
makes-group now (Pending name g) key group served stream life e = false≢true (ap is_some e)
makes-group now (PendingRows rows) key group served stream life e = false≢true (ap is_some e)
makes-group now (Claim c) key group served stream life e = never _ (asked-none now (present_in stream) (claim c.consumer c.rule c.ids) (is_same_name key c.key && is_same_name group c.group)) life e
makes-group now (AutoClaim c) key group served stream life e = never _ (asked-none now (present_in stream) (auto_claim c.consumer c.rule c.start c.limit) (is_same_name key c.key && is_same_name group c.group)) life e
makes-group now (DropKeys keys) key group served stream life e = never _ (either-none (is_listed keys key) None refl) life e

pub groups-created : (earlier : History) (e : Event) → GroupsAreCreated earlier e
groups-created earlier e = λ key group life none is.
    let served = list_all (λ one. is_some (group_life earlier one.key (read_group_of e.1))) (reads_of e.1) in
    makes-group e.0 e.1 key group served (key_life earlier key) life
    (subst (λ before. group_life_after e.0 e.1 key group served (key_life earlier key) before ≡ Some life) none is)
