-- Commands that ask one group of one key.
use Rattle.std.proofs.Common.{◌≡◌, ℕ, List, Option, Some, None, ap, ◌∙◌, refl}
use Rattle.xs_keys.specs.Terms.{option_map_or, NameMap, get, insert, Id, Field, ids_of, GroupState, Reply}
use Rattle.xs_keys.specs.GroupAsk.{GroupAsk}
use Rattle.xs_keys.specs.Content.{Content, KeyState}
use Rattle.xs_keys.specs.ContentAfter.{after_ask, group_after, with_group, group_in, entries_in}
use Rattle.xs_keys.specs.ReplyParts.{reply_of_group}
use Rattle.xs_keys.proofs.NameMaps.{insert-same}

-- an ask of a group that doesn't exist changes nothing
pub asked-missing : (content : Content) (now : ℕ) (name group_name : List ℕ) (ask : GroupAsk) → group_in (get content name) group_name ≡ None
    → after_ask content now name group_name ask ≡ content
asked-missing content now name group_name ask e = by (get content name) e where
  by : (key : Option KeyState) → group_in key group_name ≡ None
      → option_map_or (λ k. option_map_or (λ group. insert content name (with_group k group_name (group_after now (ids_of k.stream.entries) ask group))) (get k.groups group_name) content) key content ≡ content
  by None e = refl
  by (Some k) e = ap (λ o. option_map_or (λ group. insert content name (with_group k group_name (group_after now (ids_of k.stream.entries) ask group))) o content) e

-- nor does it insert the key again unchanged
pub asked_nothing : (content : Content) (now : ℕ) (name group_name : List ℕ) (ask : GroupAsk) (key : KeyState) → get content name ≡ Some key → get key.groups group_name ≡ None
    → insert content name key ≡ after_ask content now name group_name ask
asked_nothing content now name group_name ask key found none = rw (found, none) (insert-same content name key found)

-- a group that is inserted again unchanged
pub put_same : (content : Content) (name group_name : List ℕ) (key : KeyState) (was : GroupState) → get content name ≡ Some key → get key.groups group_name ≡ Some was
    → insert content name (with_group key group_name was) ≡ content
put_same content name group_name key was found has =
    ap (λ (groups : NameMap GroupState). insert content name (record { stream = key.stream; groups = groups })) (insert-same key.groups group_name was has)
    ∙ insert-same content name key found

-- the reply for a group
pub said-of : (content : Content) (name group_name : List ℕ) (key : KeyState) (was : GroupState) → get content name ≡ Some key → get key.groups group_name ≡ Some was
    → (said : List (Id × List Field) → GroupState → Reply)
    → reply_of_group (group_in (get content name) group_name) (said (entries_in (get content name))) ≡ said key.stream.entries was
said-of content name group_name key was found has said =
    ap (λ k. reply_of_group (group_in k group_name) (said (entries_in k))) found ∙ ap (λ g. reply_of_group g (said key.stream.entries)) has
