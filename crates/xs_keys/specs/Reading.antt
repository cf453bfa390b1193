-- The contracts of reads of groups within the code.
use Rattle.std.specs.Prelude.{◌≡◌, ℕ, ◌==◌, List, [], ◌∷◌, ◌++◌, length, Option, Some, None, if◌then◌else◌}
use Rattle.std.specs.List.{flat_map}
use Rattle.xs_resp.specs.Token.{Token}
use Rattle.xs_resp.specs.ReplyItems.{tokens_of}
use Rattle.xs_group.specs.declared.delivery.Delivery.{Delivery}
use Rattle.xs_group.specs.Deliveries.{IsMade}
use Rattle.xs_keys.specs.declared.xreadgroup.Served.{Served}
use Rattle.xs_keys.specs.Terms.{option_map_or, get, insert, Id, new_ids, reread_ids, GroupState, Reply}
use Rattle.xs_keys.specs.Terms.{ReadGroupCommand}
use Rattle.xs_keys.specs.Terms.{ReadOne, ReadFrom, New, After}
use Rattle.xs_keys.specs.GroupLife.{ask_of_read}
use Rattle.xs_keys.specs.Content.{Content, KeyState}
use Rattle.xs_keys.specs.ContentAfter.{after_ask, entries_in, group_in, with_group}
use Rattle.xs_keys.specs.ReplyParts.{stream_part, new_part}
use Rattle.xs_keys.specs.Reply.{parts_of_read}
use Rattle.xs_keys.specs.Event.{Bytes, Entries}

-- these parts of a reply were counted and appended
pub record IsShown (parts : List Reply) (count : ℕ) (before after : List Token) : Type 0 where
  pub counted : count ≡ length parts
  pub appended : after ≡ before ++ flat_map tokens_of parts

-- the ids that a read shows
abbrev pub ids_shown : ReadGroupCommand → ReadFrom → List Id → GroupState → List Id
ids_shown read New present group = new_ids read.limit group.cursor present
ids_shown read (After id) present group = reread_ids read.consumer read.limit id group.rows.entries

-- its part of the reply
abbrev pub part_of : ReadFrom → Bytes → Entries → List Id → List Reply
part_of New key entries ids = new_part key entries ids
part_of (After id) key entries ids = stream_part key entries ids ∷ []

-- what one of these reads shows
abbrev pub parts_of_one : Content → ReadGroupCommand → ReadOne → List Reply
parts_of_one content read one =
    let key = get content one.key in
    option_map_or (parts_of_read read one.key one.from (entries_in key)) (group_in key read.group) []

-- a read of a group of one of these keys changed the content so, and returned this delivery
pub record IsMadeAt (group_name key_name : Bytes) (before after : Content) (delivery : Delivery) : Type 0 where
  pub key : KeyState
  pub was : GroupState
  pub is : GroupState
  pub had : get before key_name ≡ Some key
  pub has : get key.groups group_name ≡ Some was
  pub put : after ≡ insert before key_name (with_group key group_name is)
  pub made : IsMade was is delivery

-- a read of a group of these keys was served: the content after it, the part that it shows, and the delivery that
-- undoes it
pub record IsServedAt
    (now : ℕ) (read : ReadGroupCommand) (one : ReadOne) (before after : Content) (tokens longer : List Token)
    (served : Served) : Type 0 where
  pub left : after ≡ after_ask before now one.key read.group (ask_of_read read one.from)
  pub shows : IsShown (parts_of_one before read one) served.parts tokens longer
  pub made : IsMadeAt read.group one.key before after served.delivery

-- the first of these reads changed the content so, and returned these deliveries, one after the other
abbrev pub AreMade : Bytes → List ReadOne → List Delivery → Content → Content → Type 0
AreMade group reads [] first last = last ≡ first
AreMade group [] (d ∷ ds) first last = ⊥
AreMade group (one ∷ more) (d ∷ ds) first last =
    (next : Content) × IsMadeAt group one.key first next d × AreMade group more ds next last

-- a limit of one, unless the limit is zero
abbrev pub at_most_one : Option ℕ → Option ℕ
at_most_one None = Some 1
at_most_one (Some n) = if n == 0 then Some 0 else Some 1
