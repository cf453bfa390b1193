-- The creation of groups.
use Rattle.std.proofs.Common.{◌≡◌, ℕ, true, false, List, Some, None, Result, Ok, Err, is_some, ap, refl, inl, inr}
use Rattle.std.specs.declared.alloc.AllocError.{AllocError}
use Rattle.std.specs.Ordering.{nat_cmp}
use Rattle.std.specs.Cmp.Lexicographic.{slice_cmp}
use Rattle.xs_bytes.proofs.SortedMaps.{get-empty}
use Rattle.xs_keys.specs.Terms.{NameMap, empty, get, insert, has_key, GroupState, new_group, Reply, Simple, Okay}
use Rattle.xs_keys.specs.Terms.{GroupCreateCommand, GroupCreate}
use Rattle.xs_keys.specs.GroupLife.{starting_id}
use Rattle.xs_keys.specs.Content.{Content, KeyState}
use Rattle.xs_keys.specs.ContentAfter.{new_key, with_group}
use Rattle.xs_keys.specs.Grouping.{Creates}
use Rattle.xs_keys.specs.Step.{Attempt}
use Rattle.xs_keys.proofs.NameMaps.{insert-same}

-- a creation in a key that exists is an attempt
pub creates_step : (content : Content) (now : ℕ) (create : GroupCreateCommand) (result : Result Reply AllocError) (key : KeyState) (groups : NameMap GroupState) → get content create.key ≡ Some key
    → Creates create key.stream.top key.groups result groups
    → Attempt content now (GroupCreate create) result (insert content create.key (record { stream = key.stream; groups = groups }))
creates_step content now create (Ok answer) key groups found (inl busy) = record {
  answer_is = rw (found, busy.0) busy.1;
  content_is = rw (found, busy.0, busy.2) (insert-same content create.key key found);
}
creates_step content now create (Ok answer) key groups found (inr done) = record {
  answer_is = rw (found, done.0) done.1;
  content_is = rw (found, done.0, done.2) refl;
}
creates_step content now create (Err error) key groups found refused = record {
  takes = refl;
  no_other = rw (found, refused.0) refl;
  answer_is = refl;
  content_is = rw refused.1 (insert-same content create.key key found);
}

no-group : (name : List ℕ) → has_key {X = GroupState} {R = slice_cmp nat_cmp} empty name ≡ false
no-group name = ap is_some (get-empty {X = GroupState} (slice_cmp nat_cmp) name)

-- and one that creates the key is a step
pub makes_step : (content : Content) (now : ℕ) (create : GroupCreateCommand) → create.make ≡ true → get content create.key ≡ None
    → Attempt content now (GroupCreate create) (Ok (Simple Okay)) (insert content create.key (with_group new_key create.group (new_group (starting_id create.start new_key.stream.top))))
makes_step content now create make missing = record {
  answer_is = rw (missing, make, no-group create.group) refl;
  content_is = rw (missing, make, no-group create.group) refl;
}

-- or one for which memory runs out
pub refused_step : (content : Content) (now : ℕ) (create : GroupCreateCommand) (error : AllocError) → create.make ≡ true → get content create.key ≡ None
    → Attempt content now (GroupCreate create) (Err error) content
refused_step content now create error make missing = record {
  takes = refl;
  no_other = rw (missing, make, no-group create.group) refl;
  answer_is = refl;
  content_is = refl;
}
