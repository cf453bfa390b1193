-- The content after events is restorable.
use Rattle.std.proofs.Common.{◌≡◌, ℕ, ◌≤◌, Bool, true, false, not, ◌&&◌, nat_le, List, [], ◌∷◌, ◌++◌, Some, refl, sym, ◌∙◌, arith, append_assoc}
use Rattle.std.specs.List.{AllByRecursion}
use Rattle.std.proofs.lemmas.Bool.Decides.{nat_tests}
use Rattle.xs_bytes.specs.SortedMap.{NameMap, get, empty}
use Rattle.xs_stream.specs.declared.id.Id.{Id}
use Rattle.xs_stream.specs.Id.{is_below, zero_id}
use Rattle.xs_stream.specs.StreamContent.{StreamState, AllUpTo, ids_of}
use Rattle.xs_stream.specs.ConsistentStream.{IsConsistentStream, IsId, rank_of}
use Rattle.xs_stream.proofs.Past.{rank-below}
use Rattle.xs_group.specs.GroupState.{GroupState, last_of}
use Rattle.xs_group.specs.ConsistentGroup.{IsConsistentGroup}
use Rattle.xs_keys.specs.Event.{Bytes, Event, History, event_moment, event_command}
use Rattle.xs_keys.specs.Content.{KeyState, Content, IsContent}
use Rattle.xs_keys.specs.ConsistentContent.{IsConsistentKey}
use Rattle.xs_keys.proofs.Contents.{content-none, content-step}
use Rattle.xs_keys.proofs.ConsistentContents.{content-consistent}
use Rattle.xs_replay.specs.After.{after, contents_after}
use Rattle.xs_replay.specs.Ranges.{EventFits}
use Rattle.xs_replay.proofs.InRange.{StreamFits, KeyFits, AnyName, contents-fit}
use Rattle.xs_snapshot.specs.NextPiece.{last_id}
use Rattle.xs_snapshot.specs.Restorable.{IsRestorableStream, IsRestorableGroup, IsRestorableKey, IsRestorable}
use Rattle.xs_snapshot.proofs.RestorableContents.{found-name}
use Rattle.xs_snapshot.proofs.KeptRestorable.{history-of-stream, group-restorable}

-- events follow a history
history-of : (content : Content) (past : History) (events : List Event) → IsContent content past → (later : History) × IsContent (contents_after content events) later
history-of content past [] is = (past, is)
history-of content past (e ∷ events) is =
    history-of (after content e) ((event_moment e, event_command e) ∷ past) events (content-step past content (event_moment e) (event_command e) is)

-- a property of each value that is found is one of all
module _ {X : Type 0} (m : NameMap X) (P : X → Type 0) (found : (name : Bytes) (x : X) → get m name ≡ Some x → P x) where
  all-behind : (ds es : List (Bytes × X)) → m.entries ≡ ds ++ es → AllByRecursion (λ e. P e.1) es
  all-behind ds [] is = tt
  all-behind ds (e ∷ es) is = (found e.0 e.1 (found-name m ds e es is), all-behind (ds ++ e ∷ []) es (is ∙ sym (append_assoc ds (e ∷ []) es)))

  all-values : AllByRecursion (λ e. P e.1) m.entries
  all-values = all-behind [] m.entries refl

all-as : {A : Type 0} (P Q : A → Type 0) → ((a : A) → P a → Q a) → (xs : List A) → AllByRecursion P xs → AllByRecursion Q xs
all-as P Q f [] all = tt
all-as P Q f (x ∷ xs) all = (f x all.0, all-as P Q f xs all.1)

both-all : {A : Type 0} (P Q R : A → Type 0) → ((a : A) → P a → Q a → R a) → (xs : List A) → AllByRecursion P xs → AllByRecursion Q xs → AllByRecursion R xs
both-all P Q R f [] all every = tt
both-all P Q R f (x ∷ xs) all every = (f x all.0 every.0, both-all P Q R f xs all.1 every.1)

-- ---- streams

stream-restorable : (stream : StreamState) → IsConsistentStream stream → StreamFits stream → IsRestorableStream stream
stream-restorable stream is fits = record {
  above_zero = fits.above_zero;
  ascends = is.ascends;
  history = history-of-stream stream fits.top is.up_to_top fits.added;
}

-- ---- groups and keys

key-restorable : (e : Bytes × KeyState) → IsConsistentKey e.1 → AnyName e.0 × KeyFits e.1 → IsRestorableKey e.1
key-restorable e is fits = record {
  stream = stream-restorable e.1.stream is.stream fits.1.stream;
  groups = all-as (λ (g : Bytes × GroupState). IsConsistentGroup g.1) (λ g. IsRestorableGroup g.1) (λ g. group-restorable g.1) e.1.groups.entries (all-values e.1.groups IsConsistentGroup is.groups);
}

pub events-restorable : (events : List Event) → AllByRecursion EventFits events → IsRestorable (contents_after empty events)
events-restorable events fit =
    let content = contents_after empty events in
    let past = history-of empty [] events content-none in
    both-all (λ (e : Bytes × KeyState). IsConsistentKey e.1) (λ e. AnyName e.0 × KeyFits e.1) (λ e. IsRestorableKey e.1) key-restorable content.entries
    (all-values content IsConsistentKey (content-consistent past.0 content past.1)) (contents-fit events fit)
