-- What is true of a key that may get more entries and groups.
use Rattle.std.proofs.Common.{◌≡◌, List, [], ◌∷◌, ◌++◌, Option, None, true, sym, ap, subst, ◌∙◌}
use Rattle.std.proofs.lemmas.List.{map-append}
use Rattle.xs_bytes.specs.SortedMap.{NameMap, empty}
use Rattle.xs_stream.specs.declared.id.Id.{Id}
use Rattle.xs_stream.specs.declared.field.Field.{Field}
use Rattle.xs_stream.specs.Id.{zero_id, is_below}
use Rattle.xs_stream.specs.StreamContent.{StreamInMemory, StreamState, state_of, new_stream, with_entry, ids_of, AllAbove, AllUpTo, Ascends}
use Rattle.xs_group.specs.GroupState.{GroupState, last_of}
use Rattle.xs_group.proofs.Cursors.{last-more}
use Rattle.xs_keys.specs.Event.{Bytes, Entries}
use Rattle.xs_snapshot.specs.NextPiece.{last_id}
use Rattle.xs_snapshot.specs.SoFar.{AreRestorableGroups, IsKeySoFar}
use Rattle.xs_snapshot.proofs.RestorableParts.{entry-above, entry-ascends}

last_id-more : (entries : Entries) (id : Id) (fields : List Field) → last_id (entries ++ (id, fields) ∷ []) ≡ id
last_id-more entries id fields =
    ap (last_of zero_id) (map-append (λ (e : Id × List Field). e.0) entries ((id, fields) ∷ [])) ∙ last-more zero_id (ids_of entries) id

-- a new one
pub nothing-so_far : (stream : StreamInMemory) (groups : NameMap GroupState) → state_of stream ≡ new_stream → groups ≡ empty → IsKeySoFar stream groups None
unfolding empty
nothing-so_far stream groups is none = record {
  top_is_last = ap (λ (s : StreamState). s.top) is ∙ sym (ap (λ (s : StreamState). last_id s.entries) is);
  groups_are_first = ap (λ (m : NameMap GroupState). m.entries) none;
  above_zero = subst (λ (s : StreamState). AllAbove zero_id (ids_of s.entries)) (sym is) tt;
  ascends = subst (λ (s : StreamState). Ascends (ids_of s.entries)) (sym is) tt;
  restorable = subst (λ (m : NameMap GroupState). AreRestorableGroups m.entries) (sym none) tt;
}

-- the properties of a stream stay
pub same-so_far : (old new : StreamInMemory) (groups : NameMap GroupState) (group : Option (Bytes × GroupState)) → IsKeySoFar old groups group → state_of new ≡ state_of old → IsKeySoFar new groups group
same-so_far old new groups group so_far is = record {
  top_is_last = ap (λ (s : StreamState). s.top) is ∙ so_far.top_is_last ∙ sym (ap (λ (s : StreamState). last_id s.entries) is);
  groups_are_first = so_far.groups_are_first;
  above_zero = subst (λ (s : StreamState). AllAbove zero_id (ids_of s.entries)) (sym is) so_far.above_zero;
  ascends = subst (λ (s : StreamState). Ascends (ids_of s.entries)) (sym is) so_far.ascends;
  restorable = so_far.restorable;
}

pub no-entries : {X : Type 0} (m : NameMap X) → m ≡ empty → m.entries ≡ []
unfolding empty
no-entries {X} m none = ap (λ (n : NameMap X). n.entries) none

-- with an entry more
pub entry-so_far : (old new : StreamInMemory) (groups : NameMap GroupState) (group : Option (Bytes × GroupState)) (id : Id) (fields : List Field) → IsKeySoFar old groups group
    → AllUpTo old.top (ids_of old.entries) → is_below old.top id ≡ true → state_of new ≡ with_entry id fields (state_of old) → IsKeySoFar new groups group
entry-so_far old new groups group id fields so_far up above is = record {
  top_is_last = ap (λ (s : StreamState). s.top) is ∙ sym (ap (λ (s : StreamState). last_id s.entries) is ∙ last_id-more old.entries id fields);
  groups_are_first = so_far.groups_are_first;
  above_zero = subst (λ (s : StreamState). AllAbove zero_id (ids_of s.entries)) (sym is) (entry-above old.entries id fields so_far.above_zero (subst (λ t. is_below t id ≡ true) so_far.top_is_last above));
  ascends = subst (λ (s : StreamState). Ascends (ids_of s.entries)) (sym is) (entry-ascends old.entries old.top id fields so_far.ascends up above);
  restorable = so_far.restorable;
}
