-- The pieces of a restorable content fit.
use Rattle.std.proofs.Common.{◌≡◌, ◌⊎◌, inl, inr, ℕ, Bool, true, false, not, ◌&&◌, List, [], ◌∷◌, ◌++◌, map, length, Option, Some, None, is_some, is_none}
use Rattle.std.proofs.Common.{refl, sym, ap, ◌∙◌, subst, arith, append_assoc, append-nil, Ordering}
use Rattle.std.specs.Prelude.{nat_le, ◌==◌, IfNone}
use Rattle.std.specs.List.{flat_map, list_all, AllByRecursion}
use Rattle.std.specs.Option.{option_map_or}
use Rattle.std.specs.Ordering.{nat_cmp, is_lt, ordering_reverse}
use Rattle.std.specs.Cmp.{IsTotalOrder}
use Rattle.std.specs.Cmp.Lexicographic.{slice_cmp, nat_list_cmp_total}
use Rattle.std.specs.FinMap.Entries.{find, is_sorted, below_all}
use Rattle.std.specs.declared.cmp.Ordering.TheVariants.{Less, Equal, Greater}
use Rattle.std.proofs.Math.Dec.{T}
use Rattle.std.proofs.lemmas.Bool.{false≢true}
use Rattle.std.proofs.lemmas.Cmp.{tied_itself}
use Rattle.std.proofs.lemmas.List.{map-append}
use Rattle.xs_bytes.specs.SortedMap.{SortedMap, NameMap, get, has_key}
use Rattle.xs_bytes.proofs.SortedMaps.{same_entries_map}
use Rattle.xs_stream.specs.declared.id.Id.{Id}
use Rattle.xs_stream.specs.declared.field.Field.{Field}
use Rattle.xs_stream.specs.Id.{id_cmp, is_below, zero_id}
use Rattle.xs_stream.specs.StreamContent.{AllAbove, Ascends, ids_of}
use Rattle.xs_stream.specs.ConsistentStream.{is_history_after}
use Rattle.xs_group.specs.GroupState.{GroupState, RowState, Rows, Consumers, ids_total, last_of, has_name}
use Rattle.xs_group.specs.Indexes.{is_owner}
use Rattle.xs_group.specs.NextRow.{is_next_row}
use Rattle.xs_keys.specs.Event.{Bytes, Entries, PendingEntries}
use Rattle.xs_keys.specs.Content.{KeyState, Content}
use Rattle.xs_keys.specs.NextName.{is_past_names}
use Rattle.xs_keys.proofs.NameMaps.{is_same_name-refl}
use Rattle.xs_keys.proofs.LastNames.{front, tail}
use Rattle.xs_replay.specs.Pieces.{Piece, of_key, of_entry, of_group, of_consumer, of_row, pieces_of_group, pieces_of_key, pieces_of}
use Rattle.xs_snapshot.specs.Building.{pieces_if_there, KeySoFar, pieces_of_key_so_far}
use Rattle.xs_snapshot.specs.NextPiece.{last_id, is_next_consumer, is_past_if_there, may_end, is_whole, may_follow, AreGroupsFirst, IsInOrder, AreFitting}
use Rattle.xs_snapshot.specs.Restorable.{IsRestorableGroup, IsRestorableKey, IsRestorable}
use Rattle.xs_snapshot.proofs.PiecesAhead.{depth, is_up_to, deeper, entry_piece, consumer_piece, row_piece, MembersAhead, members_ahead, groups-up_to, GroupsAhead, groups_ahead}
use Rattle.xs_snapshot.proofs.PiecesAhead.{entries_ahead, no-entries-left, keys-alone, KeysAhead, keys_ahead}

-- ---- what is before an entry of a sorted list

both_hold : (a b : Bool) → a ≡ true → b ≡ true → (a && b) ≡ true
both_hold true b h k = k
both_hold false b h k = h

greater_from : (r : Ordering) → is_lt r ≡ true → ordering_reverse r ≡ Greater
greater_from Less h = refl
greater_from Equal h = absurd (false≢true h)
greater_from Greater h = absurd (false≢true h)

module _ {K X : Type 0} (R : K → K → Ordering) where
  below-at : (k : K) (ds : List (K × X)) (e : K × X) (es : List (K × X)) → T (below_all R k (ds ++ e ∷ es)) → is_lt (R k e.0) ≡ true
  below-at k [] e es h = by (is_lt (R k e.0)) (below_all R k es) h where
    by : (a b : Bool) → T (a && b) → a ≡ true
    by true b h = refl
    by false b h = absurd h
  below-at k (d ∷ ds) e es h = below-at k ds e es (tail _ _ h)

  sorted-before : (ds : List (K × X)) (e : K × X) (es : List (K × X)) → T (is_sorted R (ds ++ e ∷ es)) → list_all (λ d. is_lt (R d.0 e.0)) ds ≡ true
  sorted-before [] e es h = refl
  sorted-before (d ∷ ds) e es h = both_hold _ _ (below-at d.0 ds e es (front _ _ h)) (sorted-before ds e es (tail _ _ h))

  before-entry : (m : SortedMap R X) (ds : List (K × X)) (e : K × X) (es : List (K × X)) → m.entries ≡ ds ++ e ∷ es → list_all (λ d. is_lt (R d.0 e.0)) ds ≡ true
  before-entry m ds e es is = sorted-before ds e es (subst (λ l. T (is_sorted R l)) is m.sorted)

  find-at : IsTotalOrder R → (ds : List (K × X)) (k : K) (x : X) (es : List (K × X)) → list_all (λ d. is_lt (R d.0 k)) ds ≡ true → find R k (ds ++ (k, x) ∷ es) ≡ Some x
  find-at o [] k x es h = rw (tied_itself o k) refl
  find-at o (d ∷ ds) k x es h =
      let above : R k d.0 ≡ Greater = o.antisymm k d.0 ∙ greater_from (R d.0 k) (first _ _ h) in
      rw above (find-at o ds k x es (second _ _ h)) where
        first : (a b : Bool) → (a && b) ≡ true → a ≡ true
        first true b h = refl
        first false b h = h

        second : (a b : Bool) → (a && b) ≡ true → b ≡ true
        second true b h = h
        second false b h = absurd (false≢true h)

all-at : {A : Type 0} (P : A → Type 0) (ds : List A) (e : A) (es : List A) → AllByRecursion P (ds ++ e ∷ es) → P e
all-at P [] e es a = a.0
all-at P (d ∷ ds) e es a = all-at P ds e es a.1

above-last : (x : Id) (ids : List Id) (id : Id) (more : List Id) → AllAbove x (ids ++ id ∷ more) → Ascends (ids ++ id ∷ more) → is_below (last_of x ids) id ≡ true
above-last x [] id more a s = a.0
above-last x (y ∷ ys) id more a s = above-last y ys id more s.0 s.1

-- ---- the last key and the last group of what was read, in the complete content

record LastGroup (all before : List (Bytes × GroupState)) (g : Bytes × GroupState) (rest later : List Piece) : Type 0 where
  pub group : Bytes × GroupState
  pub others : List (Bytes × GroupState)
  pub split : all ≡ before ++ group ∷ others
  pub name : g.0 ≡ group.0
  pub cursor : g.1.cursor ≡ group.1.cursor
  pub members : MembersAhead g.1.consumers.entries group.1.consumers.entries g.1.rows.entries group.1.rows.entries rest (flat_map pieces_of_group others ++ later)

abbrev LastIn : Option (Bytes × GroupState) → (all before : List (Bytes × GroupState)) → Entries → (rest later : List Piece) → Type 0
LastIn None all before more rest later = rest ≡ map entry_piece more ++ (flat_map pieces_of_group all ++ later)
LastIn (Some g) all before more rest later = (more ≡ []) × LastGroup all before g rest later

record LastKey (all before : List (Bytes × KeyState)) (k : KeySoFar) (rest : List Piece) : Type 0 where
  pub key : Bytes × KeyState
  pub later : List (Bytes × KeyState)
  pub split : all ≡ before ++ key ∷ later
  pub name : k.key.0 ≡ key.0
  pub top : k.key.1.stream.top ≡ key.1.stream.top
  pub added : k.key.1.stream.added ≡ key.1.stream.added
  pub more : Entries
  pub entries : key.1.stream.entries ≡ k.key.1.stream.entries ++ more
  pub last : LastIn k.group key.1.groups.entries k.key.1.groups.entries more rest (flat_map pieces_of_key later)

last-group : (gs all : List (Bytes × GroupState)) (g : Bytes × GroupState) (rest later : List Piece) → is_up_to 0 later ≡ true
    → flat_map pieces_of_group gs ++ (pieces_of_group g ++ rest) ≡ flat_map pieces_of_group all ++ later → LastGroup all gs g rest later
last-group gs all g rest later up e = by found.more found.split found.rest where
  found : GroupsAhead gs all (pieces_of_group g ++ rest) later
  found = groups_ahead gs all (pieces_of_group g ++ rest) later refl up e

  by : (more : List (Bytes × GroupState)) → all ≡ gs ++ more → pieces_of_group g ++ rest ≡ flat_map pieces_of_group more ++ later → LastGroup all gs g rest later
  by [] split is = absurd (false≢true (ap (is_up_to 0) is ∙ up))
  by (h ∷ others) split is =
      let behind = flat_map pieces_of_group others ++ later in
      let regrouped : pieces_of_group g ++ rest ≡ pieces_of_group h ++ behind = is ∙ append_assoc (pieces_of_group h) (flat_map pieces_of_group others) later in
      let name : g.0 ≡ h.0 = cc (regrouped) in
      let cursor : g.1.cursor ≡ h.1.cursor = cc (regrouped) in
      let inner : (map consumer_piece g.1.consumers.entries ++ map row_piece g.1.rows.entries) ++ rest ≡ (map consumer_piece h.1.consumers.entries ++ map row_piece h.1.rows.entries) ++ behind = cc (regrouped) in
      record {
        group = h;
        others = others;
        split = split;
        name = name;
        cursor = cursor;
        members = members_ahead g.1.consumers.entries h.1.consumers.entries h.1.rows.entries rest behind (groups-up_to others later (deeper later 0 1 (omega arith) up)) g.1.rows.entries inner;
      }

last-in : (group : Option (Bytes × GroupState)) (gs all : List (Bytes × GroupState)) (more : Entries) (rest later : List Piece) → is_up_to 0 later ≡ true → IfNone group (gs ≡ [])
    → flat_map pieces_of_group gs ++ (pieces_if_there pieces_of_group group ++ rest) ≡ map entry_piece more ++ (flat_map pieces_of_group all ++ later) → LastIn group all gs more rest later
last-in None gs all more rest later up none e = ap (λ (xs : List (Bytes × GroupState)). flat_map pieces_of_group xs ++ rest) (sym none) ∙ e
last-in (Some g) gs all more rest later up none e =
    let left = no-entries-left (flat_map pieces_of_group gs ++ (pieces_of_group g ++ rest)) (flat_map pieces_of_group all ++ later) more (groups-up_to gs (pieces_of_group g ++ rest) refl) e in
    (left.0, last-group gs all g rest later up left.1)

last-key : (before all : List (Bytes × KeyState)) (k : KeySoFar) (rest : List Piece) → AreGroupsFirst k → flat_map pieces_of_key all ≡ (flat_map pieces_of_key before ++ pieces_of_key_so_far k) ++ rest → LastKey all before k rest
last-key before all k rest first e = by found.more found.split found.rest where
  found : KeysAhead before all (pieces_of_key_so_far k ++ rest)
  found = keys_ahead before all (pieces_of_key_so_far k ++ rest) refl (e ∙ append_assoc (flat_map pieces_of_key before) (pieces_of_key_so_far k) rest)

  by : (more : List (Bytes × KeyState)) → all ≡ before ++ more → pieces_of_key_so_far k ++ rest ≡ flat_map pieces_of_key more → LastKey all before k rest
  by [] split is = absurd (cc)
  by (key ∷ later) split is =
      let regrouped = sym (append_assoc (pieces_of_key k.key) (pieces_if_there pieces_of_group k.group) rest) ∙ is in
      let inner = entries_ahead k.key key (pieces_if_there pieces_of_group k.group ++ rest) (flat_map pieces_of_key later) (keys-alone later) regrouped in
      record {
        key = key;
        later = later;
        split = split;
        name = inner.name;
        top = inner.top;
        added = inner.added;
        more = inner.more;
        entries = inner.split;
        last = last-in k.group k.key.1.groups.entries key.1.groups.entries inner.more rest (flat_map pieces_of_key later) (keys-alone later) first inner.rest;
      }

-- ---- what is at the front of what is left

no-key-first : (keys : List (Bytes × KeyState)) (p : Piece) (rest : List Piece) → nat_le (depth p) 0 ≡ false → flat_map pieces_of_key keys ≡ p ∷ rest → ⊥
no-key-first keys p rest deep e = false≢true (sym deep ∙ ap (is_up_to 0) (sym e) ∙ keys-alone keys)

no-group-first : (groups : List (Bytes × GroupState)) (later : List Piece) (p : Piece) (rest : List Piece) → is_up_to 1 later ≡ true → nat_le (depth p) 1 ≡ false → p ∷ rest ≡ flat_map pieces_of_group groups ++ later → ⊥
no-group-first groups later p rest up deep e = false≢true (sym deep ∙ ap (is_up_to 1) e ∙ groups-up_to groups later up)

found-row : (rows : Rows) (ds : PendingEntries) (id : Id) (row : RowState) (more : PendingEntries) → rows.entries ≡ ds ++ (id, row) ∷ more → list_all (λ d. is_below d.0 id) ds ≡ true → get rows id ≡ Some row
unfolding get
found-row rows ds id row more split past = ap (find id_cmp id) split ∙ find-at id_cmp ids_total ds id row more past

pub found-name : {X : Type 0} (m : NameMap X) (ds : List (Bytes × X)) (e : Bytes × X) (es : List (Bytes × X)) → m.entries ≡ ds ++ e ∷ es → get m e.0 ≡ Some e.1
unfolding get
found-name m ds e es is = ap (find (slice_cmp nat_cmp) e.0) is ∙ find-at (slice_cmp nat_cmp) nat_list_cmp_total ds e.0 e.1 es (before-entry (slice_cmp nat_cmp) m ds e es is)

module _ (content before : Content) (k : KeySoFar) (rest : List Piece) (last : LastKey content.entries before.entries k rest) (can : IsRestorable content) where
  restorable : IsRestorableKey last.key.1
  restorable = all-at (λ (e : Bytes × KeyState). IsRestorableKey e.1) before.entries last.key last.later (subst (AllByRecursion (λ (e : Bytes × KeyState). IsRestorableKey e.1)) last.split can)

  -- the key is above the others
  past-keys : is_past_names k.key.0 before ≡ true
  past-keys = subst (λ n. is_past_names n before ≡ true) (sym last.name) (before-entry (slice_cmp nat_cmp) content before.entries last.key last.later last.split)

  -- and has its history, if it has all its entries
  history-at : last.more ≡ [] → is_history_after (last_id k.key.1.stream.entries) k.key.1.stream.top k.key.1.stream.added ≡ true
  history-at none =
      let stream = restorable.stream in
      let entries = last.entries ∙ ap (λ xs. k.key.1.stream.entries ++ xs) none ∙ append-nil k.key.1.stream.entries in
      rw (last.top, last.added, ← entries) stream.history

  -- an entry that is left is above those before it
  entry-next : (id : Id) (fields : List Field) (more : Entries) → last.more ≡ (id, fields) ∷ more → is_below (last_id k.key.1.stream.entries) id ≡ true
  entry-next id fields more is =
      let old = k.key.1.stream.entries in
      let ids : ids_of last.key.1.stream.entries ≡ ids_of old ++ id ∷ ids_of more =
      ap ids_of (last.entries ∙ ap (λ xs. old ++ xs) is) ∙ map-append (λ (e : Id × List Field). e.0) old ((id, fields) ∷ more) in
      above-last zero_id (ids_of old) id (ids_of more) (subst (AllAbove zero_id) ids restorable.stream.above_zero) (subst Ascends ids restorable.stream.ascends)

  module _ (g : Bytes × GroupState) (in_group : LastGroup last.key.1.groups.entries k.key.1.groups.entries g rest (flat_map pieces_of_key last.later)) where
    can-group : IsRestorableGroup in_group.group.1
    can-group = all-at (λ (e : Bytes × GroupState). IsRestorableGroup e.1) k.key.1.groups.entries in_group.group in_group.others (subst (AllByRecursion (λ (e : Bytes × GroupState). IsRestorableGroup e.1)) in_group.split restorable.groups)

    -- the group is above the others
    past-groups : is_past_names g.0 k.key.1.groups ≡ true
    past-groups = subst (λ n. is_past_names n k.key.1.groups ≡ true) (sym in_group.name) (before-entry (slice_cmp nat_cmp) last.key.1.groups k.key.1.groups.entries in_group.group in_group.others in_group.split)

    -- a consumer that is left is above those before it
    consumer-next : (name : Bytes) (moment : ℕ) (more : List (Bytes × ℕ)) → in_group.members.consumers ≡ (name, moment) ∷ more → is_next_consumer name g.1 ≡ true
    consumer-next name moment more is =
        both_hold _ _ (none g.1.rows.entries in_group.members.in_order)
        (before-entry (slice_cmp nat_cmp) in_group.group.1.consumers g.1.consumers.entries (name, moment) more (in_group.members.consumers_split ∙ ap (λ cs. g.1.consumers.entries ++ cs) is)) where
          none : (rs : PendingEntries) → (in_group.members.consumers ≡ []) ⊎ (rs ≡ []) → (length rs == 0) ≡ true
          none rs (inl e) = let no = sym is ∙ e in absurd (cc)
          none rs (inr e) = rw e refl

    -- a row that is left may be inserted
    row-next : (id : Id) (row : RowState) (more : PendingEntries) → in_group.members.consumers ≡ [] → in_group.members.rows ≡ (id, row) ∷ more → is_next_row row.consumer id g.1 ≡ true
    row-next id row more none is =
        let whole = in_group.group.1 in
        let split = in_group.members.rows_split ∙ ap (λ rs. g.1.rows.entries ++ rs) is in
        let past = before-entry id_cmp whole.rows g.1.rows.entries (id, row) more split in
        let found : get whole.rows id ≡ Some row = found-row whole.rows g.1.rows.entries id row more split past in
        let there : has_key whole.rows id ≡ true = ap is_some found in
        let owner : is_owner (get whole.rows id) row.consumer ≡ true = ap (λ (r : Option RowState). is_owner r row.consumer) found ∙ is_same_name-refl row.consumer in
        let consumers = same_entries_map g.1.consumers whole.consumers (sym (in_group.members.consumers_split ∙ ap (λ cs. g.1.consumers.entries ++ cs) none ∙ append-nil g.1.consumers.entries)) in
        let named : has_name g.1.consumers row.consumer ≡ true = ap (λ (cs : Consumers). has_name cs row.consumer) consumers ∙ can-group.of_consumers row.consumer id owner in
        let up : is_below g.1.cursor id ≡ false = ap (λ c. is_below c id) in_group.cursor ∙ can-group.up_to_cursor id there in
        both_hold _ _ named (both_hold _ _ (ap not up) past)

  -- the last group is above the others, if there is one
  past-if : (group : Option (Bytes × GroupState)) → LastIn group last.key.1.groups.entries k.key.1.groups.entries last.more rest (flat_map pieces_of_key last.later) → is_past_if_there group k.key.1.groups ≡ true
  past-if None is = refl
  past-if (Some g) is = past-groups g is.1

  none-more : (group : Option (Bytes × GroupState)) → is_up_to 1 rest ≡ true → LastIn group last.key.1.groups.entries k.key.1.groups.entries last.more rest (flat_map pieces_of_key last.later) → last.more ≡ []
  none-more None up is = (no-entries-left rest (flat_map pieces_of_group last.key.1.groups.entries ++ flat_map pieces_of_key last.later) last.more up is).0
  none-more (Some g) up is = is.0

  may-end : is_up_to 1 rest ≡ true → may_end k ≡ true
  may-end up = both_hold _ _ (past-if k.group last.last) (history-at (none-more k.group up last.last))

-- ---- a piece of each kind

up-to-group : (keys : List (Bytes × KeyState)) → is_up_to 1 (flat_map pieces_of_key keys) ≡ true
up-to-group keys = deeper (flat_map pieces_of_key keys) 0 1 (omega arith) (keys-alone keys)

module _ (content before : Content) (k : KeySoFar) (rest : List Piece) (can : IsRestorable content) where
  entry-follows : (id : Id) (fields : List Field) (last : LastKey content.entries before.entries k (of_entry id fields ∷ rest)) (group : Option (Bytes × GroupState))
      → LastIn group last.key.1.groups.entries k.key.1.groups.entries last.more (of_entry id fields ∷ rest) (flat_map pieces_of_key last.later) → (is_none group && is_below (last_id k.key.1.stream.entries) id) ≡ true
  entry-follows id fields last None is = by last.more refl is where
    by : (more : Entries) → last.more ≡ more → of_entry id fields ∷ rest ≡ map entry_piece more ++ (flat_map pieces_of_group last.key.1.groups.entries ++ flat_map pieces_of_key last.later) → is_below (last_id k.key.1.stream.entries) id ≡ true
    by [] e is = absurd (no-group-first last.key.1.groups.entries (flat_map pieces_of_key last.later) (of_entry id fields) rest (up-to-group last.later) refl is)
    by (x ∷ more) e is =
        let same : id ≡ x.0 = cc in
        rw same (entry-next content before k (of_entry id fields ∷ rest) last can x.0 x.1 more e)
  entry-follows id fields last (Some g) is = absurd (by is.1.members.consumers is.1.members.rows is.1.members.rest) where
    by : (cs : List (Bytes × ℕ)) (rs : PendingEntries) → of_entry id fields ∷ rest ≡ map consumer_piece cs ++ (map row_piece rs ++ (flat_map pieces_of_group is.1.others ++ flat_map pieces_of_key last.later)) → ⊥
    by [] [] e = no-group-first is.1.others (flat_map pieces_of_key last.later) (of_entry id fields) rest (up-to-group last.later) refl e
    by [] (r ∷ rs) e = cc
    by (c ∷ cs) rs e = cc

  consumer-follows : (name : Bytes) (moment : ℕ) (last : LastKey content.entries before.entries k (of_consumer name moment ∷ rest)) (group : Option (Bytes × GroupState))
      → LastIn group last.key.1.groups.entries k.key.1.groups.entries last.more (of_consumer name moment ∷ rest) (flat_map pieces_of_key last.later) → option_map_or (λ (g : Bytes × GroupState). is_next_consumer name g.1) group false ≡ true
  consumer-follows name moment last None is = absurd (by last.more is) where
    by : (more : Entries) → of_consumer name moment ∷ rest ≡ map entry_piece more ++ (flat_map pieces_of_group last.key.1.groups.entries ++ flat_map pieces_of_key last.later) → ⊥
    by [] e = no-group-first last.key.1.groups.entries (flat_map pieces_of_key last.later) (of_consumer name moment) rest (up-to-group last.later) refl e
    by (x ∷ more) e = cc
  consumer-follows name moment last (Some g) is = by is.1.members.consumers refl is.1.members.rows is.1.members.rest where
    by : (cs : List (Bytes × ℕ)) → is.1.members.consumers ≡ cs → (rs : PendingEntries) → of_consumer name moment ∷ rest ≡ map consumer_piece cs ++ (map row_piece rs ++ (flat_map pieces_of_group is.1.others ++ flat_map pieces_of_key last.later)) → is_next_consumer name g.1 ≡ true
    by [] e [] is' = absurd (no-group-first is.1.others (flat_map pieces_of_key last.later) (of_consumer name moment) rest (up-to-group last.later) refl is')
    by [] e (r ∷ rs) is' = absurd (cc)
    by (c ∷ cs) e rs is' =
        let same : name ≡ c.0 = cc in
        subst (λ n. is_next_consumer n g.1 ≡ true) (sym same) (consumer-next content before k (of_consumer name moment ∷ rest) last can g is.1 c.0 c.1 cs e)

  row-follows : (id : Id) (row : RowState) (last : LastKey content.entries before.entries k (of_row id row ∷ rest)) (group : Option (Bytes × GroupState))
      → LastIn group last.key.1.groups.entries k.key.1.groups.entries last.more (of_row id row ∷ rest) (flat_map pieces_of_key last.later) → option_map_or (λ (g : Bytes × GroupState). is_next_row row.consumer id g.1) group false ≡ true
  row-follows id row last None is = absurd (by last.more is) where
    by : (more : Entries) → of_row id row ∷ rest ≡ map entry_piece more ++ (flat_map pieces_of_group last.key.1.groups.entries ++ flat_map pieces_of_key last.later) → ⊥
    by [] e = no-group-first last.key.1.groups.entries (flat_map pieces_of_key last.later) (of_row id row) rest (up-to-group last.later) refl e
    by (x ∷ more) e = cc
  row-follows id row last (Some g) is = by is.1.members.consumers refl is.1.members.rows refl is.1.members.rest where
    by : (cs : List (Bytes × ℕ)) → is.1.members.consumers ≡ cs → (rs : PendingEntries) → is.1.members.rows ≡ rs
        → of_row id row ∷ rest ≡ map consumer_piece cs ++ (map row_piece rs ++ (flat_map pieces_of_group is.1.others ++ flat_map pieces_of_key last.later)) → is_next_row row.consumer id g.1 ≡ true
    by [] e [] f is' = absurd (no-group-first is.1.others (flat_map pieces_of_key last.later) (of_row id row) rest (up-to-group last.later) refl is')
    by [] e (r ∷ rs) f is' =
        let same_id : id ≡ r.0 = cc in
        let same_row : row ≡ r.1 = cc in
        subst (λ x. is_next_row row.consumer x g.1 ≡ true) (sym same_id) (subst (λ w. is_next_row w.consumer r.0 g.1 ≡ true) (sym same_row) (row-next content before k (of_row id row ∷ rest) last can g is.1 r.0 r.1 rs e f))
    by (c ∷ cs) e rs f is' = absurd (cc)

  key-follows : (piece : Piece) → LastKey content.entries before.entries k (piece ∷ rest) → may_follow (record { content = before; key = Some k }) piece ≡ true
  key-follows (of_key name top added deleted) last =
      let at = of_key name top added deleted ∷ rest in
      both_hold _ _ (may-end content before k at last can refl) (past-keys content before k at last can)
  key-follows (of_entry id fields) last = entry-follows id fields last k.group last.last
  key-follows (of_group name cursor) last = past-if content before k (of_group name cursor ∷ rest) last can k.group last.last
  key-follows (of_consumer name moment) last = consumer-follows name moment last k.group last.last
  key-follows (of_row id row) last = row-follows id row last k.group last.last

first-follows : (content before : Content) (piece : Piece) (rest : List Piece) → pieces_of content ≡ piece ∷ rest → may_follow (record { content = before; key = None }) piece ≡ true
first-follows content before (of_key name top added deleted) rest e = refl
first-follows content before (of_entry id fields) rest e = absurd (no-key-first content.entries (of_entry id fields) rest refl e)
first-follows content before (of_group name cursor) rest e = absurd (no-key-first content.entries (of_group name cursor) rest refl e)
first-follows content before (of_consumer name moment) rest e = absurd (no-key-first content.entries (of_consumer name moment) rest refl e)
first-follows content before (of_row id row) rest e = absurd (no-key-first content.entries (of_row id row) rest refl e)

-- ---- all pieces

piece-follows : (content before : Content) (key : Option KeySoFar) (piece : Piece) (rest : List Piece) → IsRestorable content → IsInOrder (record { content = before; key = key })
    → pieces_of content ≡ (pieces_of before ++ pieces_if_there pieces_of_key_so_far key) ++ piece ∷ rest → may_follow (record { content = before; key = key }) piece ≡ true
piece-follows content before None piece rest can none e =
    first-follows content before piece rest (e ∙ ap (λ (ks : List (Bytes × KeyState)). (flat_map pieces_of_key ks ++ []) ++ piece ∷ rest) none)
piece-follows content before (Some k) piece rest can first e =
    key-follows content before k rest can piece (last-key before.entries content.entries k (piece ∷ rest) first e)

end-follows : (content before : Content) (key : Option KeySoFar) → IsRestorable content → IsInOrder (record { content = before; key = key })
    → pieces_of content ≡ pieces_of before ++ pieces_if_there pieces_of_key_so_far key → is_whole (record { content = before; key = key }) ≡ true
end-follows content before None can none e = refl
end-follows content before (Some k) can first e =
    let last = last-key before.entries content.entries k [] first (e ∙ sym (append-nil (pieces_of before ++ pieces_of_key_so_far k))) in
    both_hold _ _ (may-end content before k [] last can refl) (past-keys content before k [] last can)

pub restorable-fits : (content : Content) → IsRestorable content → AreFitting (pieces_of content)
restorable-fits content can = record {
  follows = λ b piece rest order e. piece-follows content b.content b.key piece rest can order e;
  ends = λ b order e. end-follows content b.content b.key can order e;
}
