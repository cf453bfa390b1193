-- The pieces of a content give the content again.
use Rattle.std.proofs.Common.{◌≡◌, ℕ, List, [], ◌∷◌, ◌++◌, map, refl, ap, ◌∙◌, append_assoc}
use Rattle.std.proofs.lemmas.List.{append-nil}
use Rattle.std.specs.List.{flat_map}
use Rattle.std.specs.Cmp.Lexicographic.{nat_list_cmp_total}
use Rattle.xs_bytes.specs.SortedMap.{NameMap, get}
use Rattle.xs_bytes.specs.MapOf.{from_entries, of_entries}
use Rattle.xs_bytes.proofs.SortedMaps as sorted
use Rattle.xs_stream.specs.declared.id.Id.{Id}
use Rattle.xs_stream.proofs.Order.{same_id}
use Rattle.xs_group.specs.GroupState.{Rows, RowState, GroupState, ids_total}
use Rattle.xs_keys.specs.Event.{Bytes, Entries, PendingEntries}
use Rattle.xs_keys.specs.Content.{KeyState, Content}
use Rattle.xs_keys.proofs.NameMaps.{name_exact}
use Rattle.xs_replay.specs.Pieces.{Piece, of_key, of_entry, of_group, of_consumer, of_row, pieces_of_group, pieces_of_key, pieces_of, Gathered, with_piece, gathered, content_of}

-- a map is made from its entries
names-made : {X : Type 0} → (m : NameMap X) → from_entries m.entries ≡ m
unfolding get
names-made m = sorted.same_map nat_list_cmp_total name_exact (from_entries m.entries) m (λ q. sorted.get-of_entries nat_list_cmp_total m.entries q)

rows-made : (m : Rows) → of_entries ids_total m.entries ≡ m
unfolding get
rows-made m = sorted.same_map ids_total same_id (of_entries ids_total m.entries) m (λ q. sorted.get-of_entries ids_total m.entries q)

abbrev these : List (Bytes × ℕ) → PendingEntries → List (Bytes × GroupState) → Entries → List (Bytes × KeyState) → Gathered
these consumers rows groups entries keys = record { consumers = consumers; rows = rows; groups = groups; entries = entries; keys = keys }

module _ (ps : List Piece) (cs : List (Bytes × ℕ)) (rs : PendingEntries) (gs : List (Bytes × GroupState)) (es : Entries) (ks : List (Bytes × KeyState)) where
  rows-read : (rows : PendingEntries) → gathered ps ≡ these cs rs gs es ks → gathered (map (λ r. of_row r.0 r.1) rows ++ ps) ≡ these cs (rows ++ rs) gs es ks
  rows-read [] h = h
  rows-read (r ∷ rows) h = ap (with_piece (of_row r.0 r.1)) (rows-read rows h)

  consumers-read : (consumers : List (Bytes × ℕ)) → gathered ps ≡ these cs rs gs es ks → gathered (map (λ c. of_consumer c.0 c.1) consumers ++ ps) ≡ these (consumers ++ cs) rs gs es ks
  consumers-read [] h = h
  consumers-read (c ∷ consumers) h = ap (with_piece (of_consumer c.0 c.1)) (consumers-read consumers h)

  entries-read : (entries : Entries) → gathered ps ≡ these cs rs gs es ks → gathered (map (λ x. of_entry x.0 x.1) entries ++ ps) ≡ these cs rs gs (entries ++ es) ks
  entries-read [] h = h
  entries-read (x ∷ entries) h = ap (with_piece (of_entry x.0 x.1)) (entries-read entries h)

group-read : (e : Bytes × GroupState) (ps : List Piece) (gs : List (Bytes × GroupState)) (es : Entries) (ks : List (Bytes × KeyState))
    → gathered ps ≡ these [] [] gs es ks → gathered (pieces_of_group e ++ ps) ≡ these [] [] (e ∷ gs) es ks
group-read e ps gs es ks h =
    let consumers = e.1.consumers.entries in
    let rows = e.1.rows.entries in
    let written_rows = map (λ (r : Id × RowState). of_row r.0 r.1) rows in
    let written_consumers = map (λ (c : Bytes × ℕ). of_consumer c.0 c.1) consumers in
    ap (with_piece (of_group e.0 e.1.cursor))
    (ap gathered (append_assoc written_consumers written_rows ps)
    ∙ consumers-read (written_rows ++ ps) [] (rows ++ []) gs es ks consumers (rows-read ps [] [] gs es ks rows h))
    ∙ ap (λ c. these [] [] ((e.0, record { cursor = e.1.cursor; consumers = c; rows = of_entries ids_total (rows ++ []) }) ∷ gs) es ks)
    (ap from_entries (append-nil consumers) ∙ names-made e.1.consumers)
    ∙ ap (λ r. these [] [] ((e.0, record { cursor = e.1.cursor; consumers = e.1.consumers; rows = r }) ∷ gs) es ks)
    (ap (of_entries ids_total) (append-nil rows) ∙ rows-made e.1.rows)

groups-read : (groups : List (Bytes × GroupState)) (ps : List Piece) (gs : List (Bytes × GroupState)) (es : Entries) (ks : List (Bytes × KeyState))
    → gathered ps ≡ these [] [] gs es ks → gathered (flat_map pieces_of_group groups ++ ps) ≡ these [] [] (groups ++ gs) es ks
groups-read [] ps gs es ks h = h
groups-read (e ∷ groups) ps gs es ks h =
    ap gathered (append_assoc (pieces_of_group e) (flat_map pieces_of_group groups) ps)
    ∙ group-read e (flat_map pieces_of_group groups ++ ps) (groups ++ gs) es ks (groups-read groups ps gs es ks h)

key-read : (e : Bytes × KeyState) (ps : List Piece) (ks : List (Bytes × KeyState)) → gathered ps ≡ these [] [] [] [] ks → gathered (pieces_of_key e ++ ps) ≡ these [] [] [] [] (e ∷ ks)
key-read e ps ks h =
    let stream = e.1.stream in
    let entries = stream.entries in
    let groups = e.1.groups.entries in
    let written = flat_map pieces_of_group groups in
    ap (with_piece (of_key e.0 stream.top stream.added stream.deleted))
    (ap gathered (append_assoc (map (λ x. of_entry x.0 x.1) entries) written ps)
    ∙ entries-read (written ++ ps) [] [] (groups ++ []) [] ks entries (groups-read groups ps [] [] ks h))
    ∙ ap (λ s. these [] [] [] [] ((e.0, record { stream = record stream { entries = s }; groups = from_entries (groups ++ []) }) ∷ ks)) (append-nil entries)
    ∙ ap (λ g. these [] [] [] [] ((e.0, record { stream = stream; groups = g }) ∷ ks)) (ap from_entries (append-nil groups) ∙ names-made e.1.groups)

keys-read : (keys : List (Bytes × KeyState)) → gathered (flat_map pieces_of_key keys) ≡ these [] [] [] [] keys
keys-read [] = refl
keys-read (e ∷ keys) = key-read e (flat_map pieces_of_key keys) keys (keys-read keys)

pub content-read : (content : Content) → content_of (pieces_of content) ≡ content
content-read content = ap (λ g. from_entries g.keys) (keys-read content.entries) ∙ names-made content
