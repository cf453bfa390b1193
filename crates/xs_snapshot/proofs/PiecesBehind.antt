-- A piece after those of a group, a key or a content.
use Rattle.std.proofs.Common.{◌≡◌, ℕ, List, [], ◌∷◌, ◌++◌, map, length, Option, Some, None}
use Rattle.std.proofs.Common.{sym, ap, ◌∙◌, refl, arith, append_assoc, append-nil}
use Rattle.std.proofs.lemmas.List.{map-append}
use Rattle.std.specs.List.{flat_map}
use Rattle.std.proofs.lemmas.Grind.{flat_map-append}
use Rattle.xs_bytes.specs.SortedMap.{NameMap, empty}
use Rattle.xs_stream.specs.declared.id.Id.{Id}
use Rattle.xs_stream.specs.declared.field.Field.{Field}
use Rattle.xs_stream.specs.StreamContent.{StreamState}
use Rattle.xs_group.specs.GroupState.{GroupState, RowState, new_group}
use Rattle.xs_keys.specs.Event.{Bytes}
use Rattle.xs_keys.specs.Content.{KeyState, Content}
use Rattle.xs_replay.specs.Pieces.{Piece, of_key, of_entry, of_group, of_consumer, of_row, pieces_of_group, pieces_of_key, pieces_of}
use Rattle.xs_snapshot.specs.Building.{pieces_if_there, KeySoFar, pieces_of_key_so_far, pieces_so_far}

-- one more after two lists, the second of which is empty or not
behind_first : {A B : Type 0} (f : A → B) (xs : List A) (x : A) (ys : List B) → ys ≡ [] → map f (xs ++ x ∷ []) ++ ys ≡ (map f xs ++ ys) ++ f x ∷ []
behind_first f xs x ys none =
    rw none (append-nil (map f (xs ++ x ∷ [])) ∙ map-append f xs (x ∷ []) ∙ ap (λ zs. zs ++ f x ∷ []) (sym (append-nil (map f xs))))

behind_second : {A B : Type 0} (f : A → B) (xs : List A) (x : A) (ys : List B) → ys ++ map f (xs ++ x ∷ []) ≡ (ys ++ map f xs) ++ f x ∷ []
behind_second f xs x ys = ap (λ zs. ys ++ zs) (map-append f xs (x ∷ [])) ∙ sym (append_assoc ys (map f xs) (f x ∷ []))

none-map : {A B : Type 0} (f : A → B) (xs : List A) → length xs ≡ 0 → map f xs ≡ []
none-map f [] e = refl
none-map f (x ∷ xs) e = absurd (omega (arith, e))

-- a consumer of a group without rows
pub consumer-behind : (old new : Bytes × GroupState) (name : Bytes) (moment : ℕ) → new.0 ≡ old.0 → new.1.cursor ≡ old.1.cursor → new.1.rows.entries ≡ old.1.rows.entries
    → length old.1.rows.entries ≡ 0 → new.1.consumers.entries ≡ old.1.consumers.entries ++ (name, moment) ∷ [] → pieces_of_group new ≡ pieces_of_group old ++ of_consumer name moment ∷ []
consumer-behind old new name moment named at rows none is =
    let row : Id × RowState → Piece = λ r. of_row r.0 r.1 in
    let consumer : Bytes × ℕ → Piece = λ c. of_consumer c.0 c.1 in
    rw (named, at, rows, is) (ap (λ ps. of_group old.0 old.1.cursor ∷ ps)
    (behind_first consumer old.1.consumers.entries (name, moment) (map row old.1.rows.entries) (none-map row old.1.rows.entries none)))

-- a row of a group
pub row-behind : (old new : Bytes × GroupState) (id : Id) (row : RowState) → new.0 ≡ old.0 → new.1.cursor ≡ old.1.cursor → new.1.consumers.entries ≡ old.1.consumers.entries
    → new.1.rows.entries ≡ old.1.rows.entries ++ (id, row) ∷ [] → pieces_of_group new ≡ pieces_of_group old ++ of_row id row ∷ []
row-behind old new id row named at consumers is =
    let one : Id × RowState → Piece = λ r. of_row r.0 r.1 in
    let consumer : Bytes × ℕ → Piece = λ c. of_consumer c.0 c.1 in
    rw (named, at, consumers, is) (ap (λ ps. of_group old.0 old.1.cursor ∷ ps)
    (behind_second one old.1.rows.entries (id, row) (map consumer old.1.consumers.entries)))

-- ---- of a key

-- pieces after others
pub behind : (before old new : List Piece) (piece : Piece) → new ≡ old ++ piece ∷ [] → before ++ new ≡ (before ++ old) ++ piece ∷ []
behind before old new piece is = ap (λ ps. before ++ ps) is ∙ sym (append_assoc before old (piece ∷ []))

-- an entry of a key without groups
pub entry-behind : (name : Bytes) (old new : KeyState) (id : Id) (fields : List Field) → new.stream.top ≡ old.stream.top → new.stream.added ≡ old.stream.added
    → new.stream.deleted ≡ old.stream.deleted → new.groups ≡ old.groups → old.groups.entries ≡ [] → new.stream.entries ≡ old.stream.entries ++ (id, fields) ∷ []
    → pieces_of_key (name, new) ≡ pieces_of_key (name, old) ++ of_entry id fields ∷ []
entry-behind name old new id fields top added deleted groups none is =
    let entry : Id × List Field → Piece = λ x. of_entry x.0 x.1 in
    rw (top, added, deleted, groups, is) (ap (λ ps. of_key name old.stream.top old.stream.added old.stream.deleted ∷ ps)
    (behind_first entry old.stream.entries (id, fields) (flat_map pieces_of_group old.groups.entries) (ap (flat_map pieces_of_group) none)))

-- more groups of a key
pub groups-behind : (name : Bytes) (stream : StreamState) (old new : NameMap GroupState) (more : List Piece)
    → flat_map pieces_of_group new.entries ≡ flat_map pieces_of_group old.entries ++ more
    → pieces_of_key (name, record { stream = stream; groups = new }) ≡ pieces_of_key (name, record { stream = stream; groups = old }) ++ more
groups-behind name stream old new more is =
    let entries : List Piece = map (λ (x : Id × List Field). of_entry x.0 x.1) stream.entries in
    ap (λ ps. of_key name stream.top stream.added stream.deleted ∷ ps)
    (ap (λ ps. entries ++ ps) is ∙ sym (append_assoc entries (flat_map pieces_of_group old.entries) more))

-- a new group
pub pieces-new_group : (name : Bytes) (cursor : Id) → pieces_of_group (name, new_group cursor) ≡ of_group name cursor ∷ []
unfolding empty
pieces-new_group name cursor = refl

-- a key without entries and groups
pub pieces-new_key : (name : Bytes) (top : Id) (added : ℕ) (deleted : Id)
    → pieces_of_key (name, record { stream = record { top = top; entries = []; added = added; deleted = deleted }; groups = empty }) ≡ of_key name top added deleted ∷ []
unfolding empty
pieces-new_key name top added deleted = refl

-- a group after the last one, which joins the others
pub group-next : (name : Bytes) (stream : StreamState) (old new : NameMap GroupState) (last : Option (Bytes × GroupState)) (next : Bytes) (cursor : Id)
    → flat_map pieces_of_group new.entries ≡ flat_map pieces_of_group old.entries ++ pieces_if_there pieces_of_group last
    → pieces_of_key_so_far (record { key = (name, record { stream = stream; groups = new }); group = Some (next, new_group cursor) })
    ≡ pieces_of_key_so_far (record { key = (name, record { stream = stream; groups = old }); group = last }) ++ of_group next cursor ∷ []
group-next name stream old new last next cursor is =
    let before : List Piece = pieces_of_key (name, record { stream = stream; groups = old }) ++ pieces_if_there pieces_of_group last in
    ap (λ ps. ps ++ pieces_of_group (next, new_group cursor)) (groups-behind name stream old new (pieces_if_there pieces_of_group last) is)
    ∙ ap (λ ps. before ++ ps) (pieces-new_group next cursor)

-- ---- of a list

-- one more
pub one-more : {X : Type 0} (pieces : X → List Piece) (old new : List X) (x : X) → new ≡ old ++ x ∷ [] → flat_map pieces new ≡ flat_map pieces old ++ pieces x
one-more pieces old new x is =
    ap (flat_map pieces) is ∙ flat_map-append pieces old (x ∷ []) ∙ ap (λ ps. flat_map pieces old ++ ps) (append-nil (pieces x))

-- ---- of a content

-- a key after the last one, which joins the others
pub key-next : (old new : Content) (last : Option KeySoFar) (name : Bytes) (top : Id) (added : ℕ) (deleted : Id)
    → pieces_of new ≡ pieces_of old ++ pieces_if_there pieces_of_key_so_far last
    → pieces_so_far (record { content = new; key = Some (record { key = (name, record { stream = record { top = top; entries = []; added = added; deleted = deleted }; groups = empty }); group = None }) })
    ≡ pieces_so_far (record { content = old; key = last }) ++ of_key name top added deleted ∷ []
key-next old new last name top added deleted is =
    let before : List Piece = pieces_of old ++ pieces_if_there pieces_of_key_so_far last in
    let first : KeyState = record { stream = record { top = top; entries = []; added = added; deleted = deleted }; groups = empty } in
    ap (λ ps. ps ++ (pieces_of_key (name, first) ++ [])) is
    ∙ ap (λ ps. before ++ ps) (append-nil (pieces_of_key (name, first)) ∙ pieces-new_key name top added deleted)
