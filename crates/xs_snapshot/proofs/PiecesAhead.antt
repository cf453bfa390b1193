-- What is left of a content after the first of its pieces were read.
use Rattle.std.proofs.Common.{◌≡◌, ◌⊎◌, inl, inr, ℕ, ◌≤◌, Bool, true, false, List, [], ◌∷◌, ◌++◌, map}
use Rattle.std.proofs.Common.{refl, sym, ap, ◌∙◌, arith, append_assoc, append-nil}
use Rattle.std.specs.Prelude.{nat_le}
use Rattle.std.specs.List.{flat_map}
use Rattle.std.proofs.lemmas.Bool.{false≢true}
use Rattle.std.proofs.lemmas.Bool.Decides.{nat_tests}
use Rattle.xs_bytes.proofs.SortedMaps.{same_entries_map}
use Rattle.xs_stream.specs.declared.id.Id.{Id}
use Rattle.xs_stream.specs.declared.field.Field.{Field}
use Rattle.xs_group.specs.GroupState.{GroupState, RowState}
use Rattle.xs_keys.specs.Event.{Bytes, Entries, PendingEntries}
use Rattle.xs_keys.specs.Content.{KeyState}
use Rattle.xs_replay.specs.Pieces.{Piece, of_key, of_entry, of_group, of_consumer, of_row, pieces_of_group, pieces_of_key}

abbrev pub entry_piece : Id × List Field → Piece
entry_piece x = of_entry x.0 x.1

abbrev pub consumer_piece : Bytes × ℕ → Piece
consumer_piece c = of_consumer c.0 c.1

abbrev pub row_piece : Id × RowState → Piece
row_piece r = of_row r.0 r.1

-- the depth of a piece: a key and a group end what is deeper
abbrev pub depth : Piece → ℕ
depth (of_key name top added deleted) = 0
depth (of_group name cursor) = 1
depth (of_entry id fields) = 2
depth (of_row id row) = 3
depth (of_consumer name moment) = 4

-- the first of these pieces isn't deeper
abbrev pub is_up_to : ℕ → List Piece → Bool
is_up_to n [] = true
is_up_to n (p ∷ ps) = nat_le (depth p) n

pub deeper : (ps : List Piece) (n m : ℕ) → n ≤ m → is_up_to n ps ≡ true → is_up_to m ps ≡ true
deeper [] n m le h = refl
deeper (p ∷ ps) n m le h = grind (arith, nat_tests)

-- ---- of a list

record Ahead {A : Type 0} (f : A → Piece) (xs ys : List A) (read behind : List Piece) : Type 0 where
  pub more : List A
  pub split : ys ≡ xs ++ more
  pub rest : read ≡ map f more ++ behind

ahead : {A : Type 0} (f : A → Piece) (n : ℕ) → ((a : A) → nat_le (depth (f a)) n ≡ false) → ((a b : A) → f a ≡ f b → a ≡ b) → (xs ys : List A) (read behind : List Piece)
    → is_up_to n behind ≡ true → map f xs ++ read ≡ map f ys ++ behind → Ahead f xs ys read behind
ahead f n deep same [] ys read behind up e = record { more = ys; split = refl; rest = e }
ahead f n deep same (x ∷ xs) [] read behind up e = absurd (false≢true (sym (deep x) ∙ ap (is_up_to n) e ∙ up))
ahead f n deep same (x ∷ xs) (y ∷ ys) read behind up e =
    let first : f x ≡ f y = cc in
    let others : map f xs ++ read ≡ map f ys ++ behind = cc in
    let rest = ahead f n deep same xs ys read behind up others in
    record { more = rest.more; split = ap (λ z. z ∷ ys) (sym (same x y first)) ∙ ap (λ zs. x ∷ zs) rest.split; rest = rest.rest }

same_entry : (a b : Id × List Field) → entry_piece a ≡ entry_piece b → a ≡ b
same_entry a b e =
    let id : a.0 ≡ b.0 = cc in
    let fields : a.1 ≡ b.1 = cc in
    λ i. (id i, fields i)

same_consumer : (a b : Bytes × ℕ) → consumer_piece a ≡ consumer_piece b → a ≡ b
same_consumer a b e =
    let name : a.0 ≡ b.0 = cc in
    let moment : a.1 ≡ b.1 = cc in
    λ i. (name i, moment i)

same_row : (a b : Id × RowState) → row_piece a ≡ row_piece b → a ≡ b
same_row a b e =
    let id : a.0 ≡ b.0 = cc in
    let row : a.1 ≡ b.1 = cc in
    λ i. (id i, row i)

-- ---- of a group

-- consumers and rows that are left; consumers only if no row was read
pub record MembersAhead (cs all : List (Bytes × ℕ)) (rs every : PendingEntries) (read behind : List Piece) : Type 0 where
  pub consumers : List (Bytes × ℕ)
  pub rows : PendingEntries
  pub consumers_split : all ≡ cs ++ consumers
  pub rows_split : every ≡ rs ++ rows
  pub rest : read ≡ map consumer_piece consumers ++ (map row_piece rows ++ behind)
  pub in_order : (consumers ≡ []) ⊎ (rs ≡ [])

rows-up_to : (rs : PendingEntries) (behind : List Piece) → is_up_to 1 behind ≡ true → is_up_to 3 (map row_piece rs ++ behind) ≡ true
rows-up_to [] behind up = deeper behind 1 3 (omega arith) up
rows-up_to (r ∷ rs) behind up = refl

module _ (cs all : List (Bytes × ℕ)) (every : PendingEntries) (read behind : List Piece) (up : is_up_to 1 behind ≡ true) where
  members-by : (rs : PendingEntries) (more : List (Bytes × ℕ)) → all ≡ cs ++ more → map row_piece rs ++ read ≡ map consumer_piece more ++ (map row_piece every ++ behind)
      → MembersAhead cs all rs every read behind
  members-by rs [] split rest =
      let found = ahead row_piece 2 (λ a. refl) same_row rs every read behind (deeper behind 1 2 (omega arith) up) rest in
      record { consumers = []; rows = found.more; consumers_split = split; rows_split = found.split; rest = found.rest; in_order = inl refl }
  members-by [] (c ∷ more) split rest = record { consumers = c ∷ more; rows = every; consumers_split = split; rows_split = refl; rest = rest; in_order = inr refl }
  members-by (r ∷ rs) (c ∷ more) split rest = absurd (cc)

  pub members_ahead : (rs : PendingEntries) → (map consumer_piece cs ++ map row_piece rs) ++ read ≡ (map consumer_piece all ++ map row_piece every) ++ behind → MembersAhead cs all rs every read behind
  members_ahead rs e =
      let regrouped = sym (append_assoc (map consumer_piece cs) (map row_piece rs) read) ∙ e ∙ append_assoc (map consumer_piece all) (map row_piece every) behind in
      let found = ahead consumer_piece 3 (λ a. refl) same_consumer cs all (map row_piece rs ++ read) (map row_piece every ++ behind) (rows-up_to every behind up) regrouped in
      members-by rs found.more found.split found.rest

-- none are left if a group or a key follows
none-left : (read behind : List Piece) (consumers : List (Bytes × ℕ)) (rows : PendingEntries) → is_up_to 1 read ≡ true → read ≡ map consumer_piece consumers ++ (map row_piece rows ++ behind)
    → (consumers ≡ []) × (rows ≡ []) × (read ≡ behind)
none-left read behind [] [] up e = (refl, refl, e)
none-left read behind [] (r ∷ rows) up e = absurd (false≢true (sym (ap (is_up_to 1) e) ∙ up))
none-left read behind (c ∷ consumers) rows up e = absurd (false≢true (sym (ap (is_up_to 1) e) ∙ up))

same_group : (g h : Bytes × GroupState) (read behind : List Piece) → is_up_to 1 read ≡ true → is_up_to 1 behind ≡ true → pieces_of_group g ++ read ≡ pieces_of_group h ++ behind → (g ≡ h) × (read ≡ behind)
same_group g h read behind first up e =
    let name : g.0 ≡ h.0 = cc in
    let cursor : g.1.cursor ≡ h.1.cursor = cc in
    let others : (map consumer_piece g.1.consumers.entries ++ map row_piece g.1.rows.entries) ++ read ≡ (map consumer_piece h.1.consumers.entries ++ map row_piece h.1.rows.entries) ++ behind = cc in
    let found = members_ahead g.1.consumers.entries h.1.consumers.entries h.1.rows.entries read behind up g.1.rows.entries others in
    let left = none-left read behind found.consumers found.rows first found.rest in
    let consumers = same_entries_map g.1.consumers h.1.consumers (sym (found.consumers_split ∙ ap (λ cs. g.1.consumers.entries ++ cs) left.0 ∙ append-nil g.1.consumers.entries)) in
    let rows = same_entries_map g.1.rows h.1.rows (sym (found.rows_split ∙ ap (λ rs. g.1.rows.entries ++ rs) left.1 ∙ append-nil g.1.rows.entries)) in
    (λ i. (name i, record { cursor = cursor i; consumers = consumers i; rows = rows i }), left.2)

-- ---- of groups

pub groups-up_to : (gs : List (Bytes × GroupState)) (behind : List Piece) → is_up_to 1 behind ≡ true → is_up_to 1 (flat_map pieces_of_group gs ++ behind) ≡ true
groups-up_to [] behind up = up
groups-up_to (g ∷ gs) behind up = refl

pub record GroupsAhead (gs all : List (Bytes × GroupState)) (read behind : List Piece) : Type 0 where
  pub more : List (Bytes × GroupState)
  pub split : all ≡ gs ++ more
  pub rest : read ≡ flat_map pieces_of_group more ++ behind

pub groups_ahead : (gs all : List (Bytes × GroupState)) (read behind : List Piece) → is_up_to 1 read ≡ true → is_up_to 0 behind ≡ true
    → flat_map pieces_of_group gs ++ read ≡ flat_map pieces_of_group all ++ behind → GroupsAhead gs all read behind
groups_ahead [] all read behind first up e = record { more = all; split = refl; rest = e }
groups_ahead (g ∷ gs) [] read behind first up e = absurd (false≢true (ap (is_up_to 0) e ∙ up))
groups_ahead (g ∷ gs) (h ∷ all) read behind first up e =
    let left = flat_map pieces_of_group gs ++ read in
    let right = flat_map pieces_of_group all ++ behind in
    let regrouped = sym (append_assoc (pieces_of_group g) (flat_map pieces_of_group gs) read) ∙ e ∙ append_assoc (pieces_of_group h) (flat_map pieces_of_group all) behind in
    let same = same_group g h left right (groups-up_to gs read first) (groups-up_to all behind (deeper behind 0 1 (omega arith) up)) regrouped in
    let rest = groups_ahead gs all read behind first up same.1 in
    record { more = rest.more; split = ap (λ x. x ∷ all) (sym same.0) ∙ ap (λ xs. g ∷ xs) rest.split; rest = rest.rest }

-- ---- of a key

-- a key has the head of another, and more entries
pub record EntriesAhead (k all : Bytes × KeyState) (read behind : List Piece) : Type 0 where
  pub name : k.0 ≡ all.0
  pub top : k.1.stream.top ≡ all.1.stream.top
  pub added : k.1.stream.added ≡ all.1.stream.added
  pub deleted : k.1.stream.deleted ≡ all.1.stream.deleted
  pub more : Entries
  pub split : all.1.stream.entries ≡ k.1.stream.entries ++ more
  pub rest : flat_map pieces_of_group k.1.groups.entries ++ read ≡ map entry_piece more ++ (flat_map pieces_of_group all.1.groups.entries ++ behind)

pub entries_ahead : (k all : Bytes × KeyState) (read behind : List Piece) → is_up_to 0 behind ≡ true → pieces_of_key k ++ read ≡ pieces_of_key all ++ behind → EntriesAhead k all read behind
entries_ahead k all read behind up e =
    let groups = flat_map pieces_of_group k.1.groups.entries in
    let every = flat_map pieces_of_group all.1.groups.entries in
    let others : (map entry_piece k.1.stream.entries ++ groups) ++ read ≡ (map entry_piece all.1.stream.entries ++ every) ++ behind = cc in
    let regrouped = sym (append_assoc (map entry_piece k.1.stream.entries) groups read) ∙ others ∙ append_assoc (map entry_piece all.1.stream.entries) every behind in
    let found = ahead entry_piece 1 (λ a. refl) same_entry k.1.stream.entries all.1.stream.entries (groups ++ read) (every ++ behind) (groups-up_to all.1.groups.entries behind (deeper behind 0 1 (omega arith) up)) regrouped in
    record { name = cc; top = cc; added = cc; deleted = cc; more = found.more; split = found.split; rest = found.rest }

-- no entries are left if a group or a key follows
pub no-entries-left : (read behind : List Piece) (more : Entries) → is_up_to 1 read ≡ true → read ≡ map entry_piece more ++ behind → (more ≡ []) × (read ≡ behind)
no-entries-left read behind [] up e = (refl, e)
no-entries-left read behind (x ∷ more) up e = absurd (false≢true (sym (ap (is_up_to 1) e) ∙ up))

same_key : (k all : Bytes × KeyState) (read behind : List Piece) → is_up_to 0 read ≡ true → is_up_to 0 behind ≡ true → pieces_of_key k ++ read ≡ pieces_of_key all ++ behind → (k ≡ all) × (read ≡ behind)
same_key k all read behind first up e =
    let found = entries_ahead k all read behind up e in
    let one = deeper read 0 1 (omega arith) first in
    let left = no-entries-left (flat_map pieces_of_group k.1.groups.entries ++ read) (flat_map pieces_of_group all.1.groups.entries ++ behind) found.more (groups-up_to k.1.groups.entries read one) found.rest in
    let groups = groups_ahead k.1.groups.entries all.1.groups.entries read behind one up left.1 in
    let none = no-groups-left read behind groups.more first groups.rest in
    let name = found.name in
    let top = found.top in
    let added = found.added in
    let deleted = found.deleted in
    let entries = sym (found.split ∙ ap (λ xs. k.1.stream.entries ++ xs) left.0 ∙ append-nil k.1.stream.entries) in
    let map = same_entries_map k.1.groups all.1.groups (sym (groups.split ∙ ap (λ gs. k.1.groups.entries ++ gs) none.0 ∙ append-nil k.1.groups.entries)) in
    (λ i. (name i, record { stream = record { top = top i; entries = entries i; added = added i; deleted = deleted i }; groups = map i }), none.1) where
      no-groups-left : (read behind : List Piece) (more : List (Bytes × GroupState)) → is_up_to 0 read ≡ true → read ≡ flat_map pieces_of_group more ++ behind → (more ≡ []) × (read ≡ behind)
      no-groups-left read behind [] up e = (refl, e)
      no-groups-left read behind (g ∷ more) up e = absurd (false≢true (sym (ap (is_up_to 0) e) ∙ up))

-- ---- of keys

keys-up_to : (ks : List (Bytes × KeyState)) (behind : List Piece) → is_up_to 0 behind ≡ true → is_up_to 0 (flat_map pieces_of_key ks ++ behind) ≡ true
keys-up_to [] behind up = up
keys-up_to (k ∷ ks) behind up = refl

pub keys-alone : (ks : List (Bytes × KeyState)) → is_up_to 0 (flat_map pieces_of_key ks) ≡ true
keys-alone [] = refl
keys-alone (k ∷ ks) = refl

pub record KeysAhead (ks all : List (Bytes × KeyState)) (read : List Piece) : Type 0 where
  pub more : List (Bytes × KeyState)
  pub split : all ≡ ks ++ more
  pub rest : read ≡ flat_map pieces_of_key more

pub keys_ahead : (ks all : List (Bytes × KeyState)) (read : List Piece) → is_up_to 0 read ≡ true → flat_map pieces_of_key all ≡ flat_map pieces_of_key ks ++ read → KeysAhead ks all read
keys_ahead [] all read first e = record { more = all; split = refl; rest = sym e }
keys_ahead (k ∷ ks) [] read first e = absurd (cc)
keys_ahead (k ∷ ks) (h ∷ all) read first e =
    let regrouped = sym (append_assoc (pieces_of_key k) (flat_map pieces_of_key ks) read) ∙ sym e in
    let same = same_key k h (flat_map pieces_of_key ks ++ read) (flat_map pieces_of_key all) (keys-up_to ks read first) (keys-alone all) regrouped in
    let rest = keys_ahead ks all read first (sym same.1) in
    record { more = rest.more; split = ap (λ x. x ∷ all) (sym same.0) ∙ ap (λ xs. k ∷ xs) rest.split; rest = rest.rest }
