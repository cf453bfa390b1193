-- The numbers of a content after events are in range.
use Rattle.std.proofs.Common.{◌≡◌, ℕ, zero, suc, ◌+◌, ◌^◌, ◌<◌, ◌≤◌, nat_lt, Bool, true, false, not, ◌||◌, ◌&&◌, cond, eqb, List, [], ◌∷◌, ◌++◌, map, filter, take}
use Rattle.std.proofs.Common.{inl, inr, Option, Some, None, IfSome, Result, Ok, Err, refl, sym, ap, ◌∙◌, subst, arith, Ordering}
use Rattle.std.proofs.lemmas.Bool.{cases_eq, false≢true}
use Rattle.std.proofs.lemmas.Bool.Decides.{nat_tests}
use Rattle.std.proofs.lemmas.List.{map-append}
use Rattle.std.specs.Prelude.{if◌then◌else◌}
use Rattle.std.specs.List.{AllByRecursion, flat_map}
use Rattle.std.specs.Option.{option_map_or}
use Rattle.std.specs.FinMap.Entries.{by_order, put, where_key, find}
use Rattle.std.specs.Ordering.{eq_by_cmp, nat_cmp}
use Rattle.std.specs.Cmp.{IsTotalOrder}
use Rattle.std.specs.Cmp.Lexicographic.{slice_cmp, nat_list_cmp_total}
use Rattle.std.specs.declared.cmp.Ordering.TheVariants.{Less, Equal, Greater}
use Rattle.xs_bytes.specs.Each.{with_some, each}
use Rattle.xs_bytes.specs.SortedMap.{SortedMap, empty, get, has_key, insert_by, insert, remove, change}
use Rattle.xs_stream.specs.declared.id.Id.{Id}
use Rattle.xs_stream.specs.declared.field.Field.{Field}
use Rattle.xs_stream.specs.declared.trim.Trim.{Trim}
use Rattle.xs_stream.specs.declared.add.AddId.{AddId}
use Rattle.xs_stream.specs.declared.add.AddId.TheVariants.{Auto, AutoSeq, Exact}
use Rattle.xs_stream.specs.declared.add.AddError.{AddError}
use Rattle.xs_stream.specs.declared.add.AddError.TheVariants.{Small, Exhausted}
use Rattle.xs_stream.specs.Id.{id_cmp, is_below, is_same_id, has_id, zero_id, greatest_id, greatest_number, successor, id_of_addition, id_of_addition_above}
use Rattle.xs_stream.specs.StreamContent.{StreamState, ids_of, AllAbove, entries_after_trim, greatest, up_to_limit}
use Rattle.xs_stream.specs.ConsistentStream.{IsId, AllIds, rank_of}
use Rattle.xs_stream.proofs.Assigning.{assigned-above}
use Rattle.xs_stream.proofs.InOrder.{ids-push, ids-filter, above-push, above-filter}
use Rattle.xs_stream.proofs.Order.{is_same_id-refl, up_to-below}
use Rattle.xs_stream.proofs.Past.{rank-below}
use Rattle.xs_group.specs.declared.claims.Claim.{Claim}
use Rattle.xs_group.specs.declared.claims.ClaimRule.{ClaimRule}
use Rattle.xs_group.specs.declared.claims.ClaimTime.{ClaimTime}
use Rattle.xs_group.specs.declared.claims.ClaimTime.TheVariants as time
use Rattle.xs_group.specs.GroupState.{RowState, GroupState, Consumers, Rows, ids_total, has_name, with_name, is_any, next_count, new_group}
use Rattle.xs_group.specs.GroupState.{unless_acked, unless_owned, new_ids, last_of, first_row, with_rows, redelivered_row, row_after_reread}
use Rattle.xs_group.specs.Claims.{claim_time, claim_count, claimed_row, row_after_claim, group_after_claim}
use Rattle.xs_command.specs.declared.command.Command.{Command}
use Rattle.xs_command.specs.declared.command.Command.TheVariants as command
use Rattle.xs_command.specs.declared.command.GroupStart.{GroupStart}
use Rattle.xs_command.specs.declared.command.GroupStart.TheVariants.{Top, At}
use Rattle.xs_command.specs.declared.command.GroupCreateCommand.{GroupCreateCommand}
use Rattle.xs_command.specs.declared.command.ReadGroupCommand.{ReadGroupCommand}
use Rattle.xs_command.specs.declared.command.ReadOne.{ReadOne}
use Rattle.xs_command.specs.declared.command.ReadFrom.{ReadFrom}
use Rattle.xs_command.specs.declared.command.ReadFrom.TheVariants.{New, After}
use Rattle.xs_keys.specs.Event.{Bytes, Entries, PendingEntries, Event, event_moment, event_command}
use Rattle.xs_keys.specs.Life.{StreamEvent, add_entry, delete_entries, trim_entries}
use Rattle.xs_keys.specs.GroupAsk.{GroupAsk, read_new, read_own, acknowledge, create_consumer, delete_consumer, claim, auto_claim}
use Rattle.xs_keys.specs.GroupLife.{starting_id, ask_of_read}
use Rattle.xs_keys.specs.Content.{KeyState, Content}
use Rattle.xs_keys.specs.ContentAfter.{content_after, new_key, key_or_new, stream_with, stream_after, key_after, after_stream_event, without_keys, group_after, with_group, after_ask, after_create, has_all_groups_in, after_reads}
use Rattle.xs_replay.specs.After.{after, contents_after, moment_after}
use Rattle.xs_replay.specs.Pieces.{Piece, of_entry, of_consumer, of_row, pieces_of_group, pieces_of_key, pieces_of}
use Rattle.xs_replay.specs.SnapshotWords.{Fits}
use Rattle.xs_replay.specs.Ranges.{AddIdFits, StartFits, RuleFits, CommandFits, EventFits}

-- ---- maps

-- each key is a Q, and each value an S
abbrev pub AllOf : {K X : Type 0} → (K → Type 0) → (X → Type 0) → List (K × X) → Type 0
AllOf Q S es = AllByRecursion (λ e. Q e.0 × S e.1) es

module _ {K X : Type 0} (R : K → K → Ordering) (Q : K → Type 0) (S : X → Type 0) where
  put-in : (k : K) (x : X) (es : List (K × X)) → Q k → S x → AllOf Q S es → AllOf Q S (put R k x es)
  put-in k x [] q s all = ((q, s), tt)
  put-in k x (e ∷ es) q s all = by (R k e.0) (put-in k x es q s all.1)
    where
      by : (o : Ordering) → AllOf Q S (put R k x es) → AllOf Q S (by_order o ((k, x) ∷ e ∷ es) ((e.0, x) ∷ es) (e ∷ put R k x es))
      by Less rest = ((q, s), all)
      by Equal rest = ((all.0.0, s), all.1)
      by Greater rest = (all.0, rest)

  where_key-in : (p : K → Bool) (es : List (K × X)) → AllOf Q S es → AllOf Q S (where_key R p es)
  where_key-in p [] all = tt
  where_key-in p (e ∷ es) all = by (p e.0) (where_key-in p es all.1)
    where
      by : (b : Bool) → AllOf Q S (where_key R p es) → AllOf Q S (cond b (e ∷ where_key R p es) (where_key R p es))
      by true rest = (all.0, rest)
      by false rest = rest

  each-in : (f : K → X → Option X) → ((k : K) (x : X) → Q k → S x → IfSome (f k x) S) → (es : List (K × X)) → AllOf Q S es → AllOf Q S (each f es)
  each-in f keeps [] all = tt
  each-in f keeps (e ∷ es) all = by (f e.0 e.1) (keeps e.0 e.1 all.0.0 all.0.1) (each-in f keeps es all.1)
    where
      by : (v : Option X) → IfSome v S → AllOf Q S (each f es) → AllOf Q S (with_some e.0 v (each f es))
      by None s rest = rest
      by (Some x) s rest = ((all.0.0, s), rest)

  find-in : (q : K) (es : List (K × X)) (x : X) → AllOf Q S es → find R q es ≡ Some x → S x
  find-in q [] x all e = absurd (cc)
  find-in q (e ∷ es) x all f = by (eq_by_cmp R q e.0) (find-in q es x all.1) f
    where
      by : (b : Bool) → (find R q es ≡ Some x → S x) → cond b (Some e.1) (find R q es) ≡ Some x → S x
      by true rest f = let same : e.1 ≡ x = cc in subst S same all.0.1
      by false rest f = rest f

  insert-in : (o : IsTotalOrder R) (m : SortedMap R X) (k : K) (x : X) → Q k → S x → AllOf Q S m.entries → AllOf Q S (insert_by o m k x).entries
  unfolding insert_by
  insert-in o m k x q s all = put-in k x m.entries q s all

  remove-in : (m : SortedMap R X) (k : K) → AllOf Q S m.entries → AllOf Q S (remove m k).entries
  unfolding remove
  remove-in m k all = where_key-in (λ x. not (eq_by_cmp R k x)) m.entries all

  change-in : (f : K → X → Option X) → ((k : K) (x : X) → Q k → S x → IfSome (f k x) S) → (m : SortedMap R X) → AllOf Q S m.entries → AllOf Q S (change f m).entries
  unfolding change
  change-in f keeps m all = each-in f keeps m.entries all

  get-in : (m : SortedMap R X) (q : K) (x : X) → AllOf Q S m.entries → get m q ≡ Some x → S x
  unfolding get
  get-in m q x all e = find-in q m.entries x all e

  empty-in : AllOf Q S (empty {X = X} {R = R}).entries
  unfolding empty
  empty-in = tt

-- names have no numbers
abbrev pub AnyName : Bytes → Type 0
AnyName name = Unit {0}

-- a value that is made of what may be found
chosen : {A B : Type 0} (P : B → Type 0) (f : A → B) (o : Option A) (d : B) → ((a : A) → o ≡ Some a → P (f a)) → P d → P (option_map_or f o d)
chosen P f None d some none = none
chosen P f (Some a) d some none = some a refl

-- ---- streams

pub record StreamFits (s : StreamState) : Type 0 where
  pub top : IsId s.top
  pub added : s.added ≤ rank_of s.top
  pub deleted : IsId s.deleted
  pub entries : AllIds (ids_of s.entries)
  pub above_zero : AllAbove zero_id (ids_of s.entries)

-- the successor of an id that isn't the greatest
successor-in : (id : Id) → IsId id → is_same_id id greatest_id ≡ false → IsId (successor id)
successor-in id is other = by (nat_lt id.seq greatest_number) refl
  where
    by : (b : Bool) → nat_lt id.seq greatest_number ≡ b → IsId (if b then record { ms = id.ms; seq = id.seq + 1 } else record { ms = id.ms + 1; seq = 0 })
    by true e = (is.0, grind (arith, nat_tests))
    by false e =
        let last : id.seq ≡ greatest_number = grind (arith, nat_tests, is.1) in
        elim (cases_eq id.ms greatest_number) [
          | inl first ↦
              let same : id ≡ greatest_id = ap (λ m. record { ms = m; seq = id.seq }) first ∙ ap (λ s. record { ms = greatest_number; seq = s }) last in
              absurd (false≢true (sym other ∙ ap (λ i. is_same_id i greatest_id) same ∙ is_same_id-refl greatest_id))
          | inr first ↦ (omega (arith, is.0, first), omega arith)
        ]

above-in : (now : ℕ) (top : Id) (id : AddId) (given : Id) → now < 2 ^ 63 → IsId top → AddIdFits id → is_same_id top greatest_id ≡ false → id_of_addition_above now top id ≡ Ok given → IsId given
above-in now top Auto given small is fits other e = by (nat_lt top.ms now) e
  where
    by : (b : Bool) → ◌≡◌ {A = Result Id AddError} (Ok (if b then record { ms = now; seq = 0 } else successor top)) (Ok given) → IsId given
    by true e = let same : record { ms = now; seq = 0 } ≡ given = cc in subst IsId same (omega (arith, small), omega arith)
    by false e = let same : successor top ≡ given = cc in subst IsId same (successor-in top is other)
above-in now top (AutoSeq ms) given small is fits other e = by (eqb ms top.ms) (nat_lt top.seq greatest_number) (nat_lt top.ms ms) refl e
  where
    by : (a b c : Bool) → nat_lt top.seq greatest_number ≡ b
        → (if a then (if b then Ok (record { ms = ms; seq = top.seq + 1 }) else Err Small) else (if c then Ok (record { ms = ms; seq = 0 }) else Err Small)) ≡ Ok given → IsId given
    by true true c less e = let same : record { ms = ms; seq = top.seq + 1 } ≡ given = cc in subst IsId same (fits, grind (arith, nat_tests))
    by true false c less e = absurd (cc)
    by false b true less e = let same : record { ms = ms; seq = 0 } ≡ given = cc in subst IsId same (fits, omega arith)
    by false b false less e = absurd (cc)
above-in now top (Exact id) given small is fits other e = by (is_below top id) e
  where
    by : (b : Bool) → (if b then Ok id else Err Small) ≡ Ok given → IsId given
    by true e = let same : id ≡ given = cc in subst IsId same fits
    by false e = absurd (cc)

given-in : (now : ℕ) (top : Id) (id : AddId) (given : Id) → now < 2 ^ 63 → IsId top → AddIdFits id → id_of_addition now top id ≡ Ok given → IsId given
given-in now top id given small is fits e = by (is_same_id top greatest_id) refl e
  where
    by : (b : Bool) → is_same_id top greatest_id ≡ b → (if b then Err Exhausted else id_of_addition_above now top id) ≡ Ok given → IsId given
    by true same e = absurd (cc)
    by false other e = above-in now top id given small is fits other e

filter-in : (p : Id → Bool) (ids : List Id) → AllIds ids → AllIds (filter p ids)
filter-in p [] all = tt
filter-in p (x ∷ xs) all = by (p x) (filter-in p xs all.1)
  where
    by : (b : Bool) → AllIds (filter p xs) → AllIds (cond b (x ∷ filter p xs) (filter p xs))
    by true rest = (all.0, rest)
    by false rest = rest

greatest-in : (ids : List Id) (a : Id) → IsId a → AllIds ids → IsId (greatest a ids)
greatest-in [] a is all = is
greatest-in (x ∷ xs) a is all = greatest-in xs (if is_below a x then x else a) (by (is_below a x)) all.1
  where
    by : (b : Bool) → IsId (if b then x else a)
    by true = all.0
    by false = is

trimmed-in : (trim : Option Trim) (entries : Entries) → AllIds (ids_of entries) → AllIds (ids_of (option_map_or (λ t. entries_after_trim t entries) trim entries))
trimmed-in trim entries all = chosen (λ es. AllIds (ids_of es)) (λ t. entries_after_trim t entries) trim entries (λ t e. ids-filter _ entries all) all

trimmed-above : (trim : Option Trim) (entries : Entries) → AllAbove zero_id (ids_of entries) → AllAbove zero_id (ids_of (option_map_or (λ t. entries_after_trim t entries) trim entries))
trimmed-above trim entries all = chosen (λ es. AllAbove zero_id (ids_of es)) (λ t. entries_after_trim t entries) trim entries (λ t e. above-filter _ zero_id entries all) all

-- an id above another is above 0-0
above-any : (top id : Id) → IsId top → IsId id → is_below top id ≡ true → is_below zero_id id ≡ true
above-any top id is fits h = by (is_below top zero_id) refl where
  by : (t : Bool) → is_below top zero_id ≡ t → is_below zero_id id ≡ true
  by true e = let less = rank-below top zero_id is.1 e in absurd (omega (arith, less))
  by false e = up_to-below top zero_id id e h

added-in : (r : Result Id AddError) (fields : List Field) (trim : Option Trim) (s : StreamState) → StreamFits s → ((given : Id) → r ≡ Ok given → IsId given × (is_below s.top given ≡ true)) → StreamFits (stream_with r fields trim s)
added-in (Err refusal) fields trim s is given = is
added-in (Ok id) fields trim s is given =
    let new = given id refl in
    let higher = rank-below s.top id is.top.1 new.1 in
    record {
      top = new.0;
      added = omega (arith, is.added, higher);
      deleted = is.deleted;
      entries = trimmed-in trim (s.entries ++ (id, fields) ∷ []) (subst AllIds (sym (map-append (λ (e : Id × List Field). e.0) s.entries ((id, fields) ∷ []))) (ids-push (ids_of s.entries) id is.entries new.0));
      above_zero = trimmed-above trim (s.entries ++ (id, fields) ∷ [])
          (subst (AllAbove zero_id) (sym (map-append (λ (e : Id × List Field). e.0) s.entries ((id, fields) ∷ []))) (above-push zero_id (ids_of s.entries) id is.above_zero (above-any s.top id is.top new.0 new.1)));
    }

abbrev StreamEventFits : StreamEvent → Type 0
StreamEventFits (add_entry now id fields trim) = (now < 2 ^ 63) × AddIdFits id
StreamEventFits (delete_entries ids) = Unit {0}
StreamEventFits (trim_entries trim) = Unit {0}

stream-in : (event : StreamEvent) (s : StreamState) → StreamEventFits event → StreamFits s → StreamFits (stream_after event s)
stream-in (add_entry now id fields trim) s fits is =
    added-in (id_of_addition now s.top id) fields trim s is (λ given e. (given-in now s.top id given fits.0 is.top fits.1 e, assigned-above now s.top id given e))
stream-in (delete_entries ids) s fits is = record {
  top = is.top;
  added = is.added;
  deleted = greatest-in (filter (has_id ids) (ids_of s.entries)) s.deleted is.deleted (filter-in (has_id ids) (ids_of s.entries) is.entries);
  entries = ids-filter _ s.entries is.entries;
  above_zero = above-filter _ zero_id s.entries is.above_zero;
}
stream-in (trim_entries trim) s fits is =
    record { top = is.top; added = is.added; deleted = is.deleted; entries = ids-filter _ s.entries is.entries; above_zero = above-filter _ zero_id s.entries is.above_zero }

-- ---- groups

abbrev IsSmall : ℕ → Type 0
IsSmall n = n < 2 ^ 63

abbrev RowFits : RowState → Type 0
RowFits row = IsSmall row.time × IsSmall row.count

pub record GroupFits (group : GroupState) : Type 0 where
  cursor : IsId group.cursor
  consumers : AllOf AnyName IsSmall group.consumers.entries
  rows : AllOf IsId RowFits group.rows.entries

with_name-in : (consumers : Consumers) (name : Bytes) (now : ℕ) (given : Bool) → IsSmall now → AllOf AnyName IsSmall consumers.entries → AllOf AnyName IsSmall (with_name consumers name now given).entries
with_name-in consumers name now given small all = by (given || not (has_name consumers name))
  where
    by : (b : Bool) → AllOf AnyName IsSmall (if b then insert consumers name now else consumers).entries
    by true = insert-in (slice_cmp nat_cmp) AnyName IsSmall nat_list_cmp_total consumers name now tt small all
    by false = all

last_of-in : (a : Id) (ids : List Id) → IsId a → AllIds ids → IsId (last_of a ids)
last_of-in a [] is all = is
last_of-in a (x ∷ xs) is all = last_of-in x xs all.0 all.1

with_rows-in : (ids : List Id) (row : RowState) (rows : Rows) → AllIds ids → RowFits row → AllOf IsId RowFits rows.entries → AllOf IsId RowFits (with_rows ids row rows).entries
with_rows-in [] row rows are fits all = all
with_rows-in (x ∷ xs) row rows are fits all =
    with_rows-in xs row (insert_by ids_total rows x row) are.1 fits (insert-in id_cmp IsId RowFits ids_total rows x row are.0 fits all)

take-in : (n : ℕ) (ids : List Id) → AllIds ids → AllIds (take n ids)
take-in zero ids all = tt
take-in (suc n) [] all = tt
take-in (suc n) (x ∷ xs) all = (all.0, take-in n xs all.1)

up_to-in : (limit : Option ℕ) (ids : List Id) → AllIds ids → AllIds (up_to_limit limit ids)
up_to-in None ids all = all
up_to-in (Some n) ids all = take-in n ids all

count-in : (count : ℕ) → IsSmall count → IsSmall (next_count count)
count-in count small = grind (arith, nat_tests)

reread-in : (now : ℕ) (ids present : List Id) (x : Id) (row : RowState) → IsSmall now → RowFits row → IfSome (row_after_reread now ids present x row) RowFits
reread-in now ids present x row small fits = by (has_id ids x && has_id present x)
  where
    by : (b : Bool) → IfSome (if b then Some (redelivered_row now row) else Some row) RowFits
    by true = (small, count-in row.count fits.1)
    by false = fits

unless-in : (b : Bool) (row : RowState) → RowFits row → IfSome (if b then None else Some row) RowFits
unless-in true row fits = tt
unless-in false row fits = fits

claim_time-in : (when : ClaimTime) (now : ℕ) → IsSmall now → IsSmall (claim_time when now)
claim_time-in time.Now now small = small
claim_time-in (time.Idle n) now small = omega (arith, small)
claim_time-in (time.At t) now small = grind (arith, nat_tests)

claim_count-in : (retry : Option ℕ) (just_id : Bool) (count : ℕ) → IfSome retry IsSmall → IsSmall count → IsSmall (claim_count retry just_id count)
claim_count-in (Some n) just_id count given small = given
claim_count-in None true count given small = small
claim_count-in None false count given small = count-in count small

claimed-in : (consumer : Bytes) (now : ℕ) (rule : ClaimRule) (c : Claim) (x : Id) (row : RowState) → IsSmall now → RuleFits rule → RowFits row → IfSome (row_after_claim consumer now rule c x row) RowFits
claimed-in consumer now rule c x row small fits is = by (has_id c.removed x) (has_id c.take x)
  where
    by : (a b : Bool) → IfSome (if a then None else (if b then Some (claimed_row consumer now rule row) else Some row)) RowFits
    by true b = tt
    by false true = (claim_time-in rule.when now small, claim_count-in rule.retry rule.just_id row.count fits is.1)
    by false false = is

after_claim-in : (consumer : Bytes) (now : ℕ) (rule : ClaimRule) (c : Claim) (group : GroupState) → IsSmall now → RuleFits rule → GroupFits group → GroupFits (group_after_claim consumer now rule c group)
after_claim-in consumer now rule c group small fits is = record {
  cursor = is.cursor;
  consumers = with_name-in group.consumers consumer now (is_any c.take) small is.consumers;
  rows = change-in id_cmp IsId RowFits (row_after_claim consumer now rule c) (λ x row id fit. claimed-in consumer now rule c x row small fits fit) group.rows is.rows;
}

abbrev AskFits : GroupAsk → Type 0
AskFits (claim consumer rule ids) = RuleFits rule
AskFits (auto_claim consumer rule start limit) = RuleFits rule
AskFits _ = Unit {0}

group-in : (now : ℕ) (present : List Id) (ask : GroupAsk) (group : GroupState) → IsSmall now → AllIds present → AskFits ask → GroupFits group → GroupFits (group_after now present ask group)
group-in now present (read_new consumer limit noack) group small are fits is =
    let ids = new_ids limit group.cursor present in
    let all = up_to-in limit (filter (λ x. is_below group.cursor x) present) (filter-in (λ x. is_below group.cursor x) present are) in
    record {
      cursor = last_of-in group.cursor ids is.cursor all;
      consumers = with_name-in group.consumers consumer now (is_any ids) small is.consumers;
      rows = delivered noack (with_rows-in ids (first_row consumer now) group.rows all (small, omega arith) is.rows);
    }
  where
    delivered : (b : Bool) → AllOf IsId RowFits (with_rows (new_ids limit group.cursor present) (first_row consumer now) group.rows).entries
        → AllOf IsId RowFits (if b then group.rows else with_rows (new_ids limit group.cursor present) (first_row consumer now) group.rows).entries
    delivered true rows = is.rows
    delivered false rows = rows
group-in now present (read_own consumer limit from) group small are fits is = record {
  cursor = is.cursor;
  consumers = with_name-in group.consumers consumer now _ small is.consumers;
  rows = change-in id_cmp IsId RowFits _ (λ x row id fit. reread-in now _ present x row small fit) group.rows is.rows;
}
group-in now present (acknowledge ids) group small are fits is = record {
  cursor = is.cursor;
  consumers = is.consumers;
  rows = change-in id_cmp IsId RowFits (unless_acked ids) (λ x row id fit. unless-in (has_id ids x) row fit) group.rows is.rows;
}
group-in now present (create_consumer consumer) group small are fits is = record {
  cursor = is.cursor;
  consumers = with_name-in group.consumers consumer now false small is.consumers;
  rows = is.rows;
}
group-in now present (delete_consumer consumer) group small are fits is = record {
  cursor = is.cursor;
  consumers = remove-in (slice_cmp nat_cmp) AnyName IsSmall group.consumers consumer is.consumers;
  rows = change-in id_cmp IsId RowFits (unless_owned consumer) (λ x row id fit. unless-in _ row fit) group.rows is.rows;
}
group-in now present (claim consumer rule ids) group small are fits is = after_claim-in consumer now rule _ group small fits is
group-in now present (auto_claim consumer rule start limit) group small are fits is = after_claim-in consumer now rule _ group small fits is

new_group-in : (start : Id) → IsId start → GroupFits (new_group start)
new_group-in start is = record {
  cursor = is;
  consumers = empty-in (slice_cmp nat_cmp) AnyName IsSmall;
  rows = empty-in id_cmp IsId RowFits;
}

-- ---- keys

pub record KeyFits (key : KeyState) : Type 0 where
  pub stream : StreamFits key.stream
  pub groups : AllOf AnyName GroupFits key.groups.entries

abbrev pub ContentFits : Content → Type 0
ContentFits content = AllOf AnyName KeyFits content.entries

insert_key : (content : Content) (name : Bytes) (key : KeyState) → KeyFits key → ContentFits content → ContentFits (insert content name key)
insert_key content name key is all = insert-in (slice_cmp nat_cmp) AnyName KeyFits nat_list_cmp_total content name key tt is all

insert_group : (key : KeyState) (name : Bytes) (group : GroupState) → KeyFits key → GroupFits group → KeyFits (with_group key name group)
insert_group key name group is fits = record { stream = is.stream; groups = insert-in (slice_cmp nat_cmp) AnyName GroupFits nat_list_cmp_total key.groups name group tt fits is.groups }

key-found : (content : Content) (name : Bytes) (key : KeyState) → ContentFits content → get content name ≡ Some key → KeyFits key
key-found content name key all e = get-in (slice_cmp nat_cmp) AnyName KeyFits content name key all e

new_key-in : KeyFits new_key
new_key-in = record {
  stream = record { top = (omega arith, omega arith); added = omega arith; deleted = (omega arith, omega arith); entries = tt; above_zero = tt };
  groups = empty-in (slice_cmp nat_cmp) AnyName GroupFits;
}

-- a key that exists or may be created
made-in : (content : Content) (name : Bytes) (make : Bool) (key : KeyState) → ContentFits content → key_or_new make (get content name) ≡ Some key → KeyFits key
made-in content name make key all e = by (get content name) refl make e
  where
    by : (found : Option KeyState) → get content name ≡ found → (m : Bool) → key_or_new m found ≡ Some key → KeyFits key
    by (Some k) f m e = let same : k ≡ key = cc in subst KeyFits same (key-found content name k all f)
    by None f true e = let same : new_key ≡ key = cc in subst KeyFits same new_key-in
    by None f false e = absurd (cc)

stream_event-in : (content : Content) (name : Bytes) (event : StreamEvent) (key : Option KeyState) → StreamEventFits event → ContentFits content → ((k : KeyState) → key ≡ Some k → KeyFits k)
    → ContentFits (after_stream_event content name event key)
stream_event-in content name event key fits all found =
    chosen ContentFits (λ k. insert content name (key_after event k)) key content
    (λ k e. insert_key content name (key_after event k) (record { stream = stream-in event k.stream fits (KeyFits.stream (found k e)); groups = KeyFits.groups (found k e) }) all) all

ask-in : (content : Content) (now : ℕ) (name group : Bytes) (ask : GroupAsk) → IsSmall now → AskFits ask → ContentFits content → ContentFits (after_ask content now name group ask)
ask-in content now name group ask small fits all =
    chosen ContentFits _ (get content name) content (λ key e.
    let is = key-found content name key all e in
    chosen ContentFits _ (get key.groups group) content (λ g f.
    insert_key content name (with_group key group (group_after now (ids_of key.stream.entries) ask g))
    (insert_group key group (group_after now (ids_of key.stream.entries) ask g) is
    (group-in now (ids_of key.stream.entries) ask g small (is.stream.entries) fits (get-in (slice_cmp nat_cmp) AnyName GroupFits key.groups group g is.groups f))) all) all) all

create-in : (content : Content) (create : GroupCreateCommand) (key : Option KeyState) → StartFits create.start → ContentFits content → ((k : KeyState) → key ≡ Some k → KeyFits k) → ContentFits (after_create content create key)
create-in content create None fits all found = all
create-in content create (Some key) fits all found = by (has_key key.groups create.group)
  where
    start : (s : GroupStart) → StartFits s → IsId (starting_id s key.stream.top)
    start Top fits = (KeyFits.stream (found key refl)).top
    start (At id) fits = fits

    by : (b : Bool) → ContentFits (if b then content else insert content create.key (with_group key create.group (new_group (starting_id create.start key.stream.top))))
    by true = all
    by false =
        insert_key content create.key (with_group key create.group (new_group (starting_id create.start key.stream.top)))
        (insert_group key create.group (new_group (starting_id create.start key.stream.top)) (found key refl) (new_group-in (starting_id create.start key.stream.top) (start create.start fits))) all

reads-in : (content : Content) (now : ℕ) (read : ReadGroupCommand) (reads : List ReadOne) → IsSmall now → ContentFits content → ContentFits (after_reads content now read reads)
reads-in content now read [] small all = all
reads-in content now read (one ∷ more) small all =
    reads-in (after_ask content now one.key read.group (ask_of_read read one.from)) now read more small (ask-in content now one.key read.group (ask_of_read read one.from) small (asks one.from) all)
  where
    asks : (from : ReadFrom) → AskFits (ask_of_read read from)
    asks New = tt
    asks (After id) = tt

without-in : (names : List Bytes) (content : Content) → ContentFits content → ContentFits (without_keys names content)
without-in [] content all = all
without-in (name ∷ names) content all = without-in names (remove content name) (remove-in (slice_cmp nat_cmp) AnyName KeyFits content name all)

content-in : (content : Content) (now : ℕ) (one : Command) → IsSmall now → CommandFits one → ContentFits content → ContentFits (content_after content now one)
content-in content now (command.Add add) small fits all =
    stream_event-in content add.key (add_entry now add.id add.fields add.trim) (key_or_new add.make (get content add.key)) (small, fits) all (λ k e. made-in content add.key add.make k all e)
content-in content now (command.Delete name ids) small fits all = stream_event-in content name (delete_entries ids) (get content name) tt all (λ k e. key-found content name k all e)
content-in content now (command.TrimTo name trim) small fits all = stream_event-in content name (trim_entries trim) (get content name) tt all (λ k e. key-found content name k all e)
content-in content now (command.GroupCreate create) small fits all = create-in content create (key_or_new create.make (get content create.key)) fits all (λ k e. made-in content create.key create.make k all e)
content-in content now (command.GroupDestroy name group) small fits all =
    chosen ContentFits _ (get content name) content (λ k e.
    let is = key-found content name k all e in
    insert_key content name (record k { groups = remove k.groups group }) (record { stream = is.stream; groups = remove-in (slice_cmp nat_cmp) AnyName GroupFits k.groups group is.groups }) all) all
content-in content now (command.ConsumerCreate name group consumer) small fits all = ask-in content now name group (create_consumer consumer) small tt all
content-in content now (command.ConsumerDelete name group consumer) small fits all = ask-in content now name group (delete_consumer consumer) small tt all
content-in content now (command.ReadGroup read) small fits all = by (has_all_groups_in content read)
  where
    by : (b : Bool) → ContentFits (if b then after_reads content now read read.reads else content)
    by true = reads-in content now read read.reads small all
    by false = all
content-in content now (command.Ack name group ids) small fits all = ask-in content now name group (acknowledge ids) small tt all
content-in content now (command.Claim c) small fits all = ask-in content now c.key c.group (claim c.consumer c.rule c.ids) small fits all
content-in content now (command.AutoClaim c) small fits all = ask-in content now c.key c.group (auto_claim c.consumer c.rule c.start c.limit) small fits all
content-in content now (command.DropKeys keys) small fits all = without-in keys content all
content-in content now (command.Ping m) small fits all = all
content-in content now command.Quit small fits all = all
content-in content now (command.Len k) small fits all = all
content-in content now (command.Scan s) small fits all = all
content-in content now (command.Pending k g) small fits all = all
content-in content now (command.PendingRows p) small fits all = all
content-in content now (command.Inspect i) small fits all = all

contents-in : (content : Content) (events : List Event) → AllByRecursion EventFits events → ContentFits content → ContentFits (contents_after content events)
contents-in content [] fit all = all
contents-in content (e ∷ events) fit all = contents-in (after content e) events fit.1 (content-in content (event_moment e) (event_command e) fit.0.0 fit.0.1 all)

-- ---- pieces

both-fit : (ones others : List Piece) → AllByRecursion Fits ones → AllByRecursion Fits others → AllByRecursion Fits (ones ++ others)
both-fit [] others one other = other
both-fit (p ∷ ones) others one other = (one.0, both-fit ones others one.1 other)

consumers-fit : (consumers : List (Bytes × ℕ)) → AllOf AnyName IsSmall consumers → AllByRecursion Fits (map (λ c. of_consumer c.0 c.1) consumers)
consumers-fit [] all = tt
consumers-fit (c ∷ consumers) all = (all.0.1, consumers-fit consumers all.1)

rows-fit : (rows : PendingEntries) → AllOf IsId RowFits rows → AllByRecursion Fits (map (λ r. of_row r.0 r.1) rows)
rows-fit [] all = tt
rows-fit (r ∷ rows) all = ((all.0.0, all.0.1.0, all.0.1.1), rows-fit rows all.1)

entries-fit : (entries : Entries) → AllIds (ids_of entries) → AllByRecursion Fits (map (λ x. of_entry x.0 x.1) entries)
entries-fit [] all = tt
entries-fit (x ∷ entries) all = (all.0, entries-fit entries all.1)

groups-fit : (groups : List (Bytes × GroupState)) → AllOf AnyName GroupFits groups → AllByRecursion Fits (flat_map pieces_of_group groups)
groups-fit [] all = tt
groups-fit (e ∷ groups) all =
    let is = all.0.1 in
    both-fit (pieces_of_group e) (flat_map pieces_of_group groups)
    (GroupFits.cursor is, both-fit (map (λ c. of_consumer c.0 c.1) e.1.consumers.entries) (map (λ r. of_row r.0 r.1) e.1.rows.entries) (consumers-fit e.1.consumers.entries (GroupFits.consumers is)) (rows-fit e.1.rows.entries (GroupFits.rows is)))
    (groups-fit groups all.1)

keys-fit : (keys : List (Bytes × KeyState)) → AllOf AnyName KeyFits keys → AllByRecursion Fits (flat_map pieces_of_key keys)
keys-fit [] all = tt
keys-fit (e ∷ keys) all =
    let is = all.0.1 in
    let stream = KeyFits.stream is in
    both-fit (pieces_of_key e) (flat_map pieces_of_key keys) (
      (StreamFits.top stream, small-added e.1.stream stream, StreamFits.deleted stream),
      both-fit (map (λ x. of_entry x.0 x.1) e.1.stream.entries) (flat_map pieces_of_group e.1.groups.entries) (entries-fit e.1.stream.entries (StreamFits.entries stream)) (groups-fit e.1.groups.entries (KeyFits.groups is)),
    )
    (keys-fit keys all.1)
  where
    small-added : (s : StreamState) → StreamFits s → s.added < 2 ^ 128
    small-added s fits = omega (arith, fits.added, fits.top.0, fits.top.1)

pub contents-fit : (events : List Event) → AllByRecursion EventFits events → ContentFits (contents_after empty events)
contents-fit events fit = contents-in empty events fit (empty-in (slice_cmp nat_cmp) AnyName KeyFits)

pub pieces-fit : (events : List Event) → AllByRecursion EventFits events → AllByRecursion Fits (pieces_of (contents_after empty events))
pieces-fit events fit = keys-fit (contents_after empty events).entries (contents-fit events fit)

moments-fit : (moment : Option ℕ) (events : List Event) → AllByRecursion EventFits events → IfSome moment IsSmall → IfSome (moment_after moment events) IsSmall
moments-fit moment [] fit small = small
moments-fit moment (e ∷ events) fit small = moments-fit (Some (event_moment e)) events fit.1 fit.0.0

pub moment-fits : (events : List Event) → AllByRecursion EventFits events → IfSome (moment_after None events) (λ m. m < 2 ^ 63)
moment-fits events fit = moments-fit None events fit tt
