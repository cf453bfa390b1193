-- The rows that XPENDING reports are those of the pending entries.
use Rattle.std.proofs.Common.{◌≡◌, zero, suc, ℕ, ◌≤◌, ◌-◌, Bool, true, false, cond, ◌&&◌, ◌||◌, List, [], ◌∷◌, filter}
use Rattle.std.proofs.Common.{map, take, Option, Some, None, is_some, sym, ap, subst, ◌∙◌, refl, arith}
use Rattle.std.specs.Prelude.{nat_le}
use Rattle.std.proofs.lemmas.Bool.{false≢true, and_from}
use Rattle.std.proofs.lemmas.Bool.Decides.{nat_tests}
use Rattle.std.proofs.lemmas.List.{take-map}
use Rattle.xs_stream.specs.Id.{is_below, is_same_id, has_id}
use Rattle.xs_stream.specs.StreamContent.{Ascends, AllAbove, is_within}
use Rattle.xs_stream.proofs.Order.{is_same_id-eq, is_same_id-refl, is_same_id-symm, below-not_same}
use Rattle.xs_group.specs.GroupState.{RowState, idle_time, is_same_name}
use Rattle.xs_group.specs.Claims.{row_at}
use Rattle.xs_group.specs.Report.{is_of, is_selected, pending_row}
use Rattle.xs_command.specs.declared.command.PendingRowsCommand.{PendingRowsCommand}
use Rattle.xs_keys.specs.Terms.{Reply, option_map_or, Id, PendingRow}
use Rattle.xs_keys.specs.Owner.{owner}
use Rattle.xs_keys.specs.GroupEvent.{rows}
use Rattle.xs_keys.specs.GroupLife.{GroupLife}
use Rattle.xs_keys.specs.ReplyParts.{array, row_reply}
use Rattle.xs_keys.specs.Telling.{TellsEach}
use Rattle.xs_keys.specs.RepliesTell.{IsAskedRow, TellsRow, TellsRows}
use Rattle.xs_keys.proofs.Truths.{first_of, second_of}
use Rattle.xs_keys.proofs.NameMaps.{is_same_name-eq, is_same_name-refl}
use Rattle.xs_keys.proofs.Owners.{owner-row, row-found, of_row}
use Rattle.xs_keys.proofs.TimesOfRows.{is-last-touched}
use Rattle.xs_keys.proofs.JobCounts.{not_itself}
use Rattle.xs_keys.proofs.FirstIds.{limited-first, first-as}

-- ---- rows that pass a test

above-passed : (test : Id × RowState → Bool) (x : Id) (es : List (Id × RowState)) → AllAbove x (map (λ e. e.0) es) → AllAbove x (map (λ e. e.0) (filter test es))
above-passed test x [] h = tt
above-passed test x (e ∷ es) h = by (test e) (above-passed test x es h.1) where
  by : (t : Bool) → AllAbove x (map (λ f. f.0) (filter test es)) → AllAbove x (map (λ f. f.0) (cond t (e ∷ filter test es) (filter test es)))
  by true rest = (h.0, rest)
  by false rest = rest

ascends-passed : (test : Id × RowState → Bool) (es : List (Id × RowState)) → Ascends (map (λ e. e.0) es) → Ascends (map (λ e. e.0) (filter test es))
ascends-passed test [] asc = tt
ascends-passed test (e ∷ es) asc = by (test e) (ascends-passed test es asc.1) where
  by : (t : Bool) → Ascends (map (λ f. f.0) (filter test es)) → Ascends (map (λ f. f.0) (cond t (e ∷ filter test es) (filter test es)))
  by true rest = (above-passed test e.0 es asc.0, rest)
  by false rest = rest

-- an id has a row that passes exactly if its row passes
has-passed : (test : Id × RowState → Bool) (es : List (Id × RowState)) → Ascends (map (λ e. e.0) es) → (x : Id)
    → has_id (map (λ e. e.0) (filter test es)) x ≡ option_map_or (λ row. test (x, row)) (row_at es x) false
has-passed test [] asc x = refl
has-passed test (e ∷ es) asc x = by (test e) (is_same_id x e.0) refl refl (has-passed test es asc.1 x) where
  by : (t s : Bool) → test e ≡ t → is_same_id x e.0 ≡ s → has_id (map (λ f. f.0) (filter test es)) x ≡ option_map_or (λ row. test (x, row)) (row_at es x) false
      → has_id (map (λ f. f.0) (cond t (e ∷ filter test es) (filter test es))) x ≡ option_map_or (λ row. test (x, row)) (cond s (Some e.1) (row_at es x)) false
  by true true f g rest = ap (λ s. s || has_id (map (λ f. f.0) (filter test es)) x) g ∙ sym (ap (λ y. test (y, e.1)) (is_same_id-eq x e.0 g) ∙ f)
  by true false f g rest = ap (λ s. s || has_id (map (λ f. f.0) (filter test es)) x) g ∙ rest
  by false true f g rest =
      ap (has_id (map (λ f. f.0) (filter test es))) (is_same_id-eq x e.0 g) ∙ not_itself e.0 (map (λ f. f.0) (filter test es)) (above-passed test e.0 es asc.0)
      ∙ sym (ap (λ y. test (y, e.1)) (is_same_id-eq x e.0 g) ∙ f)
  by false false f g rest = rest

-- each of these is the row of its id
abbrev AreRowsOf : List (Id × RowState) → List (Id × RowState) → Type 0
AreRowsOf all [] = Unit {0}
AreRowsOf all (e ∷ es) = (row_at all e.0 ≡ Some e.1) × AreRowsOf all es

rows-more : (first : Id × RowState) (all es : List (Id × RowState)) → AllAbove first.0 (map (λ e. e.0) es) → AreRowsOf all es → AreRowsOf (first ∷ all) es
rows-more first all [] above are = tt
rows-more first all (e ∷ es) above are = (ap (λ t. cond t (Some first.1) (row_at all e.0)) (other e.0 above.0) ∙ are.0, rows-more first all es above.1 are.1) where
  other : (x : Id) → is_below first.0 x ≡ true → is_same_id x first.0 ≡ false
  other x low = is_same_id-symm x first.0 ∙ below-not_same first.0 x low

are-rows-of : (all : List (Id × RowState)) → Ascends (map (λ e. e.0) all) → AreRowsOf all all
are-rows-of [] asc = tt
are-rows-of (e ∷ es) asc = (ap (λ t. cond t (Some e.1) (row_at es e.0)) (is_same_id-refl e.0), rows-more e es es asc.0 (are-rows-of es asc.1))

rows-passed : (test : Id × RowState → Bool) (all es : List (Id × RowState)) → AreRowsOf all es → AreRowsOf all (filter test es)
rows-passed test all [] are = tt
rows-passed test all (e ∷ es) are = by (test e) (rows-passed test all es are.1) where
  by : (t : Bool) → AreRowsOf all (filter test es) → AreRowsOf all (cond t (e ∷ filter test es) (filter test es))
  by true rest = (are.0, rest)
  by false rest = rest

rows-taken : (n : ℕ) (all es : List (Id × RowState)) → AreRowsOf all es → AreRowsOf all (take n es)
rows-taken zero all es are = tt
rows-taken (suc n) all [] are = tt
rows-taken (suc n) all (e ∷ es) are = (are.0, rows-taken n all es are.1)

map-twice : (f : Id × RowState → PendingRow) (g : PendingRow → Reply) (es : List (Id × RowState)) → map g (map f es) ≡ map (λ e. g (f e)) es
map-twice f g [] = refl
map-twice f g (e ∷ es) = ap (λ rest. g (f e) ∷ rest) (map-twice f g es)

-- ---- what is reported

module _ (asked : PendingRowsCommand) (now : ℕ) (life : GroupLife) (asc : Ascends (map (λ e. e.0) (rows life.start life.events))) where
  abbrev pub all : List (Id × RowState)
  all = rows life.start life.events

  abbrev pub test : Id × RowState → Bool
  test e = is_selected asked.range asked.min_idle now asked.consumer e

  owner-of : (x : Id) (row : RowState) → row_at all x ≡ Some row → owner life.start life.events x ≡ Some row.consumer
  owner-of x row e = owner-row life.start life.events x ∙ ap of_row (sym (row-found life.start life.events x) ∙ e)

  -- a row that is asked for
  asked-row : (x : Id) → option_map_or (λ row. test (x, row)) (row_at all x) false ≡ true → IsAskedRow asked now life x
  asked-row x h = by (row_at (rows life.start life.events) x) refl h where
    by : (r : Option RowState) → row_at (rows life.start life.events) x ≡ r → option_map_or (λ row. is_selected asked.range asked.min_idle now asked.consumer (x, row)) r false ≡ true → IsAskedRow asked now life x
    by None e t = absurd (false≢true t)
    by (Some row) e t =
        let rest = second_of (is_within asked.range x) (nat_le asked.min_idle (idle_time now row.time) && is_of asked.consumer row) t in
        let long : nat_le asked.min_idle (idle_time now row.time) ≡ true = first_of (nat_le asked.min_idle (idle_time now row.time)) (is_of asked.consumer row) rest in
        let old : asked.min_idle ≤ now - row.time = grind (arith, nat_tests, long) in
        record {
          consumer = row.consumer;
          owned = owner-of x row e;
          within = first_of (is_within asked.range x) (nat_le asked.min_idle (idle_time now row.time) && is_of asked.consumer row) t;
          long_enough = subst (λ (time : ℕ). asked.min_idle ≤ now - time) (is-last-touched life.start life.events x row e).0 old;
          named = λ name f. is_same_name-eq row.consumer name (ap (λ o. is_of o row) (sym f) ∙ second_of (nat_le asked.min_idle (idle_time now row.time)) (is_of asked.consumer row) rest);
        }

  row-asked : (x : Id) → IsAskedRow asked now life x → option_map_or (λ row. test (x, row)) (row_at all x) false ≡ true
  row-asked x is = by (row_at (rows life.start life.events) x) refl where
    has : (r : Option RowState) → of_row r ≡ Some is.consumer → is_some r ≡ true
    has None e = ap is_some e
    has (Some row) e = refl

    named : (row : RowState) (wanted : Option (List ℕ)) → asked.consumer ≡ wanted → row.consumer ≡ is.consumer → is_of wanted row ≡ true
    named row None f same = refl
    named row (Some name) f same = ap (λ n. is_same_name n name) (same ∙ is.named name f) ∙ is_same_name-refl name

    by : (r : Option RowState) → row_at (rows life.start life.events) x ≡ r → option_map_or (λ row. is_selected asked.range asked.min_idle now asked.consumer (x, row)) (row_at (rows life.start life.events) x) false ≡ true
    by None e = absurd (false≢true (has None (ap of_row (sym e ∙ row-found life.start life.events x) ∙ sym (owner-row life.start life.events x) ∙ is.owned)))
    by (Some row) e =
        let old : asked.min_idle ≤ now - row.time = subst (λ (time : ℕ). asked.min_idle ≤ now - time) (sym (is-last-touched life.start life.events x row e).0) is.long_enough in
        let long : nat_le asked.min_idle (idle_time now row.time) ≡ true = grind (arith, nat_tests, old) in
        let same : row.consumer ≡ is.consumer = ap (λ (o : Option (List ℕ)). option_map_or (λ n. n) o []) (sym (owner-of x row e) ∙ is.owned) in
        ap (λ r. option_map_or (λ row. is_selected asked.range asked.min_idle now asked.consumer (x, row)) r false) e
        ∙ and_from (is_within asked.range x) (nat_le asked.min_idle (idle_time now row.time) && is_of asked.consumer row) is.within
        (and_from (nat_le asked.min_idle (idle_time now row.time)) (is_of asked.consumer row) long (named row asked.consumer refl same))

  tells-rows : (es : List (Id × RowState)) → AreRowsOf all es → TellsEach (TellsRow now life) (map (λ e. e.0) es) (map (λ e. row_reply (pending_row now e)) es)
  tells-rows [] are = tt
  tells-rows (e ∷ es) are =
      let touched = is-last-touched life.start life.events e.0 e.1 are.0 in
      ((e.1.consumer, owner-of e.0 e.1 are.0, rw (sym touched.0, sym touched.1) refl), tells-rows es are.1)

  pub rows-reported : TellsRows asked now life (array (map row_reply (take asked.limit (map (pending_row now) (filter test all)))))
  rows-reported = (
    take asked.limit (map (λ e. e.0) (filter test all)),
    map (λ e. row_reply (pending_row now e)) (take asked.limit (filter test all)),
    ap (λ told. array (map row_reply told)) (take-map (pending_row now) asked.limit (filter test all)) ∙ ap array (map-twice (pending_row now) row_reply (take asked.limit (filter test all))),
    first-as (λ x. has_id (map (λ e. e.0) (filter test all)) x ≡ true) (IsAskedRow asked now life) (Some asked.limit) (take asked.limit (map (λ e. e.0) (filter test all)))
        (λ x h. asked-row x (sym (has-passed test all asc x) ∙ h)) (λ x is. has-passed test all asc x ∙ row-asked x is)
        (limited-first (Some asked.limit) (map (λ e. e.0) (filter test all)) (ascends-passed test all asc)),
    subst (λ ids. TellsEach (TellsRow now life) ids (map (λ e. row_reply (pending_row now e)) (take asked.limit (filter test all)))) (sym (take-map (λ e. e.0) asked.limit (filter test all)))
        (tells-rows (take asked.limit (filter test all)) (rows-taken asked.limit all (filter test all) (rows-passed test all all (are-rows-of all asc)))),
  )
