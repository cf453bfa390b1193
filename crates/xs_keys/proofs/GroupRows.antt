-- The rows of a group as a list: how each changes, and rows that are added at its end.
use Rattle.std.proofs.Common.{◌≡◌, Bool, true, false, ◌||◌, List, [], ◌∷◌, ◌++◌, map, Option, Some, None}
use Rattle.std.proofs.Common.{option_and_then, sym, ap, subst, ◌∙◌, refl, append_assoc}
use Rattle.std.proofs.lemmas.List.{append-nil}
use Rattle.std.specs.FinMap.Entries.{put, by_order}
use Rattle.xs_bytes.specs.Each.{with_some, each}
use Rattle.xs_bytes.specs.SortedMap.{insert_by}
use Rattle.xs_stream.specs.Id.{id_cmp, is_below, is_same_id, has_id}
use Rattle.xs_stream.proofs.Order.{above-greater, up_to-below, below-not_back, below-irrefl, is_same_id-refl}
use Rattle.xs_group.specs.GroupState.{RowState, Rows, ids_total, with_rows}
use Rattle.xs_keys.specs.Terms.{Id, Ascends, AllAbove, AllUpTo}
use Rattle.xs_keys.specs.GroupEvent.{rows_among}
use Rattle.xs_keys.proofs.IdLists.{up_to-append, up_to-raise}

or-true : (b : Bool) → (b || true) ≡ true
or-true true = refl
or-true false = refl

abbrev pub row_ids : List (Id × RowState) → List Id
row_ids es = map (λ e. e.0) es

-- the change of each row of these ids
pub each-among : (f : Id → RowState → Option RowState) (row_of : Id → Option RowState) (ids : List Id) → each f (rows_among row_of ids) ≡ rows_among (λ x. option_and_then (f x) (row_of x)) ids
each-among f row_of [] = refl
each-among f row_of (x ∷ xs) = by (row_of x) (each-among f row_of xs) where
  by : (r : Option RowState) → each f (rows_among row_of xs) ≡ rows_among (λ y. option_and_then (f y) (row_of y)) xs
      → each f (with_some x r (rows_among row_of xs)) ≡ with_some x (option_and_then (f x) r) (rows_among (λ y. option_and_then (f y) (row_of y)) xs)
  by None e = e
  by (Some row) e = ap (with_some x (f x row)) e

pub among-append : (row_of : Id → Option RowState) (xs ys : List Id) → rows_among row_of (xs ++ ys) ≡ rows_among row_of xs ++ rows_among row_of ys
among-append row_of [] ys = refl
among-append row_of (x ∷ xs) ys = by (row_of x) (among-append row_of xs ys) where
  by : (r : Option RowState) → rows_among row_of (xs ++ ys) ≡ rows_among row_of xs ++ rows_among row_of ys → with_some x r (rows_among row_of (xs ++ ys)) ≡ with_some x r (rows_among row_of xs) ++ rows_among row_of ys
  by None e = e
  by (Some row) e = ap (λ es. (x, row) ∷ es) e

-- rows that are equal for each id up to a
pub among-alike : (a : Id) (one other : Id → Option RowState) → ((x : Id) → is_below a x ≡ false → one x ≡ other x) → (xs : List Id) → AllUpTo a xs → rows_among one xs ≡ rows_among other xs
among-alike a one other same [] h = refl
among-alike a one other same (x ∷ xs) h = λ i. with_some x (same x h.0 i) (among-alike a one other same xs h.1 i)

-- rows that are equal for each of these ids
pub among-known : (all : List Id) (one other : Id → Option RowState) → ((x : Id) → has_id all x ≡ true → one x ≡ other x)
    → (xs : List Id) → ((x : Id) → has_id xs x ≡ true → has_id all x ≡ true) → rows_among one xs ≡ rows_among other xs
among-known all one other same [] sub = refl
among-known all one other same (x ∷ xs) sub =
    let here = same x (sub x (rw (is_same_id-refl x) refl)) in
    let rest = among-known all one other same xs (λ y e. sub y (rw e (or-true (is_same_id y x)))) in
    λ i. with_some x (here i) (rest i)

pub among-none : (xs : List Id) → rows_among (λ x. None) xs ≡ []
among-none [] = refl
among-none (x ∷ xs) = among-none xs

-- the same row at each of these
abbrev pub each_row : RowState → List Id → List (Id × RowState)
each_row row ids = map (λ x. (x, row)) ids

pub among-all : (row : RowState) (xs : List Id) → rows_among (λ x. Some row) xs ≡ each_row row xs
among-all row [] = refl
among-all row (x ∷ xs) = ap (λ es. (x, row) ∷ es) (among-all row xs)

pub up_to-among : (a : Id) (row_of : Id → Option RowState) (xs : List Id) → AllUpTo a xs → AllUpTo a (row_ids (rows_among row_of xs))
up_to-among a row_of [] h = tt
up_to-among a row_of (x ∷ xs) h = by (row_of x) (up_to-among a row_of xs h.1) where
  by : (r : Option RowState) → AllUpTo a (row_ids (rows_among row_of xs)) → AllUpTo a (row_ids (with_some x r (rows_among row_of xs)))
  by None rest = rest
  by (Some row) rest = (h.0, rest)

-- ---- rows added at the end

put-last : (es : List (Id × RowState)) (a x : Id) (row : RowState) → AllUpTo a (row_ids es) → is_below a x ≡ true → put id_cmp x row es ≡ es ++ (x, row) ∷ []
put-last [] a x row h e = refl
put-last (f ∷ es) a x row h e =
    ap (λ r. by_order r ((x, row) ∷ f ∷ es) ((f.0, row) ∷ es) (f ∷ put id_cmp x row es)) (above-greater f.0 x (up_to-below a f.0 x h.0 e))
    ∙ ap (λ rest. f ∷ rest) (put-last es a x row h.1 e)

row_ids-append : (es fs : List (Id × RowState)) → row_ids (es ++ fs) ≡ row_ids es ++ row_ids fs
row_ids-append [] fs = refl
row_ids-append (e ∷ es) fs = ap (λ rest. e.0 ∷ rest) (row_ids-append es fs)

up_to-last : (es : List (Id × RowState)) (a x : Id) (row : RowState) → AllUpTo a (row_ids es) → is_below a x ≡ true → AllUpTo x (row_ids (es ++ (x, row) ∷ []))
up_to-last es a x row h e =
    subst (AllUpTo x) (sym (row_ids-append es ((x, row) ∷ []))) (up_to-append x (row_ids es) (x ∷ []) (up_to-raise a x (row_ids es) (below-not_back a x e) h) (below-irrefl x, tt))

pub entries-with_rows : (ids : List Id) (row : RowState) (rows : Rows) (a : Id) → AllUpTo a (row_ids rows.entries) → AllAbove a ids → Ascends ids
    → (with_rows ids row rows).entries ≡ rows.entries ++ each_row row ids
unfolding insert_by
entries-with_rows [] row rows a up above asc = sym (append-nil rows.entries)
entries-with_rows (x ∷ xs) row rows a up above asc =
    let put_in = put-last rows.entries a x row up above.0 in
    entries-with_rows xs row (insert_by ids_total rows x row) x (subst (λ es. AllUpTo x (row_ids es)) (sym put_in) (up_to-last rows.entries a x row up above.0)) asc.0 asc.1
    ∙ ap (λ es. es ++ each_row row xs) put_in ∙ append_assoc rows.entries ((x, row) ∷ []) (each_row row xs)
