-- Entries of a block: what is left of them, and what is removed.
use Rattle.std.proofs.Common.{◌≡◌, ℕ, ◌+◌, ◌-◌, ◌<◌, ◌≤◌, ◌^◌, suc, zero, List, [], ◌∷◌, ◌++◌, ◌&&◌, ◌||◌, eqb, ltb}
use Rattle.std.proofs.Common.{subst, Bool, true, false, cond, Some, length, filter, take, drop, sym, ap, ◌∙◌, refl}
use Rattle.std.proofs.Common.{arith, append_assoc, add-one}
use Rattle.std.specs.List.{remove, remove_range, flat_map}
use Rattle.std.specs.Map.{remove_entry}
use Rattle.std.specs.Option.{is_some}
use Rattle.std.proofs.lemmas.List.{append-nil, take-append-drop, length-append, length-take, length-drop}
use Rattle.std.proofs.lemmas.Grind.{flat_map-append}
use Rattle.std.proofs.lemmas.Bool.Decides.{nat_tests}
use Rattle.std.proofs.lemmas.Bool.{false≢true}
use Rattle.std.proofs.Math.Seq.{take-append_seam, drop-append_seam, take-add}
use Rattle.xs_stream.specs.declared.field.Field.{Field}
use Rattle.xs_stream.specs.declared.id.Id.{Id}
use Rattle.xs_stream.specs.Id.{is_same_id}
use Rattle.xs_stream.specs.StreamContent.{fields_at}
use Rattle.xs_stream.specs.PackedNumber.{number_code, first_number, after_number}
use Rattle.xs_stream.specs.PackedText.{text_code, first_text, after_text}
use Rattle.xs_stream.specs.Packed.{names_code, has_names, body_fields, entry_code, entry_id, entry_body, entry_in}
use Rattle.xs_stream.specs.Packed.{after_entry, packed_entries, after_entries, entries_code, block_entries}
use Rattle.xs_stream.specs.Packed.{shares_names}
use Rattle.xs_stream.specs.Packed.{body_code, field_code, mark_of, ms_code, rebased_code, rebased_codes, IsPacked}
use Rattle.xs_stream.proofs.Order.{is_same_id-eq, is_same_id-refl}
use Rattle.xs_stream.proofs.PackedCodes.{first_number-code, entries_in-whole, entry_id-code, entry_body-code}
use Rattle.xs_stream.proofs.PackedCodes.{after_entry-code, length-entries_in, first_text-code, after_text-code}
use Rattle.xs_stream.proofs.PackedCodes.{has_names-own, has_names-missing}

pub after_entries-suc : (i : ℕ) (bytes : List ℕ) → after_entries (suc i) bytes ≡ after_entry (after_entries i bytes)
after_entries-suc zero bytes = refl
after_entries-suc (suc i) bytes = after_entries-suc i (after_entry bytes)

-- one more entry is passed
pub after_entries-more : (i : ℕ) (bytes : List ℕ) → after_entries (i + 1) bytes ≡ after_entry (after_entries i bytes)
after_entries-more i bytes = rw add-one (after_entries-suc i bytes)

module _ (base : ℕ) (names : List ℕ) where
  entries_in-step : (count : ℕ) (bytes : List ℕ) → 0 < count → packed_entries base names count bytes ≡ entry_in base names bytes ∷ packed_entries base names (count - 1) (after_entry bytes)
  entries_in-step zero bytes h = absurd (omega arith)
  entries_in-step (suc count) bytes h = let e : suc count - 1 ≡ count = omega arith in rw e refl

  -- the entries left
  pub drop-entries_in : (count i : ℕ) (bytes : List ℕ) → i ≤ count → drop i (packed_entries base names count bytes) ≡ packed_entries base names (count - i) (after_entries i bytes)
  drop-entries_in count zero bytes h = let e : count - 0 ≡ count = omega arith in rw e refl
  drop-entries_in zero (suc i) bytes h = absurd (omega arith)
  drop-entries_in (suc count) (suc i) bytes h =
      let e : suc count - suc i ≡ count - i = omega arith in
      rw e (drop-entries_in count i (after_entry bytes) (omega arith))

  -- the one at the head of those left
  pub left-step : (count i : ℕ) (bytes : List ℕ) → i < count → packed_entries base names (count - i) bytes ≡ entry_in base names bytes ∷ packed_entries base names (count - (i + 1)) (after_entry bytes)
  left-step count i bytes h =
      let e : count - (i + 1) ≡ count - i - 1 = omega arith in
      rw e (entries_in-step (count - i) bytes (omega arith))

-- ---- a search by id

same-reads : (a b : Id) (t : Bool) → (eqb a.ms b.ms && eqb a.seq b.seq) ≡ t → is_same_id b a ≡ t
same-reads a b true e =
    let ms : a.ms ≡ b.ms = grind (arith, nat_tests) in
    let seq : a.seq ≡ b.seq = grind (arith, nat_tests) in
    let same : a ≡ b = λ i. record { ms = ms i; seq = seq i } in
    rw same (is_same_id-refl b)
same-reads a b false e = by (is_same_id b a) refl where
  by : (t : Bool) → is_same_id b a ≡ t → t ≡ false
  by true h =
      let same : b ≡ a = is_same_id-eq b a h in
      let ms : eqb a.ms b.ms ≡ true = grind (arith, nat_tests, ap (λ x. x.ms) same) in
      let seq : eqb a.seq b.seq ≡ true = grind (arith, nat_tests, ap (λ x. x.seq) same) in
      absurd (false≢true (sym e ∙ ap (λ x. x && eqb a.seq b.seq) ms ∙ seq))
  by false h = refl

module _ (base : ℕ) (names : List ℕ) (count i : ℕ) (id x : Id) (rest : List ℕ) (h : i < count) (is : x ≡ entry_id base rest) where
  pub lookup-passed : (eqb x.ms id.ms && eqb x.seq id.seq) ≡ false → fields_at (packed_entries base names (count - i) rest) id ≡ fields_at (packed_entries base names (count - (i + 1)) (after_entry rest)) id
  lookup-passed e =
      let other : is_same_id id (entry_id base rest) ≡ false = subst (λ y. is_same_id id y ≡ false) is (same-reads x id false e) in
      rw (left-step base names count i rest h, other) refl

  pub lookup-found : (eqb x.ms id.ms && eqb x.seq id.seq) ≡ true → fields_at (packed_entries base names (count - i) rest) id ≡ Some (body_fields names (entry_body rest))
  lookup-found e =
      let same : is_same_id id (entry_id base rest) ≡ true = subst (λ y. is_same_id id y ≡ true) is (same-reads x id true e) in
      rw (left-step base names count i rest h, same) refl

  pub removed-passed : (eqb x.ms id.ms && eqb x.seq id.seq) ≡ false → remove_entry (is_same_id id) (packed_entries base names (count - i) rest) ≡ entry_in base names rest ∷ remove_entry (is_same_id id) (packed_entries base names (count - (i + 1)) (after_entry rest))
  removed-passed e =
      let other : is_same_id id (entry_id base rest) ≡ false = subst (λ y. is_same_id id y ≡ false) is (same-reads x id false e) in
      rw (left-step base names count i rest h, other) refl

  pub removed-found : (eqb x.ms id.ms && eqb x.seq id.seq) ≡ true → remove_entry (is_same_id id) (packed_entries base names (count - i) rest) ≡ packed_entries base names (count - (i + 1)) (after_entry rest)
  removed-found e =
      let same : is_same_id id (entry_id base rest) ≡ true = subst (λ y. is_same_id id y ≡ true) is (same-reads x id true e) in
      rw (left-step base names count i rest h, same) refl

take-cons : {X : Type 0} (xs : List X) (i : ℕ) (x : X) (ys : List X) → drop i xs ≡ x ∷ ys → take (suc i) xs ≡ take i xs ++ x ∷ []
take-cons [] zero x ys e = absurd (omega (arith, ap length e))
take-cons [] (suc i) x ys e = absurd (omega (arith, ap length e))
take-cons (z ∷ zs) zero x ys e = let same : z ≡ x = cc in rw same refl
take-cons (z ∷ zs) (suc i) x ys e = ap (λ left. z ∷ left) (take-cons zs i x ys e)

-- one more entry was passed
module _ (base : ℕ) (names : List ℕ) (count i : ℕ) (bytes : List ℕ) (h : i < count) where
  pub take-passed : take (i + 1) (packed_entries base names count bytes) ≡ take i (packed_entries base names count bytes) ++ entry_in base names (after_entries i bytes) ∷ []
  take-passed =
      rw add-one (take-cons (packed_entries base names count bytes) i (entry_in base names (after_entries i bytes)) (packed_entries base names (count - (i + 1)) (after_entry (after_entries i bytes)))
      (drop-entries_in base names count i bytes (omega arith) ∙ left-step base names count i (after_entries i bytes) h))

  pub drop-passed : drop (suc i) (packed_entries base names count bytes) ≡ packed_entries base names (count - (i + 1)) (after_entry (after_entries i bytes))
  drop-passed =
      drop-entries_in base names count (suc i) bytes (omega arith) ∙ rw (after_entries-suc i bytes) (ap (λ n. packed_entries base names n (after_entry (after_entries i bytes))) (omega arith))

-- ---- a filter of entries

pub joined : {X : Type 0} (t u : List X) (x : X) (xs : List X) → u ≡ t ++ x ∷ [] → t ++ x ∷ xs ≡ u ++ xs
joined t u x xs e = rw (e, append_assoc) refl

module _ (test : Id → Bool) (base : ℕ) (names : List ℕ) (count i : ℕ) (x : Id) (rest next : List ℕ) (h : i < count) (is : x ≡ entry_id base rest) (on : next ≡ after_entry rest) where
  entry-is : (fields : List Field) → fields ≡ body_fields names (entry_body rest) → entry_in base names rest ≡ (x, fields)
  entry-is fields f = ap (λ (y : Id). (y, body_fields names (entry_body rest))) (sym is) ∙ ap (λ (fs : List Field). (x, fs)) (sym f)

  shown-filter_taken : (fields : List Field) → test x ≡ true → fields ≡ body_fields names (entry_body rest)
      → filter (λ e. test e.0) (packed_entries base names (count - i) rest) ≡ (x, fields) ∷ filter (λ e. test e.0) (packed_entries base names (count - (i + 1)) next)
  shown-filter_taken fields e f =
      let passes : test (entry_id base rest) ≡ true = subst (λ y. test y ≡ true) is e in
      rw (left-step base names count i rest h, passes) (ap (λ (y : Id × List Field). y ∷ filter (λ e. test e.0) (packed_entries base names (count - (i + 1)) (after_entry rest))) (entry-is fields f)
      ∙ ap (λ r. (x, fields) ∷ filter (λ e. test e.0) (packed_entries base names (count - (i + 1)) r)) (sym on))

  shown-filter_left : test x ≡ false
      → filter (λ e. test e.0) (packed_entries base names (count - i) rest) ≡ filter (λ e. test e.0) (packed_entries base names (count - (i + 1)) next)
  shown-filter_left e =
      let fails : test (entry_id base rest) ≡ false = subst (λ y. test y ≡ false) is e in
      rw (left-step base names count i rest h, fails) (ap (λ r. filter (λ (e : Id × List Field). test e.0) (packed_entries base names (count - (i + 1)) r)) (sym on))

  pub shown-taken : (most : ℕ) (fields : List Field) (all es es2 : List (Id × List Field)) → test x ≡ true → fields ≡ body_fields names (entry_body rest) → es2 ≡ es ++ (x, fields) ∷ []
      → all ≡ take most (es ++ filter (λ e. test e.0) (packed_entries base names (count - i) rest))
      → all ≡ take most (es2 ++ filter (λ e. test e.0) (packed_entries base names (count - (i + 1)) next))
  shown-taken most fields all es es2 e f g was = was ∙ ap (λ r. take most (es ++ r)) (shown-filter_taken fields e f) ∙ ap (take most) (joined es es2 (x, fields) _ g)

  pub shown-left : (most : ℕ) (all es es2 : List (Id × List Field)) → test x ≡ false → es2 ≡ es
      → all ≡ take most (es ++ filter (λ e. test e.0) (packed_entries base names (count - i) rest))
      → all ≡ take most (es2 ++ filter (λ e. test e.0) (packed_entries base names (count - (i + 1)) next))
  shown-left most all es es2 e f was =
      was ∙ ap (λ r. take most (es ++ r)) (shown-filter_left e) ∙ ap (λ r. take most (r ++ filter (λ e. test e.0) (packed_entries base names (count - (i + 1)) next))) (sym f)

  pub count-taken : test x ≡ true
      → length (filter (λ e. test e.0) (packed_entries base names (count - i) rest)) ≡ suc (length (filter (λ e. test e.0) (packed_entries base names (count - (i + 1)) next)))
  count-taken e =
      let passes : test (entry_id base rest) ≡ true = subst (λ y. test y ≡ true) is e in
      rw (left-step base names count i rest h, passes) (ap (λ r. suc (length (filter (λ e. test e.0) (packed_entries base names (count - (i + 1)) r)))) (sym on))

  pub count-left : test x ≡ false
      → length (filter (λ e. test e.0) (packed_entries base names (count - i) rest)) ≡ length (filter (λ e. test e.0) (packed_entries base names (count - (i + 1)) next))
  count-left e =
      let fails : test (entry_id base rest) ≡ false = subst (λ y. test y ≡ false) is e in
      rw (left-step base names count i rest h, fails) (ap (λ r. length (filter (λ e. test e.0) (packed_entries base names (count - (i + 1)) r))) (sym on))

-- before the first one all are left
pub at-start : (base count start : ℕ) (bytes names rest : List ℕ) → names ≡ first_text bytes → rest ≡ drop start bytes → block_entries base count start bytes ≡ packed_entries base names (count - 0) rest
at-start base count start bytes names rest e f = let all : count - 0 ≡ count = omega arith in rw (e, f, all) refl

-- none is left of those that are passed
pub none-left : (base : ℕ) (names : List ℕ) (count i : ℕ) (rest : List ℕ) → count ≤ i → packed_entries base names (count - i) rest ≡ []
none-left base names count i rest h = let e : count - i ≡ 0 = omega arith in rw e refl

-- ---- shared names

shares-step : (count : ℕ) (bytes : List ℕ) → 0 < count → shares_names count bytes ≡ (eqb (first_number (entry_body bytes)) 0 || shares_names (count - 1) (after_entry bytes))
shares-step zero bytes h = absurd (omega arith)
shares-step (suc count) bytes h = let e : suc count - 1 ≡ count = omega arith in rw e refl

-- one more entry has been looked at
module _ (count i mark : ℕ) (rest body : List ℕ) (h : i < count) (is : body ≡ entry_body rest) (marked : mark ≡ first_number body) where
  pub shares-passed : (next : List ℕ) → next ≡ after_entry rest → (mark ≡ 0 → ⊥) → shares_names (count - i) rest ≡ shares_names (count - (i + 1)) next
  shares-passed next on other =
      let less : count - (i + 1) ≡ count - i - 1 = omega arith in
      let names : eqb (first_number (entry_body rest)) 0 ≡ false = subst (λ b. eqb (first_number b) 0 ≡ false) is (grind (arith, nat_tests)) in
      shares-step (count - i) rest (omega arith) ∙ rw (names, less, on) refl

  pub shares-found : mark ≡ 0 → shares_names (count - i) rest ≡ true
  shares-found own =
      let names : eqb (first_number (entry_body rest)) 0 ≡ true = subst (λ b. eqb (first_number b) 0 ≡ true) is (grind (arith, nat_tests)) in
      shares-step (count - i) rest (omega arith) ∙ rw names refl

pub shares-none : (count i : ℕ) (rest : List ℕ) → count ≤ i → shares_names (count - i) rest ≡ false
shares-none count i rest h = let e : count - i ≡ 0 = omega arith in rw e refl

marked : (shared : Bool) (fields : List Field) → first_number (body_code shared fields) ≡ mark_of shared fields
unfolding body_code
marked shared fields = first_number-code (mark_of shared fields) (flat_map (field_code shared) fields)

unmarked : (shared : Bool) (fields : List Field) → eqb (first_number (body_code shared fields)) 0 ≡ false → shared ≡ false
unmarked true fields h = absurd (false≢true (sym h ∙ ap (λ mark. eqb mark 0) (marked true fields)))
unmarked false fields h = refl

neither : (s t : Bool) → (s || t) ≡ false → (s ≡ false) × (t ≡ false)
neither true t h = absurd (false≢true (sym h))
neither false t h = (refl, h)

-- entries none of which has the names have no missing names either
unshared-code : (base : ℕ) (names : List ℕ) (es : List (Id × List Field)) → shares_names (length es) (entries_code base names es) ≡ false → entries_code base names es ≡ entries_code base [] es
unshared-code base names [] h = refl
unshared-code base names (e ∷ es) h =
    let shared = has_names names e.1 in
    let rest = entries_code base names es in
    let both = neither (eqb (first_number (entry_body (entry_code base shared e ++ rest))) 0) (shares_names (length es) (after_entry (entry_code base shared e ++ rest))) h in
    let own : eqb (first_number (body_code shared e.1)) 0 ≡ false = ap (λ body. eqb (first_number body) 0) (sym (entry_body-code base shared e rest)) ∙ both.0 in
    let others : shares_names (length es) rest ≡ false = ap (shares_names (length es)) (sym (after_entry-code base shared e rest)) ∙ both.1 in
    ap (λ t. entry_code base t e ++ rest) (unmarked shared e.1 own ∙ has_names-missing [] e.1 refl)
    ∙ ap (λ b. entry_code base (has_names [] e.1) e ++ b) (unshared-code base names es others)

-- ---- another base

rebased-step : (base from count : ℕ) (bytes : List ℕ) → 0 < count → rebased_codes base from count bytes ≡ rebased_code base from bytes ++ rebased_codes base from (count - 1) (after_entry bytes)
rebased-step base from zero bytes h = absurd (omega arith)
rebased-step base from (suc count) bytes h = let e : suc count - 1 ≡ count = omega arith in rw e refl

module _ (base from count i : ℕ) (rest all out : List ℕ) (was : all ≡ out ++ rebased_codes base from (count - i) rest) where
  -- one more is appended
  pub rebased-passed : (id : Id) (body next out2 : List ℕ) → i < count → id ≡ entry_id from rest → body ≡ entry_body rest → next ≡ after_entry rest
      → out2 ≡ out ++ (ms_code base id.ms ++ (number_code id.seq ++ text_code body)) → all ≡ out2 ++ rebased_codes base from (count - (i + 1)) next
  rebased-passed id body next out2 h is own on e =
      let less : count - (i + 1) ≡ count - i - 1 = omega arith in
      let code = ms_code base id.ms ++ (number_code id.seq ++ text_code body) in
      let left = rebased_codes base from (count - (i + 1)) next in
      let step : rebased_codes base from (count - i) rest ≡ code ++ left = rebased-step base from (count - i) rest (omega arith) ∙ rw (is, own, on, less) refl in
      was ∙ ap (λ b. out ++ b) step ∙ sym (append_assoc out code left) ∙ ap (λ b. b ++ left) (sym e)

  -- none is left
  pub rebased-all : count ≤ i → all ≡ out
  rebased-all h =
      let none : count - i ≡ 0 = omega arith in
      was ∙ ap (λ n. out ++ rebased_codes base from n rest) none ∙ append-nil out

pub rebased-code : (base from : ℕ) (names : List ℕ) (es : List (Id × List Field)) → from < 2 ^ 64 → rebased_codes base from (length es) (entries_code from names es) ≡ entries_code base names es
unfolding entry_code
rebased-code base from names [] fits = refl
rebased-code base from names (e ∷ es) fits =
    let shared = has_names names e.1 in
    let rest = entries_code from names es in
    rw (entry_id-code from shared e rest fits, entry_body-code from shared e rest, after_entry-code from shared e rest)
    (ap (λ b. entry_code base shared e ++ b) (rebased-code base from names es fits))

-- ---- lengths

length-after_number : (bytes : List ℕ) → length (after_number bytes) ≤ length bytes
unfolding after_number
length-after_number [] = omega arith
length-after_number (x ∷ xs) = by (ltb x 253) (eqb x 253) (eqb x 254) (eqb x 255) where
  by : (s t u v : Bool) → length (cond s xs (cond t (drop 2 xs) (cond u (drop 4 xs) (cond v (drop 8 xs) (drop 1 xs))))) ≤ suc (length xs)
  by true t u v = omega arith
  by false true u v = omega (arith, length-drop 2 xs)
  by false false true v = omega (arith, length-drop 4 xs)
  by false false false true = omega (arith, length-drop 8 xs)
  by false false false false = omega (arith, length-drop 1 xs)

pub length-after_text : (bytes : List ℕ) → length (after_text bytes) ≤ length bytes
unfolding after_text
length-after_text bytes = omega (arith, length-drop (first_number bytes) (after_number bytes), length-after_number bytes)

pub length-after_entry : (bytes : List ℕ) → length (after_entry bytes) ≤ length bytes
unfolding after_entry
length-after_entry bytes =
    omega (arith, length-after_text (after_number (after_number bytes)), length-after_number (after_number bytes), length-after_number bytes)

pub length-after_entries : (i : ℕ) (bytes : List ℕ) → length (after_entries i bytes) ≤ length bytes
length-after_entries zero bytes = omega arith
length-after_entries (suc i) bytes = omega (arith, length-after_entries i (after_entry bytes), length-after_entry bytes)

pub after_entries-one_less : (i : ℕ) (bytes : List ℕ) → length (after_entries (i + 1) bytes) ≤ length (after_entries i bytes)
after_entries-one_less i bytes = rw (after_entries-more i bytes) (length-after_entry (after_entries i bytes))

pub length-block_entries : (base count start : ℕ) (bytes : List ℕ) → length (block_entries base count start bytes) ≡ count
length-block_entries base count start bytes = length-entries_in base (first_text bytes) count (drop start bytes)

-- ---- what is removed

-- bytes that are the code of names and, after a gap, of entries contain these
module _ (base : ℕ) (names gap : List ℕ) (count start : ℕ) (bytes : List ℕ) (es : List (Id × List Field)) (fits : base < 2 ^ 64) (e : bytes ≡ (text_code names ++ gap) ++ entries_code base names es) (from : start ≡ length (text_code names ++ gap)) (n : count ≡ length es) where
  own-names : first_text bytes ≡ names
  own-names = ap first_text (e ∙ append_assoc (text_code names) gap (entries_code base names es)) ∙ first_text-code names (gap ++ entries_code base names es)

  own-front : take start bytes ≡ text_code names ++ gap
  own-front = rw (from, e) (take-append_seam (text_code names ++ gap) (entries_code base names es))

  own-rest : drop start bytes ≡ entries_code base names es
  own-rest = rw (from, e) (drop-append_seam (text_code names ++ gap) (entries_code base names es))

  pub repacked : block_entries base count start bytes ≡ es
  repacked = rw (own-names, own-rest, n) (entries_in-whole base names es fits)

  pub repacked-packed : IsPacked base count start bytes
  repacked-packed = record {
    base_fits = fits;
    inside = omega (arith, from, ap length e, length-append (text_code names ++ gap) (entries_code base names es));
    named = λ some. (gap, own-front ∙ ap (λ ns. text_code ns ++ gap) (sym own-names));
    coded = own-rest ∙ ap (entries_code base names) (sym repacked) ∙ ap (λ ns. entries_code base ns (block_entries base count start bytes)) (sym own-names);
  }

left-code : (base : ℕ) (names : List ℕ) (es : List (Id × List Field)) (i : ℕ) → i ≤ length es → after_entries i (entries_code base names es) ≡ entries_code base names (drop i es)
left-code base names es zero h = refl
left-code base names [] (suc i) h = absurd (omega arith)
left-code base names (e ∷ es) (suc i) h = rw (after_entry-code base (has_names names e.1) e (entries_code base names es)) (left-code base names es i (omega arith))

parts : (base : ℕ) (names : List ℕ) (es : List (Id × List Field)) (i : ℕ) → entries_code base names es ≡ entries_code base names (take i es) ++ entries_code base names (drop i es)
parts base names es i = ap (entries_code base names) (sym (take-append-drop i es)) ∙ flat_map-append (λ (e : Id × List Field). entry_code base (has_names names e.1) e) (take i es) (drop i es)

take-front : (a b c : List ℕ) → c ≡ a ++ b → take (length c - length b) c ≡ a
take-front a b c e =
    let n : length c - length b ≡ length a = omega (arith, ap length e, length-append a b) in
    rw (n, e) (take-append_seam a b)

drop-front : (a b c : List ℕ) → c ≡ a ++ b → drop (length c - length b) c ≡ b
drop-front a b c e =
    let n : length c - length b ≡ length a = omega (arith, ap length e, length-append a b) in
    rw (n, e) (drop-append_seam a b)

module _ (base count start : ℕ) (bytes : List ℕ) (packed : IsPacked base count start bytes) (some : 0 < count) where
  -- the bytes between the names and the entries
  abbrev pub gap : List ℕ
  gap = (packed.named some).0

  front : take start bytes ≡ text_code (first_text bytes) ++ gap
  front = (packed.named some).1

  pub opened : bytes ≡ (text_code (first_text bytes) ++ gap) ++ entries_code base (first_text bytes) (block_entries base count start bytes)
  opened =
      sym (take-append-drop start bytes) ∙ ap (λ b. b ++ drop start bytes) front ∙ ap (λ b. (text_code (first_text bytes) ++ gap) ++ b) packed.coded

  pub begins : start ≡ length (text_code (first_text bytes) ++ gap)
  begins = omega (arith, ap length front, length-take start bytes, packed.inside)

  left : (i : ℕ) → i ≤ count → after_entries i (drop start bytes) ≡ entries_code base (first_text bytes) (drop i (block_entries base count start bytes))
  left i h = ap (after_entries i) packed.coded ∙ left-code base (first_text bytes) (block_entries base count start bytes) i (omega (arith, length-block_entries base count start bytes))

  split : (i : ℕ) → i ≤ count → bytes ≡ ((text_code (first_text bytes) ++ gap) ++ entries_code base (first_text bytes) (take i (block_entries base count start bytes))) ++ after_entries i (drop start bytes)
  split i h =
      let named = text_code (first_text bytes) ++ gap in
      let es = block_entries base count start bytes in
      opened ∙ ap (λ b. named ++ b) (parts base (first_text bytes) es i ∙ ap (λ b. entries_code base (first_text bytes) (take i es) ++ b) (sym (left i h)))
      ∙ sym (append_assoc named (entries_code base (first_text bytes) (take i es)) (after_entries i (drop start bytes)))

  pub removed-code : (i : ℕ) → i < count
      → remove_range bytes (length bytes - length (after_entries i (drop start bytes))) (length bytes - length (after_entries (i + 1) (drop start bytes)))
      ≡ (text_code (first_text bytes) ++ gap) ++ entries_code base (first_text bytes) (remove (block_entries base count start bytes) i)
  removed-code i h =
      let es = block_entries base count start bytes in
      let names = first_text bytes in
      let before : take (length bytes - length (after_entries i (drop start bytes))) bytes ≡ (text_code names ++ gap) ++ entries_code base names (take i es) = take-front _ _ bytes (split i (omega arith)) in
      let behind : drop (length bytes - length (after_entries (suc i) (drop start bytes))) bytes ≡ entries_code base names (drop (suc i) es) = drop-front _ _ bytes (split (suc i) (omega arith)) ∙ left (suc i) (omega arith) in
      rw (add-one, before, behind) (append_assoc (text_code names ++ gap) (entries_code base names (take i es)) (entries_code base names (drop (suc i) es))
      ∙ ap (λ b. (text_code names ++ gap) ++ b) (sym (flat_map-append (λ (e : Id × List Field). entry_code base (has_names names e.1) e) (take i es) (drop (suc i) es))))

  -- if entries move up, the bytes that they leave belong to those between
  abbrev pub raised : ℕ → List ℕ → List ℕ
  raised start2 new = gap ++ take (start2 - start) (drop start new)

  module _ (start2 : ℕ) (new : List ℕ) (later : start ≤ start2) (inside2 : start2 ≤ length new) (same : take start new ≡ take start bytes) where
    next_count-front : take start2 new ≡ text_code (first_text bytes) ++ raised start2 new
    next_count-front =
        let places : start + (start2 - start) ≡ start2 = omega (arith, later) in
        let moved = take (start2 - start) (drop start new) in
        ap (λ n. take n new) (sym places) ∙ take-add start (start2 - start) new ∙ ap (λ b. b ++ moved) (same ∙ front) ∙ append_assoc (text_code (first_text bytes)) gap moved

    pub next_count-begins : start2 ≡ length (text_code (first_text bytes) ++ raised start2 new)
    next_count-begins = omega (arith, ap length next_count-front, length-take start2 new, inside2)

    pub next_count-code : (i : ℕ) → i < count
        → drop start2 new ≡ drop start (remove_range bytes (length bytes - length (after_entries i (drop start bytes))) (length bytes - length (after_entries (i + 1) (drop start bytes))))
        → new ≡ (text_code (first_text bytes) ++ raised start2 new) ++ entries_code base (first_text bytes) (remove (block_entries base count start bytes) i)
    next_count-code i h rest =
        let left = entries_code base (first_text bytes) (remove (block_entries base count start bytes) i) in
        let behind : drop start2 new ≡ left =
        rest ∙ ap (drop start) (removed-code i h) ∙ ap (λ n. drop n ((text_code (first_text bytes) ++ gap) ++ left)) begins ∙ drop-append_seam (text_code (first_text bytes) ++ gap) left in
        sym (take-append-drop start2 new) ∙ ap (λ b. b ++ drop start2 new) next_count-front ∙ ap (λ b. (text_code (first_text bytes) ++ raised start2 new) ++ b) behind

  -- if some entries are skipped, their bytes belong to those between
  abbrev pub wider : ℕ → List ℕ
  wider k = gap ++ entries_code base (first_text bytes) (take k (block_entries base count start bytes))

  pub dropped-code : (k : ℕ) → k ≤ count → bytes ≡ (text_code (first_text bytes) ++ wider k) ++ entries_code base (first_text bytes) (drop k (block_entries base count start bytes))
  dropped-code k h =
      let names = first_text bytes in
      let es = block_entries base count start bytes in
      split k h ∙ ap (λ b. ((text_code names ++ gap) ++ entries_code base names (take k es)) ++ b) (left k h)
      ∙ ap (λ b. b ++ entries_code base names (drop k es)) (append_assoc (text_code names) gap (entries_code base names (take k es)))

  pub dropped-begins : (k : ℕ) → k ≤ count → length bytes - length (after_entries k (drop start bytes)) ≡ length (text_code (first_text bytes) ++ wider k)
  dropped-begins k h =
      let names = first_text bytes in
      let es = block_entries base count start bytes in
      let behind = after_entries k (drop start bytes) in
      omega (arith, ap length (split k h), length-append ((text_code names ++ gap) ++ entries_code base names (take k es)) behind, ap length (append_assoc (text_code names) gap (entries_code base names (take k es))))

  whole : bytes ≡ text_code (first_text bytes) ++ after_text bytes
  whole =
      let names = first_text bytes in
      let behind = gap ++ entries_code base names (block_entries base count start bytes) in
      let parted : bytes ≡ text_code names ++ behind = opened ∙ append_assoc (text_code names) gap (entries_code base names (block_entries base count start bytes)) in
      parted ∙ ap (λ b. text_code names ++ b) (sym (ap after_text parted ∙ after_text-code names behind))

  pub named-up_to : length bytes - length (after_text bytes) ≤ start
  named-up_to =
      omega (arith, begins, length-append (text_code (first_text bytes)) gap, ap length whole, length-append (text_code (first_text bytes)) (after_text bytes))

  pub tidied-code : remove_range bytes (length bytes - length (after_text bytes)) start
      ≡ (text_code (first_text bytes) ++ []) ++ entries_code base (first_text bytes) (block_entries base count start bytes)
  tidied-code =
      let names = first_text bytes in
      let before : take (length bytes - length (after_text bytes)) bytes ≡ text_code names = take-front _ _ bytes whole in
      rw (before, append-nil) (ap (λ b. text_code names ++ b) packed.coded)

  pub tidied-begins : length bytes - length (after_text bytes) ≡ length (text_code (first_text bytes) ++ [])
  tidied-begins = omega (arith, ap length (append-nil (text_code (first_text bytes))), ap length whole, length-append (text_code (first_text bytes)) (after_text bytes))

  -- missing names replace names that no entry has
  pub fronted-code : (new : List ℕ) → shares_names count (drop start bytes) ≡ false → new ≡ text_code [] ++ drop start bytes
      → new ≡ (text_code [] ++ []) ++ entries_code base [] (block_entries base count start bytes)
  fronted-code new none e =
      let names = first_text bytes in
      let es = block_entries base count start bytes in
      let own : shares_names (length es) (entries_code base names es) ≡ false =
      ap (λ n. shares_names n (entries_code base names es)) (length-block_entries base count start bytes) ∙ ap (shares_names count) (sym packed.coded) ∙ none in
      e ∙ ap (λ b. text_code [] ++ b) (packed.coded ∙ unshared-code base names es own) ∙ ap (λ b. b ++ entries_code base [] es) (sym (append-nil (text_code [])))

  pub pushed-code : (entry : Id × List Field) → bytes ++ entry_code base (has_names (first_text bytes) entry.1) entry
      ≡ (text_code (first_text bytes) ++ gap) ++ entries_code base (first_text bytes) (block_entries base count start bytes ++ entry ∷ [])
  pushed-code entry =
      let names = first_text bytes in
      let es = block_entries base count start bytes in
      rw (flat_map-append, append-nil) (ap (λ b. b ++ entry_code base (has_names names entry.1) entry) opened ∙ append_assoc (text_code names ++ gap) (entries_code base names es) (entry_code base (has_names names entry.1) entry))

  -- the entries of another block with the same names, after these
  pub taken-code : (from count2 start2 : ℕ) (bytes2 : List ℕ) → IsPacked from count2 start2 bytes2 → first_text bytes2 ≡ first_text bytes
      → (new rest : List ℕ) → rest ≡ drop start2 bytes2 → new ≡ bytes ++ rebased_codes base from count2 rest
      → new ≡ (text_code (first_text bytes) ++ gap) ++ entries_code base (first_text bytes) (block_entries base count start bytes ++ block_entries from count2 start2 bytes2)
  taken-code from count2 start2 bytes2 packed2 same new rest is e =
      let names = first_text bytes in
      let es = block_entries base count start bytes in
      let es2 = block_entries from count2 start2 bytes2 in
      let code : rebased_codes base from count2 rest ≡ entries_code base names es2 =
      ap (rebased_codes base from count2) (is ∙ packed2.coded ∙ ap (λ ns. entries_code from ns es2) same)
      ∙ ap (λ n. rebased_codes base from n (entries_code from names es2)) (sym (length-block_entries from count2 start2 bytes2)) ∙ rebased-code base from names es2 packed2.base_fits in
      e ∙ ap (λ b. bytes ++ b) code ∙ ap (λ b. b ++ entries_code base names es2) opened ∙ append_assoc (text_code names ++ gap) (entries_code base names es) (entries_code base names es2)
      ∙ ap (λ b. (text_code names ++ gap) ++ b) (sym (flat_map-append (λ (e : Id × List Field). entry_code base (has_names names e.1) e) es es2))

  pub length-taken : (from count2 start2 : ℕ) (bytes2 : List ℕ) → count + count2 ≡ length (block_entries base count start bytes ++ block_entries from count2 start2 bytes2)
  length-taken from count2 start2 bytes2 =
      omega (arith, length-append (block_entries base count start bytes) (block_entries from count2 start2 bytes2), length-block_entries base count start bytes, length-block_entries from count2 start2 bytes2)

  pub length-dropped : (k : ℕ) → count - k ≡ length (drop k (block_entries base count start bytes))
  length-dropped k = omega (arith, length-drop k (block_entries base count start bytes), length-block_entries base count start bytes)

  pub length-pushed : (entry : Id × List Field) → count + 1 ≡ length (block_entries base count start bytes ++ entry ∷ [])
  length-pushed entry = omega (arith, length-append (block_entries base count start bytes) (entry ∷ []), length-block_entries base count start bytes)

  pub length-removed : (i : ℕ) → i < count → count - 1 ≡ length (remove (block_entries base count start bytes) i)
  length-removed i h =
      let es = block_entries base count start bytes in
      omega (arith, length-append (take i es) (drop (suc i) es), length-drop (suc i) es, length-take i es, length-block_entries base count start bytes)

-- missing names take one byte
pub fronted-begins : 1 ≡ length (text_code [] ++ [])
unfolding text_code number_code
fronted-begins = refl

-- the first entry of a block, after its names
pub first-code : (entry : Id × List Field) (old bytes : List ℕ) → old ≡ [] → bytes ≡ old ++ (text_code (names_code entry.1) ++ entry_code entry.0.ms true entry)
    → bytes ≡ (text_code (names_code entry.1) ++ []) ++ entries_code entry.0.ms (names_code entry.1) (entry ∷ [])
first-code entry old bytes none e =
    let names = names_code entry.1 in
    e ∙ ap (λ b. b ++ (text_code names ++ entry_code entry.0.ms true entry)) none
    ∙ ap (λ t. text_code names ++ entry_code entry.0.ms t entry) (sym (has_names-own entry.1)) ∙ ap (λ b. text_code names ++ b) (sym (append-nil (entry_code entry.0.ms (has_names names entry.1) entry)))
    ∙ ap (λ b. b ++ entries_code entry.0.ms names (entry ∷ [])) (sym (append-nil (text_code names)))

-- nothing is removed that isn't found
pub remove-absent : (id : Id) (es : List (Id × List Field)) → is_some (fields_at es id) ≡ false → remove_entry (is_same_id id) es ≡ es
remove-absent id [] h = refl
remove-absent id (e ∷ es) h = by (remove-absent id es) (is_same_id id e.0) h where
  by : (is_some (fields_at es id) ≡ false → remove_entry (is_same_id id) es ≡ es) → (t : Bool) → is_some (cond t (Some e.1) (fields_at es id)) ≡ false → cond t es (e ∷ remove_entry (is_same_id id) es) ≡ e ∷ es
  by rest true h = absurd (false≢true (sym h))
  by rest false h = ap (λ left. e ∷ left) (rest h)

-- if the only entry is found, none is left
pub only-removed : (es : List (Id × List Field)) (i : ℕ) → length es ≡ 1 → i < length es → remove es i ≡ []
only-removed [] i e h = absurd (omega arith)
only-removed (x ∷ []) zero e h = refl
only-removed (x ∷ []) (suc i) e h = absurd (omega arith)
only-removed (x ∷ (y ∷ es)) i e h = absurd (omega arith)
