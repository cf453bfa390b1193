-- The first entries of blocks, and how they are removed.
use Rattle.std.proofs.Common.{◌≡◌, ℕ, ◌+◌, ◌-◌, ◌<◌, ◌≤◌, suc, zero, true, false, not, List, [], ◌∷◌, ◌++◌, length, filter}
use Rattle.std.proofs.Common.{drop, Option, Some, None, sym, ap, ◌∙◌, refl, arith, append_assoc, subst, length-append}
use Rattle.std.proofs.lemmas.List.{append-nil, drop-append-le, length-drop}
use Rattle.std.proofs.lemmas.List.Elements.{filter-append}
use Rattle.std.specs.List.{slice_get}
use Rattle.std.specs.Option.{IfSome, is_some}
use Rattle.std.proofs.lemmas.Bool.{false≢true}
use Rattle.std.specs.Map.{lookup, set_value}
use Rattle.xs_stream.specs.declared.id.Id.{Id}
use Rattle.xs_stream.specs.declared.field.Field.{Field}
use Rattle.xs_stream.specs.declared.trim.Trim.TheVariants.{MinId}
use Rattle.xs_stream.specs.Id.{is_below, is_same_id}
use Rattle.xs_stream.specs.StreamContent.{ids_of, AllAbove, AllUpTo, Ascends, entries_after_trim}
use Rattle.xs_stream.specs.Blocks.{entries_of_blocks, AreFiled}
use Rattle.xs_stream.proofs.Order.{is_same_id-refl, up_to-below, not_below-above}

abbrev Entries : Type 0
Entries = List (Id × List Field)

abbrev Blocks : Type 0
Blocks = List (Id × List (Id × List Field))

-- the first element begins the list
pub first-splits : {X : Type 0} (xs : List X) (x : X) → slice_get xs 0 ≡ Some x → (rest : List X) × (xs ≡ x ∷ rest)
first-splits [] x h = let no = h in absurd (cc)
first-splits (y ∷ ys) x h = let same : y ≡ x = cc in (ys, ap (λ z. z ∷ ys) same)

pub same-rest : {X : Type 0} (xs : List X) (x p : X) (rest ys : List X) → xs ≡ x ∷ rest → xs ≡ p ∷ ys → (p ≡ x) × (ys ≡ rest)
same-rest xs x p rest ys e f = (cc, cc)

-- what is taken from the front leaves the others
pub popped : {X : Type 0} (r : Option X) (old new : List X) (x : X) (rest : List X) → (0 < length old → is_some r ≡ true) → IfSome r (λ p. old ≡ p ∷ new) → old ≡ x ∷ rest → new ≡ rest
popped None old new x rest some taken e = absurd (false≢true (some (omega (arith, ap length e))))
popped (Some p) old new x rest some taken e = let both : p ∷ new ≡ x ∷ rest = sym taken ∙ e in cc

drop-past : {X : Type 0} (n : ℕ) (xs ys : List X) → length xs ≤ n → drop n (xs ++ ys) ≡ drop (n - length xs) ys
drop-past n [] ys h = let all : n - 0 ≡ n = omega arith in sym (ap (λ k. drop k ys) all)
drop-past zero (x ∷ xs) ys h = absurd (omega arith)
drop-past (suc n) (x ∷ xs) ys h =
    let less : suc n - suc (length xs) ≡ n - length xs = omega arith in
    drop-past n xs ys (omega arith) ∙ sym (ap (λ k. drop k ys) less)

-- a block that is removed completely
pub drop-popped : (count : ℕ) (es : Entries) (bs : Blocks) (newest : Entries) → length es ≤ count → drop (count - length es) (entries_of_blocks bs ++ newest) ≡ drop count ((es ++ entries_of_blocks bs) ++ newest)
drop-popped count es bs newest h = sym (ap (drop count) (append_assoc es (entries_of_blocks bs) newest) ∙ drop-past count es (entries_of_blocks bs ++ newest) h)

-- a block of which some entries are removed
pub drop-within : (count : ℕ) (es : Entries) (bs : Blocks) (newest : Entries) → count ≤ length es → (drop count es ++ entries_of_blocks bs) ++ newest ≡ drop count ((es ++ entries_of_blocks bs) ++ newest)
drop-within count es bs newest h =
    append_assoc (drop count es) (entries_of_blocks bs) newest ∙ sym (ap (drop count) (append_assoc es (entries_of_blocks bs) newest) ∙ drop-append-le count es (entries_of_blocks bs ++ newest) h)

pub length-popped : (es : Entries) (bs : Blocks) (newest : Entries) → length ((es ++ entries_of_blocks bs) ++ newest) ≡ length es + length (entries_of_blocks bs ++ newest)
length-popped es bs newest = omega (arith, length-append (es ++ entries_of_blocks bs) newest, length-append es (entries_of_blocks bs), length-append (entries_of_blocks bs) newest)

up_to-drop : (x : Id) (n : ℕ) (es : Entries) → AllUpTo x (ids_of es) → AllUpTo x (ids_of (drop n es))
up_to-drop x zero es up = up
up_to-drop x (suc n) [] up = tt
up_to-drop x (suc n) (e ∷ es) up = up_to-drop x n es up.1

pub filed-within : (count : ℕ) (under : Id) (es : Entries) (bs : Blocks) (newest : Entries) → count < length es → AreFiled ((under, es) ∷ bs) newest → AreFiled ((under, drop count es) ∷ bs) newest
filed-within count under es bs newest h filed = (
  record {
    has_entries = omega (arith, length-drop count es);
    up_to_id = up_to-drop under count es filed.0.up_to_id;
    later_above = filed.0.later_above;
  },
  filed.1,
)

pub set-first : (under : Id) (es fs : Entries) (bs : Blocks) → set_value (is_same_id under) ((under, es) ∷ bs) fs ≡ (under, fs) ∷ bs
set-first under es fs bs = rw (is_same_id-refl under) refl

module _ {X : Type 0} (older : List (Id × X)) (under : Id) (x : X) (rest : List (Id × X)) (is : older ≡ (under, x) ∷ rest) where
  found-first : lookup (is_same_id under) older ≡ Some x
  found-first = ap (lookup (is_same_id under)) is ∙ rw (is_same_id-refl under) refl

  pub lent-first : (y : X) → Some y ≡ lookup (is_same_id under) older → y ≡ x
  lent-first y e = let same : ◌≡◌ {A = Option X} (Some y) (Some x) = e ∙ found-first in cc

module _ (older : Blocks) (under : Id) (es : Entries) (bs : Blocks) (is : older ≡ (under, es) ∷ bs) where
  pub first-counted : (newest : Entries) → length es ≤ length (entries_of_blocks older ++ newest)
  first-counted newest =
      omega (arith, ap (λ cs. length (entries_of_blocks cs ++ newest)) is, length-append (es ++ entries_of_blocks bs) newest, length-append es (entries_of_blocks bs))

  pub never-absent : ◌≡◌ {A = Option Entries} None (lookup (is_same_id under) older) → ⊥
  never-absent e = let never : ◌≡◌ {A = Option Entries} None (Some es) = e ∙ found-first older under es bs is in cc

  pub written-first : (new : Blocks) (fs : Entries) → new ≡ set_value (is_same_id under) older fs → new ≡ (under, fs) ∷ bs
  written-first new fs e = e ∙ ap (λ cs. set_value (is_same_id under) cs fs) is ∙ set-first under es fs bs

-- ---- those below an id

none_kept : (low under : Id) (es : Entries) → AllUpTo under (ids_of es) → is_below under low ≡ true → filter (λ e. not (is_below e.0 low)) es ≡ []
none_kept low under [] up h = refl
none_kept low under (e ∷ es) up h = rw (up_to-below under e.0 low up.0 h) (none_kept low under es up.1 h)

-- a trim keeps none of a block that is filed below its id
pub trimmed-popped : (low under : Id) (es : Entries) (bs : Blocks) (newest : Entries) → AllUpTo under (ids_of es) → is_below under low ≡ true
    → entries_after_trim (MinId low) (entries_of_blocks bs ++ newest) ≡ entries_after_trim (MinId low) ((es ++ entries_of_blocks bs) ++ newest)
trimmed-popped low under es bs newest up h =
    sym (ap (filter (λ (e : Id × List Field). not (is_below e.0 low))) (append_assoc es (entries_of_blocks bs) newest) ∙ filter-append (λ (e : Id × List Field). not (is_below e.0 low)) es (entries_of_blocks bs ++ newest)
    ∙ ap (λ rest. rest ++ filter (λ (e : Id × List Field). not (is_below e.0 low)) (entries_of_blocks bs ++ newest)) (none_kept low under es up h))

ascends-behind : (es fs : Entries) → Ascends (ids_of (es ++ fs)) → Ascends (ids_of fs)
ascends-behind [] fs a = a
ascends-behind (e ∷ es) fs a = ascends-behind es fs a.1

pub ascends-popped : (es : Entries) (bs : Blocks) (newest : Entries) → Ascends (ids_of ((es ++ entries_of_blocks bs) ++ newest)) → Ascends (ids_of (entries_of_blocks bs ++ newest))
ascends-popped es bs newest a = ascends-behind es (entries_of_blocks bs ++ newest) (subst (λ (fs : Entries). Ascends (ids_of fs)) (append_assoc es (entries_of_blocks bs) newest) a)

none_later : (low under : Id) (es : Entries) → AllAbove under (ids_of es) → is_below under low ≡ false → filter (λ e. is_below e.0 low) es ≡ []
none_later low under [] a h = refl
none_later low under (e ∷ es) a h = rw (not_below-above under low e.0 h a.0) (none_later low under es a.1 h)

-- if the first block isn't filed below an id, only its own entries may be below it
pub counted-first : (low under : Id) (es : Entries) (bs : Blocks) (newest : Entries) → AllAbove under (ids_of (entries_of_blocks bs ++ newest)) → is_below under low ≡ false
    → length (filter (λ e. is_below e.0 low) es) ≡ length (filter (λ e. is_below e.0 low) ((es ++ entries_of_blocks bs) ++ newest))
counted-first low under es bs newest above h =
    sym (ap (λ (fs : Entries). length (filter (λ e. is_below e.0 low) fs)) (append_assoc es (entries_of_blocks bs) newest)
    ∙ ap length (filter-append (λ (e : Id × List Field). is_below e.0 low) es (entries_of_blocks bs ++ newest) ∙ ap (λ rest. filter (λ e. is_below e.0 low) es ++ rest) (none_later low under (entries_of_blocks bs ++ newest) above h)
    ∙ append-nil (filter (λ e. is_below e.0 low) es)))
