-- How the memory of named values changes if one is added, removed or replaced.
use Rattle.std.proofs.Common.{◌≡◌, ℕ, Bool, true, false, cond, not, ◌&&◌, List, [], ◌∷◌, Option, Some, None, is_some, ap, ◌∙◌, refl}
use Rattle.std.proofs.Common.{◌+◌, suc, arith, length, Ordering}
use Rattle.std.specs.Prelude.{T}
use Rattle.std.specs.Ordering.{nat_cmp, eq_by_cmp}
use Rattle.std.specs.Cmp.Lexicographic.{slice_cmp, nat_list_cmp_total}
use Rattle.std.specs.FinMap.Entries.{find, put, where_key, by_order, is_sorted, below_all, length-put, length_without}
use Rattle.std.specs.declared.cmp.Ordering.TheVariants.{Less, Equal, Greater}
use Rattle.xs_bytes.specs.SortedMap.{NameMap, get, insert, insert_by, remove, empty}
use Rattle.xs_keys.specs.KeysRoom.{room_of_named}
use Rattle.xs_keys.proofs.NameMaps.{is_same_name-eq}

abbrev cmp : List ℕ → List ℕ → Ordering
cmp = slice_cmp nat_cmp

module _ {X : Type 0} (room : X → ℕ) where
  abbrev sum : List (List ℕ × X) → ℕ
  sum es = room_of_named room es

  tail_sorted : (e : List ℕ × X) (es : List (List ℕ × X)) → T (is_sorted cmp (e ∷ es)) → T (is_sorted cmp es)
  tail_sorted e es h = by (below_all cmp e.0 es) h where
    by : (t : Bool) → T (t && is_sorted cmp es) → T (is_sorted cmp es)
    by true h = h
    by false h = absurd h

  -- a value that is replaced
  put-changed : (name : List ℕ) (y x : X) (es : List (List ℕ × X)) → T (is_sorted cmp es) → find cmp name es ≡ Some x → sum (put cmp name y es) + room x ≡ sum es + room y
  put-changed name y x [] h found = let no = found in absurd (cc)
  put-changed name y x (e ∷ es) h found = by (put-changed name y x es (tail_sorted e es h)) (cmp name e.0) refl where
    by : (find cmp name es ≡ Some x → sum (put cmp name y es) + room x ≡ sum es + room y) → (o : Ordering) → cmp name e.0 ≡ o
        → sum (by_order o ((name, y) ∷ e ∷ es) ((e.0, y) ∷ es) (e ∷ put cmp name y es)) + room x ≡ ((length e.0 + room e.1) + sum es) + room y
    by rest Less is =
        let grown : length (put cmp name y (e ∷ es)) ≡ suc (suc (length es)) = rw is refl in
        let known : length (put cmp name y (e ∷ es)) ≡ suc (length es) =
        length-put cmp nat_list_cmp_total name y (e ∷ es) h ∙ ap (λ o. cond (is_some o) (suc (length es)) (suc (length es) + 1)) found in
        absurd (omega (arith, grown, known))
    by rest Equal is =
        let first : Some e.1 ≡ Some x = rw is at found in
        let same : e.1 ≡ x = cc in
        omega (arith, ap room same)
    by rest Greater is = omega (arith, rest (rw is at found))

  -- a value more
  put-new : (name : List ℕ) (y : X) (es : List (List ℕ × X)) → find cmp name es ≡ None → sum (put cmp name y es) ≡ sum es + (length name + room y)
  put-new name y [] none = omega arith
  put-new name y (e ∷ es) none = by (put-new name y es) (cmp name e.0) refl where
    by : (find cmp name es ≡ None → sum (put cmp name y es) ≡ sum es + (length name + room y)) → (o : Ordering) → cmp name e.0 ≡ o
        → sum (by_order o ((name, y) ∷ e ∷ es) ((e.0, y) ∷ es) (e ∷ put cmp name y es)) ≡ ((length e.0 + room e.1) + sum es) + (length name + room y)
    by rest Less is = omega arith
    by rest Equal is = let first : Some e.1 ≡ None = rw is at none in absurd (cc)
    by rest Greater is = omega (arith, rest (rw is at none))

  -- a name that isn't there
  without-none : (name : List ℕ) (es : List (List ℕ × X)) → find cmp name es ≡ None → where_key cmp (λ x. not (eq_by_cmp cmp name x)) es ≡ es
  without-none name [] none = refl
  without-none name (e ∷ es) none = by (without-none name es) (eq_by_cmp cmp name e.0) refl where
    by : (find cmp name es ≡ None → where_key cmp (λ x. not (eq_by_cmp cmp name x)) es ≡ es) → (t : Bool) → eq_by_cmp cmp name e.0 ≡ t
        → where_key cmp (λ x. not (eq_by_cmp cmp name x)) (e ∷ es) ≡ e ∷ es
    by rest true is = let first : Some e.1 ≡ None = rw is at none in absurd (cc)
    by rest false is = rw is (ap (λ left. e ∷ left) (rest (rw is at none)))

  -- a name that is removed
  without-there : (name : List ℕ) (x : X) (es : List (List ℕ × X)) → T (is_sorted cmp es) → find cmp name es ≡ Some x
      → sum (where_key cmp (λ x. not (eq_by_cmp cmp name x)) es) + (length name + room x) ≡ sum es
  without-there name x [] h found = let no = found in absurd (cc)
  without-there name x (e ∷ es) h found =
      by (without-there name x es (tail_sorted e es h)) (length_without cmp nat_list_cmp_total name es (tail_sorted e es h)) (length_without cmp nat_list_cmp_total name (e ∷ es) h) (eq_by_cmp cmp name e.0) refl where
        left : List (List ℕ × X)
        left = where_key cmp (λ x. not (eq_by_cmp cmp name x)) es

        none_of : (o : Option X) (n : ℕ) → n ≡ cond (is_some o) 1 0 → n ≡ 0 → o ≡ None
        none_of None n one is = refl
        none_of (Some y) n one is = absurd (omega (arith, one, is))

        by : (find cmp name es ≡ Some x → sum left + (length name + room x) ≡ sum es)
            → cond (is_some (find cmp name es)) 1 0 + length left ≡ length es
            → cond (is_some (find cmp name (e ∷ es))) 1 0 + length (where_key cmp (λ x. not (eq_by_cmp cmp name x)) (e ∷ es)) ≡ suc (length es)
            → (t : Bool) → eq_by_cmp cmp name e.0 ≡ t
            → sum (where_key cmp (λ x. not (eq_by_cmp cmp name x)) (e ∷ es)) + (length name + room x) ≡ (length e.0 + room e.1) + sum es
        by rest fewer all true is =
            let first : Some e.1 ≡ Some x = rw is at found in
            let value : e.1 ≡ x = cc in
            let one : 1 + length left ≡ suc (length es) = rw is at all in
            let none : find cmp name es ≡ None = none_of (find cmp name es) _ refl (omega (arith, one, fewer)) in
            let same : sum left ≡ sum es = ap sum (without-none name es none) in
            let named : length name ≡ length e.0 = ap length (is_same_name-eq name e.0 is) in
            rw is (omega (arith, same, named, ap room value))
        by rest fewer all false is = rw is (omega (arith, rest (rw is at found)))

  -- ---- of maps

  pub room-changed : (m : NameMap X) (name : List ℕ) (y x : X) → get m name ≡ Some x → sum (insert m name y).entries + room x ≡ sum m.entries + room y
  unfolding get insert_by
  room-changed m name y x found = put-changed name y x m.entries m.sorted found

  pub room-grown : (m : NameMap X) (name : List ℕ) (y : X) → get m name ≡ None → sum (insert m name y).entries ≡ sum m.entries + (length name + room y)
  unfolding get insert_by
  room-grown m name y none = put-new name y m.entries none

  pub room-fewer : (m : NameMap X) (name : List ℕ) (x : X) → get m name ≡ Some x → sum (remove m name).entries + (length name + room x) ≡ sum m.entries
  unfolding get remove
  room-fewer m name x found = without-there name x m.entries m.sorted found

  pub room-same : (m : NameMap X) (name : List ℕ) → get m name ≡ None → sum (remove m name).entries ≡ sum m.entries
  unfolding get remove
  room-same m name none = ap sum (without-none name m.entries none)

  pub room-none : sum (empty {X = X} {R = cmp}).entries ≡ 0
  unfolding empty
  room-none = refl
