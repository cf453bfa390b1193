-- Reading what was written.
use Rattle.std.proofs.Common.{◌≡◌, ℕ, ◌+◌, ◌-◌, ◌%◌, ◌≤◌, ◌&&◌, get_or, suc, zero, ◌^◌, ◌<◌, List, [], ◌∷◌, ◌++◌, Bool}
use Rattle.std.proofs.Common.{true, false, not, cond, ltb, eqb, length, take, drop, sym, ap, ◌∙◌, refl, arith}
use Rattle.std.proofs.Common.{append_assoc, length-append}
use Rattle.std.proofs.lemmas.Bool.Decides.{nat_tests}
use Rattle.std.proofs.lemmas.Bool.{false≢true}
use Rattle.std.proofs.lemmas.Nat.{from_le_bytes-to_le_bytes_2, from_le_bytes-to_le_bytes_4, from_le_bytes-to_le_bytes_8}
use Rattle.std.proofs.lemmas.Slice.Eq.{bytes_eq-Decides}
use Rattle.std.specs.Int.{w16, w32, w64, to_le_bytes}
use Rattle.std.specs.List.{flat_map}
use Rattle.std.specs.Str.{bytes_eq}
use Rattle.std.proofs.Math.Seq.{take-append_seam, drop-append_seam}
use Rattle.std.proofs.lemmas.List.{append-nil, take_more, take-take, drop_all, length-take}
use Rattle.std.proofs.Math.Seq.{drop-cons}
use Rattle.std.specs.Result.{OnErr}
use Rattle.std.specs.Prelude.{Result, Ok, Err}
use Rattle.std.proofs.lemmas.Grind.{flat_map-append}
use Rattle.xs_stream.specs.declared.field.Field.{Field}
use Rattle.xs_stream.specs.declared.id.Id.{Id}
use Rattle.xs_stream.specs.PackedNumber.{number_code, first_number, after_number, head_number}
use Rattle.xs_stream.specs.PackedText.{text_code, first_text, after_text}
use Rattle.xs_stream.specs.Packed.{names_code, all_named, has_names, field_code, body_code, fields_in, body_fields}
use Rattle.xs_stream.specs.Packed.{ms_code, first_ms, entry_code, entry_id, entry_body, after_entry, packed_entries}
use Rattle.xs_stream.specs.Packed.{entries_code}

pub first_number-code : (n : ℕ) (rest : List ℕ) → first_number (number_code n ++ rest) ≡ n
unfolding number_code first_number
first_number-code n rest = by (ltb n 253) (ltb n (2 ^ 16)) (ltb n (2 ^ 32)) (ltb n (2 ^ 64)) refl refl refl refl where
  by : (s t u v : Bool) → ltb n 253 ≡ s → ltb n (2 ^ 16) ≡ t → ltb n (2 ^ 32) ≡ u → ltb n (2 ^ 64) ≡ v
      → first_number (cond s (n ∷ []) (cond t (253 ∷ to_le_bytes w16 n) (cond u (254 ∷ to_le_bytes w32 n) (cond v (255 ∷ to_le_bytes w64 n) (256 ∷ n ∷ [])))) ++ rest) ≡ n
  by true t u v e f g h = rw e refl
  by false true u v e f g h = from_le_bytes-to_le_bytes_2 n (grind (arith, nat_tests))
  by false false true v e f g h = from_le_bytes-to_le_bytes_4 n (grind (arith, nat_tests))
  by false false false true e f g h = from_le_bytes-to_le_bytes_8 n (grind (arith, nat_tests))
  by false false false false e f g h = refl

pub after_number-code : (n : ℕ) (rest : List ℕ) → after_number (number_code n ++ rest) ≡ rest
unfolding number_code after_number
after_number-code n rest = by (ltb n 253) (ltb n (2 ^ 16)) (ltb n (2 ^ 32)) (ltb n (2 ^ 64)) refl where
  by : (s t u v : Bool) → ltb n 253 ≡ s
      → after_number (cond s (n ∷ []) (cond t (253 ∷ to_le_bytes w16 n) (cond u (254 ∷ to_le_bytes w32 n) (cond v (255 ∷ to_le_bytes w64 n) (256 ∷ n ∷ [])))) ++ rest) ≡ rest
  by true t u v e = rw e refl
  by false true u v e = refl
  by false false true v e = refl
  by false false false true e = refl
  by false false false false e = refl

pub first_text-code : (t rest : List ℕ) → first_text (text_code t ++ rest) ≡ t
unfolding text_code first_text
first_text-code t rest =
    rw (append_assoc, first_number-code (length t) (t ++ rest), after_number-code (length t) (t ++ rest)) (take-append_seam t rest)

pub after_text-code : (t rest : List ℕ) → after_text (text_code t ++ rest) ≡ rest
unfolding text_code after_text
after_text-code t rest =
    rw (append_assoc, first_number-code (length t) (t ++ rest), after_number-code (length t) (t ++ rest)) (drop-append_seam t rest)

-- ---- fields

fields_in-beside : (f : Field) (count : ℕ) (names bytes rest : List ℕ) → bytes ≡ text_code f.name ++ (text_code f.value ++ rest) → fields_in false (suc count) names bytes ≡ f ∷ fields_in false count names rest
fields_in-beside f count names bytes rest e =
    rw (e, first_text-code f.name (text_code f.value ++ rest), after_text-code f.name (text_code f.value ++ rest), first_text-code f.value rest, after_text-code f.value rest) refl

fields_in-unshared : (fields : List Field) (names rest : List ℕ) → fields_in false (length fields) names (flat_map (field_code false) fields ++ rest) ≡ fields
fields_in-unshared [] names rest = refl
fields_in-unshared (f ∷ fs) names rest =
    fields_in-beside f (length fs) names _ (flat_map (field_code false) fs ++ rest) (simp append_assoc) ∙ ap (λ left. f ∷ left) (fields_in-unshared fs names rest)

and_both : (s t : Bool) → (s && t) ≡ true → (s ≡ true) × (t ≡ true)
and_both true t e = (refl, e)
and_both false t e = absurd (false≢true e)

fields_in-apart : (f : Field) (count : ℕ) (names rest : List ℕ) → first_text names ≡ f.name → fields_in true (suc count) names (text_code f.value ++ rest) ≡ f ∷ fields_in true count (after_text names) rest
fields_in-apart f count names rest e =
    rw (first_text-code f.value rest, after_text-code f.value rest) (ap (λ (n : List ℕ). record { name = n; value = f.value } ∷ fields_in true count (after_text names) rest) e)

fields_in-shared : (fields : List Field) (names rest : List ℕ) → all_named names fields ≡ true → fields_in true (length fields) names (flat_map (field_code true) fields ++ rest) ≡ fields
fields_in-shared [] names rest h = refl
fields_in-shared (f ∷ fs) names rest h =
    let both = and_both (bytes_eq (first_text names) f.name) (all_named (after_text names) fs) h in
    let named : first_text names ≡ f.name = (bytes_eq-Decides (first_text names) f.name).0 both.0 in
    rw append_assoc (fields_in-apart f (length fs) names (flat_map (field_code true) fs ++ rest) named ∙ ap (λ left. f ∷ left) (fields_in-shared fs (after_text names) rest both.1))

named : (names : List ℕ) (fields : List Field) → has_names names fields ≡ true → (first_number names ≡ length fields) × (all_named (after_number names) fields ≡ true)
unfolding has_names
named names fields h =
    let some = and_both (not (eqb (length names) 0)) (eqb (first_number names) (length fields) && all_named (after_number names) fields) h in
    let both = and_both (eqb (first_number names) (length fields)) (all_named (after_number names) fields) some.1 in
    let same : eqb (first_number names) (length fields) ≡ true = both.0 in
    (grind (arith, nat_tests), both.1)

body_fields-shared : (names : List ℕ) (fields : List Field) → has_names names fields ≡ true → body_fields names (body_code true fields) ≡ fields
unfolding body_fields body_code
body_fields-shared names fields h =
    let is = named names fields h in
    rw (first_number-code 0 (flat_map (field_code true) fields), after_number-code 0 (flat_map (field_code true) fields), is.0)
    (ap (fields_in true (length fields) (after_number names)) (sym (append-nil (flat_map (field_code true) fields))) ∙ fields_in-shared fields (after_number names) [] is.1)

body_fields-unshared : (names : List ℕ) (fields : List Field) → body_fields names (body_code false fields) ≡ fields
unfolding body_fields body_code
body_fields-unshared names fields =
    let some : eqb (length fields + 1) 0 ≡ false = grind (arith, nat_tests) in
    let count : length fields + 1 - 1 ≡ length fields = omega arith in
    rw (first_number-code (length fields + 1) (flat_map (field_code false) fields), after_number-code (length fields + 1) (flat_map (field_code false) fields), some, count)
    (ap (fields_in false (length fields) names) (sym (append-nil (flat_map (field_code false) fields))) ∙ fields_in-unshared fields names [])

-- the fields that are read from the body of an entry that was written over these names
pub body_fields-code : (names : List ℕ) (fields : List Field) → body_fields names (body_code (has_names names fields) fields) ≡ fields
body_fields-code names fields = by (has_names names fields) refl where
  by : (t : Bool) → has_names names fields ≡ t → body_fields names (body_code t fields) ≡ fields
  by true h = body_fields-shared names fields h
  by false h = body_fields-unshared names fields

-- fields have the names that are written for them
all_named-own : (fields : List Field) (rest : List ℕ) → all_named (flat_map (λ f. text_code f.name) fields ++ rest) fields ≡ true
all_named-own [] rest = refl
all_named-own (f ∷ fs) rest =
    let others = flat_map (λ f. text_code f.name) fs ++ rest in
    let own : bytes_eq (first_text (text_code f.name ++ others)) f.name ≡ true = (bytes_eq-Decides (first_text (text_code f.name ++ others)) f.name).1 (first_text-code f.name others) in
    rw (append_assoc, own, after_text-code f.name others) (all_named-own fs rest)

number_code-some : (n : ℕ) (rest : List ℕ) → eqb (length (number_code n ++ rest)) 0 ≡ false
unfolding number_code
number_code-some n rest = by (ltb n 253) (ltb n (2 ^ 16)) (ltb n (2 ^ 32)) (ltb n (2 ^ 64)) where
  some : (n : ℕ) → eqb (suc n) 0 ≡ false
  some n = grind (arith, nat_tests)

  by : (s t u v : Bool)
      → eqb (length (cond s (n ∷ []) (cond t (253 ∷ to_le_bytes w16 n) (cond u (254 ∷ to_le_bytes w32 n) (cond v (255 ∷ to_le_bytes w64 n) (256 ∷ n ∷ [])))) ++ rest)) 0 ≡ false
  by true t u v = some _
  by false true u v = some _
  by false false true v = some _
  by false false false true = some _
  by false false false false = some _

pub has_names-own : (fields : List Field) → has_names (names_code fields) fields ≡ true
unfolding has_names names_code
has_names-own fields =
    let names = flat_map (λ f. text_code f.name) fields in
    let count : eqb (length fields) (length fields) ≡ true = grind (arith, nat_tests) in
    rw (number_code-some (length fields) names, first_number-code (length fields) names, after_number-code (length fields) names, count) (ap (λ b. all_named b fields) (sym (append-nil names)) ∙ all_named-own fields [])

-- ---- entries

-- a number's code begins with no mark of milliseconds
head-number_code : (n : ℕ) (rest : List ℕ) → n < 2 ^ 64 → eqb (head_number (number_code n ++ rest)) 257 ≡ false
unfolding number_code
head-number_code n rest small = by (ltb n 253) (ltb n (2 ^ 16)) (ltb n (2 ^ 32)) (ltb n (2 ^ 64)) refl refl where
  by : (s t u v : Bool) → ltb n 253 ≡ s → ltb n (2 ^ 64) ≡ v
      → eqb (head_number (cond s (n ∷ []) (cond t (253 ∷ to_le_bytes w16 n) (cond u (254 ∷ to_le_bytes w32 n) (cond v (255 ∷ to_le_bytes w64 n) (256 ∷ n ∷ [])))) ++ rest)) 257 ≡ false
  by true t u v e f = grind (arith, nat_tests)
  by false true u v e f = refl
  by false false true v e f = refl
  by false false false true e f = refl
  by false false false false e f = refl

wrapped : (base ms : ℕ) → base < 2 ^ 64 → ms < 2 ^ 64 → (base + (ms + (2 ^ 64 - base)) % 2 ^ 64) % 2 ^ 64 ≡ ms
wrapped base ms fits small = omega arith

pub first_ms-code : (base ms : ℕ) (rest : List ℕ) → base < 2 ^ 64 → first_ms base (ms_code base ms ++ rest) ≡ ms
unfolding ms_code first_ms
first_ms-code base ms rest fits = by (ltb ms (2 ^ 64)) refl where
  by : (t : Bool) → ltb ms (2 ^ 64) ≡ t
      → cond (eqb (head_number (cond t (number_code ((ms + (2 ^ 64 - base)) % 2 ^ 64)) (257 ∷ ms ∷ []) ++ rest)) 257) (head_number (drop 1 (cond t (number_code ((ms + (2 ^ 64 - base)) % 2 ^ 64)) (257 ∷ ms ∷ []) ++ rest)))
      ((base + first_number (cond t (number_code ((ms + (2 ^ 64 - base)) % 2 ^ 64)) (257 ∷ ms ∷ []) ++ rest)) % 2 ^ 64) ≡ ms
  by true e =
      let small : ms < 2 ^ 64 = grind (arith, nat_tests) in
      rw (head-number_code ((ms + (2 ^ 64 - base)) % 2 ^ 64) rest (omega arith), first_number-code ((ms + (2 ^ 64 - base)) % 2 ^ 64) rest) (wrapped base ms fits small)
  by false e = refl

pub after_number-ms_code : (base ms : ℕ) (rest : List ℕ) → after_number (ms_code base ms ++ rest) ≡ rest
unfolding ms_code after_number
after_number-ms_code base ms rest = by (ltb ms (2 ^ 64)) where
  by : (s : Bool) → after_number (cond s (number_code ((ms + (2 ^ 64 - base)) % 2 ^ 64)) (257 ∷ ms ∷ []) ++ rest) ≡ rest
  by true = after_number-code ((ms + (2 ^ 64 - base)) % 2 ^ 64) rest
  by false = refl

-- an entry at the front
module _ (base : ℕ) (shared : Bool) (e : Id × List Field) (rest : List ℕ) where
  parted : entry_code base shared e ++ rest ≡ ms_code base e.0.ms ++ (number_code e.0.seq ++ (text_code (body_code shared e.1) ++ rest))
  unfolding entry_code
  parted = simp append_assoc

  pub entry_id-code : base < 2 ^ 64 → entry_id base (entry_code base shared e ++ rest) ≡ e.0
  unfolding entry_id
  entry_id-code fits =
      rw (parted, first_ms-code base e.0.ms (number_code e.0.seq ++ (text_code (body_code shared e.1) ++ rest)) fits, after_number-ms_code base e.0.ms (number_code e.0.seq ++ (text_code (body_code shared e.1) ++ rest)), first_number-code e.0.seq (text_code (body_code shared e.1) ++ rest)) refl

  pub entry_body-code : entry_body (entry_code base shared e ++ rest) ≡ body_code shared e.1
  unfolding entry_body
  entry_body-code =
      rw (parted, after_number-ms_code base e.0.ms (number_code e.0.seq ++ (text_code (body_code shared e.1) ++ rest)), after_number-code e.0.seq (text_code (body_code shared e.1) ++ rest), first_text-code (body_code shared e.1) rest) refl

  pub after_entry-code : after_entry (entry_code base shared e ++ rest) ≡ rest
  unfolding after_entry
  after_entry-code =
      rw (parted, after_number-ms_code base e.0.ms (number_code e.0.seq ++ (text_code (body_code shared e.1) ++ rest)), after_number-code e.0.seq (text_code (body_code shared e.1) ++ rest), after_text-code (body_code shared e.1) rest) refl

pub entries_in-code : (base : ℕ) (names : List ℕ) (es : List (Id × List Field)) (rest : List ℕ) → base < 2 ^ 64 → packed_entries base names (length es) (entries_code base names es ++ rest) ≡ es
entries_in-code base names [] rest fits = refl
entries_in-code base names (e ∷ es) rest fits =
    let shared = has_names names e.1 in
    let others = entries_code base names es ++ rest in
    rw (append_assoc, entry_id-code base shared e others fits, entry_body-code base shared e others, body_fields-code names e.1, after_entry-code base shared e others)
    (ap (λ left. e ∷ left) (entries_in-code base names es rest fits))

-- entries are read from their own code
pub entries_in-whole : (base : ℕ) (names : List ℕ) (es : List (Id × List Field)) → base < 2 ^ 64 → packed_entries base names (length es) (entries_code base names es) ≡ es
entries_in-whole base names es fits = ap (packed_entries base names (length es)) (sym (append-nil (entries_code base names es))) ∙ entries_in-code base names es [] fits

pub length-fields_in : (shared : Bool) (count : ℕ) (names bytes : List ℕ) → length (fields_in shared count names bytes) ≡ count
length-fields_in shared zero names bytes = refl
length-fields_in true (suc count) names bytes = ap suc (length-fields_in true count (after_text names) (after_text bytes))
length-fields_in false (suc count) names bytes = ap suc (length-fields_in false count names (after_text (after_text bytes)))

pub length-entries_in : (base : ℕ) (names : List ℕ) (count : ℕ) (bytes : List ℕ) → length (packed_entries base names count bytes) ≡ count
length-entries_in base names zero bytes = refl
length-entries_in base names (suc count) bytes = ap suc (length-entries_in base names count (after_entry bytes))

-- bytes contain no mark of milliseconds
pub first_ms-bytes : (base : ℕ) (bytes : List ℕ) → ((k : ℕ) → get_or bytes k 0 < 256) → first_ms base bytes ≡ (base + first_number bytes) % 2 ^ 64
unfolding first_ms
first_ms-bytes base [] h = refl
first_ms-bytes base (x ∷ rest) h =
    let small : x < 256 = h 0 in
    let e : eqb x 257 ≡ false = grind (arith, nat_tests) in
    rw e refl

-- an id both of whose numbers take one byte
pub short-id : (base : ℕ) (bytes : List ℕ) (above seq : ℕ) → 2 ≤ length bytes → above ≡ get_or bytes 0 0 → seq ≡ get_or bytes 1 0 → get_or bytes 0 0 < 253 → get_or bytes 1 0 < 253
    → record { ms = (base + above) % 2 ^ 64; seq = seq } ≡ entry_id base bytes
unfolding entry_id first_ms first_number after_number
short-id base [] above seq h e f m s = absurd (omega arith)
short-id base (x ∷ []) above seq h e f m s = absurd (omega arith)
short-id base (x ∷ (y ∷ rest)) above seq h e f m s =
    let mark : eqb x 257 ≡ false = grind (arith, nat_tests) in
    let first : ltb x 253 ≡ true = grind (arith, nat_tests) in
    let second : ltb y 253 ≡ true = grind (arith, nat_tests) in
    rw (mark, first, second, e, f) refl

-- ---- what is written one after the other

pub flat_map-more : (code : Field → List ℕ) (fields : List Field) (i : ℕ) (d : Field) → i < length fields → flat_map code (take (i + 1) fields) ≡ flat_map code (take i fields) ++ code (get_or fields i d)
flat_map-more code fields i d h = rw (take_more fields i d h, flat_map-append) (ap (λ last. flat_map code (take i fields) ++ last) (append-nil _))

pub length-flat_map_more : (code : Field → List ℕ) (front : List ℕ) (fields : List Field) (i : ℕ) (d : Field) (size more : ℕ) → i < length fields
    → size ≡ length (front ++ flat_map code (take i fields)) → more ≡ length (code (get_or fields i d)) → size + more ≡ length (front ++ flat_map code (take (i + 1) fields))
length-flat_map_more code front fields i d size more h e f =
    rw (flat_map-more code fields i d h, length-append, length-append) (omega (arith, length-append front (flat_map code (take i fields)), e, f))

-- what was there before several writes is still there
pub kept-before : (before more now last : List ℕ) (n m : ℕ) → now ≡ before ++ more → take m last ≡ now → n ≡ length before → m ≡ length now → take n last ≡ before
kept-before before more now last n m e f g h =
    let shorter : n ≤ m = omega (arith, ap length e, length-append before more) in
    sym (take-take n m last shorter) ∙ ap (take n) (f ∙ e) ∙ rw g (take-append_seam before more)

-- what is at the front stays there
pub kept-first : (before now last : List ℕ) (n m : ℕ) → take n now ≡ before → n ≡ length before → take m last ≡ now → m ≡ length now → take n last ≡ before
kept-first before now last n m e f g h =
    let shorter : n ≤ m = omega (arith, ap length e, length-take n now, f, h) in
    sym (take-take n m last shorter) ∙ ap (take n) g ∙ e

pub kept-more : (before now more new : List ℕ) (n : ℕ) → take n now ≡ before → n ≡ length before → new ≡ now ++ more → take n new ≡ before
kept-more before now more new n e f g = kept-first before now new n (length now) e f (ap (take (length now)) g ∙ take-append_seam now more) refl

pub on_err-holds : {T E : Type 0} {P : Type 0} (r : Result T E) → P → OnErr r P
on_err-holds (Ok x) h = tt
on_err-holds (Err e) h = h

-- ---- names that are compared

-- missing names are those of no fields
pub has_names-missing : (names : List ℕ) (fields : List Field) → eqb (length names) 0 ≡ true → false ≡ has_names names fields
unfolding has_names
has_names-missing names fields none = rw none refl

pub has_names-other_count : (names : List ℕ) (fields : List Field) (count : ℕ) → eqb (length names) 0 ≡ false → count ≡ first_number names → (count ≡ length fields → ⊥) → false ≡ has_names names fields
unfolding has_names
has_names-other_count names fields count some e other =
    let unlike : eqb (first_number names) (length fields) ≡ false = grind (arith, nat_tests) in
    rw (some, unlike) refl

pub has_names-same_count : (names : List ℕ) (fields : List Field) (count : ℕ) → eqb (length names) 0 ≡ false → count ≡ first_number names → count ≡ length fields → has_names names fields ≡ all_named (after_number names) fields
unfolding has_names
has_names-same_count names fields count some e same =
    let yes : eqb (first_number names) (length fields) ≡ true = grind (arith, nat_tests) in
    rw (some, yes) refl

pub other_name : (names : List ℕ) (fields : List Field) (i : ℕ) (f : Field) (name own : List ℕ) → i < length fields → f ≡ get_or fields i f → name ≡ first_text names → own ≡ f.name → bytes_eq name own ≡ false → all_named names (drop i fields) ≡ false
other_name names fields i f name own h is e g fails =
    let first : drop i fields ≡ f ∷ drop (suc i) fields = drop-cons fields i f h ∙ ap (λ (x : Field). x ∷ drop (suc i) fields) (sym is) in
    let other : bytes_eq (first_text names) f.name ≡ false = ap (λ n. bytes_eq n f.name) (sym e) ∙ ap (bytes_eq name) (sym g) ∙ fails in
    rw (first, other) refl

pub none_left : (names : List ℕ) (fields : List Field) (i : ℕ) → length fields ≤ i → all_named names (drop i fields) ≡ true
none_left names fields i h = ap (all_named names) (drop_all i fields h)

pub true-not : (t u : Bool) → t ≡ not u → t ≡ true → u ≡ false
true-not t true e f = absurd (false≢true (sym e ∙ f))
true-not t false e f = refl

-- ---- the result of several writes

pub written-names : (fields : List Field) (size : ℕ) → size ≡ length (names_code fields) → number_code size ++ (number_code (length fields) ++ flat_map (λ f. text_code f.name) fields) ≡ text_code (names_code fields)
unfolding text_code names_code
written-names fields size e = ap (λ n. number_code n ++ (number_code (length fields) ++ flat_map (λ f. text_code f.name) fields)) e

pub written-entry : (base : ℕ) (shared : Bool) (id : Id) (fields : List Field) (size : ℕ) (out a b d last : List ℕ) → id.ms < 2 ^ 64
    → a ≡ out ++ number_code ((id.ms + (2 ^ 64 - base)) % 2 ^ 64) → b ≡ a ++ number_code id.seq → d ≡ b ++ number_code size → size ≡ length (body_code shared fields) → last ≡ d ++ body_code shared fields
    → last ≡ out ++ entry_code base shared (id, fields)
unfolding entry_code text_code ms_code
written-entry base shared id fields size out a b d last small e f g h i =
    let fits : ltb id.ms (2 ^ 64) ≡ true = grind (arith, nat_tests) in
    i ∙ rw (g, f, e, h, fits) (simp append_assoc)

pub written-packed : (base : ℕ) (id : Id) (body out a b last : List ℕ) → id.ms < 2 ^ 64
    → a ≡ out ++ number_code ((id.ms + (2 ^ 64 - base)) % 2 ^ 64) → b ≡ a ++ number_code id.seq → last ≡ b ++ text_code body
    → last ≡ out ++ (ms_code base id.ms ++ (number_code id.seq ++ text_code body))
unfolding ms_code
written-packed base id body out a b last small e f g =
    let fits : ltb id.ms (2 ^ 64) ≡ true = grind (arith, nat_tests) in
    g ∙ rw (f, e, fits) (simp append_assoc)

pub appended-three : (out a b d x y z : List ℕ) → a ≡ out ++ x → b ≡ a ++ y → d ≡ b ++ z → d ≡ out ++ ((x ++ y) ++ z)
appended-three out a b d x y z e f g = rw (g, f, e) (simp append_assoc)
