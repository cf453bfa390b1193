-- The words that read as a piece are those that are written for it.
use Rattle.std.proofs.Common.{◌≡◌, ℕ, ◌+◌, ◌*◌, ◌/◌, ◌%◌, ◌^◌, ◌<◌, nat_lt, true, List, [], ◌∷◌, decimal, codes, bytes_eq}
use Rattle.std.proofs.Common.{inl, inr, Option, Some, None, option_and_then, refl, ap, ◌∙◌, subst, arith}
use Rattle.std.proofs.lemmas.Bool.{and_parts, ltb-true}
use Rattle.std.proofs.lemmas.Slice.Eq.{bytes_eq-Decides}
use Rattle.std.specs.Option.{option_map}
use Rattle.std.specs.Prelude.{if◌then◌else◌}
use Rattle.xs_bytes.specs.Number.{is_number, has_leading_zero, value_of, number_of, natural_of}
use Rattle.xs_stream.specs.declared.id.Id.{Id}
use Rattle.xs_stream.specs.declared.field.Field.{Field}
use Rattle.xs_stream.specs.ConsistentStream.{IsId}
use Rattle.xs_stream.specs.IdText.{id_of_parts}
use Rattle.xs_resp.proofs.Reading.{chosen}
use Rattle.xs_tape.proofs.Naturals.{spelled_once}
use Rattle.xs_replay.specs.Pieces.{Piece, of_key, of_entry, of_group, of_consumer, of_row}
use Rattle.xs_replay.specs.PieceReading.{id_of_words, wide_of_parts, wide_of_words, small_of_word, fields_of_words, key_of_parts, key_of_words, entry_of_parts, entry_of_words, group_of_words, consumer_of_words, row_of_parts, row_of_words}
use Rattle.xs_replay.specs.PieceReading.{piece_of_words}
use Rattle.xs_replay.specs.SnapshotWords.{field_words, words_of_piece, Fits}

-- ---- numbers

natural-small : (text : List ℕ) (n : ℕ) → natural_of text ≡ Some n → n < 2 ^ 64
natural-small text n e =
    elim (chosen (has_leading_zero text) None (number_of text) (Some n) e) [
      | inl none ↦ absurd (cc (none.1))
      | inr some ↦ elim (chosen _ (Some (value_of text)) None (Some n) some.1) [
        | inl is ↦
            let small = ltb-true (value_of text) (2 ^ 64) (and_parts (is_number text) _ is.0).1 in
            let same : value_of text ≡ n = cc in
            omega (arith, small, same)
        | inr none ↦ absurd (cc (none.1))
      ]
    ]

pub record SaysId (ms seq : List ℕ) (id : Id) : Type 0 where
  pub ms_is : ms ≡ decimal id.ms
  pub seq_is : seq ≡ decimal id.seq
  pub fits : IsId id

id-said : (ms seq : List ℕ) (id : Id) → id_of_words ms seq ≡ Some id → SaysId ms seq id
id-said ms seq id e = by (natural_of ms) (natural_of seq) refl refl e
  where
    by : (m s : Option ℕ) → natural_of ms ≡ m → natural_of seq ≡ s → id_of_parts m s ≡ Some id → SaysId ms seq id
    by (Some m) (Some s) f g e =
        let same : record { ms = m; seq = s } ≡ id = cc in
        let one : natural_of ms ≡ Some id.ms = f ∙ ap (λ (i : Id). Some i.ms) same in
        let other : natural_of seq ≡ Some id.seq = g ∙ ap (λ (i : Id). Some i.seq) same in
        record { ms_is = spelled_once ms id.ms one; seq_is = spelled_once seq id.seq other; fits = (natural-small ms id.ms one, natural-small seq id.seq other) }
    by (Some m) None f g e = absurd (cc)
    by None (Some s) f g e = absurd (cc)
    by None None f g e = absurd (cc)

pub record SaysWide (high low : List ℕ) (n : ℕ) : Type 0 where
  pub high_is : high ≡ decimal (n / 2 ^ 64)
  pub low_is : low ≡ decimal (n % 2 ^ 64)
  pub fits : n < 2 ^ 128

wide-said : (high low : List ℕ) (n : ℕ) → wide_of_words high low ≡ Some n → SaysWide high low n
wide-said high low n e = by (natural_of high) (natural_of low) refl refl e
  where
    by : (h l : Option ℕ) → natural_of high ≡ h → natural_of low ≡ l → wide_of_parts h l ≡ Some n → SaysWide high low n
    by (Some h) (Some l) f g e =
        let same : h * 2 ^ 64 + l ≡ n = cc in
        let above = natural-small high h f in
        let below = natural-small low l g in
        let one : h ≡ n / 2 ^ 64 = omega (arith, same, below) in
        let other : l ≡ n % 2 ^ 64 = omega (arith, same, below) in
        record { high_is = spelled_once high h f ∙ ap decimal one; low_is = spelled_once low l g ∙ ap decimal other; fits = omega (arith, same, above, below) }
    by (Some h) None f g e = absurd (cc)
    by None (Some l) f g e = absurd (cc)
    by None None f g e = absurd (cc)

small-said : (word : List ℕ) (n : ℕ) → small_of_word word ≡ Some n → (word ≡ decimal n) × (n < 2 ^ 63)
small-said word n e = by (natural_of word) refl e
  where
    by : (m : Option ℕ) → natural_of word ≡ m → option_and_then (λ k. if nat_lt k (2 ^ 63) then Some k else None) m ≡ Some n → (word ≡ decimal n) × (n < 2 ^ 63)
    by None f e = absurd (cc)
    by (Some k) f e = elim (chosen (nat_lt k (2 ^ 63)) (Some k) None (Some n) e) [
      | inl is ↦
          let same : k ≡ n = cc in
          let less = ltb-true k (2 ^ 63) is.0 in
          (spelled_once word k f ∙ ap decimal same, omega (arith, less, same))
      | inr none ↦ absurd (cc (none.1))
    ]

-- ---- fields

field-more : (name value : List ℕ) (words : List (List ℕ)) (found : Option (List Field)) (fields : List Field) → ((fs : List Field) → found ≡ Some fs → words ≡ field_words fs)
    → option_map (λ fs. record { name = name; value = value } ∷ fs) found ≡ Some fields → name ∷ value ∷ words ≡ field_words fields
field-more name value words None fields rest e = absurd (cc)
field-more name value words (Some fs) fields rest e =
    let same : record { name = name; value = value } ∷ fs ≡ fields = cc in
    ap (λ ws. name ∷ value ∷ ws) (rest fs refl) ∙ ap field_words same

fields-said : (words : List (List ℕ)) (fields : List Field) → fields_of_words words ≡ Some fields → words ≡ field_words fields
fields-said [] fields e = let none : [] ≡ fields = cc in ap field_words none
fields-said (name ∷ []) fields e = absurd (cc)
fields-said (name ∷ value ∷ words) fields e = field-more name value words (fields_of_words words) fields (λ fs f. fields-said words fs f) e

-- ---- pieces

-- the values are those of the piece, and it is in range
pub record Says (kind : List ℕ) (values : List (List ℕ)) (piece : Piece) : Type 0 where
  pub words_are : kind ∷ values ≡ words_of_piece piece
  pub fits : Fits piece

key-said : (values : List (List ℕ)) (piece : Piece) → key_of_words values ≡ Some piece → Says (codes "KEY") values piece
key-said (name ∷ ms ∷ seq ∷ high ∷ low ∷ deleted_ms ∷ deleted_seq ∷ []) piece e =
    by (id_of_words ms seq) (wide_of_words high low) (id_of_words deleted_ms deleted_seq) refl refl refl e
  where
    by : (t : Option Id) (a : Option ℕ) (d : Option Id) → id_of_words ms seq ≡ t → wide_of_words high low ≡ a → id_of_words deleted_ms deleted_seq ≡ d → key_of_parts name t a d ≡ Some piece
        → Says (codes "KEY") (name ∷ ms ∷ seq ∷ high ∷ low ∷ deleted_ms ∷ deleted_seq ∷ []) piece
    by (Some t) (Some a) (Some d) f g h e =
        let same : of_key name t a d ≡ piece = cc in
        let one = id-said ms seq t f in
        let two = wide-said high low a g in
        let three = id-said deleted_ms deleted_seq d h in
        subst (λ p. Says (codes "KEY") (name ∷ ms ∷ seq ∷ high ∷ low ∷ deleted_ms ∷ deleted_seq ∷ []) p) same (record {
          words_are = rw (one.ms_is, one.seq_is, two.high_is, two.low_is, three.ms_is, three.seq_is) refl;
          fits = (one.fits, two.fits, three.fits);
        })
    by _ _ _ f g h e = absurd (cc)
key-said _ piece e = absurd (cc)

entry-said : (values : List (List ℕ)) (piece : Piece) → entry_of_words values ≡ Some piece → Says (codes "ENTRY") values piece
entry-said (ms ∷ seq ∷ words) piece e = by (id_of_words ms seq) (fields_of_words words) refl refl e
  where
    by : (i : Option Id) (fs : Option (List Field)) → id_of_words ms seq ≡ i → fields_of_words words ≡ fs → entry_of_parts i fs ≡ Some piece → Says (codes "ENTRY") (ms ∷ seq ∷ words) piece
    by (Some id) (Some fields) f g e =
        let same : of_entry id fields ≡ piece = cc in
        let one = id-said ms seq id f in
        subst (λ p. Says (codes "ENTRY") (ms ∷ seq ∷ words) p) same (record {
          words_are = rw (one.ms_is, one.seq_is, fields-said words fields g) refl;
          fits = one.fits;
        })
    by _ _ f g e = absurd (cc)
entry-said _ piece e = absurd (cc)

group-said : (values : List (List ℕ)) (piece : Piece) → group_of_words values ≡ Some piece → Says (codes "GROUP") values piece
group-said (name ∷ ms ∷ seq ∷ []) piece e = by (id_of_words ms seq) refl e
  where
    by : (i : Option Id) → id_of_words ms seq ≡ i → option_map (of_group name) i ≡ Some piece → Says (codes "GROUP") (name ∷ ms ∷ seq ∷ []) piece
    by (Some cursor) f e =
        let same : of_group name cursor ≡ piece = cc in
        let one = id-said ms seq cursor f in
        subst (λ p. Says (codes "GROUP") (name ∷ ms ∷ seq ∷ []) p) same (record { words_are = rw (one.ms_is, one.seq_is) refl; fits = one.fits })
    by None f e = absurd (cc)
group-said _ piece e = absurd (cc)

consumer-said : (values : List (List ℕ)) (piece : Piece) → consumer_of_words values ≡ Some piece → Says (codes "CONSUMER") values piece
consumer-said (name ∷ moment ∷ []) piece e = by (small_of_word moment) refl e
  where
    by : (m : Option ℕ) → small_of_word moment ≡ m → option_map (of_consumer name) m ≡ Some piece → Says (codes "CONSUMER") (name ∷ moment ∷ []) piece
    by (Some m) f e =
        let same : of_consumer name m ≡ piece = cc in
        let one = small-said moment m f in
        subst (λ p. Says (codes "CONSUMER") (name ∷ moment ∷ []) p) same (record { words_are = ap (λ w. codes "CONSUMER" ∷ name ∷ w ∷ []) one.0; fits = one.1 })
    by None f e = absurd (cc)
consumer-said _ piece e = absurd (cc)

row-said : (values : List (List ℕ)) (piece : Piece) → row_of_words values ≡ Some piece → Says (codes "ROW") values piece
row-said (ms ∷ seq ∷ consumer ∷ time ∷ count ∷ []) piece e = by (id_of_words ms seq) (small_of_word time) (small_of_word count) refl refl refl e
  where
    by : (i : Option Id) (t c : Option ℕ) → id_of_words ms seq ≡ i → small_of_word time ≡ t → small_of_word count ≡ c → row_of_parts i consumer t c ≡ Some piece
        → Says (codes "ROW") (ms ∷ seq ∷ consumer ∷ time ∷ count ∷ []) piece
    by (Some id) (Some t) (Some n) f g h e =
        let same : of_row id (record { consumer = consumer; time = t; count = n }) ≡ piece = cc in
        let one = id-said ms seq id f in
        let two = small-said time t g in
        let three = small-said count n h in
        subst (λ p. Says (codes "ROW") (ms ∷ seq ∷ consumer ∷ time ∷ count ∷ []) p) same (record {
          words_are = rw (one.ms_is, one.seq_is, two.0, three.0) refl;
          fits = (one.fits, two.1, three.1);
        })
    by _ _ _ f g h e = absurd (cc)
row-said _ piece e = absurd (cc)

-- ---- words

text-of : (a b : List ℕ) → bytes_eq a b ≡ true → a ≡ b
text-of a b e = (bytes_eq-Decides a b).0 e

pub words-said : (words : List (List ℕ)) (piece : Piece) → piece_of_words words ≡ Some piece → (words ≡ words_of_piece piece) × Fits piece
words-said [] piece e = absurd (cc)
words-said (kind ∷ values) piece e =
    elim (chosen (bytes_eq kind (codes "KEY")) _ _ _ e) [
      | inl is ↦ said (codes "KEY") is.0 (key-said values piece is.1)
      | inr other ↦ elim (chosen (bytes_eq kind (codes "ENTRY")) _ _ _ other.1) [
        | inl is ↦ said (codes "ENTRY") is.0 (entry-said values piece is.1)
        | inr other ↦ elim (chosen (bytes_eq kind (codes "GROUP")) _ _ _ other.1) [
          | inl is ↦ said (codes "GROUP") is.0 (group-said values piece is.1)
          | inr other ↦ elim (chosen (bytes_eq kind (codes "CONSUMER")) _ _ _ other.1) [
            | inl is ↦ said (codes "CONSUMER") is.0 (consumer-said values piece is.1)
            | inr other ↦ elim (chosen (bytes_eq kind (codes "ROW")) _ _ _ other.1) [
              | inl is ↦ said (codes "ROW") is.0 (row-said values piece is.1)
              | inr none ↦ absurd (cc (none.1))
            ]
          ]
        ]
      ]
    ]
  where
    said : (name : List ℕ) → bytes_eq kind name ≡ true → Says name values piece → (kind ∷ values ≡ words_of_piece piece) × Fits piece
    said name e says = (ap (λ k. k ∷ values) (text-of kind name e) ∙ says.words_are, says.fits)
