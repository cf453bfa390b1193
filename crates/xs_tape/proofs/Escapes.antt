-- Escaped words.
use Rattle.std.proofs.Common.{◌≡◌, ◌≢◌, ◌⊎◌, inl, inr, ℕ, zero, suc, ◌+◌, ◌≤◌, List, [], ◌∷◌, ◌++◌, length, map, refl, sym, ap, ◌∙◌, arith, eqb, append_assoc, length-append}
use Rattle.std.proofs.lemmas.Bool.{cases_eq, eq-eqb, ne_eqb, cond-true, cond-false}
use Rattle.xs_tape.specs.Escape.{escape, escaped}

pub escape-zero : (byte : ℕ) → byte ≡ 0 → escape byte ≡ 1 ∷ 1 ∷ []
escape-zero byte e = cond-true (eqb byte 0) _ _ (eq-eqb byte 0 e)

pub escape-one : (byte : ℕ) → byte ≡ 1 → escape byte ≡ 1 ∷ 2 ∷ []
escape-one byte e = cond-false (eqb byte 0) _ _ (ne_eqb byte 0 (λ z. absurd (omega (arith, e, z)))) ∙ cond-true (eqb byte 1) _ _ (eq-eqb byte 1 e)

pub escape-other : (byte : ℕ) → byte ≢ 0 → byte ≢ 1 → escape byte ≡ byte ∷ []
escape-other byte e f = cond-false (eqb byte 0) _ _ (ne_eqb byte 0 e) ∙ cond-false (eqb byte 1) _ _ (ne_eqb byte 1 f)

pub escape_pair : (byte : ℕ) → byte ≤ 1 → escape byte ≡ 1 ∷ (byte + 1) ∷ []
escape_pair zero le = refl
escape_pair (suc zero) le = refl
escape_pair (suc (suc byte)) le = absurd (omega arith)

-- one after the other
pub escaped-append : (xs ys : List ℕ) → escaped (xs ++ ys) ≡ escaped xs ++ escaped ys
escaped-append [] ys = refl
escaped-append (x ∷ xs) ys = ap (λ b. escape x ++ b) (escaped-append xs ys) ∙ sym (append_assoc (escape x) (escaped xs) (escaped ys))

-- a byte is written in one of three ways
pub record Ways (byte : ℕ) : Type 0 where
  pub way : ((byte ≡ 0) × (escape byte ≡ 1 ∷ 1 ∷ [])) ⊎ (((byte ≡ 1) × (escape byte ≡ 1 ∷ 2 ∷ [])) ⊎ ((byte ≢ 0) × (byte ≢ 1) × (escape byte ≡ byte ∷ [])))

pub ways : (byte : ℕ) → Ways byte
ways byte = record {
  way = elim (cases_eq byte 0) [
    | inl e ↦ inl (e, escape-zero byte e)
    | inr e ↦ elim (cases_eq byte 1) [
      | inl f ↦ inr (inl (f, escape-one byte f))
      | inr f ↦ inr (inr (e, f, escape-other byte e f))
    ]
  ];
}

-- the first byte of an escaped text is determined, whatever follows
pub escape-first : (byte other : ℕ) (rest more : List ℕ) → escape byte ++ rest ≡ escape other ++ more → (byte ≡ other) × (rest ≡ more)
escape-first byte other rest more e =
    elim (ways byte).way [
      | inl a ↦ elim (ways other).way [
        | inl b ↦ (cc, cc)
        | inr b ↦ elim b [
          | inl c ↦ absurd (cc)
          | inr c ↦ absurd (c.1 (cc))
        ]
      ]
      | inr a ↦ elim a [
        | inl a ↦ elim (ways other).way [
          | inl b ↦ absurd (cc)
          | inr b ↦ elim b [
            | inl c ↦ (cc, cc)
            | inr c ↦ absurd (c.1 (cc))
          ]
        ]
        | inr a ↦ elim (ways other).way [
          | inl b ↦ absurd (a.1 (cc))
          | inr b ↦ elim b [
            | inl c ↦ absurd (a.1 (cc))
            | inr c ↦ (cc, cc)
          ]
        ]
      ]
    ]

some-bytes : (byte : ℕ) (rest : List ℕ) → escape byte ++ rest ≢ []
some-bytes byte rest e =
    elim (ways byte).way [
      | inl a ↦ absurd (cc)
      | inr b ↦ elim b [ inl a ↦ absurd (cc) | inr a ↦ absurd (cc) ]
    ]

pub escaped-one : (word other : List ℕ) → escaped word ≡ escaped other → word ≡ other
escaped-one [] [] e = refl
escaped-one [] (b ∷ other) e = absurd (some-bytes b (escaped other) (sym e))
escaped-one (a ∷ word) [] e = absurd (some-bytes a (escaped word) e)
escaped-one (a ∷ word) (b ∷ other) e =
    let first = escape-first a b (escaped word) (escaped other) e in
    ap (λ x. x ∷ word) first.0 ∙ ap (λ ws. b ∷ ws) (escaped-one word other first.1)

pub escaped-all : (words others : List (List ℕ)) → map escaped words ≡ map escaped others → words ≡ others
escaped-all [] [] e = refl
escaped-all [] (b ∷ others) e = absurd (cc)
escaped-all (a ∷ words) [] e = absurd (cc)
escaped-all (a ∷ words) (b ∷ others) e =
    let head : escaped a ≡ escaped b = cc in
    let tail : map escaped words ≡ map escaped others = cc in
    ap (λ x. x ∷ words) (escaped-one a b head) ∙ ap (λ ws. b ∷ ws) (escaped-all words others tail)

-- a word that is no longer when it is escaped is unchanged by it
escaped-long : (word : List ℕ) → length word ≤ length (escaped word)
escaped-long [] = omega arith
escaped-long (byte ∷ word) =
    let longer = escaped-long word in
    let both = length-append (escape byte) (escaped word) in
    elim (ways byte).way [
      | inl a ↦ omega (arith, longer, both, ap length a.1)
      | inr b ↦ elim b [ inl a ↦ omega (arith, longer, both, ap length a.1) | inr a ↦ omega (arith, longer, both, ap length a.2) ]
    ]

pub short-plain : (word : List ℕ) → length (escaped word) ≤ length word → escaped word ≡ word
short-plain [] le = refl
short-plain (byte ∷ word) le =
    let longer = escaped-long word in
    let both = length-append (escape byte) (escaped word) in
    elim (ways byte).way [
      | inl a ↦ absurd (omega (arith, le, longer, both, ap length a.1))
      | inr b ↦ elim b [
        | inl a ↦ absurd (omega (arith, le, longer, both, ap length a.1))
        | inr a ↦ ap (λ first. first ++ escaped word) a.2 ∙ ap (λ rest. byte ∷ rest) (short-plain word (omega (arith, le, both, ap length a.2)))
      ]
    ]
