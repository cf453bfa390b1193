-- What a crash leaves of some bytes.
use Rattle.std.proofs.Common.{◌≡◌, ◌≢◌, inl, inr, ℕ, ◌≤◌, zero, suc, List, [], ◌∷◌, ◌++◌, length, take}
use Rattle.std.proofs.Common.{refl, sym, ap, ◌∙◌, arith, eqb, length-append}
use Rattle.std.proofs.lemmas.Bool.{cases_eq, eq-eqb, ne_eqb, cond-true, cond-false}
use Rattle.std.proofs.lemmas.List.{take-append-le, take-take}
use Rattle.xs_tape.specs.Crash.{HasNoZero, before_zero, IsWrittenOrZero, CrashLeaves}

pub before_zero-zero : (byte : ℕ) (rest : List ℕ) → byte ≡ 0 → before_zero (byte ∷ rest) ≡ []
before_zero-zero byte rest e = cond-true (eqb byte 0) _ _ (eq-eqb byte 0 e)

pub before_zero-more : (byte : ℕ) (rest : List ℕ) → byte ≢ 0 → before_zero (byte ∷ rest) ≡ byte ∷ before_zero rest
before_zero-more byte rest e = cond-false (eqb byte 0) _ _ (ne_eqb byte 0 e)

-- one list is the front of another
IsFront : List ℕ → List ℕ → Type 0
IsFront first all = (rest : List ℕ) × (all ≡ first ++ rest)

-- the bytes before the first zero were written
pub before_zero-written : (written file : List ℕ) → IsWrittenOrZero written file → (rest : List ℕ) × (written ≡ before_zero file ++ rest)
before_zero-written written [] faded = (written, refl)
before_zero-written [] (byte ∷ file) faded = ([], sym (ap (λ f. f ++ []) (before_zero-zero byte file faded.0)))
before_zero-written (one ∷ written) (byte ∷ file) faded =
    elim (cases_eq byte 0) [
      | inl none ↦ (one ∷ written, sym (ap (λ f. f ++ (one ∷ written)) (before_zero-zero byte file none)))
      | inr some ↦
          let more = before_zero-written written file faded.1 in
          let same : byte ≡ one = elim faded.0 [ inl is ↦ is | inr none ↦ absurd (some none) ] in
          (more.0, ap (λ b. b ∷ written) (sym same) ∙ ap (λ ws. byte ∷ ws) more.1 ∙ sym (ap (λ f. f ++ more.0) (before_zero-more byte file some)))
    ]

-- and contain all that was kept
pub before_zero-kept : (kept : ℕ) (written file : List ℕ) → HasNoZero written → kept ≤ length written → take kept file ≡ take kept written → (more : List ℕ) × (before_zero file ≡ take kept written ++ more)
before_zero-kept zero written file none le same = (before_zero file, refl)
before_zero-kept (suc kept) [] file none le same = absurd (omega arith)
before_zero-kept (suc kept) (one ∷ written) [] none le same = absurd (cc)
before_zero-kept (suc kept) (one ∷ written) (byte ∷ file) none le same =
    let head : byte ≡ one = cc in
    let tail : take kept file ≡ take kept written = cc in
    let some : byte ≢ 0 = λ e. none.0 (sym head ∙ e) in
    let more = before_zero-kept kept written file none.1 (omega (arith, le)) tail in
    (more.0, before_zero-more byte file some ∙ ap (λ f. byte ∷ f) more.1 ∙ ap (λ b. b ∷ (take kept written ++ more.0)) head)

-- more may be written
pub written-more : (written more file : List ℕ) → IsWrittenOrZero written file → IsWrittenOrZero (written ++ more) file
written-more written more [] faded = tt
written-more [] [] (byte ∷ file) faded = faded
written-more [] (one ∷ more) (byte ∷ file) faded = (inr faded.0, written-more [] more file faded.1)
written-more (one ∷ written) more (byte ∷ file) faded = (faded.0, written-more written more file faded.1)

pub leaves-more : (kept : ℕ) (written : List ℕ) (fewer : ℕ) (more file : List ℕ) → CrashLeaves kept written file → fewer ≤ kept → CrashLeaves fewer (written ++ more) file
leaves-more kept written fewer more file leaves le = record {
  within = omega (arith, le, leaves.within, length-append written more);
  sure = sym (take-take fewer kept file le) ∙ ap (take fewer) leaves.sure ∙ take-take fewer kept written le ∙ sym (take-append-le fewer written more (omega (arith, le, leaves.within)));
  others = written-more written more file leaves.others;
}
