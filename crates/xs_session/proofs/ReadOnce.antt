-- Bytes are requests in only one way, up to where no request begins.
use Rattle.std.proofs.Common.{◌≡◌, ℕ, List, [], ◌∷◌, ◌++◌, sym, ap, ◌∙◌, refl, append_assoc}
use Rattle.std.proofs.lemmas.List.{append_cancel_left}
use Rattle.xs_resp.specs.declared.read_fault.ProtocolFault.{ProtocolFault}
use Rattle.xs_resp.specs.Grammar.{Spells, SpellsAll, FaultIn}
use Rattle.xs_resp.specs.Reading.{request}
use Rattle.xs_resp.proofs.Decisions.{spelled-read, fault-request, spelling-only}

-- no front of these bytes is a request
abbrev pub BeginsNone : List ℕ → Type 0
BeginsNone bytes = (front rest : List ℕ) (words : List (List ℕ)) → bytes ≡ front ++ rest → Spells front words → ⊥

pub fault-begins : (bytes : List ℕ) (wrong : ProtocolFault) → FaultIn bytes wrong → BeginsNone bytes
fault-begins bytes wrong fault = λ front rest words is s.
    let read = sym (fault-request bytes wrong fault) ∙ ap request is ∙ spelled-read front words rest s in cc

pub read-once : (front rest begin more : List ℕ) (requests known : List (List (List ℕ))) → SpellsAll front requests → BeginsNone rest → SpellsAll begin known → BeginsNone more → front ++ rest ≡ begin ++ more
    → (requests ≡ known) × (rest ≡ more)
read-once front rest begin more [] [] none here too there e = (refl, ap (λ f. f ++ rest) (sym none) ∙ e ∙ ap (λ f. f ++ more) too)
read-once front rest begin more [] (words ∷ known) none here (first, others, is, s, all) there e =
    absurd (here first (others ++ more) words (ap (λ f. f ++ rest) (sym none) ∙ e ∙ ap (λ f. f ++ more) is ∙ append_assoc first others more) s)
read-once front rest begin more (words ∷ requests) [] (first, others, is, s, all) here none there e =
    absurd (there first (others ++ rest) words (ap (λ f. f ++ more) (sym none) ∙ sym e ∙ ap (λ f. f ++ rest) is ∙ append_assoc first others rest) s)
read-once front rest begin more (words ∷ requests) (names ∷ known) (first, others, is, s, all) here (one, behind, too, o, each) there e =
    let joined = sym (ap (λ f. f ++ rest) is ∙ append_assoc first others rest) ∙ e ∙ ap (λ f. f ++ more) too ∙ append_assoc one behind more in
    let same = spelling-only first one (others ++ rest) (behind ++ more) words names s o joined in
    let next = append_cancel_left first (others ++ rest) (behind ++ more) (joined ∙ ap (λ f. f ++ (behind ++ more)) (sym same.0)) in
    let deeper = read-once others rest behind more requests known all here each there next in
    (ap (λ w. w ∷ requests) same.1 ∙ ap (λ r. names ∷ r) deeper.0, deeper.1)
