-- What the next request of held bytes means for them.
use Rattle.std.proofs.Common.{◌≡◌, ℕ, ◌+◌, ◌<◌, ◌≤◌, true, false, List, [], ◌∷◌, ◌++◌, length, take, drop, Option, Some}
use Rattle.std.proofs.Common.{None, Result, Ok, Err, inl, inr, sym, ap, ◌∙◌, subst, refl, arith, append_assoc}
use Rattle.std.proofs.Common.{length-append, length-drop}
use Rattle.std.proofs.lemmas.List.{append-nil, length-take-le, take-append-drop, drop-append-le}
use Rattle.xs_resp.specs.declared.read_fault.ProtocolFault.{ProtocolFault}
use Rattle.xs_resp.specs.declared.read_fault.ReadFault.{ReadFault}
use Rattle.xs_resp.specs.declared.read_fault.ReadFault.TheVariants.{Memory}
use Rattle.xs_resp.specs.Grammar.{Spells, SpellsAll}
use Rattle.xs_resp.specs.Outcome.{Outcome, Keeps}
use Rattle.xs_resp.specs.Reading.{Found, request, words_in}
use Rattle.xs_resp.specs.HeldBytes.{Held, HasNext, Next, NextOf, Ready, ReadyOf, Skips, with_piece, front_of}
use Rattle.xs_resp.specs.HeldBytes.{held_length}
use Rattle.xs_resp.proofs.Decisions.{request-read, request-keeps}
use Rattle.xs_resp.proofs.Skipping.{skip-left}

-- a request was taken
pub record IsNext (bytes : List ℕ) (words : List (List ℕ)) (new : Held) : Type 0 where
  pub found : Found
  pub read : request bytes ≡ Ok (Some found)
  pub words_are : found.words ≡ words
  pub left : new ≡ Ok (drop found.end bytes)

next-of : (bytes : List ℕ) (outcome : Outcome Found) (words : List (List ℕ)) (new : Held) → request bytes ≡ outcome → NextOf bytes outcome (Ok (Some words)) new → IsNext bytes words new
next-of bytes (Ok (Some found)) words new e (inl (is, left)) = record { found = found; read = e; words_are = cc; left = left }
next-of bytes (Ok (Some found)) words new e (inr (is, left)) = cc
next-of bytes (Ok None) words new e (is, left) = cc
next-of bytes (Err wrong) words new e (is, left) = cc

pub next-words : (old : Held) (bytes : List ℕ) (words : List (List ℕ)) (new : Held) → old ≡ Ok bytes → Next old (Ok (Some words)) new → IsNext bytes words new
next-words old bytes words new e next = next-of bytes (request bytes) words new refl (subst (λ h. Next h (Ok (Some words)) new) e next)

none-of : (bytes : List ℕ) (outcome : Outcome Found) (new : Held) → request bytes ≡ outcome → NextOf bytes outcome (Ok None) new → (request bytes ≡ Ok None) × (new ≡ Ok bytes)
none-of bytes (Ok (Some found)) new e (inl (is, left)) = cc
none-of bytes (Ok (Some found)) new e (inr (is, left)) = cc
none-of bytes (Ok None) new e (is, left) = (e, left)
none-of bytes (Err wrong) new e (is, left) = cc

pub next-none : (old : Held) (bytes : List ℕ) (new : Held) → old ≡ Ok bytes → Next old (Ok None) new → (request bytes ≡ Ok None) × (new ≡ Ok bytes)
next-none old bytes new e next = none-of bytes (request bytes) new refl (subst (λ h. Next h (Ok None) new) e next)

pub next-same : (old new : Held) → Next old (Ok None) new → new ≡ old
next-same (Ok bytes) new next = (next-none (Ok bytes) bytes new refl next).1
next-same (Err wrong) new (is, left) = cc

fault-of : (bytes : List ℕ) (outcome : Outcome Found) (fault : ReadFault) (new : Held) → request bytes ≡ outcome → (fault ≡ Memory → ⊥) → NextOf bytes outcome (Err fault) new → (wrong : ProtocolFault) × (request bytes ≡ Err wrong)
fault-of bytes (Ok (Some found)) fault new e other (inl (is, left)) = cc
fault-of bytes (Ok (Some found)) fault new e other (inr (is, left)) = let same : fault ≡ Memory = cc in absurd (other same)
fault-of bytes (Ok None) fault new e other (is, left) = cc
fault-of bytes (Err wrong) fault new e other (is, left) = (wrong, e)

pub next-fault : (old : Held) (bytes : List ℕ) (fault : ReadFault) (new : Held) → old ≡ Ok bytes → (fault ≡ Memory → ⊥) → Next old (Err fault) new → (wrong : ProtocolFault) × (request bytes ≡ Err wrong)
next-fault old bytes fault new e other next = fault-of bytes (request bytes) fault new refl other (subst (λ h. Next h (Err fault) new) e next)

-- a request has bytes
spelled-some : (bytes : List ℕ) (words : List (List ℕ)) → Spells bytes words → 0 < length bytes
spelled-some bytes words spells = elim spells.spelled [ inl is ↦ omega (arith, ap length is) | inr is ↦ omega (arith, ap length is.1) ]

-- a request that was taken leaves fewer bytes
pub next-shorter : (old : Held) (words : List (List ℕ)) (new : Held) → Next old (Ok (Some words)) new → held_length new < held_length old
next-shorter (Ok bytes) words new next =
    let is = next-words (Ok bytes) bytes words new refl next in
    let read = request-read bytes is.found is.read in
    let some = spelled-some (take is.found.end bytes) is.found.words read.spells in
    let len = length-take-le is.found.end bytes read.within in
    omega (arith, ap held_length is.left, length-drop is.found.end bytes, some, len, read.within)
next-shorter (Err wrong) words new (is, left) = cc

-- a complete request is at the front of what is held
ready-of : (bytes : List ℕ) (outcome : Outcome Found) (new : Held) → request bytes ≡ outcome → ReadyOf bytes outcome (Ok true) new → HasNext new × (new ≡ Ok bytes)
ready-of bytes (Ok (Some found)) new e (is, same) = (record { bytes = bytes; holds = same; whole = (found, e) }, same)
ready-of bytes (Ok None) new e (is, same) = cc
ready-of bytes (Err wrong) new e (is, same) = cc

pub ready-front : (old new : Held) → Ready old (Ok true) new → HasNext new × (new ≡ old)
ready-front (Ok bytes) new ready = ready-of bytes (request bytes) new refl ready
ready-front (Err wrong) new (is, same) = cc

-- it is the next one, once it is dropped
next-dropped : (bytes : List ℕ) (outcome : Outcome Found) (words : List (List ℕ)) (new : Held) → request bytes ≡ outcome → words ≡ words_in outcome → Skips (Ok bytes) new
    → NextOf bytes outcome (Ok (Some words)) new
next-dropped bytes (Ok (Some found)) words new e are skips = inl (ap (λ ws. Ok (Some ws)) are, skip-left (Ok bytes) bytes found new skips refl e)
next-dropped bytes (Ok None) words new e are skips = absurd (let same : skips.bytes ≡ bytes = let holds = skips.holds in cc in let read = sym skips.read ∙ ap request same ∙ e in cc)
next-dropped bytes (Err wrong) words new e are skips = absurd (let same : skips.bytes ≡ bytes = let holds = skips.holds in cc in let read = sym skips.read ∙ ap request same ∙ e in cc)

next-skipped : (held : Held) (words : List (List ℕ)) (new : Held) → words ≡ front_of held → Skips held new → Next held (Ok (Some words)) new
next-skipped (Ok bytes) words new are skips = next-dropped bytes (request bytes) words new refl are skips
next-skipped (Err wrong) words new are skips = absurd (let holds = skips.holds in cc)

pub ready-next : (old held : Held) (words : List (List ℕ)) (new : Held) → Ready old (Ok true) held → words ≡ front_of held → Skips held new → Next old (Ok (Some words)) new
ready-next old held words new ready are skips =
    subst (λ h. Next h (Ok (Some words)) new) (ready-front old held ready).1 (next-skipped held words new are skips)

-- a request that isn't complete is none yet
whole-none : (bytes : List ℕ) (outcome : Outcome Found) (new : Held) → ReadyOf bytes outcome (Ok false) new → NextOf bytes outcome (Ok None) new
whole-none bytes (Ok (Some found)) new (is, same) = cc
whole-none bytes (Ok None) new (is, same) = (refl, same)
whole-none bytes (Err wrong) new (is, same) = cc

pub ready-none : (old new : Held) → Ready old (Ok false) new → Next old (Ok None) new
ready-none (Ok bytes) new ready = whole-none bytes (request bytes) new ready
ready-none (Err wrong) new (is, same) = cc

-- a fault is that of the bytes
wrong-of : (bytes : List ℕ) (outcome : Outcome Found) (fault : ReadFault) (new : Held) → request bytes ≡ outcome → ReadyOf bytes outcome (Err fault) new → (wrong : ProtocolFault) × (request bytes ≡ Err wrong)
wrong-of bytes (Ok (Some found)) fault new e (is, same) = cc
wrong-of bytes (Ok None) fault new e (is, same) = cc
wrong-of bytes (Err wrong) fault new e (is, same) = (wrong, e)

pub ready-wrong : (old : Held) (bytes : List ℕ) (fault : ReadFault) (new : Held) → old ≡ Ok bytes → Ready old (Err fault) new → (wrong : ProtocolFault) × (request bytes ≡ Err wrong)
ready-wrong old bytes fault new is ready = wrong-of bytes (request bytes) fault new refl (subst (λ h. Ready h (Err fault) new) is ready)

-- a piece more
pub with-piece-length : (old : Held) (got : List ℕ) → held_length (with_piece old got) ≤ held_length old + length got
with-piece-length (Ok bytes) got = omega (arith, length-append bytes got)
with-piece-length (Err wrong) got = omega arith

-- ---- requests that were taken one after the other

-- one request more is spelled
spells-more : (front : List ℕ) (requests : List (List (List ℕ))) (first : List ℕ) (words : List (List ℕ)) → SpellsAll front requests → Spells first words
    → SpellsAll (front ++ first) (requests ++ words ∷ [])
spells-more front [] first words none spells = (first, [], ap (λ f. f ++ first) none ∙ sym (append-nil first), spells, refl)
spells-more front (other ∷ requests) first words (one, others, is, spelled, rest) spells =
    (one, others ++ first, ap (λ f. f ++ first) is ∙ append_assoc one others first, spelled, spells-more others requests first words rest spells)

-- the request that is read after others
pub record Took (read front rest : List ℕ) (requests : List (List (List ℕ))) (found : Found) : Type 0 where
  pub first : List ℕ
  pub split : rest ≡ first ++ drop found.end rest
  pub spells : Spells first found.words
  pub read_is : read ≡ (front ++ first) ++ drop found.end rest
  pub spelled : SpellsAll (front ++ first) (requests ++ found.words ∷ [])

pub took : (read front rest : List ℕ) (requests : List (List (List ℕ))) (found : Found) → read ≡ front ++ rest → SpellsAll front requests → request rest ≡ Ok (Some found)
    → Took read front rest requests found
took read front rest requests found is spelled next =
    let stands = request-read rest found next in
    let first = take found.end rest in
    let split : rest ≡ first ++ drop found.end rest = sym (take-append-drop found.end rest) in
    record {
      first = first;
      split = split;
      spells = stands.spells;
      read_is = is ∙ ap (λ r. front ++ r) split ∙ sym (append_assoc front first (drop found.end rest));
      spelled = spells-more front requests first found.words spelled stands.spells;
    }

stays-of : (bytes more : List ℕ) (outcome : Outcome Found) (result : Result (Option (List (List ℕ))) ReadFault) (new : Held) → request bytes ≡ outcome → NextOf bytes outcome result new
    → Keeps outcome (request (bytes ++ more)) → (result ≡ Ok None → ⊥) → Next (Ok (bytes ++ more)) result (with_piece new more)
stays-of bytes more (Ok (Some found)) result new e (inl (is, left)) keeps some =
    let within = (request-read bytes found e).within in
    subst (λ o. NextOf (bytes ++ more) o result (with_piece new more)) (sym keeps)
    (inl (is, ap (λ h. with_piece h more) left ∙ ap Ok (sym (drop-append-le found.end bytes more within))))
stays-of bytes more (Ok (Some found)) result new e (inr (is, left)) keeps some =
    subst (λ o. NextOf (bytes ++ more) o result (with_piece new more)) (sym keeps) (inr (is, ap (λ h. with_piece h more) left))
stays-of bytes more (Ok None) result new e (is, left) keeps some = absurd (some is)
stays-of bytes more (Err wrong) result new e (is, left) keeps some =
    subst (λ o. NextOf (bytes ++ more) o result (with_piece new more)) (sym keeps) (is, ap (λ h. with_piece h more) left)

-- any result but None is the result on every continuation
pub next_stays : (old : Held) (result : Result (Option (List (List ℕ))) ReadFault) (new : Held) → Next old result new
    → (more : List ℕ) → (result ≡ Ok None → ⊥) → Next (with_piece old more) result (with_piece new more)
next_stays (Ok bytes) result new next more some = stays-of bytes more (request bytes) result new refl next (request-keeps bytes more) some
next_stays (Err wrong) result new (is, left) more some = (is, ap (λ h. with_piece h more) left)
