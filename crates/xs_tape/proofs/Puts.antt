-- Bytes that are put after a text.
use Rattle.std.proofs.Common.{◌≡◌, ℕ, true, false, List, [], ◌++◌, length, Option, Some, None, Ok, Err, refl, sym, ap, ◌∙◌, subst, arith, append_assoc, length-append}
use Rattle.std.specs.Prelude.{Bool, Result, is_err}
use Rattle.std.proofs.lemmas.List.{append-nil}
use mathlib.Core.List.{IsPrefix}
use Rattle.xs_tape.specs.Tape.{TapeBytes, Appends}
use Rattle.xs_tape.specs.Writing.{Writing, MayBeOnTape, Has, Puts}

-- a beginning of a text is one of a longer text
prefix-more : (written text more : List ℕ) → IsPrefix written text → IsPrefix written (text ++ more)
prefix-more written text more front = (front.0 ++ more, sym (append_assoc written front.0 more) ∙ ap (λ t. t ++ more) front.1)

-- ---- what is appended

append-on : (old new : Option TapeBytes) (pending piece bytes : List ℕ) (closed : List (List ℕ)) (text : List ℕ) (sure : ℕ) → Appends {E = Unit {0}} (Ok tt) bytes old new → bytes ≡ pending ++ piece
    → MayBeOnTape false pending old closed text sure → MayBeOnTape false [] new closed (text ++ piece) sure
append-on None None pending piece bytes closed text sure a b h = tt
append-on None (Some n) pending piece bytes closed text sure a b h = absurd a
append-on (Some o) None pending piece bytes closed text sure a b h = absurd a
append-on (Some o) (Some n) pending piece bytes closed text sure a b h =
    let written : n.written ≡ o.written ++ bytes = ap (λ (t : TapeBytes). t.written) a in
    let kept : n.kept ≡ o.kept = ap (λ (t : TapeBytes). t.kept) a in
    record {
      closed_is = ap (λ (t : TapeBytes). t.closed) a ∙ h.closed_is;
      text_is = append-nil n.written ∙ written ∙ ap (λ b. o.written ++ b) b ∙ sym (append_assoc o.written pending piece) ∙ ap (λ t. t ++ piece) h.text_is;
      kept_is = omega (arith, kept, h.kept_is);
      within = omega (arith, kept, ap length written, length-append o.written bytes, h.within);
    }

append-part : (old new : Option TapeBytes) (pending other piece bytes : List ℕ) (closed : List (List ℕ)) (text : List ℕ) (sure : ℕ) → Appends {E = Unit {0}} (Err tt) bytes old new → bytes ≡ pending ++ piece
    → MayBeOnTape false pending old closed text sure → MayBeOnTape true other new closed (text ++ piece) sure
append-part None None pending other piece bytes closed text sure a b h = tt
append-part None (Some n) pending other piece bytes closed text sure a b h = absurd a
append-part (Some o) None pending other piece bytes closed text sure a b h = absurd a
append-part (Some o) (Some n) pending other piece bytes closed text sure (part, rest, split, new_is) b h =
    let written : n.written ≡ o.written ++ part = ap (λ (t : TapeBytes). t.written) new_is in
    let kept : n.kept ≡ o.kept = ap (λ (t : TapeBytes). t.kept) new_is in
    record {
      closed_is = ap (λ (t : TapeBytes). t.closed) new_is ∙ h.closed_is;
      text_is = (rest, ap (λ w. w ++ rest) written ∙ append_assoc o.written part rest ∙ ap (λ b. o.written ++ b) (sym split ∙ b) ∙ sym (append_assoc o.written pending piece) ∙ ap (λ t. t ++ piece) h.text_is);
      kept_is = omega (arith, kept, h.kept_is);
      within = omega (arith, kept, ap length written, length-append o.written part, h.within);
    }

-- the same of a result
appends-ok : {E : Type 0} (result : Result (Unit {0}) E) (u : Unit {0}) (bytes : List ℕ) (old new : Option TapeBytes) → result ≡ Ok u → Appends result bytes old new → Appends {E = Unit {0}} (Ok tt) bytes old new
appends-ok (Err e) u bytes old new is a = absurd (cc (is))
appends-ok (Ok u) v bytes None None is a = tt
appends-ok (Ok u) v bytes None (Some n) is a = absurd a
appends-ok (Ok u) v bytes (Some o) None is a = absurd a
appends-ok (Ok u) v bytes (Some o) (Some n) is a = a

appends-err : {E : Type 0} (result : Result (Unit {0}) E) (e : E) (bytes : List ℕ) (old new : Option TapeBytes) → result ≡ Err e → Appends result bytes old new → Appends {E = Unit {0}} (Err tt) bytes old new
appends-err (Ok u) e bytes old new is a = absurd (cc (is))
appends-err (Err f) e bytes None None is a = tt
appends-err (Err f) e bytes None (Some n) is a = absurd a
appends-err (Err f) e bytes (Some o) None is a = absurd a
appends-err (Err f) e bytes (Some o) (Some n) is a = a

-- the state of a writing, by its parts
pub has-of : (broken : Bool) (pending : List ℕ) (writing : Writing) (closed : List (List ℕ)) (text : List ℕ) (sure : ℕ) → writing.broken ≡ broken → writing.pending ≡ pending
    → MayBeOnTape broken pending writing.holds closed text sure → Has writing closed text sure
has-of broken pending writing closed text sure b p h =
    subst (λ x. MayBeOnTape x writing.pending writing.holds closed text sure) (sym b) (subst (λ x. MayBeOnTape broken x writing.holds closed text sure) (sym p) h)

pub has-in : (broken : Bool) (writing : Writing) (closed : List (List ℕ)) (text : List ℕ) (sure : ℕ) → writing.broken ≡ broken → Has writing closed text sure → MayBeOnTape broken writing.pending writing.holds closed text sure
has-in broken writing closed text sure b h = subst (λ x. MayBeOnTape x writing.pending writing.holds closed text sure) b h

pub appended : {E : Type 0} (result : Result (Unit {0}) E) (u : Unit {0}) (bytes piece : List ℕ) (old new : Writing) → result ≡ Ok u → Appends result bytes old.holds new.holds → bytes ≡ old.pending ++ piece → old.broken ≡ false
    → new.broken ≡ false → new.pending ≡ [] → Puts old new piece
appended result u bytes piece old new is a b sound fine none = record {
  puts = λ closed text sure h. has-of false [] new closed (text ++ piece) sure fine none
      (append-on old.holds new.holds old.pending piece bytes closed text sure (appends-ok result u bytes old.holds new.holds is a) b (has-in false old closed text sure sound h));
}

pub appended_part : {E : Type 0} (result : Result (Unit {0}) E) (e : E) (bytes piece : List ℕ) (old new : Writing) → result ≡ Err e → Appends result bytes old.holds new.holds → bytes ≡ old.pending ++ piece → old.broken ≡ false
    → new.broken ≡ true → Puts old new piece
appended_part result e bytes piece old new is a b sound broken = record {
  puts = λ closed text sure h. has-of true new.pending new closed (text ++ piece) sure broken refl
      (append-part old.holds new.holds old.pending new.pending piece bytes closed text sure (appends-err result e bytes old.holds new.holds is a) b (has-in false old closed text sure sound h));
}

pub appended_any : (E : Type 0) (result : Result (Unit {0}) E) (bytes piece : List ℕ) (old new : Writing) → Appends result bytes old.holds new.holds → bytes ≡ old.pending ++ piece → old.broken ≡ false
    → new.broken ≡ is_err result → new.pending ≡ [] → Puts old new piece
appended_any E (Ok u) bytes piece old new a b sound fine none = appended {E = E} (Ok u) u bytes piece old new refl a b sound fine none
appended_any E (Err e) bytes piece old new a b sound fine none = appended_part {E = E} (Err e) e bytes piece old new refl a b sound fine

-- ---- what is gathered

gather-on : (old : Option TapeBytes) (pending piece : List ℕ) (closed : List (List ℕ)) (text : List ℕ) (sure : ℕ) → MayBeOnTape false pending old closed text sure → MayBeOnTape false (pending ++ piece) old closed (text ++ piece) sure
gather-on None pending piece closed text sure h = tt
gather-on (Some o) pending piece closed text sure h =
    record { closed_is = h.closed_is; text_is = sym (append_assoc o.written pending piece) ∙ ap (λ t. t ++ piece) h.text_is; kept_is = h.kept_is; within = h.within }

pub gathered : (old new : Writing) (piece : List ℕ) → old.broken ≡ false → new.broken ≡ false → new.holds ≡ old.holds → new.pending ≡ old.pending ++ piece → Puts old new piece
gathered old new piece sound fine same more = record {
  puts = λ closed text sure h. has-of false (old.pending ++ piece) new closed (text ++ piece) sure fine more
      (subst (λ o. MayBeOnTape false (old.pending ++ piece) o closed (text ++ piece) sure) (sym same) (gather-on old.holds old.pending piece closed text sure (has-in false old closed text sure sound h)));
}

-- ---- one after the other

broken-on : (old : Option TapeBytes) (pending more : List ℕ) (closed : List (List ℕ)) (text : List ℕ) (sure : ℕ) → MayBeOnTape true pending old closed text sure → MayBeOnTape true pending old closed (text ++ more) sure
broken-on None pending more closed text sure h = tt
broken-on (Some o) pending more closed text sure h = record { closed_is = h.closed_is; text_is = prefix-more o.written text more h.text_is; kept_is = h.kept_is; within = h.within }

pub puts_join : (old between new : Writing) (first more : List ℕ) → Puts old between first → Puts between new more → Puts old new (first ++ more)
puts_join old between new first more a b = record {
  puts = λ closed text sure h. subst (λ t. Has new closed t sure) (append_assoc text first more) (b.puts closed (text ++ first) sure (a.puts closed text sure h));
}

-- if a call has failed, all may have been put
pub puts_broken : (old new : Writing) (first more : List ℕ) → new.broken ≡ true → Puts old new first → Puts old new (first ++ more)
puts_broken old new first more broken a = record {
  puts = λ closed text sure h. subst (λ t. Has new closed t sure) (append_assoc text first more)
      (has-of true new.pending new closed ((text ++ first) ++ more) sure broken refl (broken-on new.holds new.pending more closed (text ++ first) sure (has-in true new closed (text ++ first) sure broken (a.puts closed text sure h))));
}

-- bytes are written after those that were written before, with none pending
pub appended_long : (E : Type 0) (result : Result (Unit {0}) E) (bytes : List ℕ) (old between new : Writing) → Puts old between [] → Appends result bytes between.holds new.holds → between.pending ≡ [] → between.broken ≡ false
    → new.broken ≡ is_err result → new.pending ≡ [] → Puts old new bytes
appended_long E result bytes old between new first a empty sound fine none =
    puts_join old between new [] bytes first (appended_any E result bytes bytes between new a (ap (λ p. p ++ bytes) (sym empty)) sound fine none)

-- two and three parts, the last of which failed or was not reached
pub two_broken : (old between new : Writing) (a b c : List ℕ) → new.broken ≡ true → Puts old between a → Puts between new b → Puts old new (a ++ (b ++ c))
two_broken old between new a b c broken first more =
    let all = puts_broken old new (a ++ b) c broken (puts_join old between new a b first more) in
    record { puts = λ closed text sure h. subst (λ t. Has new closed (text ++ t) sure) (append_assoc a b c) (all.puts closed text sure h) }

pub three_broken : (old one two new : Writing) (a b c d : List ℕ) → new.broken ≡ true → Puts old one a → Puts one two b → Puts two new c → Puts old new (a ++ (b ++ (c ++ d)))
three_broken old one two new a b c d broken first second third =
    subst (λ t. Puts old new (a ++ t)) (append_assoc b c d) (two_broken old one new a (b ++ c) d broken first (puts_join one two new b c second third))
