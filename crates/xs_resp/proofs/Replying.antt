-- Facts about the texts of replies.
use Rattle.std.proofs.Common.{◌≡◌, ℕ, sym, ◌≤◌, List, [], ◌∷◌, ◌++◌, length, take, refl, ap, ◌∙◌, arith, length-append}
use Rattle.std.proofs.Common.{append_assoc, Result, Ok, Err}
use Rattle.std.specs.Bool.{⊤}
use Rattle.std.proofs.lemmas.List.{take-take, take_at}
use Rattle.std.proofs.lemmas.List.Concat.{flat_map-append}
use Rattle.std.specs.List.{flat_map}
use Rattle.std.specs.declared.alloc.AllocError.{AllocError}
use Rattle.xs_resp.specs.declared.reply.Reply.{Reply}
use Rattle.xs_resp.specs.ReplyItems.{tokens_of}
use Rattle.xs_resp.specs.ReplyText.{text, token_text, Writes}

-- a call that leaves a text leaves its front
pub front-kept : (old part before new : List ℕ) → before ≡ old ++ part → take (length before) new ≡ before → take (length old) new ≡ old
front-kept old part before new e kept =
    let shorter : length old ≤ length before = omega (arith, ap length e, length-append old part) in
    sym (take-take (length old) (length before) new shorter) ∙ ap (take (length old)) (kept ∙ e) ∙ take_at old part (length old) refl

-- a text that is appended after another
pub writes-behind : (result : Result ⊤ AllocError) (old middle new first second : List ℕ) → middle ≡ old ++ first → Writes result middle new second → Writes result old new (first ++ second)
writes-behind (Ok done) old middle new first second is written = written ∙ ap (λ m. m ++ second) is ∙ append_assoc old first second
writes-behind (Err refused) old middle new first second is kept = front-kept old first middle new is kept

-- the texts of the tokens of all items are the texts of the items
pub texts-of-items : (replies : List Reply) → flat_map token_text (flat_map tokens_of replies) ≡ flat_map text replies
unfolding text
texts-of-items [] = refl
texts-of-items (r ∷ rs) =
    flat_map-append token_text (tokens_of r) (flat_map tokens_of rs) ∙ ap (λ texts. flat_map token_text (tokens_of r) ++ texts) (texts-of-items rs)
