use Rattle.std.proofs.Common.{◌≡◌, ℕ, List, ◌+◌, ◌<◌, ◌≤◌, ◌∷◌, length, take, drop, get_or, sym, ap, ◌∙◌, add-one}
use Rattle.std.proofs.Common.{arith, length-drop}
use Rattle.xs_resp.specs.declared.mark.Mark.{Mark}
use Rattle.xs_resp.specs.Token.{Token}
use Rattle.xs_resp.specs.LeftToWrite.{strings_of}
use Rattle.xs_resp.specs.Marks.{strings_length, string_length, token_in, tokens_in}
use Rattle.xs_resp.proofs.TokensAt.{tokens-length, strings-take, lengths-next, token-at}
use Rattle.xs_resp.proofs.sequence.Sequence.token.Goals as goal

-- the tokens that are seen are those of these marks
module _ (ms : List Mark) (strings : List ℕ) (tokens : List Token) (i at : ℕ) (seen : tokens_in ms strings ≡ tokens) (all : strings_length ms ≡ length strings) (low : i < length tokens) (is : at ≡ length (strings_of (take i tokens))) where
  below : i < length ms
  below = omega (arith, low, ap length seen, tokens-length ms strings)

  place : at ≡ strings_length (take i ms)
  place = is ∙ ap (λ ts. length (strings_of (take i ts))) (sym seen) ∙ strings-take i ms strings (omega (arith, all))

  within : (d : Mark) → at + string_length (get_or ms i d) ≤ length strings
  within d = omega (arith, all, place, lengths-next i ms d below)

  next : (d m : Mark) (n : ℕ) → m ≡ get_or ms i d → n ≡ string_length m → drop i tokens ≡ token_in m (take n (drop at strings)) ∷ drop (i + 1) tokens
  next d m n m_is n_is =
      rw (← seen, m_is, n_is, m_is, place, add-one) (token-at i ms d strings below)

pub mark_at-mark-requires : goal.mark_at-mark-requires
mark_at-mark-requires c =
    let own = c.self.inside in
    let low : c.args.index < length (own.first ∷ own.marks.now) =
    below (own.first ∷ own.marks.now) own.strings.now c.args.self.now c.args.index c.args.at c.self.view_is c.self.invariant c.requires.within c.requires.strings in
    omega (arith, low)

pub split_at-requires : goal.split_at-requires
split_at-requires c =
    let own = c.self.inside in
    let fits : c.args.at + string_length (get_or (own.first ∷ own.marks.now) c.args.index own.first) ≤ length own.strings.now =
    within (own.first ∷ own.marks.now) own.strings.now c.args.self.now c.args.index c.args.at c.self.view_is c.self.invariant c.requires.within c.requires.strings own.first in
    omega (arith, fits)

pub split_at-requires-2 : goal.split_at-requires-2
split_at-requires-2 c =
    let own = c.self.inside in
    let fits : c.args.at + string_length (get_or (own.first ∷ own.marks.now) c.args.index own.first) ≤ length own.strings.now =
    within (own.first ∷ own.marks.now) own.strings.now c.args.self.now c.args.index c.args.at c.self.view_is c.self.invariant c.requires.within c.requires.strings own.first in
    let same : c.string_length.result ≡ string_length (get_or (own.first ∷ own.marks.now) c.args.index own.first) =
    c.string_length.ensures ∙ ap string_length c.mark_at-mark.ensures in
    omega (arith, fits, same, ap length c.split_at.ensures.back, length-drop c.args.at own.strings.now)

pub overflow_add-result : goal.overflow_add-result
overflow_add-result c =
    let own = c.self.inside in
    let low : c.args.index < length (own.first ∷ own.marks.now) =
    below (own.first ∷ own.marks.now) own.strings.now c.args.self.now c.args.index c.args.at c.self.view_is c.self.invariant c.requires.within c.requires.strings in
    omega (arith, low, c.self.told)

pub returns-clause-token : goal.returns-clause-token
returns-clause-token c =
    let own = c.self.inside in
    rw (c.split_at-2.ensures.front, c.split_at.ensures.back)
    (next (own.first ∷ own.marks.now) own.strings.now c.args.self.now c.args.index c.args.at c.self.view_is c.self.invariant c.requires.within c.requires.strings own.first _ _ c.mark_at-mark.ensures c.string_length.ensures)
