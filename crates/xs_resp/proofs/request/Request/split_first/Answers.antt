use Rattle.std.proofs.Common.{◌≡◌, ◌+◌, ◌-◌, ◌∷◌, suc, drop, Some, Ok, refl, sym, ap, ◌∙◌, subst, arith}
use Rattle.std.specs.Result.{IsOk}
use Rattle.std.specs.Option.{IsSome}
use Rattle.xs_resp.specs.Reading.{bulk_string, text_in, words, words_in, IsWhole}
use Rattle.xs_resp.proofs.Fronts.{first-word, no-words}
use Rattle.xs_resp.proofs.request.Request.split_first.Goals as goal

pub returns-then-self-eq0 : goal.returns-then-self-eq0
returns-then-self-eq0 c = sym c.self.view_is ∙ no-words c.self.inside.count c.self.inside.bytes.now c.if-self-eq0.true

pub unwrap-requires : goal.unwrap-requires
unwrap-requires c =
    let some : c.self.inside.count ≡ suc (c.self.inside.count - 1) = omega (arith, c.if-self-eq0.false) in
    let first = first-word c.self.inside.count c.self.inside.bytes.now some c.self.invariant.0 in
    subst (λ r. IsOk r) (sym (c.read_word.ensures.value ∙ first.read)) refl

pub unwrap-span-requires : goal.unwrap-span-requires
unwrap-span-requires c =
    let some : c.self.inside.count ≡ suc (c.self.inside.count - 1) = omega (arith, c.if-self-eq0.false) in
    let first = first-word c.self.inside.count c.self.inside.bytes.now some c.self.invariant.0 in
    let read = sym c.unwrap.ensures ∙ c.read_word.ensures.value ∙ first.read in
    let is : c.unwrap.result ≡ Some first.span = cc in
    subst (λ o. IsSome o) (sym is) refl

pub invariant_of-rest : goal.invariant_of-rest
invariant_of-rest c =
    let bytes = c.self.inside.bytes.now in
    let left = c.self.inside.count - 1 in
    let some : c.self.inside.count ≡ suc left = omega (arith, c.if-self-eq0.false) in
    let first = first-word c.self.inside.count bytes some c.self.invariant.0 in
    let span = c.unwrap-span.result in
    let read : bulk_string bytes ≡ Ok (Some span) = sym c.read_word.ensures.value ∙ c.unwrap.ensures ∙ ap Ok c.unwrap-span.ensures in
    let same : span ≡ first.span = let one = sym read ∙ first.read in cc in
    let behind : c.rest_of.result.now ≡ drop (first.span.end + 2) bytes = c.rest_of.ensures ∙ ap (λ s. drop (s.end + 2) bytes) same in
    (subst (λ b. IsWhole (words left b)) (sym behind) first.whole, omega (arith, c.self.invariant.1))

pub returns : goal.returns
returns c =
    let bytes = c.self.inside.bytes.now in
    let left = c.self.inside.count - 1 in
    let some : c.self.inside.count ≡ suc left = omega (arith, c.if-self-eq0.false) in
    let first = first-word c.self.inside.count bytes some c.self.invariant.0 in
    let span = c.unwrap-span.result in
    let read : bulk_string bytes ≡ Ok (Some span) = sym c.read_word.ensures.value ∙ c.unwrap.ensures ∙ ap Ok c.unwrap-span.ensures in
    let same : first.span ≡ span = let one = sym first.read ∙ read in cc in
    let behind : drop (first.span.end + 2) bytes ≡ c.rest_of.result.now = ap (λ s. drop (s.end + 2) bytes) same ∙ sym c.rest_of.ensures in
    sym c.self.view_is
    ∙ ap (λ n. words_in (words n bytes)) some
    ∙ first.words_are
    ∙ ap (λ s. text_in bytes s ∷ words_in (words left (drop (first.span.end + 2) bytes))) same
    ∙ ap (λ b. text_in bytes span ∷ words_in (words left b)) behind
