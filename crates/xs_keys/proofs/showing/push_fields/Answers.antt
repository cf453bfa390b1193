use Rattle.std.proofs.Common.{◌≡◌, ℕ, ◌*◌, ◌∷◌, List, [], length, ap, sym, ◌∙◌, ◌++◌, arith, append_assoc}
use Rattle.std.proofs.lemmas.List.{append-nil}
use Rattle.xs_resp.specs.Token.{Token, Array}
use Rattle.xs_resp.specs.ReplyItems.{tokens_of}
use Rattle.xs_keys.specs.Terms.{Bulk, flat_map, Field}
use Rattle.xs_keys.specs.ReplyParts.{field_replies}
use Rattle.xs_keys.proofs.showing.push_fields.Goals as goal

-- a field is two replies
two-each : (fields : List Field) → length (flat_map field_replies fields) ≡ length fields * 2
two-each [] = omega arith
two-each (f ∷ fs) = omega (arith, two-each fs)

-- the tokens of one field more
one-more : (f : Field) (fs : List Field) (name value : List ℕ) (old some new : List Token) → name ≡ f.name → value ≡ f.value → some ≡ old ++ tokens_of (Bulk name) → new ≡ some ++ tokens_of (Bulk value)
    → new ++ flat_map tokens_of (flat_map field_replies fs) ≡ old ++ flat_map tokens_of (flat_map field_replies (f ∷ fs))
one-more f fs name value old some new e g h k = rw (k, h, e, g) (simp append_assoc)

pub loop-field-init : goal.loop-field-init
loop-field-init c =
    let tokens = c.push_array.new.self in
    let fields = c.args.fields in (
      tt,
      tt,
      ap (λ (fs : List Field). tokens ++ flat_map tokens_of (flat_map field_replies fs)) c.into_iter-field-iterator.ensures.into_iter_gives
          ∙ ap (λ ts. ts ++ flat_map tokens_of (flat_map field_replies fields)) c.in_ok-push_array.ensures.ok
          ∙ append_assoc c.args.tokens.now (Array c.in-Some.count ∷ []) (flat_map tokens_of (flat_map field_replies fields)),
    )

pub loop-field-preserved : goal.loop-field-preserved
loop-field-preserved c =
    let tokens = c.loop-field.tokens in
    let f = c.in-Some-field.field in (
      tt,
      tt,
      one-more f c.next.new.self c.name.result.now c.value.result.now tokens c.push_bulk.new.self c.push_bulk-in-loop-field.new.self c.name.ensures c.value.ensures c.in_ok-push_bulk.ensures.ok c.in_ok-push_bulk-2.ensures.ok
          ∙ ap (λ (fs : List Field). tokens ++ flat_map tokens_of (flat_map field_replies fs)) (sym c.in-Some-field.ensures.steps) ∙ c.loop-field.invariant.2,
    )

pub returns : goal.returns
returns c =
    let tokens = c.loop-field.tokens in
    let fields = c.args.fields in
    let count : c.in-Some.count ≡ length (flat_map field_replies fields) = omega (arith, two-each fields, c.in-Some.ensures, c.count_left.ensures) in
    sym (append-nil tokens) ∙ ap (λ (fs : List Field). tokens ++ flat_map tokens_of (flat_map field_replies fs)) (sym c.in-None.ensures.steps.0) ∙ c.loop-field.invariant.2
    ∙ ap (λ (n : ℕ). c.args.tokens.now ++ (Array n ∷ flat_map tokens_of (flat_map field_replies fields))) count
