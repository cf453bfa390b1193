use Rattle.std.proofs.Common.{◌≡◌, ◌∷◌, [], ◌++◌, length, drop, Some, slice_index_or, ap, sym, ◌∙◌, arith}
use Rattle.xs_session.specs.declared.places.Place.{Place}
use Rattle.xs_session.specs.Places.{has_open, answered, fill_first, places_of}
use Rattle.xs_session.proofs.Placing.{open-behind, places-filled}
use Rattle.xs_session.proofs.places.Places.answer.Goals as goal

pub unwrap-place-requires : goal.unwrap-place-requires
unwrap-place-requires c =
    let behind = open-behind c.self.inside.ready.items c.self.inside.behind.items c.self.invariant.3 (ap has_open c.self.view_is ∙ c.requires) in
    c.pop_front.ensures.variant.1 (omega (arith, c.self.inside.behind.ok.0, ap length behind.2))

pub push_back_reserved-requires : goal.push_back_reserved-requires
push_back_reserved-requires c =
    let behind = open-behind c.self.inside.ready.items c.self.inside.behind.items c.self.invariant.3 (ap has_open c.self.view_is ∙ c.requires) in
    omega (arith, c.self.invariant.0, c.self.invariant.1, c.self.inside.behind.ok.0, ap length behind.2)

pub settle-requires : goal.settle-requires
settle-requires c =
    let behind = open-behind c.self.inside.ready.items c.self.inside.behind.items c.self.invariant.3 (ap has_open c.self.view_is ∙ c.requires) in
    let left = ap length (c.pop_front.ensures.rest ∙ ap (drop 1) behind.2) in (
      omega (arith, c.self.invariant.0, c.self.inside.behind.ok.0, ap length behind.2, left, c.pop_front.new.self.ok.0, c.push_back_reserved.ensures.len),
      omega (arith, c.self.invariant.1, c.push_back_reserved.ensures.capacity),
    )

some-same : (a b : Place) → Some a ≡ Some b → a ≡ b
some-same a b is = cc

pub returns : goal.returns
returns c =
    let ready = c.self.inside.ready.items in
    let behind = open-behind ready c.self.inside.behind.items c.self.invariant.3 (ap has_open c.self.view_is ∙ c.requires) in
    let popped : c.pop_front.result ≡ Some behind.0 =
    c.pop_front.ensures.value behind.0 (omega (arith, c.self.inside.behind.ok.0, ap length behind.2)) ∙ ap (λ items. Some (slice_index_or items 0 behind.0)) behind.2 in
    c.settle.ensures.view
    ∙ ap (λ r. places_of r c.pop_front.new.self.items) c.push_back_reserved.ensures.items
    ∙ ap (λ a. places_of (ready ++ a ∷ []) c.pop_front.new.self.items) (c.answer.ensures ∙ ap (λ p. answered p c.args.reply) (some-same _ _ (sym c.unwrap-place.ensures ∙ popped)))
    ∙ ap (places_of (ready ++ answered behind.0 c.args.reply ∷ [])) (c.pop_front.ensures.rest ∙ ap (drop 1) behind.2)
    ∙ places-filled ready behind.0 behind.1 c.args.reply behind.3
    ∙ ap (λ b. fill_first c.args.reply (places_of ready b)) (sym behind.2)
    ∙ ap (fill_first c.args.reply) c.self.view_is
