-- Tokens that are appended one after the other.
use Rattle.std.proofs.Common.{◌≡◌, ℕ, List, [], ◌∷◌, ◌++◌, map, length, Result, Ok, Err, OnOk, sym, ap, ◌∙◌, append_assoc, append-nil}
use Rattle.std.proofs.lemmas.List.{length-map}
use Rattle.std.specs.List.{flat_map}
use Rattle.std.proofs.lemmas.Grind.{flat_map-append}
use Rattle.xs_resp.specs.Token.{Token, Array}
use Rattle.xs_resp.specs.ReplyItems.{tokens_of}
use Rattle.xs_keys.specs.Terms.{Reply}
use Rattle.xs_keys.specs.ReplyParts.{array}

-- some more after those so far
pub appended : (before so_far old new more : List Token) → old ≡ before ++ so_far → new ≡ old ++ more → new ≡ before ++ (so_far ++ more)
appended before so_far old new more is e = e ∙ ap (λ o. o ++ more) is ∙ append_assoc before so_far more

-- the last ones, if they aren't refused
pub appended-last : {A E : Type 0} (result : Result A E) (before so_far old new more : List Token) → old ≡ before ++ so_far → OnOk result (new ≡ old ++ more) → OnOk result (new ≡ before ++ (so_far ++ more))
appended-last (Ok x) before so_far old new more is e = appended before so_far old new more is e
appended-last (Err x) before so_far old new more is e = e

-- replies after those so far
pub parts-appended : (before old new : List Token) (xs ys : List Reply) → old ≡ before ++ flat_map tokens_of xs → new ≡ old ++ flat_map tokens_of ys → new ≡ before ++ flat_map tokens_of (xs ++ ys)
parts-appended before old new xs ys is e =
    appended before (flat_map tokens_of xs) old new (flat_map tokens_of ys) is e ∙ ap (λ t. before ++ t) (sym (flat_map-append tokens_of xs ys))

-- the last ones, if they aren't refused
pub parts-appended-last : {A E : Type 0} (result : Result A E) (before old new : List Token) (xs ys : List Reply) → old ≡ before ++ flat_map tokens_of xs → OnOk result (new ≡ old ++ flat_map tokens_of ys)
    → OnOk result (new ≡ before ++ flat_map tokens_of (xs ++ ys))
parts-appended-last (Ok x) before old new xs ys is e = parts-appended before old new xs ys is e
parts-appended-last (Err x) before old new xs ys is e = e

-- an array as the last of them: the number of its items, and then these
pub array-last : {A E X : Type 0} (result : Result A E) (f : X → Reply) (xs : List X) (count : ℕ) (before so_far old more new : List Token) → count ≡ length xs → old ≡ before ++ so_far
    → more ≡ old ++ (Array count ∷ []) → OnOk result (new ≡ more ++ flat_map tokens_of (map f xs)) → OnOk result (new ≡ before ++ (so_far ++ (tokens_of (array (map f xs)) ++ [])))
array-last (Ok x) f xs count before so_far old more new n is e h =
    let items = flat_map tokens_of (map f xs) in
    appended before (so_far ++ (Array count ∷ [])) more new items (appended before so_far old more (Array count ∷ []) is e) h
    ∙ ap (λ t. before ++ t) (append_assoc so_far (Array count ∷ []) items ∙ ap (λ t. so_far ++ t) (ap (λ k. Array k ∷ items) (n ∙ sym (length-map xs f)) ∙ sym (append-nil (Array (length (map f xs)) ∷ items))))
array-last (Err x) f xs count before so_far old more new n is e h = h
