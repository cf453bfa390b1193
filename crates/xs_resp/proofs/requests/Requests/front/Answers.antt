use Rattle.std.proofs.Common.{◌≡◌, Some, Ok, refl, sym, ap, ◌∙◌, subst}
use Rattle.std.specs.Result.{IsOk}
use Rattle.std.specs.Option.{IsSome}
use Rattle.xs_resp.specs.declared.header.Part.TheVariants.{Count}
use Rattle.xs_resp.specs.Header.{header}
use Rattle.xs_resp.specs.HeldBytes.{front_of}
use Rattle.xs_resp.specs.Reading.{words, words_in, request, IsWhole}
use Rattle.xs_resp.proofs.Fronts.{request-whole, behind-header}
use Rattle.xs_resp.proofs.Reading.{header_ends}
use Rattle.xs_resp.proofs.Skipping.{held-bytes}
use Rattle.xs_resp.proofs.requests.Requests.front.Goals as goal

pub unwrap-requires : goal.unwrap-requires
unwrap-requires c =
    let bytes = c.self.inside.input in
    let here : c.bytes-bytes.result.now ≡ bytes = c.bytes-bytes.ensures in
    let held = here ∙ held-bytes c.self.inside.state bytes c.requires.bytes (c.self.view_is ∙ c.requires.holds) in
    let whole = request-whole c.bytes-bytes.result.now (subst (λ b. IsWhole (request b)) (sym held) c.requires.whole) in
    subst (λ r. IsOk r) (sym (c.read_header.ensures ∙ whole.1)) refl

pub unwrap-header-requires : goal.unwrap-header-requires
unwrap-header-requires c =
    let bytes = c.self.inside.input in
    let here : c.bytes-bytes.result.now ≡ bytes = c.bytes-bytes.ensures in
    let held = here ∙ held-bytes c.self.inside.state bytes c.requires.bytes (c.self.view_is ∙ c.requires.holds) in
    let whole = request-whole c.bytes-bytes.result.now (subst (λ b. IsWhole (request b)) (sym held) c.requires.whole) in
    let read = sym c.unwrap.ensures ∙ c.read_header.ensures ∙ whole.1 in
    let is : c.unwrap.result ≡ Some whole.0 = cc in
    subst (λ o. IsSome o) (sym is) refl

pub rest_of-requires : goal.rest_of-requires
rest_of-requires c =
    let read : header Count c.bytes-bytes.result.now ≡ Ok (Some c.unwrap-header.result) = sym c.read_header.ensures ∙ c.unwrap.ensures ∙ ap Ok c.unwrap-header.ensures in
    (header_ends Count c.bytes-bytes.result.now c.unwrap-header.result read).1

pub new-requires-clause-whole : goal.new-requires-clause-whole
new-requires-clause-whole c =
    let bytes = c.self.inside.input in
    let here : c.bytes-bytes.result.now ≡ bytes = c.bytes-bytes.ensures in
    let held = here ∙ held-bytes c.self.inside.state bytes c.requires.bytes (c.self.view_is ∙ c.requires.holds) in
    let whole = subst (λ b. IsWhole (request b)) (sym held) c.requires.whole in
    let read : header Count c.bytes-bytes.result.now ≡ Ok (Some c.unwrap-header.result) = sym c.read_header.ensures ∙ c.unwrap.ensures ∙ ap Ok c.unwrap-header.ensures in
    subst (λ b. IsWhole (words c.unwrap-header.result.number b)) (sym c.rest_of.ensures) (behind-header c.bytes-bytes.result.now c.unwrap-header.result read whole).0

pub new-requires-clause-small : goal.new-requires-clause-small
new-requires-clause-small c =
    let read : header Count c.bytes-bytes.result.now ≡ Ok (Some c.unwrap-header.result) = sym c.read_header.ensures ∙ c.unwrap.ensures ∙ ap Ok c.unwrap-header.ensures in
    (header_ends Count c.bytes-bytes.result.now c.unwrap-header.result read).0

pub returns : goal.returns
returns c =
    let bytes = c.self.inside.input in
    let here : c.bytes-bytes.result.now ≡ bytes = c.bytes-bytes.ensures in
    let held = here ∙ held-bytes c.self.inside.state bytes c.requires.bytes (c.self.view_is ∙ c.requires.holds) in
    let whole = subst (λ b. IsWhole (request b)) (sym held) c.requires.whole in
    let read : header Count c.bytes-bytes.result.now ≡ Ok (Some c.unwrap-header.result) = sym c.read_header.ensures ∙ c.unwrap.ensures ∙ ap Ok c.unwrap-header.ensures in
    c.new.ensures
    ∙ ap (λ b. words_in (words c.unwrap-header.result.number b)) c.rest_of.ensures
    ∙ (behind-header c.bytes-bytes.result.now c.unwrap-header.result read whole).1
    ∙ ap (λ b. words_in (request b)) held
    ∙ ap front_of (sym c.requires.holds)
