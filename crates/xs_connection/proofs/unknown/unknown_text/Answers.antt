use Rattle.std.proofs.Common.{◌≡◌, ℕ, List, ◌++◌, take, codes, ap, sym, ◌∙◌, append_assoc}
use Rattle.xs_connection.specs.Unknown.{arguments, escaped}
use Rattle.xs_connection.proofs.Arguments.{word-some}
use Rattle.xs_connection.proofs.unknown.unknown_text.Goals as goal

pub returns : goal.returns
returns c =
    let name : List ℕ = c.in-Ok.name in
    let rest : List (List ℕ) = c.in-Ok.rest in
    let front = codes "ERR unknown command '" in
    let between = codes "', with args beginning with: " in
    let first = word-some c.args.words.now rest name (sym c.word.ensures ∙ c.in-Ok.is) in
    let cut : c.first_bytes.result.now ≡ take 128 name = c.first_bytes.ensures ∙ ap (take 128) c.as_slice.ensures in
    let begun : c.extend_from_slice.new.self.items ≡ front = c.in_ok-extend_from_slice.ensures.items ∙ ap (λ (i : List ℕ). i ++ front) c.new-text.ensures.items in
    let named : c.push_escaped.new.text.items ≡ front ++ escaped (take 128 name) = c.in_ok-push_escaped.ensures ∙ ap (λ (i : List ℕ). i ++ escaped c.first_bytes.result.now) begun ∙ ap (λ (b : List ℕ). front ++ escaped b) cut in
    let opened : c.extend_from_slice-2.new.self.items ≡ (front ++ escaped (take 128 name)) ++ between = c.in_ok-extend_from_slice-2.ensures.items ∙ ap (λ (i : List ℕ). i ++ between) named in
    let all = c.in_ok-push_arguments.ensures ∙ ap (λ (i : List ℕ). i ++ arguments 0 rest) opened in
    rw first (c.new.ensures ∙ all ∙ append_assoc (front ++ escaped (take 128 name)) between (arguments 0 rest) ∙ append_assoc front (escaped (take 128 name)) (between ++ arguments 0 rest))
