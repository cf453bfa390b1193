use Rattle.std.proofs.Common.{◌≡◌, ◌+◌, ◌≤◌, ◌++◌, length, take, drop, ap, ◌∙◌, sym, arith, length-drop}
use Rattle.std.proofs.Math.Seq.{take-add}
use Rattle.std.proofs.lemmas.List.{drop-append-le, length-take-le}
use Rattle.xs_io.proofs.input.InputFill.fill.Goals as goal

pub returns-clause-ok : goal.returns-clause-ok
returns-clause-ok g c =
    let start = c.self.inside.start in
    let end = c.self.inside.end in
    let before = c.self.inside.bytes.items in
    let items = c.read_behind.new.bytes.items in
    let n = c.in-Ok-read_behind.count in
    let read = c.in-Ok-read_behind.ensures in
    let got = take n (drop end items) in
    let room : end + 65536 ≤ length items = omega (arith, c.in-Ok.ensures.room, read.len) in
    let size = length-take-le n (drop end items) (omega (arith, room, read.bound, length-drop end items)) in
    let same : take end items ≡ take end before = read.front ∙ c.in-Ok.ensures.front in
    let within : start ≤ length (take end before) = omega (arith, c.self.invariant.0, length-take-le end before c.self.invariant.1) in (
      got,
      sym size,
      read.bound,
      read.bytes,
      read.end,
      ap (drop start) (take-add end n items ∙ ap (λ t. t ++ got) same)
          ∙ drop-append-le start (take end before) got within
          ∙ ap (λ b. b ++ got) (c.self.view_is ∙ c.compact.ensures),
    )
