use Rattle.std.proofs.Common.{inl, inr, ap, ◌∙◌, sym, subst, take}
use Rattle.std.specs.Io.KnownBytes.{Consumes, IsAtEnd}
use Rattle.std.proofs.Common.{◌≡◌, ◌<◌, ◌++◌, length}
use Rattle.xs_io.specs.Passing.{known_by}
use Rattle.xs_tape.specs.declared.before_zero.BeforeZero.{BeforeZero}
use Rattle.xs_tape.specs.BeforeZero.{rest_before}
use Rattle.xs_tape.proofs.Walks.{Met, given_bytes}
use Rattle.xs_tape.proofs.before_zero.BeforeZeroSource.read.Goals as goal
use Rattle.xs_tape.proofs.before_zero.BeforeZeroSource.read.Goals.{in-Some, in-None}

pub returns-else-given-eq0-clause-bytes : goal.returns-else-given-eq0-clause-bytes
returns-else-given-eq0-clause-bytes g c =
    let rest = known_by g.R.Source.rest in
    let old = rest c.args.self.now.inner in
    let into = c.read.new.into in
    let count = c.in-Ok.count in
    let all = given_bytes c.args.self.now.met old (rest c.match-zero_at.self.inner) into count c.match-zero_at.given c.match-zero_at.self.met c.if-self.false in
    let left = rest_before c.match-zero_at.self.met (rest c.match-zero_at.self.inner) in
    let given = c.match-zero_at.given in
    let done : Consumes (rest_before c.args.self.now.met old) left (take given into) × (given ≡ 0 → 0 < length into → IsAtEnd left) = elim c.match-zero_at.branch [
      | in-Some w ↦ all
          (subst (λ (s : BeforeZero g.row.R.Denot). Consumes old (rest s.inner) (take count into)) (sym w.self-is) c.in-Ok.ensures.bytes.0.0)
          (subst (λ (s : BeforeZero g.row.R.Denot). count ≡ 0 → 0 < length into → IsAtEnd (rest s.inner)) (sym w.self-is) c.in-Ok.ensures.bytes.1)
          c.in-Ok.ensures.bound
          (inl (ap (λ (s : BeforeZero g.row.R.Denot). s.met) w.self-is, subst (λ n. Met into count n) (sym w.given-is) (record { within = w.in-Some.ensures.0; none = w.in-Some.ensures.1; front_is = w.in-Some.ensures.2 })))
      | in-None w ↦ all
          (subst (λ (s : BeforeZero g.row.R.Denot). Consumes old (rest s.inner) (take count into)) (sym w.self-is) c.in-Ok.ensures.bytes.0.0)
          (subst (λ (s : BeforeZero g.row.R.Denot). count ≡ 0 → 0 < length into → IsAtEnd (rest s.inner)) (sym w.self-is) c.in-Ok.ensures.bytes.1)
          c.in-Ok.ensures.bound
          (inr (ap (λ (s : BeforeZero g.row.R.Denot). s.met) w.self-is ∙ c.if-self.false, w.given-is, w.in-None.ensures))
    ] in
    let same : c.match-zero_at.self.passed ≡ c.args.self.now.passed = elim c.match-zero_at.branch [
      | in-Some w ↦ ap (λ (s : BeforeZero g.row.R.Denot). s.passed) w.self-is
      | in-None w ↦ ap (λ (s : BeforeZero g.row.R.Denot). s.passed) w.self-is
    ] in
    ((done.0, c.add_all.ensures ∙ ap (λ passed. passed ++ take given into) same), done.1)
