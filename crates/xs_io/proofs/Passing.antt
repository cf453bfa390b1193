-- How passing bytes add up.
use Rattle.std.proofs.Common.{◌≡◌, ℕ, List, [], ◌++◌, sym, ap, ◌∙◌, append_assoc, append-nil}
use Rattle.std.proofs.KnownBytes as std
use Rattle.xs_io.specs.Passing.{Passing, Consumes, Appends, Keeps}

joined : (a b c bs cs : List ℕ) → b ≡ a ++ bs → c ≡ b ++ cs → c ≡ a ++ (bs ++ cs)
joined a b c bs cs p q = q ∙ ap (λ l. l ++ cs) p ∙ append_assoc a bs cs

pub Consumes-nil : (a : Passing) → Consumes a a []
Consumes-nil a = (std.Consumes-nil a.known, sym (append-nil a.passed))

pub Appends-nil : (a : Passing) → Appends a a []
Appends-nil a = (std.Appends-nil a.known, sym (append-nil a.passed))

pub Consumes-trans : (a b c : Passing) (bs cs : List ℕ) → Consumes a b bs → Consumes b c cs → Consumes a c (bs ++ cs)
Consumes-trans a b c bs cs p q = (std.Consumes-trans a.known b.known c.known bs cs p.0 q.0, joined a.passed b.passed c.passed bs cs p.1 q.1)

pub Appends-trans : (a b c : Passing) (bs cs : List ℕ) → Appends a b bs → Appends b c cs → Appends a c (bs ++ cs)
Appends-trans a b c bs cs p q = (std.Appends-trans a.known b.known c.known bs cs p.0 q.0, joined a.passed b.passed c.passed bs cs p.1 q.1)

pub Consumes-kept : (a b c : Passing) (bs : List ℕ) → Consumes a b bs → Keeps b c → Consumes a c bs
Consumes-kept a b c bs p q = (std.Consumes-kept a.known b.known c.known bs p.0 q.0, q.1 ∙ p.1)
