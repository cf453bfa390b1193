-- How a script goes on, and how it ends.
use Rattle.std.proofs.Common.{◌≡◌, ℕ, ◌+◌, ◌<◌, ◌≤◌, Bool, true, false, ◌||◌, leb, List, [], ◌∷◌, ◌++◌, length, take}
use Rattle.std.proofs.Common.{drop, Option, None, Result, Ok, Err, IsSomeAnd, inl, inr, sym, ap, ◌∙◌, subst, refl}
use Rattle.std.proofs.Common.{append_assoc, arith, length-append}
use Rattle.std.proofs.lemmas.List.{append-nil, take-append-drop, length-take-le}
use Rattle.std.proofs.lemmas.Bool.{false≢true}
use Rattle.std.proofs.lemmas.Bool.Decides.{nat_tests}
use Rattle.std.specs.List.{flat_map, list_any}
use Rattle.xs_io.specs.Passing.{Passing, IsAtEnd}
use Rattle.xs_resp.specs.declared.reply.Reply.{Reply}
use Rattle.xs_resp.specs.ReplyText.{text}
use Rattle.xs_keys.specs.Content.{Content}
use Rattle.xs_script.specs.declared.state.Script.{Script as State}
use Rattle.xs_script.specs.declared.fault.ScriptFault.{ScriptFault}
use Rattle.xs_script.specs.declared.fault.ScriptFault.TheVariants as fault
use Rattle.xs_script.specs.Answering.{IsAnswer}
use Rattle.xs_io.specs.Device.{counter_at}
use Rattle.xs_script.specs.Line.{is_line_end, script_lines, line_of, line_limit}
use Rattle.xs_script.specs.Cause.{Cause, input, reader, writer}
use Rattle.xs_script.specs.Script.{Script, IsScript, with_end}
use Rattle.xs_keys.specs.Step.{StepAt}
use Rattle.xs_script.specs.ScriptRun.{piece, IsFew, IsRead, IsInHand, IsReadOut, IsWritten, ScriptIsAfter, EndsOnceWritten, RunsBy}
use Rattle.xs_script.proofs.ScriptLines.{read-more, read-line, read-lines, lines-last}
use Rattle.xs_script.proofs.ScriptHeadline.{served-line, is-script, capped-more, capped-sent}

-- ---- at most a piece follows the first line end

or-false : (p q : Bool) → (p || q) ≡ false → q ≡ false
or-false true q e = cc
or-false false q e = e

few-behind : (a b line rest : List ℕ) → a ++ b ≡ line ++ 10 ∷ rest → list_any is_line_end a ≡ false → length rest ≤ length b
few-behind [] b line rest e none = omega (arith, ap length e, length-append line (10 ∷ rest))
few-behind (x ∷ a) b [] rest e none =
    let ten : x ≡ 10 = cc in
    let broken : true ≡ false = subst (λ n. (is_line_end n || list_any is_line_end a) ≡ false) ten none in
    absurd (false≢true (sym broken))
few-behind (x ∷ a) b (y ∷ line) rest e none =
    let tail : a ++ b ≡ line ++ 10 ∷ rest = cc in
    few-behind a b line rest tail (or-false (is_line_end x) (list_any is_line_end a) none)

pub few-none : IsFew []
few-none = λ line rest e none. absurd (omega (arith, ap length e, length-append line (10 ∷ rest)))

few-after : (held line rest : List ℕ) → IsFew held → held ≡ line ++ 10 ∷ rest → list_any is_line_end line ≡ false → IsFew rest
few-after held line rest few e none = λ next more is other.
    omega (arith, few line rest e none, ap length is, length-append next (10 ∷ more))

few-with-more : (held got : List ℕ) → list_any is_line_end held ≡ false → length got ≤ piece → IsFew (held ++ got)
few-with-more held got none small = λ line rest e other. omega (arith, few-behind held got line rest e none, small)

-- ---- how a script goes on

-- one line more is answered
pub stands-more : (read sent : List ℕ) (script later : State) (old new : Content) (line : List ℕ) (answer : Reply) → ScriptIsAfter read sent script old → script.held ≡ line ++ 10 ∷ later.held → list_any is_line_end line ≡ false
    → IsSomeAnd (line_of line) (λ request. IsAnswer (StepAt request.0) old request.1 answer new) → later.owed.items ≡ script.owed.items ++ text answer → later.number ≡ counter_at (script.number + 1)
    → later.written ≡ script.written → ScriptIsAfter read sent later new
stands-more read sent script later old new line answer s is none serves owes numbered same =
    let next = served-line s.lines line (sent ++ script.owed.items) s.past old new answer s.content s.said serves in
    let out : sent ++ later.owed.items ≡ (sent ++ script.owed.items) ++ text answer = ap (λ o. sent ++ o) owes ∙ sym (append_assoc sent script.owed.items (text answer)) in
    record {
      lines = s.lines ++ line ∷ [];
      past = next.0;
      said = subst (λ o. Script [] (s.lines ++ line ∷ []) o next.0) (sym out) next.1;
      content = next.2;
      is_read = read-line read s.lines script.held line later.held s.is_read is none;
      few = few-after script.held line later.held s.few is none;
      number = numbered ∙ capped-more script.number s.lines line s.number;
      written = same ∙ s.written;
    }

-- more is read
pub stands-with-more : (read sent got : List ℕ) (script later : State) (keyspace : Content) → ScriptIsAfter read sent script keyspace → list_any is_line_end script.held ≡ false → length got ≤ piece → later.held ≡ script.held ++ got
    → later.owed.items ≡ script.owed.items → later.number ≡ script.number → later.written ≡ script.written → ScriptIsAfter (read ++ got) sent later keyspace
stands-with-more read sent got script later keyspace s none small is same numbered counted = record {
  lines = s.lines;
  past = s.past;
  said = subst (λ (o : List ℕ). Script [] s.lines (sent ++ o) s.past) (sym same) s.said;
  content = s.content;
  is_read = subst (λ (h : List ℕ). IsRead (read ++ got) s.lines h) (sym is) (read-more read s.lines script.held got s.is_read);
  few = subst (λ (h : List ℕ). IsFew h) (sym is) (few-with-more script.held got none small);
  number = numbered ∙ s.number;
  written = counted ∙ s.written;
}

-- the unwritten bytes are written
pub after-written : (read sent : List ℕ) (script later : State) (keyspace : Content) → ScriptIsAfter read sent script keyspace → IsWritten script later → ScriptIsAfter read (sent ++ script.owed.items) later keyspace
after-written read sent script later keyspace s paid = record {
  lines = s.lines;
  past = s.past;
  said = subst (λ (o : List ℕ). Script [] s.lines o s.past) (sym (ap (λ o. (sent ++ script.owed.items) ++ o) paid.owed ∙ append-nil (sent ++ script.owed.items))) s.said;
  content = s.content;
  is_read = subst (λ (h : List ℕ). IsRead read s.lines h) (sym paid.held) s.is_read;
  few = subst (λ (h : List ℕ). IsFew h) (sym paid.held) s.few;
  number = paid.number ∙ s.number;
  written = capped-sent script.written later.written sent script.owed.items s.written paid.written;
}

-- ---- how a script ends

pub in-hand : (read : List ℕ) (lines : List (List ℕ)) (held line behind : List ℕ) → IsRead read lines held → held ≡ line ++ behind → list_any is_line_end line ≡ false → IsInHand read lines line behind
in-hand read lines held line behind is split none = (is.0 ∙ ap (λ h. flat_map with_end lines ++ h) split, is.1, none)

-- a line above the limit is not a script line
pub line-long : (line : List ℕ) → line_limit < length line → line_of line ≡ None
line-long line long =
    let past : leb (length line) line_limit ≡ false = grind (arith, nat_tests) in
    rw (past) refl

pub all-said : (read sent : List ℕ) (script : State) (keyspace : Content) (s : ScriptIsAfter read sent script keyspace) → IsScript s.lines (sent ++ script.owed.items)
all-said read sent script keyspace s = is-script s.lines (sent ++ script.owed.items) s.past s.said

-- the writer fails within the replies to these lines
pub replies-broken : (read sent owed : List ℕ) (written : ℕ) (lines after : List (List ℕ)) → IsScript lines (sent ++ owed) → script_lines read ≡ lines ++ after → written ≡ counter_at (length sent)
    → (count : ℕ) → count < length owed → RunsBy writer (Err (fault.Write (counter_at (written + count)))) read (sent ++ take count owed)
replies-broken read sent owed written lines after said are counted count few =
    let part = length-take-le count owed (omega (arith, few)) in (
      λ rest ended met. (
        lines,
        after,
        are,
        (
          sent ++ owed,
          drop count owed,
          said,
          ap (λ o. sent ++ o) (sym (take-append-drop count owed)) ∙ sym (append_assoc sent (take count owed) (drop count owed)),
          capped-sent written (counter_at (written + count)) sent (take count owed) counted (ap (λ n. counter_at (written + n)) (sym part)),
        ),
      ),
      inr refl,
    )

pub stands-broken : (read sent : List ℕ) (script : State) (keyspace : Content) (end : Result ℕ ScriptFault) → ScriptIsAfter read sent script keyspace
    → (count : ℕ) → count < length script.owed.items → end ≡ Err (fault.Write (counter_at (script.written + count))) → RunsBy writer end read (sent ++ take count script.owed.items)
stands-broken read sent script keyspace end s count few is =
    subst (λ (e : Result ℕ ScriptFault). RunsBy writer e read (sent ++ take count script.owed.items)) (sym is)
    (replies-broken read sent script.owed.items script.written s.lines (script_lines script.held) (all-said read sent script keyspace s) (read-lines read s.lines script.held s.is_read) s.written count few)

-- the writer fails once a script has ended
pub ends-broken : (cause : Cause) (end broken : Result ℕ ScriptFault) (read sent : List ℕ) (script : State) → EndsOnceWritten cause end read sent script
    → (count : ℕ) → count < length script.owed.items → broken ≡ Err (fault.Write (counter_at (script.written + count))) → RunsBy writer broken read (sent ++ take count script.owed.items)
ends-broken cause end broken read sent script ends count few is =
    subst (λ (e : Result ℕ ScriptFault). RunsBy writer e read (sent ++ take count script.owed.items)) (sym is) (ends.1 count few)

total : (sent owed : List ℕ) (written : ℕ) → written ≡ counter_at (length sent) → counter_at (written + length owed) ≡ counter_at (length (sent ++ owed))
total sent owed written counted = capped-sent written (counter_at (written + length owed)) sent owed counted refl

module _ (read sent owed : List ℕ) (lines : List (List ℕ)) (written : ℕ) (said : IsScript lines (sent ++ owed)) (counted : written ≡ counter_at (length sent)) where
  abbrev Ends : Cause → Result ℕ ScriptFault → Type 0
  Ends cause end =
      RunsBy cause end read (sent ++ owed) × ((count : ℕ) → count < length owed → RunsBy writer (Err (fault.Write (counter_at (written + count)))) read (sent ++ take count owed))

  -- the line in hand is not a script line
  pub ends-wrong : (cause : Cause) (number : ℕ) (line behind : List ℕ) → IsInHand read lines line behind
      → ((rest : Passing) (ended : Bool) → (cause ≡ input → IsAtEnd rest × (ended ≡ true)) → IsReadOut line behind rest ended) → line_of line ≡ None → number ≡ counter_at (length lines)
      → Ends cause (Err (fault.Line (counter_at (number + 1)) (counter_at (written + length owed))))
  ends-wrong cause number line behind hand out wrong numbered = (
    (λ rest ended met. (lines, line, behind, hand, out rest ended met, wrong, omega (arith, numbered), (said, total sent owed written counted)), inl refl),
    replies-broken read sent owed written lines (script_lines (line ++ behind)) said (read-lines read lines (line ++ behind) (hand.0, hand.1)) counted,
  )

  -- memory ran out
  pub ends-memory : (cause : Cause) (line behind : List ℕ) → IsInHand read lines line behind → length behind ≤ piece + 1 → Ends cause (Err (fault.Memory (counter_at (written + length owed))))
  ends-memory cause line behind hand few = (
    (λ rest ended met. (lines, line, behind, hand, few, (said, total sent owed written counted)), inl refl),
    replies-broken read sent owed written lines (script_lines (line ++ behind)) said (read-lines read lines (line ++ behind) (hand.0, hand.1)) counted,
  )

  -- no more can be read
  pub ends-read : (line : List ℕ) → IsInHand read lines line [] → Ends reader (Err (fault.Read (counter_at (written + length owed))))
  ends-read line hand = (
    (λ rest ended met. (lines, line, hand, (said, total sent owed written counted)), inr refl),
    replies-broken read sent owed written lines (script_lines (line ++ [])) said (read-lines read lines (line ++ []) (hand.0, hand.1)) counted,
  )

  -- all lines are answered
  pub ends-well : script_lines read ≡ lines → Ends input (Ok (counter_at (written + length owed)))
  ends-well all = (
    (λ rest ended met. (subst (λ (ls : List (List ℕ)). IsScript ls (sent ++ owed)) (sym all) said, total sent owed written counted), inr refl),
    replies-broken read sent owed written lines [] said (all ∙ sym (append-nil lines)) counted,
  )

-- the last line, which lacks its end, is answered
pub last-answered : (read sent : List ℕ) (script : State) (old new : Content) (owes : List ℕ) (answer : Reply) (s : ScriptIsAfter read sent script old) → list_any is_line_end script.held ≡ false → 0 < length script.held
    → IsSomeAnd (line_of script.held) (λ request. IsAnswer (StepAt request.0) old request.1 answer new) → owes ≡ script.owed.items ++ text answer
    → IsScript (s.lines ++ script.held ∷ []) (sent ++ owes) × (script_lines read ≡ s.lines ++ script.held ∷ [])
last-answered read sent script old new owes answer s none some serves is =
    let next = served-line s.lines script.held (sent ++ script.owed.items) s.past old new answer s.content s.said serves in
    let out : sent ++ owes ≡ (sent ++ script.owed.items) ++ text answer = ap (λ o. sent ++ o) is ∙ sym (append_assoc sent script.owed.items (text answer)) in (
      subst (λ (o : List ℕ). IsScript (s.lines ++ script.held ∷ []) o) (sym out) (is-script (s.lines ++ script.held ∷ []) ((sent ++ script.owed.items) ++ text answer) next.0 next.1),
      read-lines read s.lines script.held s.is_read ∙ ap (λ ls. s.lines ++ ls) (lines-last script.held none some),
    )

-- no line is left
pub none-left : (read sent : List ℕ) (script : State) (keyspace : Content) (s : ScriptIsAfter read sent script keyspace) → script.held ≡ [] → script_lines read ≡ s.lines
none-left read sent script keyspace s none =
    read-lines read s.lines script.held s.is_read ∙ ap (λ h. s.lines ++ script_lines h) none ∙ append-nil s.lines
