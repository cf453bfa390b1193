-- A read that finds nothing, for a consumer that its groups know, changes nothing.
use Rattle.std.proofs.Common.{◌≡◌, ℕ, Bool, true, false, cond, List, [], ◌∷◌, sym, ap, ◌∙◌, refl}
use Rattle.xs_keys.specs.Terms.{list_all, get, insert, has_name, GroupState, ReadGroupCommand, ReadOne, ReadGroup}
use Rattle.xs_group.specs.GroupState.{Rows}
use Rattle.xs_keys.specs.GroupLife.{ask_of_read}
use Rattle.xs_keys.specs.Content.{Content}
use Rattle.xs_keys.specs.ContentAfter.{after_ask, after_reads, with_group}
use Rattle.xs_keys.specs.Waiting.{finds_none_in, finds_nothing, knows_reader_in, reads_in_vain, ChangesNothing}
use Rattle.xs_keys.proofs.AskSteps.{put_same}
use Rattle.xs_keys.proofs.NothingNew.{FindsNone, finds-none, after-is, left, all-there}
use Rattle.xs_keys.proofs.Truths.{first_of, second_of}

same-rows : (noack : Bool) (rows : Rows) → cond noack rows rows ≡ rows
same-rows true rows = refl
same-rows false rows = refl

abbrev with_rows : GroupState → Rows → GroupState
with_rows group rows = record group { rows = rows }

module _ (content : Content) (now : ℕ) (read : ReadGroupCommand) (one : ReadOne) (n : FindsNone content read one) where
  known : knows_reader_in read (get content one.key) ≡ true → has_name n.was.consumers read.consumer ≡ true
  known e = sym (rw (n.had, n.has) refl) ∙ e

  -- the group is unchanged
  same-group : has_name n.was.consumers read.consumer ≡ true → left content now read one n ≡ n.was
  same-group e = rw n.none_is (rw e (ap (with_rows n.was) (same-rows read.noack n.was.rows)))

  same-content : knows_reader_in read (get content one.key) ≡ true → after_ask content now one.key read.group (ask_of_read read one.from) ≡ content
  same-content e =
      after-is content now read one n ∙ ap (λ g. insert content one.key (with_group n.key read.group g)) (same-group (known e))
      ∙ put_same content one.key read.group n.key n.was n.had n.has

-- and a read of many keys changes nothing
pub vain-reads : (reads : List ReadOne) (content : Content) (now : ℕ) (read : ReadGroupCommand) → list_all (λ one. finds_none_in read one (get content one.key)) reads ≡ true
    → list_all (λ one. knows_reader_in read (get content one.key)) reads ≡ true → after_reads content now read reads ≡ content
vain-reads [] content now read none known = refl
vain-reads (one ∷ more) content now read none known =
    let n = finds-none content read one (first_of _ _ none) in
    let here = same-content content now read one n (first_of _ _ known) in
    ap (λ c. after_reads c now read more) here
    ∙ vain-reads more content now read (second_of (finds_none_in read one (get content one.key)) _ none) (second_of (knows_reader_in read (get content one.key)) _ known)

pub changes_nothing : (content : Content) (read : ReadGroupCommand) → reads_in_vain content read ≡ true → ChangesNothing content (ReadGroup read)
changes_nothing content read e = λ now.
    let none = first_of (finds_nothing content read) _ e in
    let known = second_of (finds_nothing content read) _ e in
    ap (λ b. cond b (after_reads content now read read.reads) content) (all-there read.reads content read none)
    ∙ vain-reads read.reads content now read none known
