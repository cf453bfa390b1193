-- The creation of consumers.
use Rattle.std.proofs.Common.{◌≡◌, ℕ, Bool, true, false, cond, not, List, Some, Ok, Err, ap, ◌∙◌, refl}
use Rattle.std.specs.declared.alloc.AllocError.{AllocError}
use Rattle.xs_keys.specs.Terms.{get, insert, GroupState, with_consumer, has_name, Int, ConsumerCreate}
use Rattle.xs_keys.specs.Content.{Content, KeyState}
use Rattle.xs_keys.specs.ContentAfter.{with_group}
use Rattle.xs_keys.specs.Step.{Attempt}
use Rattle.xs_keys.proofs.AskSteps.{put_same}

one_if_not : (there : Bool) → ◌≡◌ {A = ℕ} (cond (not there) 1 0) (cond there 0 1)
one_if_not true = refl
one_if_not false = refl

module _ (content : Content) (now : ℕ) (name group_name consumer : List ℕ) (key : KeyState) (was new : GroupState) (found : get content name ≡ Some key) (has : get key.groups group_name ≡ Some was) where
  -- a creation of a consumer is an attempt
  pub makes-consumer : (made : Bool) → made ≡ not (has_name was.consumers consumer) → new ≡ with_consumer consumer now was
      → Attempt content now (ConsumerCreate name group_name consumer) (Ok (Int (cond made 1 0))) (insert content name (with_group key group_name new))
  makes-consumer made is changed = record {
    answer_is = rw (found, has) (ap Int (ap (λ b. cond b 1 0) is ∙ one_if_not (has_name was.consumers consumer)));
    content_is = rw (found, has) (ap (λ (g : GroupState). insert content name (with_group key group_name g)) changed);
  }

  -- and a creation that is refused is an attempt
  pub refuses-consumer : (error : AllocError) → new ≡ was → Attempt content now (ConsumerCreate name group_name consumer) (Err error) (insert content name (with_group key group_name new))
  refuses-consumer error same = record {
    takes = refl;
    no_other = rw (found, has) refl;
    answer_is = refl;
    content_is = ap (λ (g : GroupState). insert content name (with_group key group_name g)) same ∙ put_same content name group_name key was found has;
  }
