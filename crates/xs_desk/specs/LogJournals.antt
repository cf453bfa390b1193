-- The journal of a desk with a log.
use Rattle.std.specs.Prelude.{◌≡◌, ◌+◌, ℕ, Bool, false, List, [], ◌++◌, length}
use Rattle.xs_keys.specs.Event.{Event}
use Rattle.xs_keys.specs.Content.{Content}
use Rattle.xs_replay.specs.After.{contents_after}

-- a log, whether it must not be used any more, the content of the keyspace before the first event of the log, and the
-- content before the first event of this life
pub record Logging (L : Type 0) : Type 0 where
  pub log : L
  pub failed : Bool
  pub first : Content
  pub start : Content

module _ {L : Type 0} (has : L → List Event → ℕ → Type 0) where
  -- a log whose events go on from a first content, have left this one, and are kept
  pub record ContinuesLog (first : Content) (log : L) (content : Content) : Type 0 where
    pub past : List Event
    pub content_is : content ≡ contents_after first past
    pub log_has : has log past (length past)

  -- After a past, which goes on from a first content and leaves the content at the start, a log has the first of these
  -- events: all of them, unless it has failed.
  pub record HasEvents
      (log : L) (failed : Bool) (first start : Content) (events : List Event) (kept : ℕ)
      : Type 0 where
    pub past : List Event
    pub start_is : start ≡ contents_after first past
    pub noted : List Event
    pub lost : List Event
    pub events_are : events ≡ noted ++ lost
    pub log_has : has log (past ++ noted) (length past + kept)
    pub none_lost : failed ≡ false → lost ≡ []
