-- The content after events.
use Rattle.std.specs.Prelude.{ℕ, Option, Some, None, List, [], ◌∷◌}
use Rattle.xs_bytes.specs.SortedMap.{empty}
use Rattle.xs_resp.specs.declared.reply.Reply.{Reply}
use Rattle.xs_keys.specs.Event.{Event, event_moment, event_command}
use Rattle.xs_keys.specs.Content.{Content}
use Rattle.xs_keys.specs.ContentAfter.{content_after}
use Rattle.xs_keys.specs.Reply.{reply}

-- the content after an event
abbrev pub after : Content → Event → Content
after content event = content_after content (event_moment event) (event_command event)

-- the content after events, one after the other
abbrev pub contents_after : Content → List Event → Content
contents_after content [] = content
contents_after content (event ∷ events) = contents_after (after content event) events

-- the moment of the last event, if there is one
abbrev pub moment_after : Option ℕ → List Event → Option ℕ
moment_after moment [] = moment
moment_after moment (event ∷ events) = moment_after (Some (event_moment event)) events

-- the model's reply to each event
abbrev pub model_replies : Content → List Event → List Reply
model_replies content [] = []
model_replies content (event ∷ events) =
    reply content (event_moment event) (event_command event) ∷ model_replies (after content event) events

-- the state of a server: its content, and the moment of the last event, if there was one
pub record ServerState : Type 0 where
  pub content : Content
  pub moment : Option ℕ

-- before any event
abbrev pub new_server : ServerState
new_server = record { content = empty; moment = None }

abbrev pub state_after : ServerState → List Event → ServerState
state_after state events =
    record { content = contents_after state.content events; moment = moment_after state.moment events }
