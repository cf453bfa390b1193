-- A key in memory that is changed in place, or looked at and left unchanged.
use Rattle.std.proofs.Common.{◌≡◌, ℕ, ◌^◌, ◌%◌, List, Option, Some, None, is_some, false, sym, ap, ◌∙◌, refl}
use Rattle.std.proofs.lemmas.Bool.{false≢true}
use Rattle.xs_keys.specs.Terms.{NameMap, get, has_key, insert}
use Rattle.xs_keys.specs.Content.{Content}
use Rattle.xs_keys.specs.KeysRoom.{KeyInMemory, key_state_of, state_in, content_of, room_of_keys, IsCountOf}
use Rattle.xs_keys.proofs.NameMaps.{insert-same}
use Rattle.xs_keys.proofs.KeysContent.{get-content, content-insert}

module _ (slots : NameMap KeyInMemory) (content : Content) (shown : content_of slots ≡ content) (name : List ℕ) where
  pub shown-none : get slots name ≡ None → get content name ≡ None
  shown-none none = ap (λ (m : Content). get m name) (sym shown) ∙ get-content slots name ∙ ap state_in none

  pub shown-key : (key : KeyInMemory) → get slots name ≡ Some key → get content name ≡ Some (key_state_of key)
  shown-key key found = ap (λ (m : Content). get m name) (sym shown) ∙ get-content slots name ∙ ap state_in found

  -- the key is replaced
  pub shown-change : (new : KeyInMemory) → content_of (insert slots name new) ≡ insert content name (key_state_of new)
  shown-change new = content-insert slots name new ∙ ap (λ (m : Content). insert m name (key_state_of new)) shown

  -- it is unchanged
  pub shown-same : (key : KeyInMemory) → get slots name ≡ Some key → content_of (insert slots name key) ≡ content
  shown-same key found = ap content_of (insert-same slots name key found) ∙ shown

-- the count of keys one of which is inserted again unchanged
pub counted-same : (slots : NameMap KeyInMemory) (held : ℕ) (counted : IsCountOf (room_of_keys slots) held) (name : List ℕ) (key : KeyInMemory) → get slots name ≡ Some key
    → IsCountOf (room_of_keys (insert slots name key)) held
counted-same slots held counted name key found =
    counted ∙ ap (λ m. room_of_keys m % 2 ^ 128) (sym (insert-same slots name key found))

-- there is nothing at a name that the map doesn't have
pub none-at : {X : Type 0} (m : NameMap X) (name : List ℕ) → has_key m name ≡ false → get m name ≡ None
none-at {X} m name = by (get m name) where
  by : (x : Option X) → is_some x ≡ false → x ≡ None
  by None is = refl
  by (Some x) is = absurd (false≢true (sym is))
