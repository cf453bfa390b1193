-- Complete items, put together and taken apart.
use Rattle.std.proofs.Common.{◌≡◌, ℕ, ◌+◌, zero, suc, List, [], ◌∷◌, ◌++◌, length, map, refl, sym, ap, ◌∙◌, subst}
use Rattle.std.proofs.Common.{arith}
use Rattle.std.proofs.lemmas.List.{length-map, append-nil}
use Rattle.std.proofs.lemmas.List.Concat.{flat_map-append}
use Rattle.std.specs.List.{flat_map}
use Rattle.xs_resp.specs.declared.reply.Reply.{Reply}
use Rattle.xs_resp.specs.declared.reply.Reply.TheVariants.{Simple, Error, ErrorText, Int, Bulk, NullBulk, Array, Opening, NullArray}
use Rattle.xs_resp.specs.Token as token
use Rattle.xs_resp.specs.Items.{Items}
use Rattle.xs_resp.specs.ReplyItems.{tokens_of, items_of}
use Rattle.xs_resp.specs.Whole.{AreItems, own_items}
use Rattle.xs_resp.specs.WholeReplies.{IsWholeReply, AreWhole}

-- the same number of items, if the numbers are equal
so-many : (n m : ℕ) (ts : List token.Token) → n ≡ m → AreItems n ts → AreItems m ts
so-many n m ts same whole = subst (λ k. AreItems k ts) same whole

pub items-append : (n m : ℕ) (ts us : List token.Token) → AreItems n ts → AreItems m us → AreItems (n + m) (ts ++ us)
unfolding AreItems
items-append zero m [] us first second = so-many m (0 + m) us (omega arith) second
items-append zero m (t ∷ ts) us first second = absurd first
items-append (suc n) m [] us first second = absurd first
items-append (suc n) m (t ∷ ts) us first second =
    let more : AreItems (own_items t + (n + m)) (ts ++ us) =
    so-many (own_items t + n + m) (own_items t + (n + m)) (ts ++ us) (omega arith) (items-append (own_items t + n) m ts us first second) in
    so-many (suc (n + m)) (suc n + m) (t ∷ (ts ++ us)) (omega arith) more

-- the tokens of a complete reply are one item
one-item : (r : Reply) → IsWholeReply r → AreItems 1 (tokens_of r)
unfolding AreItems
one-item (Simple s) whole = tt
one-item (Error f) whole = tt
one-item (ErrorText bytes) whole = tt
one-item (Int n) whole = tt
one-item (Bulk bytes) whole = tt
one-item NullBulk whole = tt
one-item (Array items) whole = so-many items.count (items.count + 0) items.tokens (omega arith) whole
one-item (Opening n) whole = absurd whole
one-item NullArray whole = tt

pub items-whole : (rs : List Reply) → AreWhole rs → AreItems (length rs) (flat_map tokens_of rs)
unfolding AreItems
items-whole [] whole = tt
items-whole (r ∷ rs) whole =
    so-many (1 + length rs) (suc (length rs)) (flat_map tokens_of (r ∷ rs)) (omega arith)
    (items-append 1 (length rs) (tokens_of r) (flat_map tokens_of rs) (one-item r whole.0) (items-whole rs whole.1))

pub all-whole : {A : Type 0} (f : A → Reply) → ((x : A) → IsWholeReply (f x)) → (xs : List A) → AreWhole (map f xs)
all-whole f each [] = tt
all-whole f each (x ∷ xs) = (each x, all-whole f each xs)

-- ---- taken apart

record Parts (n m : ℕ) (ts : List token.Token) : Type 0 where
  front : List token.Token
  back : List token.Token
  all : ts ≡ front ++ back
  first : AreItems n front
  second : AreItems m back

parted : (n m : ℕ) (ts : List token.Token) → AreItems (n + m) ts → Parts n m ts
unfolding AreItems
parted zero m ts whole = record { front = []; back = ts; all = refl; first = tt; second = so-many (0 + m) m ts (omega arith) whole }
parted (suc n) m [] whole = absurd (so-many (suc n + m) (suc (n + m)) [] (omega arith) whole)
parted (suc n) m (t ∷ ts) whole =
    let here : AreItems (own_items t + (n + m)) ts = so-many (suc n + m) (suc (n + m)) (t ∷ ts) (omega arith) whole in
    let parts = parted (own_items t + n) m ts (so-many (own_items t + (n + m)) (own_items t + n + m) ts (omega arith) here) in
    record { front = t ∷ parts.front; back = parts.back; all = ap (λ rest. t ∷ rest) parts.all; first = parts.first; second = parts.second }

record Found (n : ℕ) (ts : List token.Token) : Type 0 where
  replies : List Reply
  whole : AreWhole replies
  counted : n ≡ length replies
  tokens : ts ≡ flat_map tokens_of replies

-- the first of them, if those after it are found
module _ (n : ℕ) (further : (back : List token.Token) → AreItems n back → Found n back) where
  behind : (r : Reply) (back : List token.Token) → IsWholeReply r → AreItems n back → Found (suc n) (tokens_of r ++ back)
  behind r back one rest =
      let more = further back rest in
      record {
        replies = r ∷ more.replies;
        whole = (one, more.whole);
        counted = omega (arith, more.counted);
        tokens = ap (λ ts. tokens_of r ++ ts) more.tokens;
      }

  alone : (ts : List token.Token) → AreItems (0 + n) ts → AreItems n ts
  alone ts whole = so-many (0 + n) n ts (omega arith) whole

  from-first : (t : token.Token) (ts : List token.Token) → AreItems (own_items t + n) ts → Found (suc n) (t ∷ ts)
  unfolding AreItems
  from-first (token.Simple s) ts whole = behind (Simple s) ts tt (alone ts whole)
  from-first (token.Error f) ts whole = behind (Error f) ts tt (alone ts whole)
  from-first (token.ErrorText bytes) ts whole = behind (ErrorText bytes) ts tt (alone ts whole)
  from-first (token.Int k) ts whole = behind (Int k) ts tt (alone ts whole)
  from-first (token.Bulk bytes) ts whole = behind (Bulk bytes) ts tt (alone ts whole)
  from-first token.NullBulk ts whole = behind NullBulk ts tt (alone ts whole)
  from-first (token.Array k) ts whole =
      let parts = parted k n ts whole in
      subst (λ rest. Found (suc n) (token.Array k ∷ rest)) (sym parts.all)
      (behind (Array (record { count = k; tokens = parts.front })) parts.back parts.first parts.second)
  from-first token.NullArray ts whole = behind NullArray ts tt (alone ts whole)

found : (n : ℕ) (ts : List token.Token) → AreItems n ts → Found n ts
unfolding AreItems
found zero [] whole = record { replies = []; whole = tt; counted = refl; tokens = refl }
found zero (t ∷ ts) whole = absurd whole
found (suc n) [] whole = absurd whole
found (suc n) (t ∷ ts) whole = from-first n (λ back rest. found n back rest) t ts whole

pub items-found : (items : Items) → AreItems items.count items.tokens → (replies : List Reply) × AreWhole replies × (items ≡ items_of replies)
items-found items whole =
    let it = found items.count items.tokens whole in
    (it.replies, it.whole, λ i. record { count = it.counted i; tokens = it.tokens i })

-- the tokens of complete replies, as calls append them
pub filled : (rs : List Reply) (count : ℕ) (before tokens : List token.Token) → AreWhole rs → count ≡ length rs → before ≡ []
    → tokens ≡ before ++ flat_map tokens_of rs → AreItems count tokens
filled rs count before tokens whole counted empty appended =
    rw (appended, empty, counted) (items-whole rs whole)

-- so are those of replies of one kind
pub filled-each : {A : Type 0} (f : A → Reply) → ((x : A) → IsWholeReply (f x)) → (xs : List A) (count : ℕ) (before tokens : List token.Token) → count ≡ length xs → before ≡ []
    → tokens ≡ before ++ flat_map tokens_of (map f xs) → AreItems count tokens
filled-each f each xs count before tokens counted empty appended =
    filled (map f xs) count before tokens (all-whole f each xs) (counted ∙ sym (length-map xs f)) empty appended

-- a reply more
pub grown : (rs : List Reply) (r : Reply) (old new : List token.Token) → old ≡ flat_map tokens_of rs → new ≡ old ++ tokens_of r → new ≡ flat_map tokens_of (rs ++ r ∷ [])
grown rs r old new is more =
    more ∙ ap (λ o. o ++ tokens_of r) is ∙ ap (λ w. flat_map tokens_of rs ++ w) (sym (append-nil (tokens_of r))) ∙ sym (flat_map-append tokens_of rs (r ∷ []))

pub whole-append : (rs others : List Reply) → AreWhole rs → AreWhole others → AreWhole (rs ++ others)
whole-append [] others first second = second
whole-append (r ∷ rs) others first second = (first.0, whole-append rs others first.1 second)
