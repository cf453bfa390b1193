-- What words give is well formed.
use Rattle.std.proofs.Common.{◌≡◌, ◌≢◌, ℕ, ◌%◌, Bool, true, false, cond, List, [], ◌∷◌, length, Option, Some, None}
use Rattle.std.proofs.Common.{Result, Ok, Err, refl, ap, subst, bytes_eq, take, drop, codes}
use Rattle.std.specs.Prelude.{◌&&◌, ◌==◌, nat_lt, ◌-◌}
use Rattle.xs_stream.specs.declared.id.Id.{Id}
use Rattle.xs_stream.specs.declared.add.AddId.{AddId}
use Rattle.xs_stream.specs.declared.add.AddId.TheVariants as add
use Rattle.xs_stream.specs.declared.field.Field.{Field}
use Rattle.xs_stream.specs.declared.trim.Trim.{Trim}
use Rattle.xs_stream.specs.Id.{is_same_id, zero_id}
use Rattle.xs_stream.specs.IdText.{parse_id, id_number}
use Rattle.xs_resp.specs.declared.fault.Fault.{Fault}
use Rattle.xs_resp.specs.declared.fault.Fault.TheVariants.{Syntax, BadId, Arity, ZeroId}
use Rattle.xs_command.specs.declared.command.Command.{Command}
use Rattle.xs_command.specs.declared.command.Command.TheVariants as command
use Rattle.xs_command.specs.declared.xadd.AddOptions.{AddOptions}
use Rattle.xs_command.specs.WellFormed.{IsAddId, IsWellFormed}
use Rattle.xs_command.specs.Words.{Reading, Part, ◌>>=◌, and_then, word, id_of_word, low, high}
use Rattle.xs_command.specs.Options.{many}
use Rattle.xs_command.specs.Syntax.{only, ids, leading_ids}
use Rattle.xs_command.specs.Trim.{trim_option}
use Rattle.xs_command.specs.AddId.{add_id_of, add_id, next_in, exact_id, meaning}
use Rattle.xs_command.specs.Fields.{pairs, fields}
use Rattle.xs_command.specs.Ping.{ping, quit}
use Rattle.xs_command.specs.Xadd.{xadd, add_option, no_add_options, addition}
use Rattle.xs_command.specs.Xdel.{xdel}
use Rattle.xs_command.specs.Xtrim.{xtrim, trim_to}
use Rattle.xs_command.specs.Xlen.{xlen}
use Rattle.xs_command.specs.Xrange.{xrange, xrevrange, scan, scan_option}
use Rattle.xs_command.specs.Del.{del}

-- whatever is read has this property
abbrev pub Always : {B : Type 0} → (B → Type 0) → Reading B → Type 0
Always {B} P reads = (words : List (List ℕ)) (y : B) → reads words ≡ Ok y → P y

-- the same at one list of words, by what the part before gave
bound : {A B : Type 0} (Q : A → Type 0) (P : B → Type 0) (read : Result (A × List (List ℕ)) Fault) (next : A → Reading B) → ((x : A × List (List ℕ)) → read ≡ Ok x → Q x.0) → ((x : A) → Q x → Always P (next x)) → (y : B) → and_then read next ≡ Ok y → P y
bound Q P (Ok x) next sure more y e = more x.0 (sure x refl) x.1 y e
bound Q P (Err fault) next sure more y e = absurd cc

pub after_sure : {A B : Type 0} (Q : A → Type 0) (P : B → Type 0) (part : Part A) (next : A → Reading B) → Always (λ (x : A × List (List ℕ)). Q x.0) part → ((x : A) → Q x → Always P (next x)) → Always P (part >>= next)
after_sure Q P part next sure more words y e = bound Q P (part words) next (λ x h. sure words x h) more y e

pub after_any : {A B : Type 0} (P : B → Type 0) (part : Part A) (next : A → Reading B) → ((x : A) → Always P (next x)) → Always P (part >>= next)
after_any P part next more = after_sure (λ x. Unit {0}) P part next (λ words x h. tt) (λ x h. more x)

pub only_is : {A : Type 0} (P : A → Type 0) (x : A) (fault : Fault) → P x → Always P (only x fault)
unfolding only
only_is P x fault h [] y e = let same : x ≡ y = cc in subst P same h
only_is P x fault h (w ∷ words) y e = absurd cc

-- a list with a first element isn't empty
pub has_first : {A : Type 0} (x : A) (xs : List A) → x ∷ xs ≢ []
has_first x xs e = cc

pub ids_some : Always (λ (x : List Id × List (List ℕ)). x.0 ≢ []) ids
unfolding ids
ids_some = after_any (λ (x : List Id × List (List ℕ)). x.0 ≢ []) id_of_word _ (λ first words y e. let same : ◌≡◌ {A = List Id × List (List ℕ)} (first ∷ (leading_ids words).0, (leading_ids words).1) y = cc in subst (λ (x : List Id × List (List ℕ)). x.0 ≢ []) same (has_first first (leading_ids words).0))

pub xdel_formed : Always IsWellFormed xdel
unfolding xdel
xdel_formed = after_any IsWellFormed word _ (λ key. after_sure (λ (ids : List Id). ids ≢ []) IsWellFormed ids _ ids_some (λ ids some. only_is IsWellFormed (command.Delete key ids) BadId some))

pub ping_formed : Always IsWellFormed ping
unfolding ping
ping_formed [] y e = let same : command.Ping None ≡ y = cc in subst IsWellFormed same tt
ping_formed (message ∷ words) y e = only_is IsWellFormed (command.Ping (Some message)) Syntax tt words y e

pub quit_formed : Always IsWellFormed quit
unfolding quit
quit_formed words y e = let same : command.Quit ≡ y = cc in subst IsWellFormed same tt

pub xlen_formed : Always IsWellFormed xlen
unfolding xlen
xlen_formed = after_any IsWellFormed word _ (λ key. only_is IsWellFormed (command.Len key) Syntax tt)

trim_formed : (key : List ℕ) (trim : Option Trim) → Always IsWellFormed (trim_to key trim)
trim_formed key None words y e = absurd cc
trim_formed key (Some trim) words y e = only_is IsWellFormed (command.TrimTo key trim) Syntax tt words y e

pub xtrim_formed : Always IsWellFormed xtrim
unfolding xtrim
xtrim_formed = after_any IsWellFormed word _ (λ key. after_any IsWellFormed (many trim_option None) _ (λ trim. trim_formed key trim))

pub xrange_formed : Always IsWellFormed xrange
unfolding xrange
xrange_formed = after_any IsWellFormed word _ (λ key. after_any IsWellFormed low _ (λ low. after_any IsWellFormed high _ (λ high. after_any IsWellFormed (many scan_option None) _ (λ limit. only_is IsWellFormed (scan key low high limit false) Syntax tt))))

pub xrevrange_formed : Always IsWellFormed xrevrange
unfolding xrevrange
xrevrange_formed = after_any IsWellFormed word _ (λ key. after_any IsWellFormed high _ (λ high. after_any IsWellFormed low _ (λ low. after_any IsWellFormed (many scan_option None) _ (λ limit. only_is IsWellFormed (scan key low high limit true) Syntax tt))))

pub del_formed : Always IsWellFormed del
unfolding del
del_formed [] y e = absurd cc
del_formed (k ∷ keys) y e = del_test (nat_lt 0 (length (k ∷ keys))) k keys y e
  where
    del_test : (b : Bool) (k : List ℕ) (keys : List (List ℕ)) (y : Command) → cond b (Ok (command.DropKeys (k ∷ keys))) (Err Syntax) ≡ Ok y → IsWellFormed y
    del_test true k keys y e = let same : command.DropKeys (k ∷ keys) ≡ y = cc in subst IsWellFormed same (has_first k keys)
    del_test false k keys y e = absurd cc

-- ---- XADD

written_sure : (o : Option Id) (x : AddId) → exact_id o ≡ Ok x → IsAddId x
written_sure None x e = absurd cc
written_sure (Some id) x e = written_test id x (is_same_id id zero_id) refl e
  where
    written_test : (id : Id) (x : AddId) (b : Bool) → is_same_id id zero_id ≡ b → cond b (Err ZeroId) (Ok (add.Exact id)) ≡ Ok x → IsAddId x
    written_test id x true h e = absurd cc
    written_test id x false h e = let same : add.Exact id ≡ x = cc in subst IsAddId same (λ z. cc (h, ap (λ i. is_same_id i zero_id) z))

next_sure : (o : Option ℕ) (x : AddId) → next_in o ≡ Ok x → IsAddId x
next_sure None x e = absurd cc
next_sure (Some ms) x e = let same : add.AutoSeq ms ≡ x = cc in subst IsAddId same tt

add_id_sure : (star dashed : Bool) (text : List ℕ) (x : AddId) → cond star (Ok add.Auto) (cond dashed (next_in (id_number (take (length text - 2) text))) (exact_id (parse_id text 0))) ≡ Ok x → IsAddId x
add_id_sure true dashed text x e = let same : add.Auto ≡ x = cc in subst IsAddId same tt
add_id_sure false true text x e = next_sure (id_number (take (length text - 2) text)) x e
add_id_sure false false text x e = written_sure (parse_id text 0) x e

meaning_sure : {A : Type 0} (Q : A → Type 0) (m : Result A Fault) → ((x : A) → m ≡ Ok x → Q x) → Always (λ (x : A × List (List ℕ)). Q x.0) (meaning m)
meaning_sure {A} Q (Ok x) h words y e = let same : ◌≡◌ {A = A × List (List ℕ)} (x, words) y = cc in subst (λ (y : A × List (List ℕ)). Q y.0) same (h x refl)
meaning_sure Q (Err fault) h words y e = absurd cc

add_id_is : Always (λ (x : AddId × List (List ℕ)). IsAddId x.0) add_id
unfolding add_id
add_id_is = after_any (λ (x : AddId × List (List ℕ)). IsAddId x.0) word _ (λ w. meaning_sure IsAddId (add_id_of w) (λ x h. add_id_sure (bytes_eq w (codes "*")) (bytes_eq (drop (length w - 2) w) (codes "-*")) w x h))

fields_some : (words : List (List ℕ)) (y : List Field) → fields words ≡ Ok y → y ≢ []
unfolding fields pairs
fields_some [] y e = absurd cc
fields_some (name ∷ []) y e = absurd cc
fields_some (name ∷ text ∷ words) y e = fields_test name text words y (nat_lt 0 (length (name ∷ text ∷ words)) && length (name ∷ text ∷ words) % 2 == 0) e
  where
    fields_test : (name text : List ℕ) (words : List (List ℕ)) (y : List Field) (b : Bool) → cond b (Ok (record { name = name; value = text } ∷ pairs words)) (Err Arity) ≡ Ok y → y ≢ []
    fields_test name text words y true e = let same : record { name = name; value = text } ∷ pairs words ≡ y = cc in subst (λ (fields : List Field). fields ≢ []) same (has_first _ (pairs words))
    fields_test name text words y false e = absurd cc

addition_formed : (key : List ℕ) (options : AddOptions) (id : AddId) → IsAddId id → (read : Result (List Field) Fault) → ((fields : List Field) → read ≡ Ok fields → fields ≢ []) → (y : Command) → addition key options id read ≡ Ok y → IsWellFormed y
addition_formed key options id sure (Ok fields) some y e =
    let made : Command = command.Add (record { key = key; make = options.make; trim = options.trim; id = id; fields = fields }) in
    let same : made ≡ y = cc in subst IsWellFormed same (sure, some fields refl)
addition_formed key options id sure (Err fault) some y e = absurd cc

pub xadd_formed : Always IsWellFormed xadd
unfolding xadd
xadd_formed = after_any IsWellFormed word _ (λ key. after_any IsWellFormed (many add_option no_add_options) _ (λ options. after_sure IsAddId IsWellFormed add_id _ add_id_is (λ id sure words y e. addition_formed key options id sure (fields words) (fields_some words) y e)))
