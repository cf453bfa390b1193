-- Which words the command line accepts, of all that there are.
use Rattle.std.proofs.Common.{◌≡◌, ℕ, Bool, true, false, cond, ◌||◌, List, [], ◌∷◌, length, Option, Some, None, inl}
use Rattle.std.proofs.Common.{inr, ◌⊎◌, sym, ap, ◌∙◌, subst, refl, codes}
use Rattle.std.specs.Prelude.{◌&&◌, not, is_some, drop, find, slice_get, encode_utf8}
use Rattle.std.specs.Option.{option_map, option_map_or}
use Rattle.std.specs.Str.{bytes_eq, chars}
use Rattle.std.proofs.lemmas.Slice.Eq.{bytes_eq-Decides}
use Rattle.clap.specs.Lexer.{long_of, short_of}
use Rattle.clap.specs.Kinds.{Kinds, or_else}
use Rattle.clap.specs.Walk.{Held, Names, Outcome, plain, Rule, Step, value, trailing, Text, idle, nothing_held}
use Rattle.clap.specs.Walk.{after_flag, answers_to, has_long, has_short, finished, settled, Walk, bundle_met}
use Rattle.clap.specs.Walk.{bundle_step, long_or_other, short_or_plain, short_word, subcommand_met, subcommand_or_other}
use Rattle.clap.specs.Walk.{walk, walk_from, walked}
use Rattle.clap.specs.Simple.{App, Shape, built, entered, help_shape, new_rule, names_of, new_app, on_top}
use Rattle.clap.specs.Simple.{with_subcommand}
use Rattle.clap.specs.Faults.{bundle_fault, bundle_step_fault, entered_fault, fault_of, flags_fault, flag_word_fault}
use Rattle.clap.specs.Faults.{level_fault, long_fault, other_fault, short_fault, step_fault, turn_fault, walk_fault}
use Rattle.clap.specs.Faults.{settle_fault, defaults_fault, check_fault}
use Rattle.clap.proofs.OnLiterals.{clap_on_literals}
use Rattle.clap.proofs.WalkLemmas.{walk_stopped}
use Rattle.xs_server.specs.CommandLine.{AsksScript}

-- the program with its one command, as a parse sees them
abbrev pub program : App
program = with_subcommand (on_top (λ s. record s { subcommand_required = true }) (new_app (codes "xs_server"))) (new_app (codes "script")).top

abbrev first_of : List Shape → Shape
first_of [] = help_shape
first_of (s ∷ ss) = s

-- the two commands, once they are built; help is the one rule of both
abbrev top : Shape
top = (built program).top

abbrev leaf : Shape
leaf = first_of (built program).subs

abbrev names : Names
names = names_of (built program)

abbrev rules : List Rule
rules = (built program).top.rules

abbrev dashes : Text
dashes = codes "--"

-- ---- lists of faults

or_else-left : (a b : Kinds) → or_else a b ≡ [] → a ≡ []
or_else-left [] b h = refl
or_else-left (k ∷ ks) b h = cc

or_else-right : (a b : Kinds) → or_else a b ≡ [] → b ≡ []
or_else-right [] b h = h
or_else-right (k ∷ ks) b h = cc

or-false : (t : Bool) → (t || false) ≡ true → t ≡ true
or-false true e = refl
or-false false e = cc

find-one : (p : Rule → Bool) (r : Rule) → (find p (r ∷ []) ≡ None) ⊎ (find p (r ∷ []) ≡ Some r)
find-one p r = by (p r) where
  by : (t : Bool) → (cond t (Some r) None ≡ None) ⊎ (cond t (Some r) None ≡ Some r)
  by true = inr refl
  by false = inl refl

-- ---- a word that is accepted as a flag is no flag

abbrev first_rule : List Rule → Rule
first_rule [] = new_rule []
first_rule (r ∷ rs) = r

abbrev help : Rule
help = first_rule rules

long-fails : (r : Option Rule) (v : Option Text) → (r ≡ None) ⊎ (r ≡ Some help) → long_fault rules false r v nothing_held ≡ [] → ⊥
long-fails r v (inl e) h = let g = subst (λ r. long_fault rules false r v nothing_held ≡ []) e h in cc
long-fails r None (inr e) h = let g = subst (λ r. long_fault rules false r None nothing_held ≡ []) e h in cc
long-fails r (Some v) (inr e) h = let g = subst (λ r. long_fault rules false r (Some v) nothing_held ≡ []) e h in cc

short-fails : (r : Option Rule) (rest : Text) (next : Held → Kinds) → (r ≡ None) ⊎ (r ≡ Some help) → short_fault rules false r rest nothing_held next ≡ [] → ⊥
short-fails r rest next (inl e) h = let g = subst (λ r. short_fault rules false r rest nothing_held next ≡ []) e h in cc
short-fails r rest next (inr e) h = let g = subst (λ r. short_fault rules false r rest nothing_held next ≡ []) e h in cc

-- the first character of a bundle
bundle-one : (x : Option ℕ) (flags : Text) (faults : Text → ℕ → Held → Kinds) (met : Text → ℕ → Outcome → Held → Held × Outcome)
    → bundle_step_fault rules false x flags 0 nothing_held faults ≡ [] → bundle_step rules x flags 0 plain nothing_held met ≡ (nothing_held, plain)
bundle-one None flags faults met h = refl
bundle-one (Some x) flags faults met h = absurd (short-fails _ _ (faults (drop (length (encode_utf8 x)) flags) 0) (find-one (λ a. not (is_some a.index) && has_short a x) help) h)

plain_short : (flags w : Text) → bundle_fault rules false flags nothing_held ≡ [] → short_word rules idle w flags nothing_held ≡ (nothing_held, value)
unfolding flags_fault bundle_met
plain_short [] w h = refl
plain_short (b ∷ bs) w h =
    let flags = b ∷ bs in
    ap (λ m. after_flag rules idle w m.0 m.1) (bundle-one (slice_get (chars flags) 0) flags (flags_fault rules false (length bs)) (bundle_met rules (length bs)) h)

plain_word : (w : Text) → flag_word_fault rules false (long_of w) w nothing_held ≡ [] → long_or_other rules idle w (long_of w) nothing_held ≡ (nothing_held, value)
plain_word w h = by (long_of w) h where
  short : (q : Option Text) → option_map_or (λ flags. bundle_fault rules false flags nothing_held) q [] ≡ [] → short_or_plain rules idle w q nothing_held ≡ (nothing_held, value)
  short None h = refl
  short (Some flags) h = plain_short flags w h

  by : (o : Option (Text × Option Text)) → flag_word_fault rules false o w nothing_held ≡ [] → long_or_other rules idle w o nothing_held ≡ (nothing_held, value)
  by None h = short (short_of w) h
  by (Some p) h = absurd (long-fails _ p.1 (find-one (λ a. not (is_some a.index) && has_long a p.0) help) h)

-- a word that names no command is the end of options, if a value is refused
only_dashes : (s : Shape) (w : Text) (t : Bool) → bytes_eq w dashes ≡ t
    → (step_fault s 1 nothing_held value ≡ [] → ⊥)
    → cond t [] (flag_word_fault rules false (long_of w) w nothing_held) ≡ []
    → step_fault s 1 (cond t (nothing_held, trailing 1) (long_or_other rules idle w (long_of w) nothing_held)).0 (cond t (nothing_held, trailing 1) (long_or_other rules idle w (long_of w) nothing_held)).1 ≡ []
    → w ≡ dashes
only_dashes s w true e no_value h step = (bytes_eq-Decides w dashes).0 e
only_dashes s w false e no_value h step = absurd (no_value (subst (λ (m : Held × Step). step_fault s 1 m.0 m.1 ≡ []) (plain_word w h) step))

-- ---- after `script`

leaf_more : (more : List Text) → level_fault leaf [] nothing_held (dashes ∷ more) false [] ≡ [] → more ≡ []
unfolding clap_on_literals
leaf_more [] h = refl
leaf_more (x ∷ xs) h = cc

leaf_words : (words : List Text) → level_fault leaf [] nothing_held words false [] ≡ [] → (words ≡ []) ⊎ (words ≡ dashes ∷ [])
unfolding walk_fault
leaf_words [] h = inl refl
leaf_words (w ∷ more) h =
    let walked_all = or_else-left (walk_fault leaf [] (walk_from nothing_held) (w ∷ more)) _ h in
    let turn = or_else-left (turn_fault leaf [] (walk_from nothing_held) w) (walk_fault leaf [] (walked leaf.rules [] (walk_from nothing_held) w) more) walked_all in
    let met = subcommand_or_other rules None idle 1 w nothing_held in
    let word = or_else-left (other_fault leaf None w nothing_held) (step_fault leaf 1 met.0 met.1) turn in
    let step = or_else-right (other_fault leaf None w nothing_held) (step_fault leaf 1 met.0 met.1) turn in
    let e = only_dashes leaf w (bytes_eq w dashes) refl (λ v. cc) word step in
    inr (ap (λ v. v ∷ more) e ∙ ap (λ m. dashes ∷ m) (leaf_more more (subst (λ v. level_fault leaf [] nothing_held (v ∷ more) false [] ≡ []) e h)))

-- ---- after the program's name

met_is : (w : Text) → (w ≡ codes "script") ⊎ ((subcommand_met names idle w ≡ Some (codes "help")) ⊎ (subcommand_met names idle w ≡ None))
met_is w = by (answers_to w (codes "script", [])) (answers_to w (codes "help", [])) refl where
  by : (t u : Bool) → answers_to w (codes "script", []) ≡ t
      → (w ≡ codes "script") ⊎ ((option_map (λ (s : Text × List Text). s.0) (cond t (Some (codes "script", [])) (cond u (Some (codes "help", [])) None)) ≡ Some (codes "help"))
      ⊎ (option_map (λ (s : Text × List Text). s.0) (cond t (Some (codes "script", [])) (cond u (Some (codes "help", [])) None)) ≡ None))
  by true u e = inl (sym ((bytes_eq-Decides (codes "script") w).0 (or-false (bytes_eq (codes "script") w) e)))
  by false true e = inr (inl refl)
  by false false e = inr (inr refl)

-- after the end of options no command is read
none_behind_dashes : (name : Text) (more : List Text) → fault_of program (name ∷ dashes ∷ more) ≡ [] → ⊥
unfolding clap_on_literals
none_behind_dashes name [] h = cc
none_behind_dashes name (x ∷ xs) h = cc

-- what can still fail after the walk over these words
abbrev stop : List Text → Option (Text × List Text)
stop words = (walk rules names nothing_held words).stopped

abbrev last : List Text → Kinds
last words =
    let end = (walk rules names nothing_held words).held in
    or_else (settle_fault rules false end)
    (or_else (defaults_fault (settled rules end).rows rules)
    (check_fault top (finished rules end) (is_some (entered (built program) (stop words)))))

abbrev behind : List Text → Kinds
behind words = or_else (entered_fault (built program) (stop words)) (last words)

-- `script` is entered, with all the words after it
behind_script : (name : Text) (words : List Text) → fault_of program (name ∷ codes "script" ∷ words) ≡ [] → level_fault leaf [] nothing_held words false [] ≡ []
unfolding walked
behind_script name words h =
    let all = codes "script" ∷ words in
    let entered_none = or_else-left (entered_fault (built program) (stop all)) (last all) (or_else-right (walk_fault top names (walk_from nothing_held) all) (behind all) h) in
    let at : Some (codes "script", words) ≡ stop all = ap (λ (w : Walk). w.stopped) (walk_stopped rules names (walk_from nothing_held) (codes "script") [] words) in
    subst (λ s. entered_fault (built program) s ≡ []) (sym at) entered_none

-- the first word is accepted by itself
abbrev met : Text → Option Text → Held × Step
met w m = subcommand_or_other rules m idle 1 w nothing_held

first_word : (name w : Text) (rest : List Text) → fault_of program (name ∷ w ∷ rest) ≡ []
    → or_else (other_fault top (subcommand_met names idle w) w nothing_held) (step_fault top 1 (met w (subcommand_met names idle w)).0 (met w (subcommand_met names idle w)).1) ≡ []
unfolding walk_fault
first_word name w rest h =
    or_else-left (turn_fault top names (walk_from nothing_held) w) (walk_fault top names (walked rules names (walk_from nothing_held) w) rest)
    (or_else-left (walk_fault top names (walk_from nothing_held) (w ∷ rest)) (behind (w ∷ rest)) h)

unnamed : (name w : Text) (rest : List Text) → fault_of program (name ∷ w ∷ rest) ≡ [] → (m : Option Text) → (m ≡ Some (codes "help")) ⊎ (m ≡ None)
    → or_else (other_fault top m w nothing_held) (step_fault top 1 (met w m).0 (met w m).1) ≡ [] → ⊥
unnamed name w rest h m (inl e) turn = let g = subst (λ m. or_else (other_fault top m w nothing_held) (step_fault top 1 (met w m).0 (met w m).1) ≡ []) e turn in cc
unnamed name w rest h m (inr e) turn =
    let none = subst (λ m. or_else (other_fault top m w nothing_held) (step_fault top 1 (met w m).0 (met w m).1) ≡ []) e turn in
    let fault = or_else-left (other_fault top None w nothing_held) (step_fault top 1 (met w None).0 (met w None).1) none in
    let step = or_else-right (other_fault top None w nothing_held) (step_fault top 1 (met w None).0 (met w None).1) none in
    let dash = only_dashes top w (bytes_eq w dashes) refl (λ v. cc) fault step in
    none_behind_dashes name rest (subst (λ v. fault_of program (name ∷ v ∷ rest) ≡ []) dash h)

asks_by : (name w : Text) (rest : List Text) → fault_of program (name ∷ w ∷ rest) ≡ []
    → (w ≡ codes "script") ⊎ ((subcommand_met names idle w ≡ Some (codes "help")) ⊎ (subcommand_met names idle w ≡ None)) → AsksScript (name ∷ w ∷ rest)
asks_by name w rest h (inr none) = absurd (unnamed name w rest h (subcommand_met names idle w) none (first_word name w rest h))
asks_by name w rest h (inl e) =
    let script = subst (λ v. fault_of program (name ∷ v ∷ rest) ≡ []) e h in
    by (leaf_words rest (behind_script name rest script)) where
      by : (rest ≡ []) ⊎ (rest ≡ dashes ∷ []) → AsksScript (name ∷ w ∷ rest)
      by (inl f) = (name, inl (ap (λ v. name ∷ v ∷ rest) e ∙ ap (λ r. name ∷ codes "script" ∷ r) f))
      by (inr f) = (name, inr (ap (λ v. name ∷ v ∷ rest) e ∙ ap (λ r. name ∷ codes "script" ∷ r) f))

-- words that are accepted ask for the script
pub asks : (words : List Text) → fault_of program words ≡ [] → AsksScript words
unfolding clap_on_literals
asks [] h = cc
asks (name ∷ []) h = cc
asks (name ∷ w ∷ rest) h = asks_by name w rest h (met_is w)

-- and the converse
pub passes : (words : List Text) → AsksScript words → fault_of program words ≡ []
unfolding clap_on_literals
passes words (name, inl e) = ap (fault_of program) e
passes words (name, inr e) = ap (fault_of program) e
