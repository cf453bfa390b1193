-- The grammar of requests (RESP protocol specification, version 2): which bytes are a request of which words, and which
-- fault is in some bytes. How bytes are read is defined elsewhere.
use Rattle.std.specs.Prelude.{◌≡◌, ◌≢◌, ◌⊎◌, ℕ, ◌<◌, ◌≤◌, List, [], ◌∷◌, ◌++◌, length, codes, Some, None}
use Rattle.std.specs.List.{flat_map, AllByRecursion}
use Rattle.xs_resp.specs.declared.header.Part.{Part}
use Rattle.xs_resp.specs.declared.header.Part.TheVariants.{Count, Size}
use Rattle.xs_resp.specs.declared.read_fault.ProtocolFault.{ProtocolFault}
use Rattle.xs_resp.specs.declared.read_fault.ProtocolFault.TheVariants.{Length, Shape, Limit}
use Rattle.xs_resp.specs.Line.{crlf, line}
use Rattle.xs_resp.specs.HeaderPart.{marker, limit, number_in}

-- a word as it is sent: $, its length, and its bytes
abbrev pub sent_word : List ℕ → List ℕ
sent_word text = line 36 (length text) ++ (text ++ crlf)

-- words as they are sent
abbrev pub sent_words : List (List ℕ) → List ℕ
sent_words words = flat_map sent_word words

-- a request as it is sent: *, the number of its words, and the words
abbrev pub spelling : List (List ℕ) → List ℕ
spelling words = line 42 (length words) ++ sent_words words

-- the request of no words has a second spelling
abbrev pub null_spelling : List ℕ
null_spelling = codes "*-1" ++ crlf

-- no word is above the limit
abbrev pub AreSizes : List (List ℕ) → Type 0
AreSizes words = AllByRecursion (λ text. length text ≤ limit Size) words

-- these bytes are a request of these words
pub record Spells (bytes : List ℕ) (words : List (List ℕ)) : Type 0 where
  pub number : length words ≤ limit Count
  pub sizes : AreSizes words
  pub spelled : (bytes ≡ spelling words) ⊎ ((words ≡ []) × (bytes ≡ null_spelling))

-- these bytes are requests of these words, one after the other
abbrev pub SpellsAll : List ℕ → List (List (List ℕ)) → Type 0
SpellsAll bytes [] = bytes ≡ []
SpellsAll bytes (words ∷ requests) =
    (first others : List ℕ) × (bytes ≡ first ++ others) × Spells first words × SpellsAll others requests

-- no byte is CR
abbrev pub HasNoCr : List ℕ → Type 0
HasNoCr text = AllByRecursion (λ byte. byte ≢ 13) text

-- the bytes begin with another byte than the marker
pub record LacksMarker (part : Part) (bytes : List ℕ) : Type 0 where
  pub byte : ℕ
  pub rest : List ℕ
  pub whole : bytes ≡ byte ∷ rest
  pub other : byte ≢ marker part

-- the bytes begin with the marker and 30 bytes without CR
pub record IsTooLong (part : Part) (bytes : List ℕ) : Type 0 where
  pub text : List ℕ
  pub rest : List ℕ
  pub whole : bytes ≡ marker part ∷ text ++ rest
  pub long : length text ≡ 30
  pub no_cr : HasNoCr text

-- the bytes begin with the marker, this text of fewer than 30 bytes, CR, and this byte
pub record BeginsLine (part : Part) (bytes text : List ℕ) (byte : ℕ) : Type 0 where
  pub rest : List ℕ
  pub whole : bytes ≡ marker part ∷ text ++ (13 ∷ byte ∷ rest)
  pub short : length text < 30
  pub no_cr : HasNoCr text

-- another byte than LF follows the first CR
pub record LacksLf (part : Part) (bytes : List ℕ) : Type 0 where
  pub text : List ℕ
  pub byte : ℕ
  pub begins : BeginsLine part bytes text byte
  pub other : byte ≢ 10

-- the text of the line is no number
pub record LacksNumber (part : Part) (bytes : List ℕ) : Type 0 where
  pub text : List ℕ
  pub begins : BeginsLine part bytes text 10
  pub none : number_in part text ≡ None

-- the number of the line is above the limit
pub record IsTooGreat (part : Part) (bytes : List ℕ) : Type 0 where
  pub text : List ℕ
  pub number : ℕ
  pub begins : BeginsLine part bytes text 10
  pub is : number_in part text ≡ Some number
  pub great : limit part < number

-- the fault of a header that these bytes begin with
abbrev pub HeaderFault : Part → List ℕ → ProtocolFault → Type 0
HeaderFault part bytes Length = LacksNumber part bytes
HeaderFault part bytes Shape = LacksMarker part bytes ⊎ LacksLf part bytes
HeaderFault part bytes Limit = IsTooLong part bytes ⊎ IsTooGreat part bytes

-- bytes that don't begin as CR LF
abbrev pub LacksCrlf : List ℕ → Type 0
LacksCrlf [] = ⊥
LacksCrlf (cr ∷ []) = cr ≢ 13
LacksCrlf (cr ∷ lf ∷ rest) = (cr ≢ 13) ⊎ (lf ≢ 10)

-- the bytes begin with a word whose line end is missing
pub record LacksLineEnd (bytes : List ℕ) : Type 0 where
  pub text : List ℕ
  pub rest : List ℕ
  pub whole : bytes ≡ line 36 (length text) ++ (text ++ rest)
  pub size : length text ≤ limit Size
  pub missing : LacksCrlf rest

-- the fault of a word that these bytes begin with
abbrev pub WordFault : List ℕ → ProtocolFault → Type 0
WordFault bytes wrong = HeaderFault Size bytes wrong ⊎ ((wrong ≡ Shape) × LacksLineEnd bytes)

-- the bytes begin as a request, and a fault follows some of its words
pub record FaultBehind (bytes : List ℕ) (wrong : ProtocolFault) : Type 0 where
  pub number : ℕ
  pub words : List (List ℕ)
  pub rest : List ℕ
  pub whole : bytes ≡ line 42 number ++ (sent_words words ++ rest)
  pub within : number ≤ limit Count
  pub some_left : length words < number
  pub sizes : AreSizes words
  pub fault : WordFault rest wrong

-- the fault in some bytes
abbrev pub FaultIn : List ℕ → ProtocolFault → Type 0
FaultIn bytes wrong = HeaderFault Count bytes wrong ⊎ FaultBehind bytes wrong

-- more bytes decide: no front of these is a request, and they have no fault
abbrev pub IsOpen : List ℕ → Type 0
IsOpen bytes =
    ((front rest : List ℕ) (words : List (List ℕ)) → bytes ≡ front ++ rest → Spells front words → ⊥)
    × ((wrong : ProtocolFault) → FaultIn bytes wrong → ⊥)
