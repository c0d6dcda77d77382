-- The words of a printed text, with what stands between them, and their bytes.
use Rattle.std.specs.Prelude.{ℕ, ℤ, ◌==◌, if◌then◌else◌, List, [], ◌∷◌, ◌++◌, replicate, codes}
use Rattle.std.specs.List.{flat_map}
use Rattle.std.specs.Fmt.{decimal, signed_decimal}

pub data Word : Type 0 where
  -- a keyword or a symbol
  sign : List ℕ → Word
  -- a name, or `_`
  named : List ℕ → Word
  numeral : ℤ → Word
  -- `Type`, without and with its level
  bare_type : Word
  type_at : ℕ → Word
  -- a text with this value
  quoted : List ℕ → Word
  hole_named : List ℕ → Word

pub data Printed : Type 0 where
  word : Word → Printed
  blank : Printed
  -- a new line that begins with so many blanks
  line : ℕ → Printed
  -- the marks of blocks, for which nothing is written
  opened : Printed
  next : Printed
  closed : Printed

-- a byte of a text between its quotes: line feed, tab, `\` and `"` are escaped
abbrev pub escaped : ℕ → List ℕ
escaped b =
    if b == 10 then codes "\\n"
    else (if b == 9 then codes "\\t"
    else (if b == 92 then codes "\\\\"
    else (if b == 34 then codes "\\\""
    else b ∷ [])))

abbrev pub spelled : Word → List ℕ
spelled (sign s) = s
spelled (named n) = n
spelled (numeral z) = signed_decimal z
spelled bare_type = codes "Type"
spelled (type_at l) = codes "Type " ++ decimal l
spelled (quoted v) = 34 ∷ (flat_map escaped v ++ 34 ∷ [])
spelled (hole_named n) = 63 ∷ n

abbrev pub written_as : Printed → List ℕ
written_as (word w) = spelled w
written_as blank = 32 ∷ []
written_as (line n) = 10 ∷ replicate n 32
written_as opened = []
written_as next = []
written_as closed = []

-- the bytes of a printed text
abbrev pub written : List Printed → List ℕ
written [] = []
written (p ∷ ps) = written_as p ++ written ps
