-- Options and other words of the command line, set apart: `--NAME VALUE` or `--NAME=VALUE`, anywhere, and `--`, behind
-- which no word is an option.
use Rattle.std.specs.Prelude.{ℕ, ◌==◌, ◌&&◌, not, nat_le, nat_eq, Bool, true, false, if◌then◌else◌, List, [], ◌∷◌, drop, length, Option, Some, None, option_map, codes}
use Rattle.std.specs.List.{list_any, list_all, starts_with, before_first, after_first}
use Rattle.std.specs.Str.{bytes_eq}

abbrev pub Word : Type 0
Word = List ℕ

-- what an option sets
pub data Setting : Type 0 where
  steps budget jobs : Setting

abbrev pub setting_named : Word → Option Setting
setting_named name =
    if bytes_eq (codes "steps") name then Some Setting.steps
    else (if bytes_eq (codes "budget") name then Some Setting.budget
    else (if bytes_eq (codes "jobs") name then Some Setting.jobs
    else None))

-- what a word is, where no option waits for its value
pub data Sort : Type 0 where
  -- `--`
  ends : Sort
  -- an option whose value is the next word, or behind a `=`
  waits : Setting → Sort
  has : Setting → Word → Sort
  -- any other word that begins with `-` and is longer
  unknown : Sort
  plain : Sort

abbrev pub is_equals : ℕ → Bool
is_equals c = c == 61

-- what stands behind the first `=`, where there is one
abbrev pub value_in : Word → Option Word
value_in w = if list_any is_equals w then Some (after_first is_equals w) else None

abbrev pub with_value : Option Word → Setting → Sort
with_value None o = Sort.waits o
with_value (Some v) o = Sort.has o v

abbrev pub or_unknown : Option Sort → Sort
or_unknown None = Sort.unknown
or_unknown (Some s) = s

-- a word by what stands behind its `--`
abbrev pub option_sort : Word → Sort
option_sort w = or_unknown (option_map (with_value (value_in w)) (setting_named (before_first is_equals w)))

abbrev pub sort_of : Word → Sort
sort_of w =
    if bytes_eq w (codes "--") then Sort.ends
    else (if starts_with nat_eq w (codes "--") then option_sort (drop 2 w)
    else (if starts_with nat_eq w (codes "-") && not (bytes_eq w (codes "-")) then Sort.unknown
    else Sort.plain))

-- the plain words, and the options with their values, each in order
pub record Sorted : Type 0 where
  pub plain : List Word
  pub options : List (Setting × Word)

abbrev pub only_plain : List Word → Sorted
only_plain ws = record { plain = ws; options = [] }

abbrev pub with_plain : Word → Sorted → Sorted
with_plain w s = record s { plain = w ∷ s.plain }

abbrev pub with_option : Setting → Word → Sorted → Sorted
with_option o v s = record s { options = (o, v) ∷ s.options }

-- a word of this sort and the words behind it, where `behind` is those sorted, and `after_value` those behind its value
abbrev pub by_sort : Sort → Word → List Word → Option Sorted → (Setting → Option Sorted) → Option Sorted
by_sort Sort.ends w ws behind after_value = Some (only_plain ws)
by_sort (Sort.waits o) w ws behind after_value = after_value o
by_sort (Sort.has o v) w ws behind after_value = option_map (with_option o v) behind
by_sort Sort.unknown w ws behind after_value = None
by_sort Sort.plain w ws behind after_value = option_map (with_plain w) behind

abbrev pub is_plain : Sort → Bool
is_plain Sort.plain = true
is_plain _ = false

abbrev mutual
  -- None where a word is an unknown option, or an option lacks its value
  pub sorted : List Word → Option Sorted
  sorted [] = Some (only_plain [])
  sorted (w ∷ ws) = by_sort (sort_of w) w ws (sorted ws) (λ o. value_first o ws)

  -- the next word is the value of an option, where it is plain
  pub value_first : Setting → List Word → Option Sorted
  value_first o [] = None
  value_first o (v ∷ ws) = if is_plain (sort_of v) then option_map (with_option o v) (sorted ws) else None

-- ---- a whole line
abbrev pub is_same : Setting → Setting → Bool
is_same Setting.steps Setting.steps = true
is_same Setting.budget Setting.budget = true
is_same Setting.jobs Setting.jobs = true
is_same _ _ = false

abbrev pub values_of : Setting → List (Setting × Word) → List Word
values_of o [] = []
values_of o (s ∷ more) = if is_same o s.0 then s.1 ∷ values_of o more else values_of o more

abbrev pub is_once : List (Setting × Word) → Setting → Bool
is_once options o = nat_le (length (values_of o options)) 1

-- two plain words, and no option twice
abbrev pub is_line : Option Sorted → Bool
is_line None = false
is_line (Some s) =
    nat_eq (length s.plain) 2 && list_all (is_once s.options) (Setting.steps ∷ Setting.budget ∷ Setting.jobs ∷ [])
